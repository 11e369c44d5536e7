-- A line of output is cut into words in one way at most.
use Rattle.std.proofs.Common.{◌≡◌, ◌≢◌, ℕ, zero, suc, ◌+◌, ◌-◌, ◌≤◌, ◌<◌, Bool, true, false, eqb, List, [], ◌∷◌, ◌++◌, length, get_or, take, drop, Option, Some, None, inl, inr, refl, sym, ap, subst, ◌∙◌, append_assoc, length-append, add-one, drop-cons, arith}
use Rattle.std.specs.List.{AllByRecursion, flat_map, position, position_or_len}
use Rattle.std.proofs.lemmas.Bool.{eqb-false, cases_lt, lt-ltb, cond-true}
use Rattle.std.proofs.lemmas.Bool.Decides.{nat_tests}
use Rattle.std.proofs.lemmas.List.{append-nil, take_at, take_rest, take-append-drop, take_all}
use Rattle.std.proofs.lemmas.List.Sums.{fails_before_first}
use Rattle.std.proofs.lemmas.List.Quantifiers.{position-Some}
use Rattle.text_words.specs.Spelling.{quoted_byte}
use Rattle.text_words.specs.Words.{IsBehind, IsClosed}
use Rattle.text_words.proofs.ValueLemmas.{same_text, heads_differ}
use Rattle.outcome_text.specs.WrongLine.{HasNoEnd, ended}
use Rattle.outcome_text.specs.Reading.{HasNoMark, IsQuoteOrNone, IsItemWord, tail, HasFirst, IsCut, spaced_word, joined, is_mark}

-- ---- where a byte first stands

-- bytes up to where a test first holds don't pass it
none_before : (p : ℕ → Bool) (P : ℕ → Type 0) → ((b : ℕ) → p b ≡ false → P b) → (xs : List ℕ) (end : ℕ) → ((k : ℕ) → k < end → p (get_or xs k 0) ≡ false) → end ≤ length xs → AllByRecursion P (take end xs)
none_before p P to xs zero before le = tt
none_before p P to [] (suc end) before le = tt
none_before p P to (b ∷ xs) (suc end) before le = (to b (before 0 (omega arith)), none_before p P to xs end (λ k lt. before (suc k) (omega arith)) (omega arith))

pub all_before : (p : ℕ → Bool) (P : ℕ → Type 0) → ((b : ℕ) → p b ≡ false → P b) → (xs : List ℕ) (end : ℕ) → position p xs ≡ Some end → AllByRecursion P (take end xs)
all_before p P to xs end at = let told = position-Some p xs end 0 at in none_before p P to xs end told.2 (omega arith)

pub all_without : (p : ℕ → Bool) (P : ℕ → Type 0) → ((b : ℕ) → p b ≡ false → P b) → (xs : List ℕ) → position p xs ≡ None → AllByRecursion P xs
all_without p P to xs at =
    let missed : length xs ≤ position_or_len p xs =
    elim (cases_lt (position_or_len p xs) (length xs)) [
      | inl lt ↦ let found : position p xs ≡ Some (position_or_len p xs) = cond-true _ _ _ (lt-ltb _ _ lt) in absurd (cc)
      | inr le ↦ le
    ]
    in
    subst (AllByRecursion P) (take_all (length xs) xs (omega arith)) (none_before p P to xs (length xs) (λ k lt. fails_before_first p xs k 0 (omega arith)) (omega arith))

pub parts_at : (p : ℕ → Bool) (xs : List ℕ) (end byte : ℕ) → position p xs ≡ Some end → get_or xs end 0 ≡ byte → xs ≡ take end xs ++ byte ∷ take (length xs - (end + 1)) (drop (end + 1) xs)
parts_at p xs end byte at is =
    let told = position-Some p xs end 0 at in
    let lt : end < length xs = told.0 in
    sym (take-append-drop end xs) ∙ ap (λ (x : List ℕ). take end xs ++ x) (rw (add-one, drop-cons xs end 0) (ap (λ (b : ℕ). b ∷ drop (suc end) xs) is))
    ∙ ap (λ (x : List ℕ). take end xs ++ byte ∷ x) (sym (take_rest xs (end + 1)))

pub found_at : (p : ℕ → Bool) (xs : List ℕ) (end : ℕ) → position p xs ≡ Some end → p (get_or xs end 0) ≡ true
found_at p xs end at = (position-Some p xs end 0 at).1

abbrev pub is_byte : ℕ → ℕ → Bool
is_byte byte b = eqb b byte

pub other_byte : (byte b : ℕ) → is_byte byte b ≡ false → b ≢ byte
other_byte byte b not = eqb-false b byte not

pub no_mark : (b : ℕ) → is_mark b ≡ false → (b ≢ 32) × (b ≢ 34)
no_mark b not = (grind (arith, nat_tests), grind (arith, nat_tests))

pub a_mark : (b : ℕ) → is_mark b ≡ true → b ≢ 32 → b ≡ 34
a_mark b is other = grind (arith, nat_tests)

-- ---- bytes up to a mark

-- nothing, or a space or a quote in front
abbrev IsMarked : List ℕ → Type 0
IsMarked [] = Unit {0}
IsMarked (b ∷ bs) = ¬ ((b ≢ 32) × (b ≢ 34))

marked_same : (v w xs ys : List ℕ) → HasNoMark v → HasNoMark w → IsMarked xs → IsMarked ys → v ++ xs ≡ w ++ ys → (v ≡ w) × (xs ≡ ys)
marked_same [] [] xs ys a b x y same = (refl, same)
marked_same [] (c ∷ w) xs ys a b x y same = absurd ((subst IsMarked same x) b.0)
marked_same (c ∷ v) [] xs ys a b x y same = absurd ((subst IsMarked (sym same) y) a.0)
marked_same (c ∷ v) (d ∷ w) xs ys a b x y same =
    let first : c ≡ d = cc in
    let rest = marked_same v w xs ys a.1 b.1 x y (cc) in
    (let behind : v ≡ w = rest.0 in cc, rest.1)

tail_marked : (o : Option (List ℕ)) → IsMarked (tail o)
tail_marked None = tt
tail_marked (Some rest) = λ both. both.0 refl

quote_marked : (rest : List ℕ) → IsMarked (34 ∷ rest)
quote_marked rest = λ both. both.1 refl

quoted_tail : (bytes : List ℕ) (o : Option (List ℕ)) → (34 ∷ (flat_map quoted_byte bytes ++ 34 ∷ [])) ++ tail o ≡ 34 ∷ (flat_map quoted_byte bytes ++ 34 ∷ tail o)
quoted_tail bytes o = ap (λ (x : List ℕ). 34 ∷ x) (append_assoc (flat_map quoted_byte bytes) (34 ∷ []) (tail o))

behind_marked : (q : List ℕ) (o : Option (List ℕ)) → IsQuoteOrNone q → IsMarked (q ++ tail o)
behind_marked q o (inl none) = subst (λ (x : List ℕ). IsMarked (x ++ tail o)) (sym none) (tail_marked o)
behind_marked q o (inr text) = subst (λ (x : List ℕ). IsMarked (x ++ tail o)) (sym text.1) (λ both. both.1 refl)

same_tail : (o p : Option (List ℕ)) → tail o ≡ tail p → o ≡ p
same_tail None None same = refl
same_tail None (Some r) same = absurd (cc)
same_tail (Some r) None same = absurd (cc)
same_tail (Some r) (Some s) same = ap Some (cc)

tail_no_quote : (o : Option (List ℕ)) (rest : List ℕ) → tail o ≢ 34 ∷ rest
tail_no_quote None rest same = absurd (cc)
tail_no_quote (Some r) rest same = heads_differ 32 34 r rest refl same

quotes_same : (q p : List ℕ) (o n : Option (List ℕ)) → IsQuoteOrNone q → IsQuoteOrNone p → q ++ tail o ≡ p ++ tail n → (q ≡ p) × (o ≡ n)
quotes_same q p o n (inl a) (inl b) same =
    (a ∙ sym b, same_tail o n (ap (λ (x : List ℕ). x ++ tail o) (sym a) ∙ same ∙ ap (λ (x : List ℕ). x ++ tail n) b))
quotes_same q p o n (inl a) (inr b) same =
    absurd (tail_no_quote o _ (ap (λ (x : List ℕ). x ++ tail o) (sym a) ∙ same ∙ ap (λ (x : List ℕ). x ++ tail n) b.1 ∙ quoted_tail b.0 n))
quotes_same q p o n (inr a) (inl b) same =
    absurd (tail_no_quote n _ (ap (λ (x : List ℕ). x ++ tail n) (sym b) ∙ sym same ∙ ap (λ (x : List ℕ). x ++ tail o) a.1 ∙ quoted_tail a.0 o))
quotes_same q p o n (inr a) (inr b) same =
    let e : 34 ∷ (flat_map quoted_byte a.0 ++ 34 ∷ tail o) ≡ 34 ∷ (flat_map quoted_byte b.0 ++ 34 ∷ tail n) =
    sym (quoted_tail a.0 o) ∙ ap (λ (x : List ℕ). x ++ tail o) (sym a.1) ∙ same ∙ ap (λ (x : List ℕ). x ++ tail n) b.1 ∙ quoted_tail b.0 n in
    let parts = same_text a.0 b.0 (tail o) (tail n) (cc) in
    (a.1 ∙ ap (λ (t : List ℕ). 34 ∷ (flat_map quoted_byte t ++ 34 ∷ [])) parts.0 ∙ sym b.1, same_tail o n parts.1)

-- ---- the first word of a line

first_parts : (line w : List ℕ) (o : Option (List ℕ)) (first : HasFirst line w o) → line ≡ first.word.front ++ (first.word.quote ++ tail o)
first_parts line w o first = first.line_is ∙ ap (λ (x : List ℕ). x ++ tail o) first.word.is ∙ append_assoc first.word.front first.word.quote (tail o)

pub first_same : (line v w : List ℕ) (o p : Option (List ℕ)) → HasFirst line v o → HasFirst line w p → (v ≡ w) × (o ≡ p)
first_same line v w o p one other =
    let parts = marked_same one.word.front other.word.front _ _ one.word.plain other.word.plain
    (behind_marked one.word.quote o one.word.quoted) (behind_marked other.word.quote p other.word.quoted)
    (sym (first_parts line v o one) ∙ first_parts line w p other) in
    let rest = quotes_same one.word.quote other.word.quote o p one.word.quoted other.word.quoted parts.1 in
    (one.word.is ∙ ap (λ (x : List ℕ). x ++ one.word.quote) parts.0 ∙ ap (λ (x : List ℕ). other.word.front ++ x) rest.0 ∙ sym other.word.is, rest.1)

-- a line without a mark is one word
pub whole_first : (line : List ℕ) → HasNoMark line → HasFirst line line None
whole_first line plain = record {
  word = record { front = line; quote = []; plain = plain; quoted = inl refl; is = sym (append-nil line) };
  line_is = sym (append-nil line);
}

pub plain_first : (line w rest : List ℕ) → HasNoMark w → line ≡ w ++ 32 ∷ rest → HasFirst line w (Some rest)
plain_first line w rest plain is = record {
  word = record { front = w; quote = []; plain = plain; quoted = inl refl; is = sym (append-nil w) };
  line_is = is;
}

-- behind the first quote of a line that has a first word, a text is closed, and what follows it is behind the word
first_closes : (line v quoted w : List ℕ) (o : Option (List ℕ)) → HasNoMark v → line ≡ v ++ 34 ∷ quoted → HasFirst line w o → (bytes : List ℕ) × (quoted ≡ flat_map quoted_byte bytes ++ 34 ∷ tail o)
first_closes line v quoted w o plain is first =
    let parts = marked_same first.word.front v _ _ first.word.plain plain (behind_marked first.word.quote o first.word.quoted) (quote_marked quoted)
    (sym (first_parts line w o first) ∙ is) in
    at first.word.quoted parts.1
  where
    at : IsQuoteOrNone first.word.quote → first.word.quote ++ tail o ≡ 34 ∷ quoted → (bytes : List ℕ) × (quoted ≡ flat_map quoted_byte bytes ++ 34 ∷ tail o)
    at (inl none) same = absurd (tail_no_quote o quoted (ap (λ (x : List ℕ). x ++ tail o) (sym none) ∙ same))
    at (inr text) same =
        let e : 34 ∷ quoted ≡ 34 ∷ (flat_map quoted_byte text.0 ++ 34 ∷ tail o) = sym same ∙ ap (λ (x : List ℕ). x ++ tail o) text.1 ∙ quoted_tail text.0 o in
        (text.0, cc)

behind_tail : (o : Option (List ℕ)) → IsBehind (tail o) o
behind_tail None = refl
behind_tail (Some r) = refl

tail_is : (rest : List ℕ) (o : Option (List ℕ)) → IsBehind rest o → rest ≡ tail o
tail_is rest None is = is
tail_is rest (Some next) is = is

-- the first word of words
pub first_of_cut : (line : List ℕ) (words : List (List ℕ)) → IsCut line words → (w : List ℕ) × ((o : Option (List ℕ)) × HasFirst line w o)
first_of_cut line [] is = absurd is
first_of_cut line (w ∷ []) is = (w, (None, is))
first_of_cut line (w ∷ next ∷ words) is = (w, (Some is.0, is.1))

pub never_closed : (line v quoted : List ℕ) → HasNoMark v → line ≡ v ++ 34 ∷ quoted → ((bytes rest : List ℕ) → quoted ≢ flat_map quoted_byte bytes ++ 34 ∷ rest) → (words : List (List ℕ)) → ¬ IsCut line words
never_closed line v quoted plain is none words cut =
    let first = first_of_cut line words cut in
    let closes = first_closes line v quoted first.0 first.1.0 plain is first.1.1 in
    none closes.0 (tail first.1.0) closes.1

pub never_behind : (line v quoted rest : List ℕ) → HasNoMark v → line ≡ v ++ 34 ∷ quoted → IsClosed quoted rest → ((o : Option (List ℕ)) → ¬ IsBehind rest o) → (words : List (List ℕ)) → ¬ IsCut line words
never_behind line v quoted rest plain is closed none words cut =
    let first = first_of_cut line words cut in
    let closes = first_closes line v quoted first.0 first.1.0 plain is first.1.1 in
    let same : tail first.1.0 ≡ rest = (same_text closes.0 closed.0 (tail first.1.0) rest (sym closes.1 ∙ closed.1)).1 in
    none first.1.0 (subst (λ (x : List ℕ). IsBehind x first.1.0) same (behind_tail first.1.0))

pub quoted_first : (line v quoted rest : List ℕ) (o : Option (List ℕ)) → HasNoMark v → line ≡ v ++ 34 ∷ quoted → IsClosed quoted rest → IsBehind rest o → HasFirst line (take (length line - length rest) line) o
quoted_first line v quoted rest o plain is closed behind =
    let q : List ℕ = 34 ∷ (flat_map quoted_byte closed.0 ++ 34 ∷ []) in
    let w : List ℕ = v ++ q in
    let whole : line ≡ w ++ rest =
    is ∙ ap (λ (x : List ℕ). v ++ 34 ∷ x) (closed.1 ∙ sym (append_assoc (flat_map quoted_byte closed.0) (34 ∷ []) rest)) ∙ sym (append_assoc v q rest) in
    let len : length w ≡ length line - length rest = omega (arith, ap length whole, length-append w rest) in
    let front : take (length line - length rest) line ≡ w = ap (take (length line - length rest)) whole ∙ take_at w rest (length line - length rest) len in
    subst (λ (x : List ℕ). HasFirst line x o) (sym front) (record {
      word = record { front = v; quote = q; plain = plain; quoted = inr (closed.0, refl); is = refl };
      line_is = whole ∙ ap (λ (x : List ℕ). w ++ x) (tail_is rest o behind);
    })

-- ---- all words of a line

-- words of what follows the first word are words of the line
cut_on : (line w rest : List ℕ) (words : List (List ℕ)) → HasFirst line w (Some rest) → IsCut rest words → IsCut line (w ∷ words)
cut_on line w rest [] first is = absurd is
cut_on line w rest (next ∷ words) first is = (rest, first, is)

-- behind the first word of words stand words
cut_back : (line w rest : List ℕ) (words : List (List ℕ)) → HasFirst line w (Some rest) → IsCut line words → (behind : List (List ℕ)) × IsCut rest behind
cut_back line w rest [] first is = absurd is
cut_back line w rest (v ∷ []) first is = let e : None ≡ Some rest = (first_same line v w None (Some rest) is first).1 in absurd (cc)
cut_back line w rest (v ∷ next ∷ words) first is =
    let e : Some is.0 ≡ Some rest = (first_same line v w (Some is.0) (Some rest) is.1 first).1 in
    let r : is.0 ≡ rest = cc in
    (next ∷ words, subst (λ (x : List ℕ). IsCut x (next ∷ words)) r is.2)

-- words of the rest are words of the line behind those so far, and where the line has words, the rest has
pub record IsCutting (line : List ℕ) (so_far : List (List ℕ)) (rest : List ℕ) : Type 0 where
  pub on : (words : List (List ℕ)) → IsCut rest words → IsCut line (so_far ++ words)
  pub back : (words : List (List ℕ)) → IsCut line words → (behind : List (List ℕ)) × IsCut rest behind

pub cutting_starts : (line : List ℕ) → IsCutting line [] line
cutting_starts line = record { on = λ words is. is; back = λ words is. (words, is) }

pub cutting_on : (line : List ℕ) (so_far : List (List ℕ)) (rest w next : List ℕ) → IsCutting line so_far rest → HasFirst rest w (Some next) → IsCutting line (so_far ++ w ∷ []) next
cutting_on line so_far rest w next was first = record {
  on = λ words is. subst (IsCut line) (sym (append_assoc so_far (w ∷ []) words)) (was.on (w ∷ words) (cut_on rest w next words first is));
  back = λ words is. let behind = was.back words is in cut_back rest w next behind.0 first behind.1;
}

pub cutting_ends : (line : List ℕ) (so_far : List (List ℕ)) (rest w : List ℕ) → IsCutting line so_far rest → HasFirst rest w None → IsCut line (so_far ++ w ∷ [])
cutting_ends line so_far rest w was first = was.on (w ∷ []) first

pub cutting_fails : (line : List ℕ) (so_far : List (List ℕ)) (rest : List ℕ) → IsCutting line so_far rest → ((words : List (List ℕ)) → ¬ IsCut rest words) → (words : List (List ℕ)) → ¬ IsCut line words
cutting_fails line so_far rest was none words is = let behind = was.back words is in none behind.0 behind.1

pub first_shorter : (line w next : List ℕ) → HasFirst line w (Some next) → length next < length line
first_shorter line w next first = omega (arith, ap length first.line_is, length-append w (32 ∷ next))

-- ---- words and the line that they make

-- the words that a line is cut into make it
pub cut_joins : (line : List ℕ) (words : List (List ℕ)) → IsCut line words → line ≡ joined words
cut_joins line [] is = absurd is
cut_joins line (w ∷ []) is = is.line_is
cut_joins line (w ∷ next ∷ words) is = is.1.line_is ∙ ap (λ (x : List ℕ). w ++ 32 ∷ x) (cut_joins is.0 (next ∷ words) is.2)

-- words make a line that is cut into them
pub joined_cut : (w : List ℕ) (words : List (List ℕ)) → IsItemWord w → AllByRecursion IsItemWord words → IsCut (joined (w ∷ words)) (w ∷ words)
joined_cut w [] is all = record { word = is; line_is = refl }
joined_cut w (v ∷ words) is all = (v ++ flat_map spaced_word words, record { word = is; line_is = refl }, joined_cut v words all.0 all.1)

-- a line has no two lists of words
pub cut_same : (line : List ℕ) (vs ws : List (List ℕ)) → IsCut line vs → IsCut line ws → vs ≡ ws
cut_same line [] ws is also = absurd is
cut_same line (v ∷ vs) [] is also = absurd also
cut_same line (v ∷ []) (w ∷ []) is also = ap (λ (x : List ℕ). x ∷ []) (first_same line v w None None is also).0
cut_same line (v ∷ []) (w ∷ n ∷ ws) is also = let e : None ≡ Some also.0 = (first_same line v w None (Some also.0) is also.1).1 in absurd (cc)
cut_same line (v ∷ m ∷ vs) (w ∷ []) is also = let e : Some is.0 ≡ None = (first_same line v w (Some is.0) None is.1 also).1 in absurd (cc)
cut_same line (v ∷ m ∷ vs) (w ∷ n ∷ ws) is also =
    let same = first_same line v w (Some is.0) (Some also.0) is.1 also.1 in
    let e : Some is.0 ≡ Some also.0 = same.1 in
    let r : is.0 ≡ also.0 = cc in
    let rest : m ∷ vs ≡ n ∷ ws = cut_same also.0 (m ∷ vs) (n ∷ ws) (subst (λ (x : List ℕ). IsCut x (m ∷ vs)) r is.2) also.2 in
    let first : v ≡ w = same.0 in
    cc

-- what ends a line, and what follows it is shorter
pub ends_line : (text line rest : List ℕ) → text ≡ line ++ 10 ∷ rest → HasNoEnd line → (text ≡ ended line ++ rest) × HasNoEnd line × (length rest < length text)
ends_line text line rest is none = (is ∙ sym (append_assoc line (10 ∷ []) rest), none, omega (arith, ap length is, length-append line (10 ∷ rest)))
