-- A line is cut into words in one way at most.
use Rattle.std.proofs.Common.{◌≡◌, ◌≢◌, ℕ, zero, suc, ◌+◌, ◌-◌, ◌≤◌, ◌<◌, Bool, eqb, List, [], ◌∷◌, ◌++◌, length, get_or, take, drop, Option, Some, None, inl, inr, refl, sym, ap, subst, ◌∙◌, append_assoc, length-append, add-one, drop-cons, arith}
use Rattle.std.specs.List.{AllByRecursion, flat_map, position, position_or_len}
use Rattle.std.proofs.lemmas.Bool.{eqb-true, eqb-false, cases_lt, lt-ltb, cond-true}
use Rattle.std.proofs.lemmas.List.{append-nil, take_at, take_rest, take-append-drop, take_all}
use Rattle.std.proofs.lemmas.Grind.{flat_map-append}
use Rattle.std.proofs.lemmas.List.Sums.{fails_before_first}
use Rattle.std.proofs.lemmas.List.Quantifiers.{position-Some}
use Rattle.text_words.specs.Spelling.{quoted_byte}
use Rattle.text_words.specs.Words.{AreBehind, HasNoSpace, IsUnquoted, IsLineWord, IsBehind, IsClosed, HasFirst, IsOpening, IsCut}
use Rattle.text_words.proofs.ValueLemmas.{same_text, heads_differ, rest_is_closed}

-- what stands behind a word
abbrev tail : Option (List ℕ) → List ℕ
tail None = []
tail (Some rest) = 32 ∷ rest

first_tail : (line w : List ℕ) (o : Option (List ℕ)) → HasFirst line w o → IsLineWord w × (line ≡ w ++ tail o)
first_tail line w None first = (first.0, first.1 ∙ sym (append-nil w))
first_tail line w (Some rest) first = (first.0, first.1)

same_tail : (o p : Option (List ℕ)) → tail o ≡ tail p → o ≡ p
same_tail None None same = refl
same_tail None (Some r) same = absurd (cc)
same_tail (Some r) None same = absurd (cc)
same_tail (Some r) (Some s) same = ap Some (cc)

no_space_tail : (b : ℕ) (bs : List ℕ) (o : Option (List ℕ)) → b ≢ 32 → tail o ≢ b ∷ bs
no_space_tail b bs None other same = absurd (cc)
no_space_tail b bs (Some r) other same = other (cc)

plain_same : (v w : List ℕ) (o p : Option (List ℕ)) → HasNoSpace v → HasNoSpace w → v ++ tail o ≡ w ++ tail p → (v ≡ w) × (o ≡ p)
plain_same [] [] o p vs ws same = (refl, same_tail o p same)
plain_same [] (b ∷ w) o p vs ws same = absurd (no_space_tail b (w ++ tail p) o ws.0 same)
plain_same (a ∷ v) [] o p vs ws same = absurd (no_space_tail a (v ++ tail o) p vs.0 (sym same))
plain_same (a ∷ v) (b ∷ w) o p vs ws same =
    let first : a ≡ b = cc in
    let rest = plain_same v w o p vs.1 ws.1 (cc) in
    (let behind : v ≡ w = rest.0 in cc, rest.1)

no_spaces : (w : List ℕ) → IsUnquoted w → HasNoSpace w
no_spaces [] plain = tt
no_spaces (b ∷ w) plain = plain.1

-- a plain word and what follows it don't begin with a quote
not_quote : (w : List ℕ) (o : Option (List ℕ)) (rest : List ℕ) → IsUnquoted w → w ++ tail o ≢ 34 ∷ rest
not_quote [] None rest plain same = absurd (cc)
not_quote [] (Some r) rest plain same = heads_differ 32 34 r rest refl same
not_quote (b ∷ w) o rest plain same = plain.0 (cc)

quoted_tail : (bytes : List ℕ) (o : Option (List ℕ)) → (34 ∷ flat_map quoted_byte bytes ++ 34 ∷ []) ++ tail o ≡ 34 ∷ (flat_map quoted_byte bytes ++ 34 ∷ tail o)
quoted_tail bytes o = ap (λ (x : List ℕ). 34 ∷ x) (append_assoc (flat_map quoted_byte bytes) (34 ∷ []) (tail o))

words_same : (v w : List ℕ) (o p : Option (List ℕ)) → IsLineWord v → IsLineWord w → v ++ tail o ≡ w ++ tail p → (v ≡ w) × (o ≡ p)
words_same v w o p (inl plain) (inl also) same = plain_same v w o p (no_spaces v plain) (no_spaces w also) same
words_same v w o p (inl plain) (inr (bytes, is)) same = absurd (not_quote v o _ plain (same ∙ ap (λ (x : List ℕ). x ++ tail p) is ∙ quoted_tail bytes p))
words_same v w o p (inr (bytes, is)) (inl plain) same = absurd (not_quote w p _ plain (sym same ∙ ap (λ (x : List ℕ). x ++ tail o) is ∙ quoted_tail bytes o))
words_same v w o p (inr (bytes, is)) (inr (others, also)) same =
    let e : 34 ∷ (flat_map quoted_byte bytes ++ 34 ∷ tail o) ≡ 34 ∷ (flat_map quoted_byte others ++ 34 ∷ tail p) =
    sym (quoted_tail bytes o) ∙ ap (λ (x : List ℕ). x ++ tail o) (sym is) ∙ same ∙ ap (λ (x : List ℕ). x ++ tail p) also ∙ quoted_tail others p in
    let parts = same_text bytes others (tail o) (tail p) (cc) in
    (is ∙ ap (λ (t : List ℕ). 34 ∷ flat_map quoted_byte t ++ 34 ∷ []) parts.0 ∙ sym also, same_tail o p parts.1)

-- a line has one first word
pub first_same : (line v w : List ℕ) (o p : Option (List ℕ)) → HasFirst line v o → HasFirst line w p → (v ≡ w) × (o ≡ p)
first_same line v w o p one other =
    let a = first_tail line v o one in
    let b = first_tail line w p other in
    words_same v w o p a.0 b.0 (sym a.1 ∙ b.1)

-- the first word of words
pub first_of_cut : (line : List ℕ) (words : List (List ℕ)) → IsCut line words → (w : List ℕ) × ((o : Option (List ℕ)) × HasFirst line w o)
first_of_cut line [] is = absurd is
first_of_cut line (w ∷ []) is = (w, (None, is))
first_of_cut line (w ∷ next ∷ words) is = (w, (Some is.0, is.1))

-- words of what follows the first word are words of the line
pub cut_on : (line w rest : List ℕ) (words : List (List ℕ)) → HasFirst line w (Some rest) → IsCut rest words → IsCut line (w ∷ words)
cut_on line w rest [] first is = absurd is
cut_on line w rest (next ∷ words) first is = (rest, first, is)

-- behind the first word of words stand words
pub cut_back : (line w rest : List ℕ) (words : List (List ℕ)) → HasFirst line w (Some rest) → IsCut line words → (behind : List (List ℕ)) × IsCut rest behind
cut_back line w rest [] first is = absurd is
cut_back line w rest (v ∷ []) first is =
    let same = first_same line v w None (Some rest) is first in
    let e : None ≡ Some rest = same.1 in absurd (cc)
cut_back line w rest (v ∷ next ∷ words) first is =
    let same = first_same line v w (Some is.0) (Some rest) is.1 first in
    let e : Some is.0 ≡ Some rest = same.1 in
    let r : is.0 ≡ rest = cc in
    (next ∷ words, subst (λ (x : List ℕ). IsCut x (next ∷ words)) r is.2)

-- a line has no two lists of words
pub cut_same : (line : List ℕ) (vs ws : List (List ℕ)) → IsCut line vs → IsCut line ws → vs ≡ ws
cut_same line [] ws is also = absurd is
cut_same line (v ∷ vs) [] is also = absurd also
cut_same line (v ∷ []) (w ∷ []) is also = ap (λ (x : List ℕ). x ∷ []) (first_same line v w None None is also).0
cut_same line (v ∷ []) (w ∷ n ∷ ws) is also = let e : None ≡ Some also.0 = (first_same line v w None (Some also.0) is also.1).1 in absurd (cc)
cut_same line (v ∷ m ∷ vs) (w ∷ []) is also = let e : Some is.0 ≡ None = (first_same line v w (Some is.0) None is.1 also).1 in absurd (cc)
cut_same line (v ∷ m ∷ vs) (w ∷ n ∷ ws) is also =
    let same = first_same line v w (Some is.0) (Some also.0) is.1 also.1 in
    let e : Some is.0 ≡ Some also.0 = same.1 in
    let r : is.0 ≡ also.0 = cc in
    let rest : m ∷ vs ≡ n ∷ ws = cut_same also.0 (m ∷ vs) (n ∷ ws) (subst (λ (x : List ℕ). IsCut x (m ∷ vs)) r is.2) also.2 in
    let first : v ≡ w = same.0 in
    cc

-- ---- the first word of a quoted one

pub quoted_first : (line quoted rest : List ℕ) (o : Option (List ℕ)) → line ≡ 34 ∷ quoted → IsClosed quoted rest → IsBehind rest o → HasFirst line (take (length line - length rest) line) o
quoted_first line quoted rest o is closed behind =
    let w : List ℕ = 34 ∷ flat_map quoted_byte closed.0 ++ 34 ∷ [] in
    let whole : line ≡ w ++ rest = is ∙ ap (λ (x : List ℕ). 34 ∷ x) (closed.1 ∙ sym (append_assoc (flat_map quoted_byte closed.0) (34 ∷ []) rest)) in
    let len : length w ≡ length line - length rest = omega (arith, ap length whole, length-append w rest) in
    let front : take (length line - length rest) line ≡ w = ap (take (length line - length rest)) whole ∙ take_at w rest (length line - length rest) len in
    rw front (first o behind whole)
  where
    first : (p : Option (List ℕ)) → IsBehind rest p → line ≡ (34 ∷ flat_map quoted_byte closed.0 ++ 34 ∷ []) ++ rest → HasFirst line (34 ∷ flat_map quoted_byte closed.0 ++ 34 ∷ []) p
    first None none whole = (inr (closed.0, refl), whole ∙ ap (λ (x : List ℕ). (34 ∷ flat_map quoted_byte closed.0 ++ 34 ∷ []) ++ x) none ∙ append-nil _)
    first (Some next) some whole = (inr (closed.0, refl), whole ∙ ap (λ (x : List ℕ). (34 ∷ flat_map quoted_byte closed.0 ++ 34 ∷ []) ++ x) some)

-- a first word behind a quote is closed, and what follows it is behind it
first_closes : (line quoted w : List ℕ) (o : Option (List ℕ)) → line ≡ 34 ∷ quoted → HasFirst line w o → (rest : List ℕ) × (IsClosed quoted rest × IsBehind rest o)
first_closes line quoted w o is first =
    let parts = first_tail line w o first in
    elim (parts.0) [
      | inl plain ↦ absurd (not_quote w o quoted plain (sym parts.1 ∙ is))
      | inr text ↦
          let e : 34 ∷ quoted ≡ 34 ∷ (flat_map quoted_byte text.0 ++ 34 ∷ tail o) = sym is ∙ parts.1 ∙ ap (λ (x : List ℕ). x ++ tail o) text.1 ∙ quoted_tail text.0 o in
          (tail o, ((text.0, cc), behind o))
    ]
  where
    behind : (p : Option (List ℕ)) → IsBehind (tail p) p
    behind None = refl
    behind (Some r) = refl

pub not_closed : (line quoted : List ℕ) → line ≡ 34 ∷ quoted → ((bytes rest : List ℕ) → quoted ≢ flat_map quoted_byte bytes ++ 34 ∷ rest) → (words : List (List ℕ)) → ¬ IsCut line words
not_closed line quoted is none words cut =
    let first = first_of_cut line words cut in
    let closes = first_closes line quoted first.0 first.1.0 is first.1.1 in
    none closes.1.0.0 closes.0 closes.1.0.1

pub not_behind : (line quoted rest : List ℕ) → line ≡ 34 ∷ quoted → IsClosed quoted rest → ((o : Option (List ℕ)) → ¬ IsBehind rest o) → (words : List (List ℕ)) → ¬ IsCut line words
not_behind line quoted rest is closed none words cut =
    let first = first_of_cut line words cut in
    let closes = first_closes line quoted first.0 first.1.0 is first.1.1 in
    let same : closes.0 ≡ rest = (same_text closes.1.0.0 closed.0 closes.0 rest (sym closes.1.0.1 ∙ closed.1)).1 in
    none first.1.0 (subst (λ (x : List ℕ). IsBehind x first.1.0) same closes.1.1)

-- ---- a plain one

no_space_before : (line : List ℕ) (end : ℕ) → ((k : ℕ) → k < end → get_or line k 0 ≢ 32) → end ≤ length line → HasNoSpace (take end line)
no_space_before line zero before le = tt
no_space_before [] (suc end) before le = tt
no_space_before (b ∷ line) (suc end) before le = (before 0 (omega arith), no_space_before line end (λ k lt. before (suc k) (omega arith)) (omega arith))

plain_of : (w : List ℕ) (behind : List ℕ) → HasNoSpace w → ((rest : List ℕ) → w ++ behind ≢ 34 ∷ rest) → IsUnquoted w
plain_of [] behind none other = tt
plain_of (b ∷ w) behind none other = (λ quote. other (w ++ behind) (ap (λ (x : ℕ). x ∷ (w ++ behind)) quote), none)

abbrev is_space : ℕ → Bool
is_space byte = eqb byte 32

pub opens_to_space : (line : List ℕ) (end : ℕ) → position is_space line ≡ Some end → IsOpening line (take end line) (Some (take (length line - (end + 1)) (drop (end + 1) line)))
opens_to_space line end at =
    let told = position-Some is_space line end 0 at in
    let space : get_or line end 0 ≡ 32 = eqb-true _ _ told.1 in
    let lt : end < length line = told.0 in
    let whole : line ≡ take end line ++ 32 ∷ drop (end + 1) line =
    sym (take-append-drop end line) ∙ ap (λ (x : List ℕ). take end line ++ x) (rw (add-one, drop-cons line end 0) (ap (λ (b : ℕ). b ∷ drop (suc end) line) space)) in
    (no_space_before line end (λ k lt. eqb-false _ _ (told.2 k lt)) (omega arith), whole ∙ ap (λ (x : List ℕ). take end line ++ 32 ∷ x) (sym (take_rest line (end + 1))))

pub opens_to_end : (line : List ℕ) → position is_space line ≡ None → IsOpening line line None
opens_to_end line at =
    let missed : length line ≤ position_or_len is_space line =
    elim (cases_lt (position_or_len is_space line) (length line)) [
      | inl lt ↦ let found : position is_space line ≡ Some (position_or_len is_space line) = cond-true _ _ _ (lt-ltb _ _ lt) in absurd (cc)
      | inr le ↦ le
    ]
    in
    let none : HasNoSpace (take (length line) line) = no_space_before line (length line) (λ k lt. eqb-false _ _ (fails_before_first is_space line k 0 (omega arith))) (omega arith) in
    (subst HasNoSpace (take_all (length line) line (omega arith)) none, refl)

-- what opens a line that doesn't begin with a quote is its first word
pub plain_first : (line w : List ℕ) (o : Option (List ℕ)) → ((rest : List ℕ) → line ≢ 34 ∷ rest) → IsOpening line w o → HasFirst line w o
plain_first line w None other opening = (inl (plain_of w [] opening.0 (λ rest same. other rest (opening.1 ∙ sym (append-nil w) ∙ same))), opening.1)
plain_first line w (Some next) other opening = (inl (plain_of w (32 ∷ next) opening.0 (λ rest same. other rest (opening.1 ∙ same))), opening.1)

-- ---- a line that is being cut

-- words of the rest are words of the line behind those so far, and where the line has words, the rest has
pub record IsCutting (line : List ℕ) (so_far : List (List ℕ)) (rest : List ℕ) : Type 0 where
  pub on : (words : List (List ℕ)) → IsCut rest words → IsCut line (so_far ++ words)
  pub back : (words : List (List ℕ)) → IsCut line words → (behind : List (List ℕ)) × IsCut rest behind

pub cutting_starts : (line : List ℕ) → IsCutting line [] line
cutting_starts line = record { on = λ words is. is; back = λ words is. (words, is) }

pub cutting_on : (line : List ℕ) (so_far : List (List ℕ)) (rest w next : List ℕ) → IsCutting line so_far rest → HasFirst rest w (Some next) → IsCutting line (so_far ++ w ∷ []) next
cutting_on line so_far rest w next was first = record {
  on = λ words is. subst (IsCut line) (sym (append_assoc so_far (w ∷ []) words)) (was.on (w ∷ words) (cut_on rest w next words first is));
  back = λ words is. let behind = was.back words is in cut_back rest w next behind.0 first behind.1;
}

pub cutting_ends : (line : List ℕ) (so_far : List (List ℕ)) (rest w : List ℕ) → IsCutting line so_far rest → HasFirst rest w None → IsCut line (so_far ++ w ∷ [])
cutting_ends line so_far rest w was first = was.on (w ∷ []) first

pub cutting_fails : (line : List ℕ) (so_far : List (List ℕ)) (rest : List ℕ) → IsCutting line so_far rest → ((words : List (List ℕ)) → ¬ IsCut rest words) → (words : List (List ℕ)) → ¬ IsCut line words
cutting_fails line so_far rest was none words is = let behind = was.back words is in none behind.0 behind.1

pub first_shorter : (line w next : List ℕ) → HasFirst line w (Some next) → length next < length line
first_shorter line w next first = omega (arith, ap length first.1, length-append w (32 ∷ next))

-- ---- a text that is being passed

pub passes : (quoted rest next : List ℕ) (byte : ℕ) → (bytes : List ℕ) × (quoted ≡ flat_map quoted_byte bytes ++ rest) → rest ≡ quoted_byte byte ++ next → (bytes : List ℕ) × (quoted ≡ flat_map quoted_byte bytes ++ next)
passes quoted rest next byte was is = (
  was.0 ++ byte ∷ [],
  was.1 ∙ ap (λ (x : List ℕ). flat_map quoted_byte was.0 ++ x) is ∙ sym (append_assoc (flat_map quoted_byte was.0) (quoted_byte byte) next)
      ∙ ap (λ (x : List ℕ). x ++ next) (ap (λ (x : List ℕ). flat_map quoted_byte was.0 ++ x) (sym (append-nil (quoted_byte byte))) ∙ sym (flat_map-append quoted_byte was.0 (byte ∷ []))),
)

pub closes : (quoted rest behind : List ℕ) → (bytes : List ℕ) × (quoted ≡ flat_map quoted_byte bytes ++ rest) → rest ≡ 34 ∷ behind → IsClosed quoted behind
closes quoted rest behind was is = (was.0, was.1 ∙ ap (λ (x : List ℕ). flat_map quoted_byte was.0 ++ x) is)

pub never_closes : (quoted rest : List ℕ) → (bytes : List ℕ) × (quoted ≡ flat_map quoted_byte bytes ++ rest) → ((behind : List ℕ) → rest ≢ 34 ∷ behind) → ((byte : ℕ) (behind : List ℕ) → rest ≢ quoted_byte byte ++ behind) → (bytes behind : List ℕ) → quoted ≢ flat_map quoted_byte bytes ++ 34 ∷ behind
never_closes quoted rest was no_quote_here none bytes behind is = let left = rest_is_closed was.0 rest bytes behind (sym was.1 ∙ is) in at left.0 left.1
  where
    at : (others : List ℕ) → rest ≡ flat_map quoted_byte others ++ 34 ∷ behind → ⊥
    at [] same = no_quote_here behind same
    at (b ∷ bs) same = none b (flat_map quoted_byte bs ++ 34 ∷ behind) (same ∙ append_assoc (quoted_byte b) (flat_map quoted_byte bs) (34 ∷ behind))

-- ---- words and the line that they make

-- a line has one opening
pub opening_same : (line v w : List ℕ) (o p : Option (List ℕ)) → IsOpening line v o → IsOpening line w p → (v ≡ w) × (o ≡ p)
opening_same line v w o p one other =
    let a = opening_tail line v o one in
    let b = opening_tail line w p other in
    plain_same v w o p a.0 b.0 (sym a.1 ∙ b.1)
  where
    opening_tail : (l x : List ℕ) (q : Option (List ℕ)) → IsOpening l x q → HasNoSpace x × (l ≡ x ++ tail q)
    opening_tail l x None opening = (opening.0, opening.1 ∙ sym (append-nil x))
    opening_tail l x (Some rest) opening = (opening.0, opening.1)

-- the words behind a first word are one list
pub behind_same : (o : Option (List ℕ)) (vs ws : List (List ℕ)) → AreBehind o vs → AreBehind o ws → vs ≡ ws
behind_same None vs ws are also = are ∙ sym also
behind_same (Some rest) vs ws are also = cut_same rest vs ws are also

-- a word behind a space
abbrev pub spaced_word : List ℕ → List ℕ
spaced_word w = 32 ∷ w

-- what stands behind the space that follows a first word
abbrev pub joined : List (List ℕ) → Option (List ℕ)
joined [] = None
joined (w ∷ words) = Some (w ++ flat_map spaced_word words)

pub joined_opening : (first : List ℕ) (words : List (List ℕ)) → HasNoSpace first → IsOpening (first ++ flat_map spaced_word words) first (joined words)
joined_opening first [] none = (none, append-nil first)
joined_opening first (w ∷ words) none = (none, refl)

joined_cut : (w : List ℕ) (words : List (List ℕ)) → IsLineWord w → AllByRecursion IsLineWord words → IsCut (w ++ flat_map spaced_word words) (w ∷ words)
joined_cut w [] is all = (is, append-nil w)
joined_cut w (v ∷ words) is all = (v ++ flat_map spaced_word words, (is, refl), joined_cut v words all.0 all.1)

pub joined_behind : (words : List (List ℕ)) → AllByRecursion IsLineWord words → AreBehind (joined words) words
joined_behind [] all = refl
joined_behind (w ∷ words) all = joined_cut w words all.0 all.1
