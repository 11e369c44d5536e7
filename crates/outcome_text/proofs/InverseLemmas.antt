-- The way back from the words of a reply to what they are spelled from.
use Rattle.std.proofs.Common.{◌≡◌, ◌≢◌, ℕ, suc, ◌-◌, ◌^◌, ◌<◌, Bool, true, false, cond, eqb, List, [], ◌∷◌, ◌++◌, map, length, refl, sym, ap, subst, ◌∙◌, ◌⊎◌, inl, inr, append_assoc, arith}
use Rattle.std.specs.Prelude.{codes, pos, negsuc}
use Rattle.std.specs.Int.{w64}
use Rattle.std.specs.List.{flat_map, AllByRecursion}
use Rattle.std.specs.Fmt.{decimal, signed_decimal}
use Rattle.std.specs.Str.{bytes_eq}
use Rattle.std.specs.Str.Parse.{AllDigits, digits_value}
use Rattle.std.proofs.lemmas.Bool.{cond-true, cond-false, eq-eqb, ne_eqb, false≢true}
use Rattle.std.proofs.lemmas.Fmt.{decimal_is_IsNumeral, decimal_nonempty}
use Rattle.std.proofs.lemmas.Str.Parse.{tells_digits}
use Rattle.gdi_kinds.specs.Names.{IsName, continues_name, begins_name}
use Rattle.gdi_kinds.specs.declared.value.Value.{Value}
use Rattle.gdi_kinds.specs.declared.value.Value.TheVariants as value
use Rattle.gdi_kinds.specs.declared.edge_line.EdgeLine.{EdgeLine}
use Rattle.gdi_kinds.specs.declared.prop_line.PropLine.{PropLine}
use Rattle.gdi_kinds.specs.declared.pair.Pair.{Pair}
use Rattle.gdi_kinds.specs.declared.reply.Reply.{Reply}
use Rattle.gdi_kinds.specs.declared.reply.Reply.TheVariants as reply
use Rattle.text_words.specs.Spelling.{quoted_byte, value_text, IsValue}
use Rattle.text_words.proofs.ValueLemmas.{quoted_cases, no_digit}
use Rattle.text_words.proofs.PrintLemmas.{parts_true}
use Rattle.outcome_text.specs.declared.reply_word.ReplyWord.{ReplyWord}
use Rattle.outcome_text.specs.declared.reply_word.ReplyWord.TheVariants as word
use Rattle.outcome_text.specs.Outputs.{prop_text, pair_text, edge_text, way_text, reply_word, reply_items}
use Rattle.outcome_text.specs.Runs.{IsNumber, IsPropLine, IsPair, IsEdgeLine, IsReply}
use Rattle.outcome_text.specs.Reading.{HasNo, text_of_word, IsReplyOf}
use Rattle.std.proofs.lemmas.Bool.Decides.{nat_tests}

-- ---- numbers and what stands at a byte

abbrev pub number_in : List ℕ → ℕ
number_in digits = digits_value 10 digits

pub number_back : (n : ℕ) → IsNumber n → number_in (decimal n) ≡ n
number_back n lt = (decimal_is_IsNumeral n lt).1

-- the bytes up to a byte, and those behind it
abbrev front : ℕ → List ℕ → List ℕ
front byte [] = []
front byte (b ∷ bs) = cond (eqb b byte) [] (b ∷ front byte bs)

abbrev back : ℕ → List ℕ → List ℕ
back byte [] = []
back byte (b ∷ bs) = cond (eqb b byte) bs (back byte bs)

front_at : (byte : ℕ) (xs ys : List ℕ) → HasNo byte xs → front byte (xs ++ byte ∷ ys) ≡ xs
front_at byte [] ys none = cond-true (eqb byte byte) _ _ (eq-eqb byte byte refl)
front_at byte (b ∷ xs) ys none = cond-false (eqb b byte) _ _ (ne_eqb b byte none.0) ∙ ap (λ (x : List ℕ). b ∷ x) (front_at byte xs ys none.1)

back_at : (byte : ℕ) (xs ys : List ℕ) → HasNo byte xs → back byte (xs ++ byte ∷ ys) ≡ ys
back_at byte [] ys none = cond-true (eqb byte byte) _ _ (eq-eqb byte byte refl)
back_at byte (b ∷ xs) ys none = cond-false (eqb b byte) _ _ (ne_eqb b byte none.0) ∙ back_at byte xs ys none.1

-- where two texts are split at a byte that their fronts lack, they are split alike
pub split_same : (byte : ℕ) (v w xs ys : List ℕ) → HasNo byte v → HasNo byte w → v ++ byte ∷ xs ≡ w ++ byte ∷ ys → (v ≡ w) × (xs ≡ ys)
split_same byte v w xs ys a b same =
    (sym (front_at byte v xs a) ∙ ap (front byte) same ∙ front_at byte w ys b, sym (back_at byte v xs a) ∙ ap (back byte) same ∙ back_at byte w ys b)

-- a text without a byte isn't split there
pub no_split : (byte : ℕ) (xs ys text : List ℕ) → HasNo byte text → text ≢ xs ++ byte ∷ ys
no_split byte [] ys [] none same = absurd (cc)
no_split byte [] ys (b ∷ text) none same = none.0 (cc)
no_split byte (x ∷ xs) ys [] none same = absurd (cc)
no_split byte (x ∷ xs) ys (b ∷ text) none same = no_split byte xs ys text none.1 (cc)

digits_lack : (byte : ℕ) (ds : List ℕ) → (byte < 48) ⊎ (57 < byte) → AllDigits 10 ds → HasNo byte ds
digits_lack byte [] out all = tt
digits_lack byte (d ∷ ds) out all =
    let parts = tells_digits.parts d ds all in
    (elim out [ inl low ↦ grind (arith, nat_tests, parts.0) | inr high ↦ grind (arith, nat_tests, parts.0) ], digits_lack byte ds out parts.1)

pub number_lacks : (byte n : ℕ) → (byte < 48) ⊎ (57 < byte) → IsNumber n → HasNo byte (decimal n)
number_lacks byte n out lt = digits_lack byte (decimal n) out (decimal_is_IsNumeral n lt).0.1

continues_lack : (bs : List ℕ) → Rattle.std.specs.List.list_all continues_name bs ≡ true → HasNo 61 bs
continues_lack [] all = tt
continues_lack (b ∷ bs) all =
    let parts = parts_true (continues_name b) _ all in
    (grind (arith, nat_tests, parts.0), continues_lack bs parts.1)

-- a name has no `=`
pub name_lacks : (bs : List ℕ) → IsName bs → HasNo 61 bs
name_lacks [] is = absurd (false≢true is)
name_lacks (b ∷ bs) is =
    let first = parts_true _ _ is in
    let parts = parts_true (begins_name b) _ first.0 in
    (grind (arith, nat_tests, parts.0), continues_lack bs parts.1)

-- ---- values

-- the bytes that a text quotes
abbrev unquoted : Bool → List ℕ → List ℕ
unquoted escaped [] = []
unquoted true (b ∷ bs) = b ∷ unquoted false bs
unquoted false (b ∷ bs) = cond (eqb b 92) (unquoted true bs) (cond (eqb b 34) [] (b ∷ unquoted false bs))

unquoted_byte : (byte : ℕ) (rest : List ℕ) → unquoted false (quoted_byte byte ++ rest) ≡ byte ∷ unquoted false rest
unquoted_byte byte rest =
    elim (quoted_cases byte) [
      | inl special ↦ ap (λ (q : List ℕ). unquoted false (q ++ rest)) special.1
      | inr plain ↦ ap (λ (q : List ℕ). unquoted false (q ++ rest)) plain.2 ∙ cond-false (eqb byte 92) _ _ (ne_eqb byte 92 plain.1) ∙ cond-false (eqb byte 34) _ _ (ne_eqb byte 34 plain.0)
    ]

unquoted_back : (bytes : List ℕ) → unquoted false (flat_map quoted_byte bytes ++ 34 ∷ []) ≡ bytes
unquoted_back [] = refl
unquoted_back (b ∷ bytes) =
    ap (unquoted false) (append_assoc (quoted_byte b) (flat_map quoted_byte bytes) (34 ∷ [])) ∙ unquoted_byte b (flat_map quoted_byte bytes ++ 34 ∷ []) ∙ ap (λ (x : List ℕ). b ∷ x) (unquoted_back bytes)

-- the integer from 0 on, or another value by its first byte
abbrev value_in : List ℕ → Value
value_in [] = value.Bool true
value_in (b ∷ bs) =
    cond (eqb b 34) (value.Text (unquoted false bs)) (cond (eqb b 116) (value.Bool true) (cond (eqb b 102) (value.Bool false)
    (cond (eqb b 45) (value.Int (negsuc (number_in bs - 1))) (value.Int (pos (number_in (b ∷ bs)))))))

number_value : (n : ℕ) (ds : List ℕ) → n < 2 ^ 64 → decimal n ≡ ds → value_in ds ≡ value.Int (pos n)
number_value n [] lt is = let some = decimal_nonempty n lt in absurd (omega (arith, ap length is))
number_value n (b ∷ bs) lt is =
    cond-false (eqb b 34) _ _ (ne_eqb b 34 (λ e. no_digit 34 n bs lt refl (is ∙ ap (λ (x : ℕ). x ∷ bs) e)))
    ∙ cond-false (eqb b 116) _ _ (ne_eqb b 116 (λ e. no_digit 116 n bs lt refl (is ∙ ap (λ (x : ℕ). x ∷ bs) e)))
    ∙ cond-false (eqb b 102) _ _ (ne_eqb b 102 (λ e. no_digit 102 n bs lt refl (is ∙ ap (λ (x : ℕ). x ∷ bs) e)))
    ∙ cond-false (eqb b 45) _ _ (ne_eqb b 45 (λ e. no_digit 45 n bs lt refl (is ∙ ap (λ (x : ℕ). x ∷ bs) e)))
    ∙ ap (λ (x : ℕ). value.Int (pos x)) (ap number_in (sym is) ∙ number_back n lt)

pub value_back : (v : Value) → IsValue v → value_in (value_text v) ≡ v
value_back (value.Int (pos n)) fits = number_value n (decimal n) (omega (arith, fits)) refl
value_back (value.Int (negsuc n)) fits =
    let e : number_in (decimal (suc n)) ≡ suc n = number_back (suc n) (omega (arith, fits)) in
    let less : number_in (decimal (suc n)) - 1 ≡ n = omega (arith, e) in
    ap (λ (x : ℕ). value.Int (negsuc x)) less
value_back (value.Bool true) fits = refl
value_back (value.Bool false) fits = refl
value_back (value.Text bytes) fits = ap value.Text (unquoted_back bytes)

-- ---- what replies list

abbrev prop_in : List ℕ → PropLine
prop_in w = record { name = front 61 w; value = value_in (back 61 w) }

prop_back : (p : PropLine) → IsPropLine p → prop_in (prop_text p) ≡ p
prop_back p fits =
    let one : front 61 (prop_text p) ≡ p.name = front_at 61 p.name (value_text p.value) (name_lacks p.name fits.name) in
    let two : value_in (back 61 (prop_text p)) ≡ p.value = ap value_in (back_at 61 p.name (value_text p.value) (name_lacks p.name fits.name)) ∙ value_back p.value fits.value in
    let P : List ℕ → PropLine = λ x. record { name = x; value = value_in (back 61 (prop_text p)) } in
    let Q : Value → PropLine = λ x. record { name = p.name; value = x } in
    ap P one ∙ ap Q two

abbrev pair_in : List ℕ → Pair
pair_in w = record { id = number_in (front 58 w); number = number_in (back 58 w) }

pair_back : (p : Pair) → IsPair p → pair_in (pair_text p) ≡ p
pair_back p fits =
    let none = number_lacks 58 p.id (inr (omega arith)) fits.id in
    let one : number_in (front 58 (pair_text p)) ≡ p.id = ap number_in (front_at 58 (decimal p.id) (decimal p.number) none) ∙ number_back p.id fits.id in
    let two : number_in (back 58 (pair_text p)) ≡ p.number = ap number_in (back_at 58 (decimal p.id) (decimal p.number) none) ∙ number_back p.number fits.number in
    let P : ℕ → Pair = λ x. record { id = x; number = number_in (back 58 (pair_text p)) } in
    let Q : ℕ → Pair = λ x. record { id = p.id; number = x } in
    ap P one ∙ ap Q two

abbrev edge_in : List ℕ → EdgeLine
edge_in w =
    let way = front 58 w in
    let source = back 58 w in
    let ordinal = back 58 source in
    record {
      inward = bytes_eq way (codes "in");
      undirected = bytes_eq way (codes "und");
      source = number_in (front 58 source);
      ordinal = number_in (front 58 ordinal);
      target = number_in (back 58 ordinal);
    }

pub way_lacks : (undirected inward : Bool) → HasNo 58 (way_text undirected inward)
way_lacks true inward = (omega arith, (omega arith, (omega arith, tt)))
way_lacks false true = (omega arith, (omega arith, tt))
way_lacks false false = (omega arith, (omega arith, (omega arith, tt)))

way_inward : (undirected inward : Bool) → (undirected ≡ true → inward ≡ false) → bytes_eq (way_text undirected inward) (codes "in") ≡ inward
way_inward true inward fits = sym (fits refl)
way_inward false true fits = refl
way_inward false false fits = refl

way_undirected : (undirected inward : Bool) → bytes_eq (way_text undirected inward) (codes "und") ≡ undirected
way_undirected true inward = refl
way_undirected false true = refl
way_undirected false false = refl

-- the text of an edge's item, from the left
pub edge_parts : (e : EdgeLine) → edge_text e ≡ way_text e.undirected e.inward ++ 58 ∷ (decimal e.source ++ 58 ∷ (decimal e.ordinal ++ 58 ∷ decimal e.target))
edge_parts e =
    ap (λ (x : List ℕ). x ++ 58 ∷ decimal e.target) (append_assoc (way_text e.undirected e.inward) (58 ∷ decimal e.source) (58 ∷ decimal e.ordinal))
    ∙ append_assoc (way_text e.undirected e.inward) (58 ∷ (decimal e.source ++ 58 ∷ decimal e.ordinal)) (58 ∷ decimal e.target)
    ∙ ap (λ (x : List ℕ). way_text e.undirected e.inward ++ 58 ∷ x) (append_assoc (decimal e.source) (58 ∷ decimal e.ordinal) (58 ∷ decimal e.target))

edge_back : (e : EdgeLine) → IsEdgeLine e → edge_in (edge_text e) ≡ e
edge_back e fits =
    let way = way_text e.undirected e.inward in
    let last : List ℕ = decimal e.ordinal ++ 58 ∷ decimal e.target in
    let rest : List ℕ = decimal e.source ++ 58 ∷ last in
    let first : front 58 (edge_text e) ≡ way = ap (front 58) (edge_parts e) ∙ front_at 58 way rest (way_lacks e.undirected e.inward) in
    let behind : back 58 (edge_text e) ≡ rest = ap (back 58) (edge_parts e) ∙ back_at 58 way rest (way_lacks e.undirected e.inward) in
    let more : back 58 (back 58 (edge_text e)) ≡ last = ap (back 58) behind ∙ back_at 58 (decimal e.source) last (number_lacks 58 e.source (inr (omega arith)) fits.source) in
    let inward_is : bytes_eq (front 58 (edge_text e)) (codes "in") ≡ e.inward = ap (λ (x : List ℕ). bytes_eq x (codes "in")) first ∙ way_inward e.undirected e.inward fits.inward in
    let undirected_is : bytes_eq (front 58 (edge_text e)) (codes "und") ≡ e.undirected = ap (λ (x : List ℕ). bytes_eq x (codes "und")) first ∙ way_undirected e.undirected e.inward in
    let source_is : number_in (front 58 (back 58 (edge_text e))) ≡ e.source =
    ap (λ (x : List ℕ). number_in (front 58 x)) behind ∙ ap number_in (front_at 58 (decimal e.source) last (number_lacks 58 e.source (inr (omega arith)) fits.source)) ∙ number_back e.source fits.source in
    let ordinal_is : number_in (front 58 (back 58 (back 58 (edge_text e)))) ≡ e.ordinal =
    ap (λ (x : List ℕ). number_in (front 58 x)) more ∙ ap number_in (front_at 58 (decimal e.ordinal) (decimal e.target) (number_lacks 58 e.ordinal (inr (omega arith)) fits.ordinal)) ∙ number_back e.ordinal fits.ordinal in
    let target_is : number_in (back 58 (back 58 (back 58 (edge_text e)))) ≡ e.target =
    ap (λ (x : List ℕ). number_in (back 58 x)) more ∙ ap number_in (back_at 58 (decimal e.ordinal) (decimal e.target) (number_lacks 58 e.ordinal (inr (omega arith)) fits.ordinal)) ∙ number_back e.target fits.target in
    same_line _ _ _ _ _ e inward_is undirected_is source_is ordinal_is target_is
  where
    same_line : (i u : Bool) (s o t : ℕ) (line : EdgeLine) → i ≡ line.inward → u ≡ line.undirected → s ≡ line.source → o ≡ line.ordinal → t ≡ line.target → record { inward = i; undirected = u; source = s; ordinal = o; target = t } ≡ line
    same_line i u s o t line a b c d f =
        ap (λ (x : Bool). let e : EdgeLine = record { inward = x; undirected = u; source = s; ordinal = o; target = t } in e) a
        ∙ ap (λ (x : Bool). let e : EdgeLine = record { inward = line.inward; undirected = x; source = s; ordinal = o; target = t } in e) b
        ∙ ap (λ (x : ℕ). let e : EdgeLine = record { inward = line.inward; undirected = line.undirected; source = x; ordinal = o; target = t } in e) c
        ∙ ap (λ (x : ℕ). let e : EdgeLine = record { inward = line.inward; undirected = line.undirected; source = line.source; ordinal = x; target = t } in e) d
        ∙ ap (λ (x : ℕ). let e : EdgeLine = record { inward = line.inward; undirected = line.undirected; source = line.source; ordinal = line.ordinal; target = x } in e) f

pub map_back : {A : Type 0} (f : A → List ℕ) (g : List ℕ → A) (P : A → Type 0) → ((x : A) → P x → g (f x) ≡ x) → (xs : List A) → AllByRecursion P xs → map g (map f xs) ≡ xs
map_back f g P to [] all = refl
map_back f g P to (x ∷ xs) all = let one : g (f x) ≡ x = to x all.0 in let rest : map g (map f xs) ≡ xs = map_back f g P to xs all.1 in cc

-- ---- replies

abbrev first_of : List (List ℕ) → List ℕ
first_of [] = []
first_of (x ∷ xs) = x

abbrev second_of : List (List ℕ) → List ℕ
second_of [] = []
second_of (x ∷ xs) = first_of xs

-- the word of a reply
abbrev pub kind_of : Reply → ReplyWord
kind_of reply.Done = word.Done
kind_of reply.Yes = word.Yes
kind_of reply.No = word.No
kind_of reply.Exists = word.Exists
kind_of (reply.NoVertex id) = word.NoVertex
kind_of reply.NoEdge = word.NoEdge
kind_of reply.NoLabel = word.NoLabel
kind_of reply.NoType = word.NoType
kind_of reply.NoProp = word.NoProp
kind_of reply.WrongKind = word.WrongKind
kind_of reply.NotMany = word.NotMany
kind_of reply.HasLabel = word.HasLabel
kind_of reply.LacksLabel = word.LacksLabel
kind_of reply.TooLarge = word.TooLarge
kind_of (reply.EdgeIs source ordinal) = word.EdgeIs
kind_of (reply.Labels names) = word.Labels
kind_of (reply.Props props) = word.Props
kind_of (reply.Value v) = word.Value
kind_of (reply.Values vs) = word.Values
kind_of (reply.Edges lines) = word.Edges
kind_of (reply.Ids ids) = word.Ids
kind_of (reply.Levels pairs) = word.Levels
kind_of (reply.Parts pairs) = word.Parts
kind_of (reply.Count n) = word.Count

-- the reply of a word with these items
abbrev pub reply_by : ReplyWord → List (List ℕ) → Reply
reply_by word.Done items = reply.Done
reply_by word.Yes items = reply.Yes
reply_by word.No items = reply.No
reply_by word.Exists items = reply.Exists
reply_by word.NoVertex items = reply.NoVertex (number_in (first_of items))
reply_by word.NoEdge items = reply.NoEdge
reply_by word.NoLabel items = reply.NoLabel
reply_by word.NoType items = reply.NoType
reply_by word.NoProp items = reply.NoProp
reply_by word.WrongKind items = reply.WrongKind
reply_by word.NotMany items = reply.NotMany
reply_by word.HasLabel items = reply.HasLabel
reply_by word.LacksLabel items = reply.LacksLabel
reply_by word.TooLarge items = reply.TooLarge
reply_by word.EdgeIs items = reply.EdgeIs (number_in (first_of items)) (number_in (second_of items))
reply_by word.Labels items = reply.Labels items
reply_by word.Props items = reply.Props (map prop_in items)
reply_by word.Value items = reply.Value (value_in (first_of items))
reply_by word.Values items = reply.Values (map value_in items)
reply_by word.Edges items = reply.Edges (map edge_in items)
reply_by word.Ids items = reply.Ids (map number_in items)
reply_by word.Levels items = reply.Levels (map pair_in items)
reply_by word.Parts items = reply.Parts (map pair_in items)
reply_by word.Count items = reply.Count (number_in (first_of items))

pub reply_back : (r : Reply) → IsReply r → reply_by (kind_of r) (reply_items r) ≡ r
reply_back reply.Done fits = refl
reply_back reply.Yes fits = refl
reply_back reply.No fits = refl
reply_back reply.Exists fits = refl
reply_back (reply.NoVertex id) fits = ap reply.NoVertex (number_back id fits)
reply_back reply.NoEdge fits = refl
reply_back reply.NoLabel fits = refl
reply_back reply.NoType fits = refl
reply_back reply.NoProp fits = refl
reply_back reply.WrongKind fits = refl
reply_back reply.NotMany fits = refl
reply_back reply.HasLabel fits = refl
reply_back reply.LacksLabel fits = refl
reply_back reply.TooLarge fits = refl
reply_back (reply.EdgeIs source ordinal) fits =
    let s : number_in (decimal source) ≡ source = number_back source fits.0 in
    let o : number_in (decimal ordinal) ≡ ordinal = number_back ordinal fits.1 in
    ap (λ (x : ℕ). reply.EdgeIs x (number_in (decimal ordinal))) s ∙ ap (reply.EdgeIs source) o
reply_back (reply.Labels names) fits = refl
reply_back (reply.Props props) fits = ap reply.Props (map_back prop_text prop_in IsPropLine prop_back props fits)
reply_back (reply.Value v) fits = ap reply.Value (value_back v fits)
reply_back (reply.Values vs) fits = ap reply.Values (map_back value_text value_in IsValue value_back vs fits)
reply_back (reply.Edges lines) fits = ap reply.Edges (map_back edge_text edge_in IsEdgeLine edge_back lines fits)
reply_back (reply.Ids ids) fits = ap reply.Ids (map_back decimal number_in IsNumber number_back ids fits)
reply_back (reply.Levels pairs) fits = ap reply.Levels (map_back pair_text pair_in IsPair pair_back pairs fits)
reply_back (reply.Parts pairs) fits = ap reply.Parts (map_back pair_text pair_in IsPair pair_back pairs fits)
reply_back (reply.Count n) fits = ap reply.Count (number_back n fits)

-- the word that a text is
abbrev word_in : List ℕ → ReplyWord
word_in w =
    cond (bytes_eq w (codes "done")) word.Done (cond (bytes_eq w (codes "yes")) word.Yes (cond (bytes_eq w (codes "no")) word.No
    (cond (bytes_eq w (codes "exists")) word.Exists (cond (bytes_eq w (codes "novertex")) word.NoVertex (cond (bytes_eq w (codes "noedge")) word.NoEdge
    (cond (bytes_eq w (codes "nolabel")) word.NoLabel (cond (bytes_eq w (codes "notype")) word.NoType (cond (bytes_eq w (codes "noprop")) word.NoProp
    (cond (bytes_eq w (codes "wrongkind")) word.WrongKind (cond (bytes_eq w (codes "notmany")) word.NotMany (cond (bytes_eq w (codes "haslabel")) word.HasLabel
    (cond (bytes_eq w (codes "lackslabel")) word.LacksLabel (cond (bytes_eq w (codes "toolarge")) word.TooLarge (cond (bytes_eq w (codes "edge")) word.EdgeIs
    (cond (bytes_eq w (codes "labels")) word.Labels (cond (bytes_eq w (codes "props")) word.Props (cond (bytes_eq w (codes "value")) word.Value
    (cond (bytes_eq w (codes "values")) word.Values (cond (bytes_eq w (codes "edges")) word.Edges (cond (bytes_eq w (codes "ids")) word.Ids
    (cond (bytes_eq w (codes "levels")) word.Levels (cond (bytes_eq w (codes "parts")) word.Parts word.Count))))))))))))))))))))))

word_back : (w : ReplyWord) → word_in (text_of_word w) ≡ w
word_back word.Done = refl
word_back word.Yes = refl
word_back word.No = refl
word_back word.Exists = refl
word_back word.NoVertex = refl
word_back word.NoEdge = refl
word_back word.NoLabel = refl
word_back word.NoType = refl
word_back word.NoProp = refl
word_back word.WrongKind = refl
word_back word.NotMany = refl
word_back word.HasLabel = refl
word_back word.LacksLabel = refl
word_back word.TooLarge = refl
word_back word.EdgeIs = refl
word_back word.Labels = refl
word_back word.Props = refl
word_back word.Value = refl
word_back word.Values = refl
word_back word.Edges = refl
word_back word.Ids = refl
word_back word.Levels = refl
word_back word.Parts = refl
word_back word.Count = refl

pub word_of_kind : (r : Reply) → reply_word r ≡ text_of_word (kind_of r)
word_of_kind reply.Done = refl
word_of_kind reply.Yes = refl
word_of_kind reply.No = refl
word_of_kind reply.Exists = refl
word_of_kind (reply.NoVertex id) = refl
word_of_kind reply.NoEdge = refl
word_of_kind reply.NoLabel = refl
word_of_kind reply.NoType = refl
word_of_kind reply.NoProp = refl
word_of_kind reply.WrongKind = refl
word_of_kind reply.NotMany = refl
word_of_kind reply.HasLabel = refl
word_of_kind reply.LacksLabel = refl
word_of_kind reply.TooLarge = refl
word_of_kind (reply.EdgeIs source ordinal) = refl
word_of_kind (reply.Labels names) = refl
word_of_kind (reply.Props props) = refl
word_of_kind (reply.Value v) = refl
word_of_kind (reply.Values vs) = refl
word_of_kind (reply.Edges lines) = refl
word_of_kind (reply.Ids ids) = refl
word_of_kind (reply.Levels pairs) = refl
word_of_kind (reply.Parts pairs) = refl
word_of_kind (reply.Count n) = refl

pub same_kind : (w : ReplyWord) (r : Reply) → text_of_word w ≡ reply_word r → kind_of r ≡ w
same_kind w r same = sym (word_back (kind_of r)) ∙ ap word_in (sym (word_of_kind r) ∙ sym same) ∙ word_back w

-- a word and items spell the reply that goes back from them
pub spelled_back : (w : ReplyWord) (items : List (List ℕ)) (r : Reply) → IsReplyOf (text_of_word w) items r → reply_by w items ≡ r
spelled_back w items r is =
    ap (λ (k : ReplyWord). reply_by k items) (sym (same_kind w r is.word_is)) ∙ ap (reply_by (kind_of r)) is.items_are ∙ reply_back r is.fits

-- so none is spelled where that one isn't
pub none_spelled : (w : ReplyWord) (items : List (List ℕ)) → (IsReply (reply_by w items) → items ≡ reply_items (reply_by w items) → ⊥) → (r : Reply) → ¬ IsReplyOf (text_of_word w) items r
none_spelled w items none r is =
    let same = spelled_back w items r is in
    none (subst IsReply (sym same) is.fits) (is.items_are ∙ ap reply_items (sym same))

-- a word that is no reply's spells none
pub no_word : (w : List ℕ) (items : List (List ℕ)) → ((k : ReplyWord) → w ≢ text_of_word k) → (r : Reply) → ¬ IsReplyOf w items r
no_word w items none r is = none (kind_of r) (is.word_is ∙ word_of_kind r)

-- the words of replies and their items are those of no other
pub reply_same : (r s : Reply) → IsReply r → IsReply s → reply_word r ≡ reply_word s → reply_items r ≡ reply_items s → r ≡ s
reply_same r s a b words items =
    let is : IsReplyOf (text_of_word (kind_of r)) (reply_items r) s = record { fits = b; word_is = sym (word_of_kind r) ∙ words; items_are = items } in
    sym (reply_back r a) ∙ spelled_back (kind_of r) (reply_items r) s is
