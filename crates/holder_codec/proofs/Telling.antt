-- Words that begin with a spelling tell what is spelled there: for lists, for heavy edges, and for the names.
use Rattle.std.proofs.Common.{◌≡◌, ℕ, ◌+◌, ◌*◌, ◌<◌, ◌≤◌, Bool, true, false, eqb, leb, ◌&&◌, List, [], ◌∷◌, ◌++◌, map, length, Option, Some, refl, sym, ap, ◌∙◌, append_assoc, arith, ◌⊎◌, inl, inr}
use Rattle.std.specs.Int.{from_bool}
use Rattle.std.specs.List.{flat_map, list_all, AllByRecursion}
use Rattle.std.proofs.lemmas.Bool.{and_parts, cases_Bool, eqb-true, cond-true, cond-false}
use Rattle.std.proofs.lemmas.Bool.Decides.{nat_tests}
use Rattle.std.proofs.lemmas.List.{append-nil, length-append, nil_from_length}
use Rattle.std.proofs.lemmas.List.Concat.{flat_map-cons}
use Rattle.gdi_kinds.specs.declared.value.Kind.{Kind}
use Rattle.gdi_kinds.specs.Names.{begins_name, continues_name, IsName}
use Rattle.graph_model.specs.Graph.{Name, PropType, Edge, EdgeKey}
use Rattle.graph_model.specs.WellFormed.{AreNames}
use Rattle.holder_codec.specs.Texts.{byte_words}
use Rattle.holder_codec.specs.Values.{PropFits, kind_code, prop_words}
use Rattle.holder_codec.specs.Vertex.{LabelFits, label_words}
use Rattle.holder_codec.specs.Reading.{bytes_at, kind_of_code, prop_at, label_at}
use Rattle.holder_codec.specs.Holders.{held_props, edge_words, name_words, type_words, names_words}
use Rattle.holder_codec.proofs.ReadLaws.{some_is, Reads}
use Rattle.holder_codec.proofs.TextLaws.{IsBytes, bytes_again}
use Rattle.holder_codec.proofs.ValueLaws.{AreBytes, AreBytes-at, code_below, kind_of_code_again, props}
use Rattle.holder_codec.proofs.VertexLaws.{labels}
use Rattle.holder_codec.proofs.Grouped.{AreGrouped, props_same}

-- what is spelled in front of the same words is the same, and so is what follows
pub record Tells {X : Type 0} (spelling : X → List ℕ) (Fits : X → Type 0) : Type 0 where
  pub same : (x y : X) (rest more : List ℕ) → Fits x → Fits y → spelling x ++ rest ≡ spelling y ++ more → (x ≡ y) × (rest ≡ more)

-- what is read after it was spelled is told
pub told_by_reading : {X : Type 0} (one_at : List ℕ → Option (X × List ℕ)) (spelling : X → List ℕ) (Fits : X → Type 0) → Reads one_at spelling Fits → Tells spelling Fits
told_by_reading {X} one_at spelling Fits reads =
    record {
      same = λ x y rest more f g e.
          let one : X × List ℕ = (x, rest) in
          let other : X × List ℕ = (y, more) in
          let both : one ≡ other = some_is one other (sym (reads.again x rest f) ∙ ap one_at e ∙ reads.again y more g) in
          (ap (λ (p : X × List ℕ). p.0) both, ap (λ (p : X × List ℕ). p.1) both);
    }

pub many_told : {X : Type 0} (spelling : X → List ℕ) (Fits : X → Type 0) → Tells spelling Fits → (xs ys : List X) (rest more : List ℕ) → AllByRecursion Fits xs → AllByRecursion Fits ys
    → length xs ≡ length ys → flat_map spelling xs ++ rest ≡ flat_map spelling ys ++ more → (xs ≡ ys) × (rest ≡ more)
many_told spelling Fits tells [] [] rest more f g count e = (refl, e)
many_told spelling Fits tells [] (y ∷ ys) rest more f g count e = absurd (omega arith)
many_told spelling Fits tells (x ∷ xs) [] rest more f g count e = absurd (omega arith)
many_told spelling Fits tells (x ∷ xs) (y ∷ ys) rest more f g count e =
    let regrouped = λ (z : _) (zs : List _) (end : List ℕ). ap (λ words. words ++ end) (flat_map-cons spelling z zs) ∙ append_assoc (spelling z) (flat_map spelling zs) end in
    let first = tells.same x y (flat_map spelling xs ++ rest) (flat_map spelling ys ++ more) f.0 g.0 (sym (regrouped x xs rest) ∙ e ∙ regrouped y ys more) in
    let others = many_told spelling Fits tells xs ys rest more f.1 g.1 (omega arith) first.1 in
    (λ i. first.0 i ∷ others.0 i, others.1)

-- two lists with nothing behind them
pub all_told : {X : Type 0} (spelling : X → List ℕ) (Fits : X → Type 0) → Tells spelling Fits → (xs ys : List X) → AllByRecursion Fits xs → AllByRecursion Fits ys
    → length xs ≡ length ys → flat_map spelling xs ≡ flat_map spelling ys → xs ≡ ys
all_told spelling Fits tells xs ys f g count e =
    (many_told spelling Fits tells xs ys [] [] f g count (append-nil (flat_map spelling xs) ∙ e ∙ sym (append-nil (flat_map spelling ys)))).0

-- ---- heavy edges

abbrev pub AreSpelled : List PropType → Edge → Type 0
AreSpelled types edge = AllByRecursion LabelFits edge.labels × AllByRecursion PropFits (held_props types edge.props) × AreGrouped edge.props

-- five words in front of others
five_heads : (a b c d n a' b' c' d' n' : ℕ) (rest more : List ℕ) → a ∷ b ∷ c ∷ d ∷ n ∷ rest ≡ a' ∷ b' ∷ c' ∷ d' ∷ n' ∷ more → (c ≡ c') × (d ≡ d') × (n ≡ n') × (rest ≡ more)
five_heads a b c d n a' b' c' d' n' rest more e = (cc, cc, cc, cc)

-- all but whether it is undirected, which its records tell
pub record IsToldEdge (one other : Edge) : Type 0 where
  pub target : one.target ≡ other.target
  pub labels : one.labels ≡ other.labels
  pub props : one.props ≡ other.props

pub edge_told : (types : List PropType) (key key' : EdgeKey) (edge edge' : Edge) → AreSpelled types edge → AreSpelled types edge'
    → edge_words types key edge ≡ edge_words types key' edge' → IsToldEdge edge edge'
edge_told types key key' edge edge' fits fits' e =
    let ps = held_props types edge.props in
    let ps' = held_props types edge'.props in
    let heads = five_heads key.source key.ordinal edge.target (length edge.labels) (length ps) key'.source key'.ordinal edge'.target (length edge'.labels) (length ps') _ _ e in
    let l = many_told label_words LabelFits (told_by_reading label_at label_words LabelFits labels) edge.labels edge'.labels _ _ fits.0 fits'.0 heads.1 heads.3 in
    let p = all_told prop_words PropFits (told_by_reading prop_at prop_words PropFits props) ps ps' fits.1 fits'.1 heads.2 l.1 in
    record { target = heads.0; labels = l.0; props = props_same types edge.props edge'.props fits.2 fits'.2 p }

-- ---- names

is_byte : (b : ℕ) → continues_name b ≡ true → b < 256
is_byte b continues = grind (arith, nat_tests)

begins_byte : (b : ℕ) → begins_name b ≡ true → b < 256
begins_byte b begins = grind (arith, nat_tests)

AreBytes-continued : (bs : List ℕ) → list_all continues_name bs ≡ true → AreBytes bs
AreBytes-continued [] all = tt
AreBytes-continued (b ∷ bs) all =
    let parts = and_parts (continues_name b) (list_all continues_name bs) all in
    (is_byte b parts.0, AreBytes-continued bs parts.1)

pub IsBytes-name : (name : Name) → IsName name → IsBytes name
IsBytes-name [] is = absurd cc
IsBytes-name (b ∷ bs) is =
    let parts = and_parts (begins_name b && list_all continues_name bs) (leb (length bs) 62) is in
    let bytes = and_parts (begins_name b) (list_all continues_name bs) parts.0 in
    AreBytes-at (b ∷ bs) (begins_byte b bytes.0, AreBytes-continued bs bytes.1)

-- a word in front of others
one_head : (a a' : ℕ) (rest more : List ℕ) → a ∷ rest ≡ a' ∷ more → (a ≡ a') × (rest ≡ more)
one_head a a' rest more e = (cc, cc)

pub name_told : Tells name_words IsName
name_told =
    record {
      same = λ x y rest more f g e.
          let head = one_head (length x) (length y) (byte_words x ++ rest) (byte_words y ++ more) e in
          let one : List ℕ × List ℕ = (x, rest) in
          let other : List ℕ × List ℕ = (y, more) in
          let read : bytes_at (length x) (byte_words x ++ rest) ≡ Some other = ap (bytes_at (length x)) head.1 ∙ ap (λ n. bytes_at n (byte_words y ++ more)) head.0 ∙ bytes_again y more (IsBytes-name y g) in
          let both : one ≡ other = some_is one other (sym (bytes_again x rest (IsBytes-name x f)) ∙ read) in
          (ap (λ (p : List ℕ × List ℕ). p.0) both, ap (λ (p : List ℕ × List ℕ). p.1) both);
    }

abbrev pub IsNamed : PropType → Type 0
IsNamed type = IsName type.name

kind_told : (k l : Kind) → kind_code k ≡ kind_code l → k ≡ l
kind_told k l e = some_is k l (sym (kind_of_code_again k) ∙ ap kind_of_code e ∙ kind_of_code_again l)

-- the code of a kind leaves room for the mark
mark_told : (k l : Kind) (a b : Bool) → kind_code k + 4 * from_bool a ≡ kind_code l + 4 * from_bool b → (kind_code k ≡ kind_code l) × (a ≡ b)
mark_told k l true true e = (omega arith, refl)
mark_told k l true false e = absurd (omega (arith, code_below k, code_below l))
mark_told k l false true e = absurd (omega (arith, code_below k, code_below l))
mark_told k l false false e = (omega arith, refl)

pub type_told : Tells type_words IsNamed
type_told =
    record {
      same = λ x y rest more f g e.
          let head = one_head (kind_code x.kind + 4 * from_bool x.many) (kind_code y.kind + 4 * from_bool y.many) (name_words x.name ++ rest) (name_words y.name ++ more) e in
          let name = name_told.same x.name y.name rest more f g head.1 in
          let parts = mark_told x.kind y.kind x.many y.many head.0 in
          let kind = kind_told x.kind y.kind parts.0 in
          (λ i. record { name = name.0 i; kind = kind i; many = parts.1 i }, name.1);
    }

pub AreNames-each : (names : List Name) → AreNames names → AllByRecursion IsName names
AreNames-each [] are = tt
AreNames-each (name ∷ names) are = (are.0, AreNames-each names are.2)

pub AreNames-types : (types : List PropType) → AreNames (map (λ type. type.name) types) → AllByRecursion IsNamed types
AreNames-types [] are = tt
AreNames-types (type ∷ types) are = (are.0, AreNames-types types are.2)

abbrev counted_names : List Name → List PropType → List ℕ
counted_names labels types = length labels ∷ length types ∷ (flat_map name_words labels ++ flat_map type_words types)

-- there are no names, or they are counted in front
names_cases : (labels : List Name) (types : List PropType) → ((labels ≡ []) × (types ≡ []) × (names_words labels types ≡ [])) ⊎ (names_words labels types ≡ counted_names labels types)
names_cases labels types =
    let none = eqb (length labels) 0 && eqb (length types) 0 in
    elim (cases_Bool none) [
      | inl is ↦ let parts = and_parts (eqb (length labels) 0) (eqb (length types) 0) is in
          inl (nil_from_length labels (eqb-true _ _ parts.0), nil_from_length types (eqb-true _ _ parts.1), cond-true none [] (counted_names labels types) is)
      | inr is ↦ inr (cond-false none [] (counted_names labels types) is)
    ]

two_heads : (a b a' b' : ℕ) (rest more : List ℕ) → a ∷ b ∷ rest ≡ a' ∷ b' ∷ more → (a ≡ a') × (b ≡ b') × (rest ≡ more)
two_heads a b a' b' rest more e = (cc, cc, cc)

counted_told : (labels labels' : List Name) (types types' : List PropType) → AllByRecursion IsName labels → AllByRecursion IsName labels' → AllByRecursion IsNamed types → AllByRecursion IsNamed types'
    → counted_names labels types ≡ counted_names labels' types' → (labels ≡ labels') × (types ≡ types')
counted_told labels labels' types types' fl fl' ft ft' e =
    let heads = two_heads (length labels) (length types) (length labels') (length types') _ _ e in
    let first = many_told name_words IsName name_told labels labels' _ _ fl fl' heads.0 heads.2 in
    (first.0, all_told type_words IsNamed type_told types types' ft ft' heads.1 first.1)

pub names_told : (labels labels' : List Name) (types types' : List PropType) → AllByRecursion IsName labels → AllByRecursion IsName labels' → AllByRecursion IsNamed types → AllByRecursion IsNamed types'
    → names_words labels types ≡ names_words labels' types' → (labels ≡ labels') × (types ≡ types')
names_told labels labels' types types' fl fl' ft ft' e =
    elim (names_cases labels types) [
      | inl a ↦ elim (names_cases labels' types') [ inl b ↦ (a.0 ∙ sym b.0, a.1 ∙ sym b.1) | inr b ↦ absurd (cc (a.2, b, e)) ]
      | inr a ↦ elim (names_cases labels' types') [ inl b ↦ absurd (cc (a, b.2, e)) | inr b ↦ counted_told labels labels' types types' fl fl' ft ft' (sym a ∙ e ∙ b) ]
    ]

-- there are no more names than words
count_within : {X : Type 0} (spelling : X → List ℕ) → ((x : X) → 1 ≤ length (spelling x)) → (xs : List X) → length xs ≤ length (flat_map spelling xs)
count_within spelling some [] = omega arith
count_within spelling some (x ∷ xs) = omega (arith, ap length (flat_map-cons spelling x xs), length-append (spelling x) (flat_map spelling xs), some x, count_within spelling some xs)

pub names_within : (labels : List Name) (types : List PropType) → (length labels ≤ length (names_words labels types)) × (length types ≤ length (names_words labels types))
names_within labels types =
    let l = count_within name_words (λ _. omega arith) labels in
    let t = count_within type_words (λ _. omega arith) types in
    let both = length-append (flat_map name_words labels) (flat_map type_words types) in
    elim (names_cases labels types) [
      | inl none ↦ (omega (arith, ap length none.0), omega (arith, ap length none.1))
      | inr counted ↦ (omega (arith, ap length counted), omega (arith, ap length counted))
    ]
