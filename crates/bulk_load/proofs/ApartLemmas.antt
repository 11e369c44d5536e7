-- Names none of which stands twice, and labels that are read one after the other.
use Rattle.std.proofs.Common.{◌≡◌, ℕ, Bool, true, false, not, ◌&&◌, ◌||◌, List, [], ◌∷◌, ◌++◌, refl, sym, subst, ◌∙◌, ◌<◌, length, append_assoc, arith, inl, inr}
use Rattle.std.specs.List.{list_any, AllByRecursion}
use Rattle.std.specs.Str.{bytes_eq}
use Rattle.std.proofs.lemmas.Bool.{cases_Bool}
use Rattle.std.proofs.lemmas.List.{append-nil}
use Rattle.std.proofs.lemmas.List.Folds.{list_any-append}
use Rattle.std.proofs.lemmas.Slice.Eq.{bytes_eq-Decides}
use Rattle.graph_model.proofs.Entries.{All-push}
use Rattle.gdi_kinds.specs.Names.{IsName}
use Rattle.bulk_load.specs.Records.{Fields}
use Rattle.bulk_load.specs.Headers.{are_apart}
use Rattle.bulk_load.specs.Fields.{AreLabels, items_of, pieces_of}

pub both : (a b : Bool) → (a && b) ≡ true → (a ≡ true) × (b ≡ true)
both true b e = (refl, e)
both false b e = let e : false ≡ true = e in absurd (cc)

pub neither : (a b : Bool) → (a || b) ≡ false → (a ≡ false) × (b ≡ false)
neither false b e = (refl, e)
neither true b e = let e : true ≡ false = e in absurd (cc)

pub is_not : (a : Bool) → not a ≡ true → a ≡ false
is_not false e = refl
is_not true e = let e : false ≡ true = e in absurd (cc)

joined : (a b : Bool) → a ≡ true → b ≡ true → (a && b) ≡ true
joined a b x y = rw (x, y) refl

pub differ_back : (xs ys : List ℕ) → bytes_eq xs ys ≡ false → bytes_eq ys xs ≡ false
differ_back xs ys differ =
    elim (cases_Bool (bytes_eq ys xs)) [
      | inl same ↦ let back : bytes_eq xs ys ≡ true = (bytes_eq-Decides xs ys).1 (sym ((bytes_eq-Decides ys xs).0 same)) in absurd (cc)
      | inr other ↦ other
    ]

none_more : (p : List ℕ → Bool) (names : Fields) (name : List ℕ) → list_any p names ≡ false → p name ≡ false → list_any p (names ++ name ∷ []) ≡ false
none_more p names name none other = list_any-append p names (name ∷ []) ∙ rw (none, other) refl

-- a name that isn't among names may stand behind them
pub apart_more : (names : Fields) (name : List ℕ) → are_apart names ≡ true → list_any (bytes_eq name) names ≡ false → are_apart (names ++ name ∷ []) ≡ true
apart_more [] name apart none = refl
apart_more (first ∷ names) name apart none =
    let split = both (not (list_any (bytes_eq first) names)) (are_apart names) apart in
    let other = neither (bytes_eq name first) (list_any (bytes_eq name) names) none in
    let fresh : list_any (bytes_eq first) (names ++ name ∷ []) ≡ false = none_more (bytes_eq first) names name (is_not _ split.0) (differ_back name first other.0) in
    joined (not (list_any (bytes_eq first) (names ++ name ∷ []))) (are_apart (names ++ name ∷ [])) (rw fresh refl) (apart_more names name split.1 other.1)

among_here : (first : List ℕ) (names rest : Fields) (name : List ℕ) → list_any (bytes_eq first) (names ++ name ∷ rest) ≡ false → bytes_eq first name ≡ false
among_here first [] rest name none = (neither (bytes_eq first name) (list_any (bytes_eq first) rest) none).0
among_here first (other ∷ names) rest name none = among_here first names rest name (neither (bytes_eq first other) (list_any (bytes_eq first) (names ++ name ∷ rest)) none).1

-- in names that are apart none stands among those in front of it
pub apart_before : (names rest : Fields) (name : List ℕ) → are_apart (names ++ name ∷ rest) ≡ true → list_any (bytes_eq name) names ≡ false
apart_before [] rest name apart = refl
apart_before (first ∷ names) rest name apart =
    let split = both (not (list_any (bytes_eq first) (names ++ name ∷ rest))) (are_apart (names ++ name ∷ rest)) apart in
    let here : bytes_eq name first ≡ false = differ_back first name (among_here first names rest name (is_not _ split.0)) in
    let behind : list_any (bytes_eq name) names ≡ false = apart_before names rest name split.1 in
    rw (here, behind) refl

-- an item in the middle
pub in_middle : {X : Type 0} (P : X → Type 0) (xs rest : List X) (x : X) → AllByRecursion P (xs ++ x ∷ rest) → P x
in_middle P [] rest x all = all.0
in_middle P (y ∷ xs) rest x all = in_middle P xs rest x all.1

-- no labels stand in a field one of whose pieces is no name, or stands among those in front of it
pub no_name_no_labels : (field : List ℕ) (names rest : Fields) (piece : List ℕ) → items_of field ≡ names ++ piece ∷ rest → ¬ IsName piece → (labels : Fields) → ¬ AreLabels field labels
no_name_no_labels field names rest piece is none labels are =
    none (in_middle IsName names rest piece (subst (AllByRecursion IsName) (sym are.items ∙ is) are.names))

pub twice_no_labels : (field : List ℕ) (names rest : Fields) (piece : List ℕ) → items_of field ≡ names ++ piece ∷ rest → list_any (bytes_eq piece) names ≡ true → (labels : Fields) → ¬ AreLabels field labels
twice_no_labels field names rest piece is twice labels are =
    let apart : are_apart (names ++ piece ∷ rest) ≡ true = subst (λ (x : Fields). are_apart x ≡ true) (sym are.items ∙ is) are.apart in
    let other : list_any (bytes_eq piece) names ≡ false = apart_before names rest piece apart in
    absurd (cc)

-- the names of a field so far
pub record LabelsSoFar (field : List ℕ) (read left : Fields) : Type 0 where
  pub items : items_of field ≡ read ++ left
  pub names : AllByRecursion IsName read
  pub apart : are_apart read ≡ true

pub labels_start : (field : List ℕ) → 0 < length field → LabelsSoFar field [] (pieces_of field)
labels_start [] some = absurd (omega (arith, some))
labels_start (byte ∷ bytes) some = record { items = refl; names = tt; apart = refl }

pub labels_go_on : (field : List ℕ) (read left : Fields) (name : List ℕ) → LabelsSoFar field read (name ∷ left) → IsName name → list_any (bytes_eq name) read ≡ false → LabelsSoFar field (read ++ name ∷ []) left
labels_go_on field read left name far is fresh = record {
  items = far.items ∙ sym (append_assoc read (name ∷ []) left);
  names = All-push IsName read name far.names is;
  apart = apart_more read name far.apart fresh;
}

pub labels_end : (field : List ℕ) (read : Fields) → LabelsSoFar field read [] → AreLabels field read
labels_end field read far = record { items = far.items ∙ append-nil read; names = far.names; apart = far.apart }

pub no_field_no_labels : (field : List ℕ) → length field ≡ 0 → AreLabels field []
no_field_no_labels [] none = record { items = refl; names = tt; apart = refl }
no_field_no_labels (byte ∷ bytes) none = absurd (omega (arith, none))
