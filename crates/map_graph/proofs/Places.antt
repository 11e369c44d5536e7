-- The place of the first item that passes, and how many names there are at most.
use Rattle.std.proofs.Common.{◌≡◌, ℕ, zero, suc, ◌+◌, ◌<◌, ◌≤◌, Bool, true, false, not, cond, List, [], ◌∷◌, length, Some, None, if◌then◌else◌, nat_lt, refl, ap, subst, ◌∙◌, arith}
use Rattle.std.specs.Option.{option_map}
use Rattle.std.specs.List.{position, position_or_len, prefix_len, slice_get}
use Rattle.std.proofs.lemmas.Bool.{ltb-true}
use Rattle.std.proofs.lemmas.Bool.Decides.{nat_tests}
use Rattle.std.proofs.lemmas.List.Sums.{sum_by-cons}
use Rattle.graph_model.specs.Maps.{place_where, item_at}
use Rattle.graph_model.specs.Graph.{Name, PropType}
use Rattle.graph_model.specs.Sizes.{words_of_bytes}
use Rattle.graph_model.proofs.Entries.{same_value, nothing}
use Rattle.map_graph.specs.Plain.{words_of_labels, words_of_types}

module _ {X : Type 0} (p : X → Bool) where
  pub position-place_where : (xs : List X) → position p xs ≡ place_where p xs
  position-place_where [] = refl
  position-place_where (x ∷ xs) =
      let n = prefix_len (λ y. not (p y)) xs in
      elim (p x) as (λ b. cond (nat_lt (cond (not b) (1 + n) 0) (suc (length xs))) (Some (cond (not b) (1 + n) 0)) None ≡ (if b then Some 0 else option_map suc (place_where p xs))) [
        | true ↦ let first : nat_lt 0 (suc (length xs)) ≡ true = grind (arith, nat_tests) in ap (λ b. cond b (Some 0) None) first
        | false ↦
            let same : nat_lt (1 + n) (suc (length xs)) ≡ nat_lt n (length xs) = grind (arith, nat_tests) in
            ap (λ b. cond b (Some (1 + n)) None) same
            ∙ elim (nat_lt n (length xs)) as (λ b. cond b (Some (1 + n)) None ≡ option_map suc (cond b (Some n) None)) [ true ↦ ap Some (omega arith) | false ↦ refl ]
            ∙ ap (option_map suc) (position-place_where xs)
      ]

  passed : (test : Bool) (m n len : ℕ) → nat_lt m len ≡ test → cond test (Some m) None ≡ Some n → n < len
  passed true m n len is some = subst (λ k. k < len) (same_value m n some) (ltb-true m len is)
  passed false m n len is some = nothing n some

  pub position-below : (xs : List X) (n : ℕ) → position p xs ≡ Some n → n < length xs
  position-below xs n is = passed (nat_lt (position_or_len p xs) (length xs)) (position_or_len p xs) n (length xs) refl is

pub slice_get-item_at : {X : Type 0} (xs : List X) (n : ℕ) → slice_get xs n ≡ item_at xs n
slice_get-item_at [] n = refl
slice_get-item_at (x ∷ xs) zero = refl
slice_get-item_at (x ∷ xs) (suc n) = slice_get-item_at xs n

pub labels-few : (labels : List Name) → length labels ≤ words_of_labels labels
labels-few [] = omega arith
labels-few (name ∷ names) = omega (arith, sum_by-cons (λ (n : Name). 1 + words_of_bytes (length n)) name names, labels-few names)

pub types-few : (types : List PropType) → length types ≤ words_of_types types
types-few [] = omega arith
types-few (type ∷ types) = omega (arith, sum_by-cons (λ (t : PropType). 2 + words_of_bytes (length t.name)) type types, types-few types)
