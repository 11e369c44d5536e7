-- Sets of numbers as rising lists, and what `add` and a filter do.
use Rattle.std.proofs.Common.{◌≡◌, ℕ, ◌+◌, ◌<◌, ◌≤◌, Bool, List, [], ◌∷◌, length, refl, arith, eqb}
use Rattle.std.specs.List.{AllByRecursion, filter}
use Rattle.std.specs.Ordering.{nat_cmp, is_eq}
use Rattle.std.specs.declared.cmp.Ordering.{Ordering}
use Rattle.std.specs.declared.cmp.Ordering.TheVariants.{Less, Equal, Greater}
use Rattle.std.specs.FinMap.Entries.{by_order}
use Rattle.std.proofs.lemmas.Bool.Decides.{nat_tests}
use Rattle.std.proofs.lemmas.List.Sums.{length-filter, count_by-le-length}
use Rattle.graph_model.specs.Maps.{IsSet, add}

pub is_eq-nat_cmp : (a b : ℕ) → is_eq (nat_cmp a b) ≡ eqb b a
is_eq-nat_cmp a b = grind (arith, nat_tests)

AllByRecursion-map : (P Q : ℕ → Type 0) → ((n : ℕ) → P n → Q n) → (ns : List ℕ) → AllByRecursion P ns → AllByRecursion Q ns
AllByRecursion-map P Q f [] all = tt
AllByRecursion-map P Q f (n ∷ ns) all = (f n all.0, AllByRecursion-map P Q f ns all.1)

pub AllByRecursion-add : (P : ℕ → Type 0) (n : ℕ) (ns : List ℕ) → P n → AllByRecursion P ns → AllByRecursion P (add n ns)
AllByRecursion-add P n [] here all = (here, tt)
AllByRecursion-add P n (m ∷ ms) here all =
    elim (nat_cmp n m) as (λ order. AllByRecursion P (by_order order (n ∷ m ∷ ms) (m ∷ ms) (m ∷ add n ms))) [
      | Less ↦ (here, all)
      | Equal ↦ all
      | Greater ↦ (all.0, AllByRecursion-add P n ms here all.1)
    ]

IsSet-add_by : (n m : ℕ) (ms : List ℕ) (order : Ordering) → nat_cmp n m ≡ order → IsSet (m ∷ ms) → IsSet (add n ms) → IsSet (by_order order (n ∷ m ∷ ms) (m ∷ ms) (m ∷ add n ms))
IsSet-add_by n m ms Less is set later =
    let below : n < m = grind (arith, nat_tests) in
    ((below, AllByRecursion-map (λ k. m < k) (λ k. n < k) (λ k above. omega arith) ms set.0), set)
IsSet-add_by n m ms Equal is set later = set
IsSet-add_by n m ms Greater is set later =
    let above : m < n = grind (arith, nat_tests) in
    (AllByRecursion-add (λ k. m < k) n ms above set.0, later)

pub IsSet-add : (n : ℕ) (ns : List ℕ) → IsSet ns → IsSet (add n ns)
IsSet-add n [] set = (tt, tt)
IsSet-add n (m ∷ ms) set = IsSet-add_by n m ms (nat_cmp n m) refl set (IsSet-add n ms set.1)

pub length-add-le : (n : ℕ) (ns : List ℕ) → length (add n ns) ≤ length ns + 1
length-add-le n [] = omega arith
length-add-le n (m ∷ ms) = grind (arith, nat_tests, length-add-le n ms)

pub length-filter-le : {X : Type 0} (p : X → Bool) (xs : List X) → length (filter p xs) ≤ length xs
length-filter-le p xs = omega (arith, length-filter p xs, count_by-le-length p xs)
