-- The part on rights: which steps keep it, how many rights there are, and that a view that is alone
-- is the only live one.
use Rattle.std.proofs.Common.{◌≡◌, ◌≢◌, ℕ, zero, suc, ◌<◌, ◌≤◌, cond, eqb, List, [], ◌∷◌, map, length, refl, sym, ap, ◌∙◌, subst, inl, inr, arith}
use Rattle.std.specs.List.{sum_by}
use Rattle.std.proofs.lemmas.List.Sums.{sum_by-cons}
use Rattle.std.proofs.lemmas.Bool.{cases_eq}
use Rattle.std.proofs.lemmas.Bool.Decides.{nat_tests}
use mathlib.Core.Option.{some}
use lib.ListN.{get_elem?}
use Rattle.atomic_table.proofs.Lists.{at_map}
use Rattle.rma_layout.specs.Shape.{Shape}
use Rattle.window_rule.specs.View.{View}
use Rattle.window_rule.specs.RightsHold.{Stake, stake_of, right_count, AreRanks, RightsHold, IsAlone}
use Rattle.window_rule.specs.RoomHolds.{sum_below}
use Rattle.window_rule.proofs.Sums.{two_in_sum, sum_below-zero, sum_below-ones, sum_below-add}

abbrev one_at : ℕ → ℕ → ℕ
one_at right rank = cond (eqb right rank) 1 0

-- one right is counted at one rank
sum_below-one_at_past : (n right : ℕ) → n ≤ right → sum_below n (one_at right) ≡ 0
sum_below-one_at_past zero right h = refl
sum_below-one_at_past (suc n) right h =
    let rest = sum_below-one_at_past n right (omega arith) in
    let here : one_at right n ≡ 0 = grind (arith, nat_tests) in
    omega arith

sum_below-one_at : (n right : ℕ) → right < n → sum_below n (one_at right) ≡ 1
sum_below-one_at zero right h = absurd (omega arith)
sum_below-one_at (suc n) right h =
    elim (cases_eq right n) [
      | inl e ↦
          let rest = sum_below-one_at_past n right (omega arith) in
          let here : one_at right n ≡ 1 = grind (arith, nat_tests) in
          omega arith
      | inr ne ↦
          let rest = sum_below-one_at n right (omega arith) in
          let here : one_at right n ≡ 0 = grind (arith, nat_tests) in
          omega arith
    ]

-- the rights of one view, counted rank by rank
sum_of_rights : (n : ℕ) (rights : List ℕ) → AreRanks n rights
    → sum_below n (λ rank. right_count rank rights) ≡ length rights
sum_of_rights n [] h = sum_below-zero n
sum_of_rights n (right ∷ more) h =
    let split = sum_below-add n (one_at right) (λ rank. right_count rank more)
    (λ rank. right_count rank (right ∷ more))
    (λ rank. sum_by-cons (λ one. cond (eqb one rank) 1 0) right more) in
    omega (arith, split, sum_below-one_at n right h.0, sum_of_rights n more h.1)

abbrev count_in : List Stake → ℕ → ℕ
count_in stakes rank = sum_by (λ (stake : Stake). right_count rank stake.rights) stakes

abbrev rights_in : List Stake → ℕ
rights_in stakes = sum_by (λ (stake : Stake). length stake.rights) stakes

-- and the rights of all views
sum_of_all_rights : (n : ℕ) (stakes : List Stake)
    → ((id : ℕ) (stake : Stake) → get_elem? stakes id ≡ some stake → AreRanks n stake.rights)
    → sum_below n (count_in stakes) ≡ rights_in stakes
sum_of_all_rights n [] h = sum_below-zero n
sum_of_all_rights n (stake ∷ more) h =
    let split = sum_below-add n (λ rank. right_count rank stake.rights) (count_in more)
    (count_in (stake ∷ more))
    (λ rank. sum_by-cons (λ (one : Stake). right_count rank one.rights) stake more) in
    omega (
      arith,
      split,
      sum_of_rights n stake.rights (h 0 stake refl),
      sum_of_all_rights n more (λ id. h (suc id)),
      sum_by-cons (λ (one : Stake). length one.rights) stake more,
    )

-- there are as many rights as ranks
pub rights_are_counted : (shape : Shape) (commits : ℕ) (stakes : List Stake)
    → RightsHold shape commits stakes → rights_in stakes ≡ shape.ranks
rights_are_counted shape commits stakes h =
    sym (sum_of_all_rights shape.ranks stakes h.are_ranks)
    ∙ sum_below-ones shape.ranks (count_in stakes) h.each_once

first_counts : (rank : ℕ) (more : List ℕ) → 0 < right_count rank (rank ∷ more)
first_counts rank more =
    let one : one_at rank rank ≡ 1 = grind (arith, nat_tests) in
    omega (arith, sum_by-cons (λ right. cond (eqb right rank) 1 0) rank more)

shares_a_right : {N : Type 0} (shape : Shape) (commits : ℕ) (views : List (View N)) (id other : ℕ)
    (alone view : View N) (right : ℕ) (more : List ℕ)
    → RightsHold shape commits (map stake_of views) → get_elem? views id ≡ some alone
    → IsAlone shape alone
    → other ≢ id → get_elem? views other ≡ some view → view.rights ≡ right ∷ more → ⊥
shares_a_right {N} shape commits views id other alone view right more h here is_alone ne there e =
    let stakes : List Stake = map stake_of views in
    let theirs : get_elem? stakes other ≡ some (stake_of view) =
    at_map stake_of views other view there in
    let ranks : AreRanks shape.ranks view.rights = h.are_ranks other (stake_of view) theirs in
    let below : right < shape.ranks = (subst (AreRanks shape.ranks) e ranks).0 in
    let counted : right_count right view.rights ≡ right_count right (right ∷ more) = ap
    (right_count right) e in
    omega (
      arith,
      two_in_sum (λ (stake : Stake). right_count right stake.rights) stakes id other
          (stake_of alone) (stake_of view) ne (at_map stake_of views id alone here) theirs,
      h.each_once right below,
      is_alone right below,
      counted,
      first_counts right more,
    )

no_rights : (rights : List ℕ) → ((right : ℕ) (more : List ℕ) → rights ≡ right ∷ more → ⊥)
    → rights ≡ []
no_rights [] h = refl
no_rights (right ∷ more) h = absurd (h right more refl)

-- beside a view that is alone no other view has a right
pub others_are_spent : {N : Type 0} (shape : Shape) (commits : ℕ) (views : List (View N))
    (id other : ℕ) (alone view : View N)
    → RightsHold shape commits (map stake_of views) → get_elem? views id ≡ some alone
    → IsAlone shape alone
    → other ≢ id → get_elem? views other ≡ some view → view.rights ≡ []
others_are_spent shape commits views id other alone view h here is_alone ne there =
    no_rights view.rights
    (λ right more. shares_a_right shape commits views id other alone view right more h here
    is_alone ne there)
