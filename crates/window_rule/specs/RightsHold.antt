-- The part of the invariant on rights: who stands for which rank, and how many commits are left.
use Rattle.std.specs.Prelude.{◌≡◌, ℕ, ◌+◌, ◌^◌, ◌<◌, ◌≤◌, ◌==◌, min, List, [], ◌∷◌}
use Rattle.std.specs.List.{sum_by, count_by}
use mathlib.Core.Option.{some}
use lib.ListN.{get_elem?}
use Rattle.rma_layout.specs.Shape.{Shape}
use Rattle.window_rule.specs.View.{View}

-- what the part reads of a view
pub record Stake : Type 0 where
  pub rights : List ℕ
  pub allowance : ℕ

abbrev pub stake_of : {N : Type 0} → View N → Stake
stake_of view = record { rights = view.rights; allowance = view.allowance }

-- how often a rank is among rights
abbrev pub right_count : ℕ → List ℕ → ℕ
right_count rank rights = count_by (λ right. right == rank) rights

-- the least of the rights, under which entries are made
abbrev pub least_of : List ℕ → ℕ
least_of [] = 0
least_of (right ∷ []) = right
least_of (right ∷ (next ∷ more)) = min right (least_of (next ∷ more))

-- each of the rights is one of so many ranks
abbrev pub AreRanks : ℕ → List ℕ → Type 0
AreRanks ranks [] = Unit {0}
AreRanks ranks (right ∷ more) = (right < ranks) × AreRanks ranks more

-- It reads the commit word, and the rights and the allowance of each view.
pub record RightsHold (shape : Shape) (commits : ℕ) (stakes : List Stake) : Type 0 where
  -- each rank's right is in one view, and stands there once
  pub each_once : (rank : ℕ) → rank < shape.ranks
      → sum_by (λ stake. right_count rank stake.rights) stakes ≡ 1
  pub are_ranks : (id : ℕ) (stake : Stake) → get_elem? stakes id ≡ some stake
      → AreRanks shape.ranks stake.rights
  -- so that the commit word never wraps
  pub few_commits : commits + sum_by (λ stake. stake.allowance) stakes ≤ 2 ^ 62

-- a view that stands for every rank. No other view of the window is live then
abbrev pub IsAlone : {N : Type 0} → Shape → View N → Type 0
IsAlone shape view = (rank : ℕ) → rank < shape.ranks → 0 < right_count rank view.rights
