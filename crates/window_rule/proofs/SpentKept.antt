-- The part on spent views: which steps keep it.
use Rattle.std.proofs.Common.{◌≡◌, ℕ, List, [], set, ap, ◌∙◌, inl, inr}
use Rattle.atomic_table.proofs.Lists.{at_set}
use Rattle.window_rule.specs.View.{View}
use Rattle.window_rule.specs.SpentHold.{SpentHold}

-- it is kept by a step of a view that stays live
pub SpentHold-live : {N : Type 0} (views : List (View N)) (id : ℕ) (after : View N)
    → ¬ after.rights ≡ [] → SpentHold views → SpentHold (set views id after)
SpentHold-live views id after live h other view there none =
    elim (at_set views id other after view there) [
      | inl here ↦ absurd (live (ap (λ v. v.rights) here.1 ∙ none))
      | inr elsewhere ↦ h other view elsewhere.1 none
    ]
