-- The part of the invariant on spent views: one that stands for no rank has nothing.
use Rattle.std.specs.Prelude.{◌≡◌, ℕ, List, []}
use mathlib.Core.Option.{some}
use lib.ListN.{get_elem?}
use Rattle.window_rule.specs.View.{View, spent}

-- It reads each view that has no right.
abbrev pub SpentHold : {N : Type 0} → List (View N) → Type 0
SpentHold {N} views = (id : ℕ) (view : View N) → get_elem? views id ≡ some view → view.rights ≡ []
    → view ≡ spent
