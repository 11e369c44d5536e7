-- The order of what stands in a holder.
use Rattle.std.specs.Prelude.{Bool, true, ◌&&◌, List, [], ◌∷◌}

-- each stands before the next
abbrev pub is_rising : {X : Type 0} → (X → X → Bool) → List X → Bool
is_rising before [] = true
is_rising before (x ∷ []) = true
is_rising before (x ∷ y ∷ ys) = before x y && is_rising before (y ∷ ys)
