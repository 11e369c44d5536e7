-- Sums over the objects of a rank, by the objects that may differ.
use Rattle.std.specs.Prelude.{◌≡◌, ℕ, ◌+◌, Bool, false, ◌&&◌, List, [], ◌∷◌, sum_by, nat_lt, if◌then◌else◌, ◌==◌}
use Rattle.rma_layout.specs.Shape.{Shape, reserved_blocks}
use Rattle.rma_layout.specs.Placement.{home_of}
use Rattle.graph_model.specs.Graph.{Graph, is_vertex, is_heavy_at}
use Rattle.graph_model.specs.Capacity.{Object, objects_on, blocks_of_object, blocks_used_on}
use Rattle.graph_model.specs.Capacity.Object.{Reserved, OfVertex, OfHeavyEdge}
use Rattle.graph_undo.specs.Undo.{IsInOrder}
use Rattle.touched_objects.specs.Touched.{Spot, is_touched, IsSameAt}

-- whether an object of a graph is one of the rank's
abbrev pub stands_on : Shape → Graph → ℕ → Spot → Bool
stands_on shape g rank (r, Reserved block) = r == rank && nat_lt block (reserved_blocks shape)
stands_on shape g rank (r, OfVertex id) = home_of shape id == rank && is_vertex g id
stands_on shape g rank (r, OfHeavyEdge source ordinal) = home_of shape source == rank && is_heavy_at g source ordinal

-- what it weighs there, and nothing where it doesn't stand
abbrev pub weight_on : Shape → Graph → ℕ → (Object → ℕ) → Spot → ℕ
weight_on shape g rank weigh spot = if stands_on shape g rank spot then weigh spot.1 else 0

abbrev pub weight_of : Shape → Graph → ℕ → (Object → ℕ) → List Spot → ℕ
weight_of shape g rank weigh spots = sum_by (weight_on shape g rank weigh) spots

-- no object stands twice
abbrev pub AreApart : List Spot → Type 0
AreApart [] = Unit {0}
AreApart (spot ∷ spots) = (is_touched spots spot ≡ false) × AreApart spots

-- where each other object weighs the same, the sums differ by what these weigh
abbrev pub SumsDifferByThese : Type 0
SumsDifferByThese = (shape : Shape) (rank : ℕ) (g h : Graph) (old new : Object → ℕ) (spots : List Spot) → IsInOrder g → IsInOrder h → AreApart spots
    → ((spot : Spot) → is_touched spots spot ≡ false → weight_on shape g rank old spot ≡ weight_on shape h rank new spot)
    → sum_by old (objects_on shape g rank) + weight_of shape h rank new spots ≡ sum_by new (objects_on shape h rank) + weight_of shape g rank old spots

-- so it is with the blocks in use
abbrev pub UsedDiffersByTouched : Type 0
UsedDiffersByTouched = (shape : Shape) (rank : ℕ) (g h : Graph) (spots : List Spot) → IsInOrder g → IsInOrder h → AreApart spots
    → ((spot : Spot) → is_touched spots spot ≡ false → IsSameAt shape g h spot)
    → blocks_used_on shape g rank + weight_of shape h rank (blocks_of_object shape h rank) spots
    ≡ blocks_used_on shape h rank + weight_of shape g rank (blocks_of_object shape g rank) spots
