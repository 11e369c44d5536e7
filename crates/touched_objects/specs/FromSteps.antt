-- What the steps that were noted tell of the objects that were touched: where they may be, and which of them were there
-- all along.
use Rattle.std.specs.Prelude.{◌≡◌, Bool, true, false, not, ◌&&◌, ◌||◌, List, is_some, ◌==◌}
use Rattle.std.specs.List.{list_all, flat_map}
use Rattle.std.specs.Option.{option_map_or}
use Rattle.gdi_kinds.specs.declared.call.Call.{Call}
use Rattle.rma_layout.specs.Shape.{Shape}
use Rattle.graph_model.specs.Graph.{Graph, is_heavy}
use Rattle.graph_model.specs.Transactions.{graph_after_calls}
use Rattle.graph_model.specs.Capacity.{Object, is_object, graphs_along}
use Rattle.graph_model.specs.Capacity.Object.{OfVertex, OfHeavyEdge}
use Rattle.graph_undo.specs.Undo.{Undo, AtVertex, AtEdge, IsInOrder}
use Rattle.touched_objects.specs.Touched.{Spot, is_touched, touched_by, touched_on_the_way}
use Rattle.touched_objects.specs.Needed.{noted_along, AreSound}

-- what steps touch, each as if it were taken on the last graph
abbrev pub touched_by_each : Shape → List Undo → Graph → List Spot
touched_by_each shape steps g = flat_map (touched_by shape g) steps

-- that is all that they touch on the way
abbrev pub EachTouchesAll : Type 0
EachTouchesAll = (shape : Shape) (steps : List Undo) (g : Graph) (spot : Spot) → IsInOrder g
    → is_touched (touched_by_each shape steps g) spot ≡ false → is_touched (touched_on_the_way shape steps g) spot ≡ false

-- whether the object was there where the step was noted, as far as the step tells
abbrev pub had : Object → Undo → Bool
had (OfVertex id) (AtVertex j before) = not (j == id) || is_some before
had (OfHeavyEdge source ordinal) (AtEdge key before) = not (key.source == source && key.ordinal == ordinal) || option_map_or is_heavy before false
had object step = true

-- an object was there all along where it is there at last, and was at each step
abbrev pub StepsTellWhatStayed : Type 0
StepsTellWhatStayed = (shape : Shape) (g : Graph) (calls : List Call) (object : Object) → AreSound shape g calls
    → list_all (λ k. is_object k object) (graphs_along shape g calls)
    ≡ (is_object (graph_after_calls shape g calls) object && list_all (had object) (noted_along shape g calls))
