-- What capacity counts of the objects that a transaction's calls touch.
use Rattle.std.specs.Prelude.{◌≡◌, ℕ, ◌+◌, false, List, [], ◌∷◌, ◌++◌}
use Rattle.gdi_kinds.specs.declared.call.Call.{Call}
use Rattle.rma_layout.specs.Shape.{Shape}
use Rattle.graph_model.specs.Graph.{Graph}
use Rattle.graph_model.specs.Calls.{graph_after_call}
use Rattle.graph_model.specs.Transactions.{graph_after_calls}
use Rattle.graph_model.specs.Capacity.{growth_of, graphs_along, primaries_made_on, blocks_needed_on}
use Rattle.graph_undo.specs.Undo.{Undo, noted_before, rolled_back, HasEnds, IsInOrder}
use Rattle.touched_objects.specs.Touched.{Spot, is_touched, touched_on_the_way}
use Rattle.touched_objects.specs.Weights.{AreApart, weight_of}

-- what is noted before each of some calls
abbrev pub noted_along : Shape → Graph → List Call → List Undo
noted_along shape g [] = []
noted_along shape g (call ∷ calls) = noted_before g call ++ noted_along shape (graph_after_call shape g call) calls

-- the graphs before the calls, between them and after them are in order, and their edges have both ends
abbrev pub AreSound : Shape → Graph → List Call → Type 0
AreSound shape g [] = IsInOrder g × HasEnds g
AreSound shape g (call ∷ calls) = (IsInOrder g × HasEnds g) × AreSound shape (graph_after_call shape g call) calls

-- these are all that the calls touch
abbrev pub Cover : Shape → Graph → List Call → List Spot → Type 0
Cover shape g calls spots = (spot : Spot) → is_touched spots spot ≡ false
    → is_touched (touched_on_the_way shape (noted_along shape g calls) (graph_after_calls shape g calls)) spot ≡ false

-- the steps lead back over all calls
abbrev pub CallsLeadBack : Type 0
CallsLeadBack = (shape : Shape) (g : Graph) (calls : List Call) → AreSound shape g calls → rolled_back (noted_along shape g calls) (graph_after_calls shape g calls) ≡ g

-- the blocks needed are a block for each object made, and what the touched objects that are there afterwards grow by
abbrev pub NeededByTouched : Type 0
NeededByTouched = (shape : Shape) (rank : ℕ) (g : Graph) (calls : List Call) (spots : List Spot) → AreSound shape g calls → AreApart spots → Cover shape g calls spots
    → blocks_needed_on shape g calls rank
    ≡ primaries_made_on shape g calls rank
    + weight_of shape (graph_after_calls shape g calls) rank (growth_of shape g (graph_after_calls shape g calls) (graphs_along shape g calls) rank) spots
