use Rattle.std.proofs.Common.{◌≡◌, length}
use Rattle.graph_undo.specs.Undo.{rolled_back, KeepEnds}
use Rattle.map_graph.proofs.map_graph.MapGraph.roll_back.Given as goal

-- what is left leads back to where all of it did
abbrev pub invariant-loop-step : goal.invariant-loop-step
invariant-loop-step l = record {
  shape : l.self.shape ≡ l.fn.self.shape;
  back : rolled_back l.journal l.self.graph ≡ rolled_back l.fn.journal l.fn.self.graph;
  ends : KeepEnds l.journal l.self.graph;
}

abbrev pub decreases-loop-step : goal.decreases-loop-step
decreases-loop-step l = length l.journal
