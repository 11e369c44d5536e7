use Rattle.std.proofs.Common.{◌≡◌, take}
use Rattle.std.specs.List.{flat_map}
use Rattle.graph_walks.specs.Steps.{steps_of}
use Rattle.traversals.specs.Edges.{both_by}
use Rattle.traversals.proofs.gathering.joining_along.Given as goal

-- the steps of the edges so far
abbrev pub invariant-loop-edge : goal.invariant-loop-edge
invariant-loop-edge l = record {
  ids : l.steps.ids ≡ l.fn.places;
  steps : steps_of l.steps ≡ flat_map both_by (take l.edge-index l.edges);
}
