use Rattle.std.proofs.Common.{◌≡◌, take}
use Rattle.std.specs.List.{flat_map}
use Rattle.graph_walks.specs.Steps.{steps_of}
use Rattle.traversals.specs.Edges.{steps_by}
use Rattle.traversals.proofs.gathering.steps_along.Given as goal

-- the steps of the edges so far
abbrev pub invariant-loop-edge : goal.invariant-loop-edge
invariant-loop-edge l = record {
  ids : l.steps.ids ≡ l.fn.places;
  steps : steps_of l.steps ≡ flat_map steps_by (take l.edge-index l.edges);
}
