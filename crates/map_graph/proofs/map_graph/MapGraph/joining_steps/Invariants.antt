use Rattle.std.proofs.Common.{◌≡◌, ◌++◌}
use Rattle.std.specs.List.{AllByRecursion, flat_map}
use Rattle.graph_model.specs.Maps.{keys}
use Rattle.graph_walks.specs.Steps.{steps_of}
use Rattle.map_graph.proofs.Steps.{EndsAreIn, both_over}
use Rattle.map_graph.proofs.map_graph.MapGraph.joining_steps.Given as goal

-- the steps so far, and those of the edges to come
abbrev pub invariant-loop-key : goal.invariant-loop-key
invariant-loop-key l = record {
  ids : l.steps.ids ≡ keys l.self.graph.vertices;
  ends : AllByRecursion (EndsAreIn (keys l.self.graph.vertices)) l.key-iterator;
  steps : steps_of l.steps ++ flat_map both_over l.key-iterator ≡ flat_map both_over l.self.graph.edges;
}
