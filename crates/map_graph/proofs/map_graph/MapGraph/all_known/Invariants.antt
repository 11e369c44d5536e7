use Rattle.std.proofs.Common.{◌≡◌, drop}
use Rattle.graph_model.specs.ListCalls.{names_known}
use Rattle.map_graph.proofs.map_graph.MapGraph.all_known.Given as goal

-- what is left tells
abbrev pub invariant-loop-atom : goal.invariant-loop-atom
invariant-loop-atom l = names_known l.self.graph (drop l.atom-index l.atom-items) ≡ names_known l.self.graph l.atoms
