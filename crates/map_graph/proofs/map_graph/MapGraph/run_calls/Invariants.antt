use Rattle.std.proofs.Common.{◌≡◌, ◌++◌, drop}
use Rattle.graph_model.specs.Transactions.{graph_after_calls, replies_to_calls}
use Rattle.graph_model.specs.WellFormed.{IsWellFormed}
use Rattle.map_graph.proofs.map_graph.MapGraph.run_calls.Given as goal

abbrev pub invariant-loop-call : goal.invariant-loop-call
invariant-loop-call l = record {
  shape : l.self.shape ≡ l.fn.self.shape;
  well_formed : IsWellFormed l.self.graph;
  replies : l.replies ++ replies_to_calls l.self.shape l.self.graph (drop l.call-index l.calls) ≡ replies_to_calls l.fn.self.shape l.fn.self.graph l.calls;
  graph : graph_after_calls l.self.shape l.self.graph (drop l.call-index l.calls) ≡ graph_after_calls l.fn.self.shape l.fn.self.graph l.calls;
}
