use Rattle.std.proofs.Common.{◌≡◌, drop}
use Rattle.graph_model.specs.Transactions.{graph_after_calls}
use Rattle.graph_model.specs.WellFormed.{IsWellFormed}
use Rattle.bulk_load.specs.Rows.{meets_limit}
use Rattle.bulk_load.proofs.row.do_calls.Given as goal

-- the rest does to this graph what all do to the one before
abbrev pub invariant-loop-call : goal.invariant-loop-call
invariant-loop-call l = record {
  shape : l.graph.shape ≡ l.fn.graph.shape;
  well_formed : IsWellFormed l.graph.graph;
  limit : meets_limit l.graph.shape l.graph.graph (drop l.call-index l.calls) ≡ meets_limit l.fn.graph.shape l.fn.graph.graph l.calls;
  graph : graph_after_calls l.graph.shape l.graph.graph (drop l.call-index l.calls) ≡ graph_after_calls l.fn.graph.shape l.fn.graph.graph l.calls;
}
