use Rattle.edge_ops.proofs.AroundGraph.{holds_around}
use Rattle.edge_ops.proofs.EdgesOfGraph.{holds_out}
use Rattle.edge_ops.proofs.laws.edges_are_those_of_the_graph.Goals as goal

pub returns : goal.returns
returns c = record {
  out = λ shape store g represents ranges id ordinal there. holds_out shape store g represents ranges id ordinal there;
  around = λ shape store g represents ranges id there. holds_around shape store g represents ranges id there;
}
