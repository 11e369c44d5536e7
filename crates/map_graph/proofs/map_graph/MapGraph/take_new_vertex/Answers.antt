use Rattle.std.proofs.Common.{ap, sym, is_some}
use Rattle.graph_model.proofs.VertexSteps.{without-absent}
use Rattle.map_graph.proofs.PutBack.{apart-without}
use Rattle.map_graph.proofs.map_graph.MapGraph.take_new_vertex.Goals as goal

pub take_vertex-requires-clause-alone : goal.take_vertex-requires-clause-alone
take_vertex-requires-clause-alone c = apart-without c.args.self.now.graph c.args.id c.requires

pub returns-in_default-clause-graph : goal.returns-in_default-clause-graph
returns-in_default-clause-graph c =
    ap (λ vs. record c.args.self.now.graph { vertices = vs }) (sym (without-absent c.args.id c.args.self.now.graph.vertices (ap is_some (sym c.in_default.ensures))))
