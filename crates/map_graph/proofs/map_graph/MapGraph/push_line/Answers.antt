use Rattle.std.proofs.Common.{length, sym, subst}
use Rattle.map_graph.proofs.Known.{AreBelow, AreTypesBelow, edge_known, edge-found}
use Rattle.map_graph.proofs.map_graph.MapGraph.push_line.Goals as goal

pub passes-requires-clause-labels : goal.passes-requires-clause-labels
passes-requires-clause-labels c =
    subst (AreBelow (length c.args.self.now.graph.labels)) (sym c.labels.ensures) (edge_known c.args.self.now.graph c.args.key.source c.args.key.ordinal c.in-Some.edge.now c.requires (edge-found c.args.self.now.graph c.args.key c.source.result c.ordinal.result c.in-Some.edge.now c.source.ensures c.ordinal.ensures c.in-Some.ensures)).0

pub passes-requires-clause-types : goal.passes-requires-clause-types
passes-requires-clause-types c =
    subst (AreTypesBelow (length c.args.self.now.graph.types)) (sym c.props.ensures) (edge_known c.args.self.now.graph c.args.key.source c.args.key.ordinal c.in-Some.edge.now c.requires (edge-found c.args.self.now.graph c.args.key c.source.result c.ordinal.result c.in-Some.edge.now c.source.ensures c.ordinal.ensures c.in-Some.ensures)).1
