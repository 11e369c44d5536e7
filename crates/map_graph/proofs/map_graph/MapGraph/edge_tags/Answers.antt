use Rattle.std.proofs.Common.{length, sym, subst}
use Rattle.map_graph.proofs.Known.{AreBelow, edge_known}
use Rattle.map_graph.proofs.map_graph.MapGraph.edge_tags.Goals as goal

pub names_of-requires : goal.names_of-requires
names_of-requires c =
    subst (AreBelow (length c.args.self.now.graph.labels)) (sym c.labels.ensures) (edge_known c.args.self.now.graph c.args.source c.args.ordinal c.in-Ok.edge.now c.requires c.in-Ok.ensures.there).0
