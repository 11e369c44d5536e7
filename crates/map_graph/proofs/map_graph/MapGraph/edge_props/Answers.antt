use Rattle.std.proofs.Common.{length, sym, subst}
use Rattle.map_graph.proofs.Known.{AreTypesBelow, edge_known}
use Rattle.map_graph.proofs.map_graph.MapGraph.edge_props.Goals as goal

pub lines_of_props-requires : goal.lines_of_props-requires
lines_of_props-requires c =
    subst (AreTypesBelow (length c.args.self.now.graph.types)) (sym c.props.ensures) (edge_known c.args.self.now.graph c.args.source c.args.ordinal c.in-Ok.edge.now c.requires c.in-Ok.ensures.there).1
