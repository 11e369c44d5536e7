use Rattle.std.proofs.Common.{length, sym, subst}
use Rattle.map_graph.proofs.Known.{AreTypesBelow, found_known}
use Rattle.map_graph.proofs.map_graph.MapGraph.props.Goals as goal

pub lines_of_props-requires : goal.lines_of_props-requires
lines_of_props-requires c =
    subst (AreTypesBelow (length c.args.self.now.graph.types)) (sym c.props.ensures) (found_known c.args.self.now.graph c.args.id c.in-Some.vertex.now c.requires c.in-Some.ensures).1
