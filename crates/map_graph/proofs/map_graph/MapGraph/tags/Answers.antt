use Rattle.std.proofs.Common.{length, sym, subst}
use Rattle.map_graph.proofs.Known.{AreBelow, found_known}
use Rattle.map_graph.proofs.map_graph.MapGraph.tags.Goals as goal

pub names_of-requires : goal.names_of-requires
names_of-requires c =
    subst (AreBelow (length c.args.self.now.graph.labels)) (sym c.labels.ensures) (found_known c.args.self.now.graph c.args.id c.in-Some.vertex.now c.requires c.in-Some.ensures).0
