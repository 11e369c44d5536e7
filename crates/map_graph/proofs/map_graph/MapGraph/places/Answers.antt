use Rattle.map_graph.proofs.Walking.{ids-rise}
use Rattle.map_graph.proofs.map_graph.MapGraph.places.Goals as goal

pub new-requires : goal.new-requires
new-requires c = ids-rise c.args.self.now.graph c.in_ok-ids.ids c.in_ok-ids.ensures c.requires
