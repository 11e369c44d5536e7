use Rattle.traversals.proofs.Scanning.{scan-all}
use Rattle.traversals.proofs.flat_graph.FlatGraph.scan_all.Goals as goal

pub returns : goal.returns
returns c = scan-all c.args.self.now c.in_ok-ids.ids c.in_ok-ids.ensures
