use Rattle.edge_ops.proofs.LinesOfGraph.{lines_are}
use Rattle.edge_ops.proofs.laws.lines_are_those_of_the_graph.Goals as goal

pub returns : goal.returns
returns c = lines_are
