use Rattle.std.proofs.Common.{is_some, sym, ap}
use Rattle.graph_walks.specs.Steps.{steps_of}
use Rattle.map_graph.proofs.Walking.{levels-done}
use Rattle.map_graph.proofs.map_graph.MapGraph.levels.Goals as goal

pub returns : goal.returns
returns c =
    levels-done c.args.self.now.shape c.args.self.now.graph c.args.id (ap is_some (sym c.in-Some.ensures)) c.in_ok-steps.steps.ids c.in_ok-steps.ensures.ids (steps_of c.in_ok-steps.steps) c.in_ok-steps.ensures.steps
    c.in_ok-levels.levels c.in_ok-levels.ensures
