use Rattle.graph_walks.specs.Steps.{steps_of}
use Rattle.map_graph.proofs.Steps.{joining_two_way}
use Rattle.map_graph.proofs.Walking.{parts-done}
use Rattle.map_graph.proofs.map_graph.MapGraph.parts.Goals as goal

pub parts_of-requires : goal.parts_of-requires
parts_of-requires c = joining_two_way c.args.self.now.graph (steps_of c.in_ok-steps.steps) c.in_ok-steps.ensures.steps

pub returns : goal.returns
returns c =
    parts-done c.args.self.now.shape c.args.self.now.graph c.requires c.in_ok-steps.steps.ids c.in_ok-steps.ensures.ids (steps_of c.in_ok-steps.steps) c.in_ok-steps.ensures.steps
    c.in_ok-parts.parts c.in_ok-parts.ensures
