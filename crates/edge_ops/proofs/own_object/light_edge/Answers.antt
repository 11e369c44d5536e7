use Rattle.std.proofs.Common.{arith}
use Rattle.edge_ops.proofs.EdgesFound.{light_is_holder}
use Rattle.edge_ops.proofs.own_object.light_edge.Goals as goal

pub returns-clause-holder : goal.returns-clause-holder
returns-clause-holder c = light_is_holder c.args.id c.args.edge.now c.in_ok-labels.labels _ (omega (arith, c.ranges.id)) c.requires c.in_ok-labels.ensures.fit c.in_ok-labels.ensures.rise c.new.ensures
