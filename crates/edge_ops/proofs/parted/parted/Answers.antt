use Rattle.edge_ops.proofs.EdgesParted.{holder_parted}
use Rattle.edge_ops.proofs.parted.parted.Goals as goal

pub returns-clause-is : goal.returns-clause-is
returns-clause-is c = holder_parted c.args.holder c.args.id c.left_out-edges.result c.left_out-edges.ensures c.requires
