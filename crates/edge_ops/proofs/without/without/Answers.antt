use Rattle.edge_ops.proofs.RecordLists.{holder_taken_out}
use Rattle.edge_ops.proofs.without.without.Goals as goal

pub returns-clause-is : goal.returns-clause-is
returns-clause-is c = holder_taken_out c.args.holder c.args.key c.without_record-edges.result c.without_record-edges.ensures c.requires
