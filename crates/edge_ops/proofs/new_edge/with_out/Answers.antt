use Rattle.std.proofs.Common.{◌+◌}
use Rattle.edge_ops.proofs.RecordLists.{holder_with}
use Rattle.edge_ops.proofs.new_edge.with_out.Goals as goal

pub returns-clause-is : goal.returns-clause-is
returns-clause-is c = holder_with c.args.holder (c.args.holder.next + 1) c.args.edge c.in_ok-edges.edges c.in_ok-edges.ensures c.requires.next c.requires.edge c.requires.holder
