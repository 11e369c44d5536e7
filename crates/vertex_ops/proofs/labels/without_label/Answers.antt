use Rattle.vertex_ops.proofs.LabelSets.{label_left_out}
use Rattle.vertex_ops.proofs.labels.without_label.Goals as goal

pub returns-clause-is : goal.returns-clause-is
returns-clause-is c = label_left_out c.args.holder c.args.label c.left_out-labels.result c.left_out-labels.ensures c.requires
