use Rattle.vertex_ops.proofs.PropLists.{prop_left_out}
use Rattle.vertex_ops.proofs.props.without_value.Goals as goal

pub returns-clause-is : goal.returns-clause-is
returns-clause-is c = prop_left_out c.args.holder c.args.number c.left_out-props.result c.left_out-props.ensures c.requires
