use Rattle.std.proofs.Common.{◌≡◌, arith}
use Rattle.graph_model.specs.Maps.{add}
use Rattle.vertex_ops.proofs.LabelSets.{label_added}
use Rattle.vertex_ops.proofs.labels.with_label.Goals as goal

pub returns-in_ok-insert-in-Err-clause-is : goal.returns-in_ok-insert-in-Err-clause-is
returns-in_ok-insert-in-Err-clause-is c =
    let made : c.from_vec-labels.result ≡ add c.args.label c.args.holder.labels =
    cc (c.in_ok-insert-in-Err.ensures.items, c.in-Err.ensures.2, c.as_slice.ensures, c.into_vec-labels.ensures, c.from_vec-labels.ensures) in
    label_added c.args.holder c.args.label c.from_vec-labels.result made (omega arith) c.requires
