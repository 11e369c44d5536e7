use Rattle.holder_codec.proofs.EdgeObjectLaws.{edge_takes, edge_none}
use Rattle.holder_codec.proofs.edge_holder.EdgeHolder.read.Goals as goal

pub returns-in-Ok : goal.returns-in-Ok
returns-in-Ok c =
    rw (← c.as_slice.ensures) (edge_takes c.as_slice.result.now c.in-Ok.edge c.in-Ok.ensures.words c.in-Ok.ensures.gives)

pub returns-in-Err-NotSpelled : goal.returns-in-Err-NotSpelled
returns-in-Err-NotSpelled c =
    rw (← c.as_slice.ensures) (edge_none c.as_slice.result.now (rw c.in-Err-NotSpelled.field-0-is at c.in-Err-NotSpelled.ensures.gives))
