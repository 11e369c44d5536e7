use Rattle.holder_codec.proofs.MetaLaws.{meta_takes, meta_none}
use Rattle.holder_codec.proofs.meta_holder.MetaHolder.read.Goals as goal

pub returns-in-Ok : goal.returns-in-Ok
returns-in-Ok c =
    rw (← c.as_slice.ensures) (meta_takes c.as_slice.result.now c.in-Ok.meta c.in-Ok.ensures.words c.in-Ok.ensures.gives)

pub returns-in-Err-NotSpelled : goal.returns-in-Err-NotSpelled
returns-in-Err-NotSpelled c =
    rw (← c.as_slice.ensures) (meta_none c.as_slice.result.now (rw c.in-Err-NotSpelled.field-0-is at c.in-Err-NotSpelled.ensures.gives))
