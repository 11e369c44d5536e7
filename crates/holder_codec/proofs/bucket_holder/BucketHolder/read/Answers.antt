use Rattle.holder_codec.proofs.Buckets.{bucket_takes, bucket_none}
use Rattle.holder_codec.proofs.bucket_holder.BucketHolder.read.Goals as goal

pub returns-in-Ok : goal.returns-in-Ok
returns-in-Ok c =
    rw (← c.as_slice.ensures) (bucket_takes c.as_slice.result.now c.in-Ok.bucket c.in-Ok.ensures.words c.in-Ok.ensures.gives)

pub returns-in-Err-NotSpelled : goal.returns-in-Err-NotSpelled
returns-in-Err-NotSpelled c =
    rw (← c.as_slice.ensures) (bucket_none c.as_slice.result.now (rw c.in-Err-NotSpelled.field-0-is at c.in-Err-NotSpelled.ensures.gives))
