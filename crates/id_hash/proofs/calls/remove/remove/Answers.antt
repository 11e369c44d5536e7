use Rattle.std.proofs.Common.{rules}
use Rattle.object_store.proofs.Working.{if_ok, ok_and}
use Rattle.object_store.proofs.Works.{went-then, went-fell}
use Rattle.id_hash.proofs.InBuckets.{few_made, few_left, removes}
use Rattle.id_hash.proofs.calls.remove.remove.Goals as goal

pub write_bucket-requires-clause-few : goal.write_bucket-requires-clause-few
write_bucket-requires-clause-few g c =
    if_ok c.bucket_without-made.result c.bucket_without-made.ensures.made (λ made is. few_made is (few_left c.in_ok-bucket.ensures.found c.requires.present))

pub returns-in_err-write_bucket-clause-works : goal.returns-in_err-write_bucket-clause-works
returns-in_err-write_bucket-clause-works g c = let did = went-fell c.in_ok-bucket.ensures.works.went c.in_err-write_bucket.ensures.works.fell in search rules

pub returns-clause-works : goal.returns-clause-works
returns-clause-works g c = record { went = went-then c.in_ok-bucket.ensures.works.went c.in_ok-write_bucket.ensures.works.went; fell = tt }

pub returns-clause-removed : goal.returns-clause-removed
returns-clause-removed g c =
    let wrote = c.in_ok-write_bucket.ensures in
    ok_and c.bucket_without-made.result wrote.wrote c.bucket_without-made.ensures.made (λ made put is.
    removes c.in_ok-bucket.ensures.found made put wrote.works.went.reaches.stays is c.requires.present)
