use Rattle.std.proofs.Common.{ap, ◌∙◌}
use Rattle.rma_layout.specs.Placement.{bucket_of}
use Rattle.object_store.proofs.Works.{works_wider}
use Rattle.id_hash.specs.Buckets.{IsBucketFor}
use Rattle.id_hash.proofs.bucket.write_bucket.Goals as goal

pub returns-clause-works : goal.returns-clause-works
returns-clause-works g c =
    let at = c.bucket-at.ensures.value ∙ ap (λ shape. bucket_of shape c.args.id) c.geometry.ensures in
    works_wider {Whole = IsBucketFor c.args.id} c.put.result (λ place is. is ∙ at) (λ rank never. never) c.put.ensures.works
