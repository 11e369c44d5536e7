use Rattle.std.proofs.Common.{rules, ap, subst, ◌∙◌}
use Rattle.rma_layout.specs.Placement.{bucket_of}
use Rattle.rma_layout.specs.Ranges.{IsInRange}
use Rattle.object_store.proofs.Works.{went_wider, fell_wider}
use Rattle.object_store.specs.Works.{Nowhere}
use Rattle.id_hash.specs.Buckets.{IsBucketFor}
use Rattle.id_hash.proofs.InBuckets.{spelled_bucket, finds_bucket}
use Rattle.id_hash.proofs.bucket.read_bucket.Goals as goal

pub look-requires-clause-spelled : goal.look-requires-clause-spelled
look-requires-clause-spelled g c =
    let at = c.bucket.ensures.value ∙ ap (λ shape. bucket_of shape c.args.id) c.geometry-geometry.ensures in
    spelled_bucket c.args.id at (subst IsInRange c.geometry-geometry.ensures c.keeps_ranges.ensures) c.requires.leads

pub returns-clause-works : goal.returns-clause-works
returns-clause-works g c =
    let at = c.bucket.ensures.value ∙ ap (λ shape. bucket_of shape c.args.id) c.geometry-geometry.ensures in
    record { went = went_wider {Whole = IsBucketFor c.args.id} (λ place is. is ∙ at) (λ rank never. never) c.in_ok-bucket.ensures.works.went; fell = tt }

pub returns-in_err-bucket-clause-works : goal.returns-in_err-bucket-clause-works
returns-in_err-bucket-clause-works g c =
    let at = c.bucket.ensures.value ∙ ap (λ shape. bucket_of shape c.args.id) c.geometry-geometry.ensures in
    let did = fell_wider {One = IsBucketFor c.args.id} {Homes = Nowhere} (λ place is. is ∙ at) (λ rank never. never) c.in_err-bucket.ensures.works.fell in
    search rules

pub returns-clause-found : goal.returns-clause-found
returns-clause-found g c =
    let at = c.bucket.ensures.value ∙ ap (λ shape. bucket_of shape c.args.id) c.geometry-geometry.ensures in
    finds_bucket at c.in_ok-bucket.ensures.found
