use Rattle.std.proofs.Common.{◌≡◌, ◌+◌, ◌*◌, true, not, length, rules, arith}
use Rattle.rma_layout.specs.Placement.{FitsOneWord}
use Rattle.graph_model.specs.Sizes.{is_too_large}
use Rattle.object_store.proofs.Working.{if_ok, ok_and}
use Rattle.object_store.proofs.Works.{went-then, went-fell}
use Rattle.id_hash.proofs.Places.{block_fits}
use Rattle.id_hash.proofs.InBuckets.{few_with, few_made, absent_now, adds_nothing, adds}
use Rattle.id_hash.proofs.calls.add.add.Goals as goal

pub returns-then-not-has_room-clause-added : goal.returns-then-not-has_room-clause-added
returns-then-not-has_room-clause-added g c = adds_nothing c.in_ok-bucket.ensures.found c.args.at (search rules) c.requires.absent

pub bucket_with-made-requires-clause-absent : goal.bucket_with-made-requires-clause-absent
bucket_with-made-requires-clause-absent g c = absent_now c.in_ok-bucket.ensures.found c.requires.absent

pub write_bucket-requires-clause-few : goal.write_bucket-requires-clause-few
write_bucket-requires-clause-few g c =
    let room : not (is_too_large (2 * (length c.in_ok-bucket.bucket.entries + 1))) ≡ true = search rules in
    if_ok c.bucket_with-made.result c.bucket_with-made.ensures.made (λ made is. few_made is (few_with c.in_ok-bucket.bucket (record { id = c.args.id; at = c.args.at }) room))

pub returns-in_err-write_bucket-clause-works : goal.returns-in_err-write_bucket-clause-works
returns-in_err-write_bucket-clause-works g c = let did = went-fell c.in_ok-bucket.ensures.works.went c.in_err-write_bucket.ensures.works.fell in search rules

pub returns-clause-works : goal.returns-clause-works
returns-clause-works g c = record { went = went-then c.in_ok-bucket.ensures.works.went c.in_ok-write_bucket.ensures.works.went; fell = tt }

pub returns-clause-added : goal.returns-clause-added
returns-clause-added g c =
    let room : not (is_too_large (2 * (length c.in_ok-bucket.bucket.entries + 1))) ≡ true = search rules in
    let fits : FitsOneWord c.args.at = (omega arith, omega (arith, block_fits)) in
    let wrote = c.in_ok-write_bucket.ensures in
    ok_and c.bucket_with-made.result wrote.wrote c.bucket_with-made.ensures.made (λ made put is.
    adds c.in_ok-bucket.ensures.found made put wrote.works.went.reaches.stays c.args.at c.ranges.id.fits fits room is c.requires.absent)
