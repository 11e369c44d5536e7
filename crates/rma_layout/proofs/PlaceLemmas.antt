-- The reserved objects are apart, since their blocks are.
use Rattle.std.proofs.Common.{◌≡◌, ◌≢◌, ℕ, ◌/◌, ap, arith}
use Rattle.std.proofs.lemmas.Nat.{mod_below}
use Rattle.rma_layout.specs.Shape.{Shape}
use Rattle.rma_layout.specs.Ranges.{IsInRange}
use Rattle.rma_layout.specs.Placement.{Place, bucket_of, slot_of, metadata}

same_block : (p q : Place) → p ≡ q → p.block ≡ q.block
same_block p q same = ap (λ (place : Place). place.block) same

pub bucket_of-ne-slot_of : (shape : Shape) (id label other : ℕ) → IsInRange shape → bucket_of shape id ≢ slot_of shape label other
bucket_of-ne-slot_of shape id label other ranges same =
    omega (arith, same_block _ _ same, mod_below (id / shape.ranks) shape.buckets (omega (arith, ranges.buckets)))

pub bucket_of-ne-metadata : (shape : Shape) (id : ℕ) → bucket_of shape id ≢ metadata
bucket_of-ne-metadata shape id same = omega (arith, same_block _ _ same)

pub slot_of-ne-metadata : (shape : Shape) (label id : ℕ) → slot_of shape label id ≢ metadata
slot_of-ne-metadata shape label id same = omega (arith, same_block _ _ same)
