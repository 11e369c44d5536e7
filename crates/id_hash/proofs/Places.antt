-- Where an identifier stands among the entries of a bucket, and that a bucket with one entry more or less is a bucket.
use Rattle.std.proofs.Common.{◌≡◌, ℕ, ◌^◌, ◌/◌, ◌%◌, ◌<◌, not, eqb, List, ap, arith}
use Rattle.std.specs.Ordering.{nat_cmp}
use Rattle.std.specs.Cmp.{nat_cmp_total}
use Rattle.std.specs.FinMap.{nat_cmp-IsAntisymmetric}
use Rattle.std.proofs.lemmas.Nat.{mod_below}
use Rattle.rma_layout.specs.Placement.{Place, raw_of}
use Rattle.graph_model.proofs.Entries.{All-filter}
use Rattle.holder_codec.specs.declared.bucket_entry.BucketEntry.{BucketEntry}
use Rattle.holder_codec.specs.Bucket.{EntryFits, IsBucketHolder, is_entry_before}
use Rattle.id_hash.specs.Entries.{id_of, with_entry, without_entry}
use Rattle.rising_lists.proofs.Rising.{is_rising-with_item, is_rising-where, All-with_item, lt_by_nat_cmp}

-- a pointer is the view of its word, so its block fits too
pub block_fits : (place : Place) → (record { rank = raw_of place / 2 ^ 48; block = raw_of place % 2 ^ 48 }) ≡ place → place.block < 2 ^ 48
block_fits place is = omega (arith, ap (λ (other : Place). other.block) is, mod_below (raw_of place) (2 ^ 48) (omega arith))

pub holder-with_entry : (entry : BucketEntry) (es : List BucketEntry) → EntryFits entry → IsBucketHolder (record { entries = es }) → IsBucketHolder (record { entries = with_entry entry es })
holder-with_entry entry es fits holder = record {
  rising = is_rising-with_item id_of nat_cmp_total nat_cmp-IsAntisymmetric is_entry_before (λ x y. lt_by_nat_cmp x.id y.id) entry es holder.rising;
  each = All-with_item id_of nat_cmp EntryFits entry es fits holder.each;
}

pub holder-without_entry : (id : ℕ) (es : List BucketEntry) → IsBucketHolder (record { entries = es }) → IsBucketHolder (record { entries = without_entry id es })
holder-without_entry id es holder =
    let others = λ (entry : BucketEntry). not (eqb entry.id id) in
    record { rising = is_rising-where id_of nat_cmp_total nat_cmp-IsAntisymmetric is_entry_before (λ x y. lt_by_nat_cmp x.id y.id) (λ k. not (eqb k id)) es holder.rising; each = All-filter EntryFits EntryFits others (λ _ _ fits. fits) es holder.each }
