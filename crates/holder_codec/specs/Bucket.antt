-- What a bucket is, and its one spelling.
use Rattle.std.specs.Prelude.{ℕ, ◌^◌, ◌<◌, Bool, IsTrue, List, [], ◌∷◌, nat_lt}
use Rattle.std.specs.List.{flat_map, AllByRecursion}
use Rattle.rma_layout.specs.Placement.{raw_of, FitsOneWord}
use Rattle.holder_codec.specs.declared.bucket_entry.BucketEntry.{BucketEntry}
use Rattle.holder_codec.specs.declared.bucket_holder.BucketHolder.{BucketHolder}
use Rattle.holder_codec.specs.Order.{is_rising}

-- the identifier, and the pointer to the vertex
abbrev pub entry_words : BucketEntry → List ℕ
entry_words entry = entry.id ∷ raw_of entry.at ∷ []

abbrev pub bucket_words : BucketHolder → List ℕ
bucket_words bucket = flat_map entry_words bucket.entries

abbrev pub is_entry_before : BucketEntry → BucketEntry → Bool
is_entry_before one other = nat_lt one.id other.id

pub record EntryFits (entry : BucketEntry) : Type 0 where
  pub id : entry.id < 2 ^ 64
  pub at : FitsOneWord entry.at

-- what has a spelling
pub record IsBucketHolder (bucket : BucketHolder) : Type 0 where
  pub rising : IsTrue (is_rising is_entry_before bucket.entries)
  pub each : AllByRecursion EntryFits bucket.entries
