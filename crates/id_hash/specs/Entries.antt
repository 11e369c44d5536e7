-- The entries of a bucket by their identifiers. The contracts of private functions alone cite these.
use Rattle.std.specs.Prelude.{◌==◌, ℕ, List, Option, not}
use Rattle.std.specs.List.{filter}
use Rattle.std.specs.Ordering.{nat_cmp}
use Rattle.holder_codec.specs.declared.bucket_entry.BucketEntry.{BucketEntry}
use Rattle.rising_lists.specs.Rising.{item_of, with_item}

abbrev pub id_of : BucketEntry → ℕ
id_of entry = entry.id

abbrev pub entry_for : List BucketEntry → ℕ → Option BucketEntry
entry_for = item_of id_of nat_cmp

abbrev pub with_entry : BucketEntry → List BucketEntry → List BucketEntry
with_entry = with_item id_of nat_cmp

abbrev pub without_entry : ℕ → List BucketEntry → List BucketEntry
without_entry id entries = filter (λ entry. not (entry.id == id)) entries
