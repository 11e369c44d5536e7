-- What an object of the index is, and its one spelling.
use Rattle.std.specs.Prelude.{ℕ, ◌^◌, ◌<◌, Bool, ◌&&◌, ◌||◌, IsTrue, List, nat_lt, ◌==◌}
use Rattle.std.specs.List.{flat_map, AllByRecursion}
use Rattle.holder_codec.specs.declared.index_entry.IndexEntry.{IndexEntry}
use Rattle.holder_codec.specs.declared.index_holder.IndexHolder.{IndexHolder}
use Rattle.holder_codec.specs.Order.{is_rising}
use Rattle.holder_codec.specs.Holders.{pair_words}

-- the label, and the vertex
abbrev pub index_entry_words : IndexEntry → List ℕ
index_entry_words entry = pair_words entry.label entry.id

abbrev pub index_words : IndexHolder → List ℕ
index_words index = flat_map index_entry_words index.entries

-- by rising label, then by rising identifier
abbrev pub is_pair_before : IndexEntry → IndexEntry → Bool
is_pair_before one other = nat_lt one.label other.label || (one.label == other.label && nat_lt one.id other.id)

pub record IndexEntryFits (entry : IndexEntry) : Type 0 where
  pub label : entry.label < 2 ^ 32
  pub id : entry.id < 2 ^ 64

-- what has a spelling
pub record IsIndexHolder (index : IndexHolder) : Type 0 where
  pub rising : IsTrue (is_rising is_pair_before index.entries)
  pub each : AllByRecursion IndexEntryFits index.entries
