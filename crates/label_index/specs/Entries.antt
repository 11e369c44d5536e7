-- Entries of the index by their pairs of a label and a vertex.
use Rattle.std.specs.Prelude.{◌==◌, ◌&&◌, ℕ, ◌+◌, ◌/◌, ◌%◌, Bool, List, Option, not}
use Rattle.std.specs.List.{filter}
use Rattle.std.specs.Ordering.{nat_cmp, ordering_then}
use Rattle.std.specs.declared.cmp.Ordering.{Ordering}
use Rattle.rma_layout.specs.Shape.{Shape}
use Rattle.rma_layout.specs.Placement.{Place, same_place, slot_of}
use Rattle.holder_codec.specs.declared.index_entry.IndexEntry.{IndexEntry}
use Rattle.rising_lists.specs.Rising.{item_of, with_item}

-- a label and a vertex
abbrev pub Pair : Type 0
Pair = ℕ × ℕ

abbrev pub pair_of : IndexEntry → Pair
pair_of entry = (entry.label, entry.id)

-- by label, then by vertex
abbrev pub pair_cmp : Pair → Pair → Ordering
pair_cmp one other = ordering_then (nat_cmp one.0 other.0) (nat_cmp one.1 other.1)

abbrev pub entry_for : List IndexEntry → Pair → Option IndexEntry
entry_for = item_of pair_of pair_cmp

abbrev pub with_pair : IndexEntry → List IndexEntry → List IndexEntry
with_pair = with_item pair_of pair_cmp

abbrev pub is_pair : Pair → Pair → Bool
is_pair one other = one.0 == other.0 && one.1 == other.1

abbrev pub without_pair : Pair → List IndexEntry → List IndexEntry
without_pair pair entries = filter (λ entry. not (is_pair pair (pair_of entry))) entries

-- the entries that belong in a slot
abbrev pub slot_for : Shape → Pair → Place
slot_for shape pair = slot_of shape pair.0 pair.1

abbrev pub entries_in : Shape → List IndexEntry → Place → List IndexEntry
entries_in shape entries place = filter (λ entry. same_place (slot_for shape (pair_of entry)) place) entries

-- the slots in order, rank after rank
abbrev pub slot_at : Shape → ℕ → Place
slot_at shape n = record { rank = n / shape.slots; block = 1 + shape.buckets + n % shape.slots }
