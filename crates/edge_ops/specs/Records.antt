-- The records of edges at a vertex by their keys.
use Rattle.std.specs.Prelude.{ℕ, not, List, Option, if◌then◌else◌}
use Rattle.std.specs.List.{filter}
use Rattle.std.specs.Int.{from_bool}
use Rattle.std.specs.Ordering.{eq_by_cmp, nat_cmp, ordering_then}
use Rattle.std.specs.declared.cmp.Ordering.{Ordering}
use Rattle.holder_codec.specs.declared.edge_record.EdgeRecord.{EdgeRecord}
use Rattle.rising_lists.specs.Rising.{item_of, with_item}

-- which end the vertex is, the source where it is the target, and the ordinal
abbrev pub Key : Type 0
Key = ℕ × (ℕ × ℕ)

abbrev pub key_of : EdgeRecord → Key
key_of edge = (from_bool edge.inward, ((if edge.inward then edge.other else 0), edge.ordinal))

abbrev pub key_cmp : Key → Key → Ordering
key_cmp one other = ordering_then (nat_cmp one.0 other.0) (ordering_then (nat_cmp one.1.0 other.1.0) (nat_cmp one.1.1 other.1.1))

abbrev pub record_for : List EdgeRecord → Key → Option EdgeRecord
record_for = item_of key_of key_cmp

-- with a record, in its place; it replaces one of the same key
abbrev pub with_record : EdgeRecord → List EdgeRecord → List EdgeRecord
with_record = with_item key_of key_cmp

-- without the record of a key, if there is one
abbrev pub without_record : Key → List EdgeRecord → List EdgeRecord
without_record key edges = filter (λ edge. not (eq_by_cmp key_cmp key (key_of edge))) edges
