-- The records of edges at a vertex.
use Rattle.std.specs.Prelude.{ℕ, ◌+◌, ◌*◌, ◌^◌, ◌<◌, Bool, ◌&&◌, ◌||◌, List, [], ◌∷◌, nat_lt, ◌==◌, if◌then◌else◌}
use Rattle.std.specs.Int.{from_bool}
use Rattle.rma_layout.specs.Placement.{raw_of, FitsOneWord}
use Rattle.holder_codec.specs.declared.edge_form.EdgeForm.{EdgeForm}
use Rattle.holder_codec.specs.declared.edge_form.EdgeForm.TheVariants.{Plain, Labelled, Heavy}
use Rattle.holder_codec.specs.declared.edge_record.EdgeRecord.{EdgeRecord}

-- no label, a label, or the object that holds the edge
abbrev pub form_word : EdgeForm → ℕ
form_word Plain = 0
form_word (Labelled label) = label + 1
form_word (Heavy at) = 2 ^ 63 + raw_of at

abbrev pub FormFits : EdgeForm → Type 0
FormFits Plain = Unit {0}
FormFits (Labelled label) = label < 2 ^ 32
FormFits (Heavy at) = (at.rank < 2 ^ 15) × (at.block < 2 ^ 48)

-- 1 for an edge to the vertex, and 2 more for an undirected one
abbrev pub direction_word : EdgeRecord → ℕ
direction_word edge = from_bool edge.inward + 2 * from_bool edge.undirected

-- the direction, the ordinal, the vertex at the other end with its object, and the form
abbrev pub record_words : EdgeRecord → List ℕ
record_words edge = direction_word edge ∷ edge.ordinal ∷ edge.other ∷ raw_of edge.other_at ∷ form_word edge.form ∷ []

-- first the edges whose source the vertex is, by ordinal, then those whose target it is, by source and ordinal
abbrev pub is_record_before : EdgeRecord → EdgeRecord → Bool
is_record_before one other =
    if one.inward then other.inward && (nat_lt one.other other.other || (one.other == other.other && nat_lt one.ordinal other.ordinal))
    else other.inward || nat_lt one.ordinal other.ordinal

-- what has a spelling
pub record RecordFits (edge : EdgeRecord) : Type 0 where
  pub ordinal : edge.ordinal < 2 ^ 64
  pub other : edge.other < 2 ^ 64
  pub other_at : FitsOneWord edge.other_at
  pub form : FormFits edge.form
