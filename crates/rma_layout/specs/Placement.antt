-- Where things are: on which rank, and in which block there.
use Rattle.std.specs.Prelude.{ℕ, ◌+◌, ◌*◌, ◌/◌, ◌%◌, ◌^◌, ◌<◌, Bool, ◌&&◌, ◌==◌}
use Rattle.rma_layout.specs.Shape.{Shape, reserved_blocks}

-- a block, which is an object's first one where it names the object
pub record Place : Type 0 where
  pub rank : ℕ
  pub block : ℕ

abbrev pub same_place : Place → Place → Bool
same_place p q = p.rank == q.rank && p.block == q.block

-- the one word that names a place
abbrev pub raw_of : Place → ℕ
raw_of place = place.rank * 2 ^ 48 + place.block

-- a place that one word can name
abbrev pub FitsOneWord : Place → Type 0
FitsOneWord place = (place.rank < 2 ^ 16) × (place.block < 2 ^ 48)

-- a block of a window of this shape
abbrev pub IsBlock : Shape → Place → Type 0
IsBlock shape place = (place.rank < shape.ranks) × (place.block < shape.blocks)

-- the rank of a vertex
abbrev pub home_of : Shape → ℕ → ℕ
home_of shape id = id % shape.ranks

-- the object that leads from a vertex's identifier to its object
abbrev pub bucket_of : Shape → ℕ → Place
bucket_of shape id = record { rank = home_of shape id; block = 1 + (id / shape.ranks) % shape.buckets }

-- the object of the index that keeps this label of this vertex
abbrev pub slot_of : Shape → ℕ → ℕ → Place
slot_of shape label id = record { rank = home_of shape id; block = 1 + shape.buckets + (label + id / shape.ranks) % shape.slots }

-- the object of the names of labels and types
abbrev pub metadata : Place
metadata = record { rank = 0; block = 0 }

-- a block that is always with its own object: block 0, then the buckets, then the index
abbrev pub IsReserved : Shape → ℕ → Type 0
IsReserved shape block = block < reserved_blocks shape
