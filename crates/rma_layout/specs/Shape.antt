-- How large a window is.
use Rattle.std.specs.Prelude.{ℕ, ◌+◌, ◌*◌}

pub record Shape : Type 0 where
  pub ranks : ℕ
  -- blocks of each rank
  pub blocks : ℕ
  -- words of each block
  pub words : ℕ
  -- bucket objects of each rank
  pub buckets : ℕ
  -- index objects of each rank
  pub slots : ℕ

-- 4 ranks of 16,384 blocks of 16 words
abbrev pub standard_shape : Shape
standard_shape = record { ranks = 4; blocks = 16384; words = 16; buckets = 64; slots = 16 }

-- the blocks of a rank that are kept for the metadata, the buckets and the index
abbrev pub reserved_blocks : Shape → ℕ
reserved_blocks shape = 1 + shape.buckets + shape.slots

-- every word of the window: each block has 4 words besides its own, each rank a head, and there are the gate and the commit word
abbrev pub window_words : Shape → ℕ
window_words shape = shape.ranks * shape.blocks * (shape.words + 4) + shape.ranks + 2
