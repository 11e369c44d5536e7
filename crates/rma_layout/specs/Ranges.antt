-- Which shapes a window may have, and why others are refused.
use Rattle.std.specs.Prelude.{ℕ, ◌≤◌, Bool, not, ◌&&◌, nat_le, Option, Some, None, if◌then◌else◌}
use Rattle.rma_layout.specs.declared.geometry.BadGeometry.{BadGeometry}
use Rattle.rma_layout.specs.declared.geometry.BadGeometry.TheVariants.{TooManyRanks, BadBlocks, BadWords, BadBuckets, BadSlots, TooManyWords}
use Rattle.rma_layout.specs.Shape.{Shape, reserved_blocks, window_words}

-- from low to high
abbrev pub is_between : ℕ → ℕ → ℕ → Bool
is_between low high n = nat_le low n && nat_le n high

-- the first refusal that applies, if one does
abbrev pub refusal_of : Shape → Option BadGeometry
refusal_of shape =
    if not (is_between 1 64 shape.ranks) then Some TooManyRanks
    else (if not (is_between 8 64 shape.words) then Some BadWords
    else (if not (is_between 1 4096 shape.buckets) then Some BadBuckets
    else (if not (is_between 1 64 shape.slots) then Some BadSlots
    else (if not (is_between (reserved_blocks shape) 1048575 shape.blocks) then Some BadBlocks
    else (if not (nat_le (window_words shape) 67108864) then Some TooManyWords
    else None)))))

-- the same ranges as facts: a shape keeps them exactly where it isn't refused
pub record IsInRange (shape : Shape) : Type 0 where
  pub ranks : (1 ≤ shape.ranks) × (shape.ranks ≤ 64)
  pub blocks : (reserved_blocks shape ≤ shape.blocks) × (shape.blocks ≤ 1048575)
  pub words : (8 ≤ shape.words) × (shape.words ≤ 64)
  pub buckets : (1 ≤ shape.buckets) × (shape.buckets ≤ 4096)
  pub slots : (1 ≤ shape.slots) × (shape.slots ≤ 64)
  pub total : window_words shape ≤ 67108864
