-- The head word of a rank's free list: a tag, and the number of the first block. Block 0 is never
-- free, so a 0 there says that the list is empty.
use Rattle.std.specs.Prelude.{ℕ, ◌+◌, ◌*◌, ◌/◌, ◌%◌, ◌^◌}

-- the number of the first block
abbrev pub first_of : ℕ → ℕ
first_of head = head % 2 ^ 20

-- the tag, which is one higher after each exchange
abbrev pub tag_of : ℕ → ℕ
tag_of head = head / 2 ^ 20

-- the head with this tag, of a list that begins with this block of its rank
abbrev pub head_of : ℕ → ℕ → ℕ
head_of tag block = tag * 2 ^ 20 + block

-- the head that an exchange puts in place of this one
abbrev pub next_head : ℕ → ℕ → ℕ
next_head head block = head_of (tag_of head + 1) block
