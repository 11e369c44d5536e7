-- The words that a window begins with, and the view.
use Rattle.std.specs.Prelude.{◌≡◌, ℕ, zero, suc, ◌+◌, ◌-◌, ◌*◌, ◌^◌, [], ◌∷◌, map, None, ◌&&◌, nat_lt, nat_le, List, length, if◌then◌else◌}
use Rattle.std.specs.List.{range_with_len}
use Rattle.rma_layout.specs.declared.word.Word.{Word}
use Rattle.rma_layout.specs.declared.word.Word.TheVariants.{Lock, Length, FreeList, Stamp, Data, Head, Gate, Commit}
use Rattle.rma_layout.specs.Shape.{Shape, reserved_blocks, window_words}
use Rattle.rma_layout.specs.Placement.{Place}
use Rattle.free_list.specs.Heads.{head_of}
use Rattle.window_rule.specs.View.{View, HeadNote, spent}
use Rattle.rma_layout.specs.Words.{IsWord, word_in}

-- the block behind this one in the free list of its rank. They rise from the first that is not
-- reserved, and 0 ends the list
abbrev pub first_next : Shape → ℕ → ℕ
first_next shape block = if nat_le (reserved_blocks shape) block && nat_lt
    (block + 1) shape.blocks then block + 1 else 0

-- the first block of each rank that is not reserved, 0 if there is none
abbrev pub first_free : Shape → ℕ
first_free shape = if nat_lt (reserved_blocks shape) shape.blocks then reserved_blocks shape else 0

-- the head of each rank: a tag, and the first block that is not reserved, if there is one
abbrev pub first_head_word : Shape → ℕ → ℕ
first_head_word shape tag = head_of tag (first_free shape)

-- every word, where the heads have this tag
abbrev pub first_word_of : Shape → ℕ → Word → ℕ
first_word_of shape tag (Lock object) = 0
first_word_of shape tag (Length object) = 0
first_word_of shape tag (FreeList block) = first_next shape block.block
first_word_of shape tag (Stamp object) = 0
first_word_of shape tag (Data block i) = 0
first_word_of shape tag (Head rank) = first_head_word shape tag
first_word_of shape tag Gate = 0
first_word_of shape tag Commit = 0

-- the place of a block in the order of all blocks
abbrev pub order_of : Shape → Place → ℕ
order_of shape block = block.rank * shape.blocks + block.block

-- the heads of the ranks below this one are set, and so are the free-list words of the blocks that
-- come before a place in
-- the order of all blocks. Every other word is 0
abbrev pub set_so_far : Shape → ℕ → ℕ → ℕ → Word → ℕ
set_so_far shape tag heads blocks (Lock object) = 0
set_so_far shape tag heads blocks (Length object) = 0
set_so_far shape tag heads blocks (FreeList block) = if nat_lt
    (order_of shape block) blocks then first_next shape block.block else 0
set_so_far shape tag heads blocks (Stamp object) = 0
set_so_far shape tag heads blocks (Data block i) = 0
set_so_far shape tag heads blocks (Head rank) = if nat_lt rank heads then first_head_word shape tag else 0
set_so_far shape tag heads blocks Gate = 0
set_so_far shape tag heads blocks Commit = 0

-- these are the words of a window of this shape, and each is what is said of it
pub record AreWords (shape : Shape) (words : List ℕ) (said : Word → ℕ) : Type 0 where
  pub all : length words ≡ window_words shape
  pub each : (word : Word) → IsWord shape word → word_in shape words word ≡ said word

-- so many blocks of a rank, one behind the other
abbrev pub rising_blocks : ℕ → ℕ → ℕ → List Place
rising_blocks rank start zero = []
rising_blocks rank start (suc n) = record { rank = rank; block = start } ∷ rising_blocks rank
    (start + 1) n

-- the free list that a rank begins with: its blocks that are not reserved, rising
abbrev pub first_list : Shape → ℕ → List Place
first_list shape rank = rising_blocks rank (reserved_blocks shape)
    (shape.blocks - reserved_blocks shape)

abbrev pub first_note : Shape → ℕ → ℕ → HeadNote
first_note shape tag rank =
    record { rank = rank; head = first_head_word shape tag; next = None; list = first_list shape rank }

-- the view that a window begins with whose heads have this tag: it stands for every rank, knows every
-- free list, and has done nothing
abbrev pub first_view : {N : Type 0} → Shape → ℕ → View N
first_view shape tag = record spent {
  rights = range_with_len 0 shape.ranks;
  allowance = 2 ^ 62;
  notes = map (first_note shape tag) (range_with_len 0 shape.ranks);
  bounds = map (λ rank. (rank, tag)) (range_with_len 0 shape.ranks);
}
