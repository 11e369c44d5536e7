-- The words of a window, and the number of each.
use Rattle.std.specs.Prelude.{ℕ, ◌+◌, ◌*◌, ◌<◌, List, slice_index}
use Rattle.rma_layout.specs.declared.word.Word.{Word}
use Rattle.rma_layout.specs.declared.word.Word.TheVariants.{Lock, Length, FreeList, Stamp, Data, Head, Gate, Commit}
use Rattle.rma_layout.specs.Shape.{Shape}
use Rattle.rma_layout.specs.Placement.{Place, IsBlock}

-- a word that a window of this shape has
abbrev pub IsWord : Shape → Word → Type 0
IsWord shape (Lock place) = IsBlock shape place
IsWord shape (Length place) = IsBlock shape place
IsWord shape (FreeList place) = IsBlock shape place
IsWord shape (Stamp place) = IsBlock shape place
IsWord shape (Data place i) = IsBlock shape place × (i < shape.words)
IsWord shape (Head rank) = rank < shape.ranks
IsWord shape Gate = Unit {0}
IsWord shape Commit = Unit {0}

-- the words of a block stand side by side, the blocks in the order of their ranks
abbrev pub first_word : Shape → Place → ℕ
first_word shape place = (place.rank * shape.blocks + place.block) * (shape.words + 4)

-- behind all blocks
abbrev pub first_head : Shape → ℕ
first_head shape = shape.ranks * shape.blocks * (shape.words + 4)

abbrev pub number_of : Shape → Word → ℕ
number_of shape (Lock place) = first_word shape place
number_of shape (Length place) = first_word shape place + 1
number_of shape (FreeList place) = first_word shape place + 2
number_of shape (Stamp place) = first_word shape place + 3
number_of shape (Data place i) = first_word shape place + 4 + i
number_of shape (Head rank) = first_head shape + rank
number_of shape Gate = first_head shape + shape.ranks
number_of shape Commit = first_head shape + shape.ranks + 1

-- what a word holds, in the list of all words of a window
abbrev pub word_in : Shape → List ℕ → Word → ℕ
word_in shape words word = slice_index words (number_of shape word)
