-- The words of a window as a function of which word is meant. What is no word of the window counts
-- as 0.
use Rattle.std.specs.Prelude.{ℕ, ◌==◌, ◌&&◌, Bool, true, false, nat_lt, List, if◌then◌else◌}
use Rattle.rma_layout.specs.declared.word.Word.{Word}
use Rattle.rma_layout.specs.declared.word.Word.TheVariants.{Lock, Length, FreeList, Stamp, Data, Head, Gate, Commit}
use Rattle.rma_layout.specs.Shape.{Shape}
use Rattle.rma_layout.specs.Placement.{Place, same_place}
use Rattle.rma_layout.specs.Words.{word_in}

abbrev pub Words : Type 0
Words = Word → ℕ

abbrev pub is_block : Shape → Place → Bool
is_block shape place = nat_lt place.rank shape.ranks && nat_lt place.block shape.blocks

abbrev pub is_word : Shape → Word → Bool
is_word shape (Lock place) = is_block shape place
is_word shape (Length place) = is_block shape place
is_word shape (FreeList place) = is_block shape place
is_word shape (Stamp place) = is_block shape place
is_word shape (Data place i) = is_block shape place && nat_lt i shape.words
is_word shape (Head rank) = nat_lt rank shape.ranks
is_word shape Gate = true
is_word shape Commit = true

abbrev pub words_in : Shape → List ℕ → Words
words_in shape words word = if is_word shape word then word_in shape words word else 0

abbrev pub same_word : Word → Word → Bool
same_word (Lock p) (Lock q) = same_place p q
same_word (Length p) (Length q) = same_place p q
same_word (FreeList p) (FreeList q) = same_place p q
same_word (Stamp p) (Stamp q) = same_place p q
same_word (Data p i) (Data q j) = same_place p q && i == j
same_word (Head r) (Head s) = r == s
same_word Gate Gate = true
same_word Commit Commit = true
same_word one other = false

-- one word is changed
abbrev pub with_word : Words → Word → ℕ → Words
with_word words word new other = if same_word other word then new else words other

-- The words of each kind. A part of the invariant takes those that it reads, so a change of another
-- word leaves it as it is.
abbrev pub locks_in : Words → Place → ℕ
locks_in words object = words (Lock object)

abbrev pub sizes_in : Words → Place → ℕ
sizes_in words object = words (Length object)

abbrev pub nexts_in : Words → Place → ℕ
nexts_in words block = words (FreeList block)

abbrev pub stamps_in : Words → Place → ℕ
stamps_in words object = words (Stamp object)

abbrev pub data_in : Words → Place → ℕ → ℕ
data_in words block i = words (Data block i)

abbrev pub heads_in : Words → ℕ → ℕ
heads_in words rank = words (Head rank)
