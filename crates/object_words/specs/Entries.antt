-- The history of a window: what its transactions read and wrote, and when that is legal.
use Rattle.std.specs.Prelude.{◌≡◌, ℕ, ◌+◌, ◌≤◌, ◌<◌, Bool, true, List, [], ◌∷◌}
use Rattle.std.specs.List.{All}
use Rattle.rma_layout.specs.Shape.{Shape}
use Rattle.object_words.specs.Contents.{Contents, overlay, Agrees, IsByRisingObject}
use Rattle.object_words.specs.Blocks.{contents_use, contents_need}

-- one committed transaction that wrote
pub record Entry (N : Type 0) : Type 0 where
  -- the rank that made it
  pub rank : ℕ
  pub reads : Contents
  pub writes : Contents
  -- what it means to the layers above
  pub note : N

-- these contents after the entries
abbrev pub contents_after : {N : Type 0} → Contents → List (Entry N) → Contents
contents_after contents [] = contents
contents_after contents (one ∷ more) = contents_after (overlay contents one.writes) more

-- the store of a history, which begins empty
abbrev pub store_after : {N : Type 0} → List (Entry N) → Contents
store_after history = contents_after [] history

-- the blocks used and those that the writes need are no more than the rank has
abbrev pub HasBlocks : Shape → Contents → Contents → ℕ → Type 0
HasBlocks shape contents writes rank = contents_use shape contents rank + contents_need shape contents writes rank ≤ shape.blocks

abbrev pub HasBlocksOnEach : Shape → Contents → Contents → Type 0
HasBlocksOnEach shape contents writes = (rank : ℕ) → rank < shape.ranks → HasBlocks shape contents writes rank

-- a fact of each entry and of the store of the entries before it
abbrev pub EachEntry : {N : Type 0} → (Contents → Entry N → Type 0) → Contents → List (Entry N) → Type 0
EachEntry Holds contents [] = Unit {0}
EachEntry Holds contents (one ∷ more) = Holds contents one × EachEntry Holds (overlay contents one.writes) more

-- what an entry read and what it wrote are maps: each names an object once, in order
pub record HasMaps {N : Type 0} (entry : Entry N) : Type 0 where
  pub reads : IsByRisingObject entry.reads
  pub writes : IsByRisingObject entry.writes

-- what each entry read was there
abbrev pub ReadsAgree : {N : Type 0} → List (Entry N) → Type 0
ReadsAgree history = EachEntry (λ contents entry. Agrees entry.reads contents) [] history

-- each entry had the blocks that it needed
abbrev pub EntriesHadBlocks : {N : Type 0} → Shape → List (Entry N) → Type 0
EntriesHadBlocks shape history = EachEntry (λ contents entry. HasBlocksOnEach shape contents entry.writes) [] history

-- a history of entries each of which read what was there and, where blocks are counted, had the blocks that it needed
pub record IsLegalHistory {N : Type 0} (counts_blocks : Bool) (shape : Shape) (history : List (Entry N)) : Type 0 where
  pub maps : All HasMaps history
  pub reads : ReadsAgree history
  pub blocks : counts_blocks ≡ true → EntriesHadBlocks shape history
