-- What a store is to the layers above: where its transaction stands, and the history that it has seen.
use Rattle.std.specs.Prelude.{ℕ, ◌<◌, min, Bool, List, [], ◌∷◌, Option, if◌then◌else◌}
use Rattle.std.specs.List.{Contains}
use Rattle.rma_layout.specs.Shape.{Shape}
use Rattle.rma_layout.specs.Placement.{Place}
use Rattle.atomic_table.specs.Seated.{TableId}
use Rattle.object_words.specs.Contents.{Contents}
use Rattle.object_words.specs.Entries.{Entry, store_after}
use Rattle.object_store.specs.declared.phase.Phase.{Phase}
use Rattle.object_store.specs.declared.phase.Phase.TheVariants.{Reading, Writing}

-- what a refusal names
pub data Named : Type 0 where
  names_nothing : Named
  names_object : Place → Named
  names_rank : ℕ → Named

-- what a refusal says of itself
pub record Said : Type 0 where
  pub names : Named
  -- no memory was found
  pub for_memory : Bool
  -- the transaction only read, and another try of it may go well
  pub passing : Bool

-- the version of an object was another one than before
pub record Change : Type 0 where
  pub object : Place
  pub before : ℕ
  pub after : ℕ

-- what a store stands on, which never changes: a table of words, and ranks that it stands for
pub record Base : Type 0 where
  pub table : TableId
  pub rights : List ℕ

pub record StoreState (N : Type 0) : Type 0 where
  pub shape : Shape
  pub base : Base
  pub phase : Phase
  -- what the transaction has read, and what it has written
  pub reads : Contents
  pub writes : Contents
  -- the history up to some commit, and the numbers of the store's own entries in it
  pub seen : List (Entry N)
  pub own : List ℕ
  -- how many commits are left
  pub allowance : ℕ
  -- whether no block is kept as a spare
  pub clean : Bool
  -- how many objects of a rank a transaction may make, where the store tells it
  pub most : Option (ℕ → ℕ)
  -- whether a commit is refused just where a rank has too few blocks
  pub strict : Bool
  -- whether the history's entries had the blocks that they needed
  pub counts_blocks : Bool
  -- how many more tries a transaction that only reads has without a lock
  pub tries : ℕ
  -- how many times a lock was tried for
  pub takes : ℕ
  -- what changed under transactions that had no lock
  pub changes : List Change

-- a transaction that was just begun
abbrev pub begun : Bool → Phase
begun writes = if writes then Writing else Reading

abbrev pub least_from : ℕ → List ℕ → ℕ
least_from rank [] = rank
least_from rank (other ∷ more) = least_from (min rank other) more

-- the least of these ranks
abbrev pub least_right : List ℕ → ℕ
least_right [] = 0
least_right (rank ∷ more) = least_from rank more

module _ {N : Type 0} where
  -- the store stands for every rank
  abbrev pub HasEveryRight : StoreState N → Type 0
  HasEveryRight state = (rank : ℕ) → rank < state.shape.ranks → Contains state.base.rights rank

  -- the contents after all that was seen
  abbrev pub committed : StoreState N → Contents
  committed state = store_after state.seen

  -- the entry that the transaction makes if it commits now
  abbrev pub next_entry : StoreState N → N → Entry N
  next_entry state note = record { rank = least_right state.base.rights; reads = state.reads; writes = state.writes; note = note }
