-- What each call of a store needs, and what it does where it isn't refused.
use Rattle.std.specs.Prelude.{◌≡◌, ◌≢◌, ℕ, ◌+◌, ◌<◌, ◌≤◌, Bool, true, List, [], ◌∷◌, ◌++◌, length, Some, None, IsSome, is_some, ◌⊎◌, if◌then◌else◌, slice_get}
use Rattle.std.specs.Option.{unwrap_or}
use Rattle.rma_layout.specs.Placement.{Place, IsBlock, IsReserved}
use Rattle.object_words.specs.Contents.{Contents, words_at, content_of, with_words, Agrees}
use Rattle.object_words.specs.Blocks.{made_objects}
use Rattle.object_words.specs.Entries.{HasBlocksOnEach}
use Rattle.object_store.specs.State.{StoreState, begun, committed, next_entry}
use Rattle.object_store.specs.Sound.{KeepsCommits, IsEnded, StaysBegun}

module _ {N : Type 0} where
  -- the transaction may write the object: it is reserved, or it was made or written already, or it was read and found not empty
  abbrev pub MayWrite : StoreState N → Place → Type 0
  MayWrite state object = IsReserved state.shape object.block ⊎ IsSome (words_at state.writes object) ⊎ (content_of state.reads object ≢ [])

  -- what the transaction finds in an object: its own last write, else the committed words
  abbrev pub found_in : StoreState N → StoreState N → Place → List ℕ
  found_in old new object = unwrap_or (words_at old.writes object) (content_of (committed new) object)

  -- what was read with the object, unless the transaction found its own write
  abbrev pub reads_with : StoreState N → Place → List ℕ → Contents
  reads_with state object words = if is_some (words_at state.writes object) then state.reads else with_words state.reads object words

  -- as many objects as the writes made on a rank so far
  abbrev pub made_so_far : StoreState N → ℕ → ℕ
  made_so_far state rank = made_objects state.shape (committed state) state.writes rank

  -- a bound on the objects that are made, where the store tells it
  abbrev pub MayMakeMore : StoreState N → ℕ → Type 0
  MayMakeMore state rank = (most : ℕ → ℕ) → state.most ≡ Some most → made_so_far state rank < most rank

  pub record Begins (writes : Bool) (old new : StoreState N) : Type 0 where
    pub phase : new.phase ≡ begun writes
    pub read_nothing : new.reads ≡ []
    pub wrote_nothing : new.writes ≡ []
    pub commits : KeepsCommits old new
    pub most : new.most ≡ old.most
    pub strict : new.strict ≡ old.strict
    pub tries : new.tries ≡ old.tries

  pub record ReadsObject (object : Place) (old new : StoreState N) (words : List ℕ) : Type 0 where
    pub found : words ≡ found_in old new object
    pub reads : new.reads ≡ reads_with old object words
    pub writes : new.writes ≡ old.writes
    pub stays : StaysBegun old new

  pub record WritesObject (object : Place) (words : List ℕ) (old new : StoreState N) : Type 0 where
    pub reads : new.reads ≡ old.reads
    pub writes : new.writes ≡ with_words old.writes object words
    pub stays : StaysBegun old new

  pub record MakesObject (home : ℕ) (old new : StoreState N) (object : Place) : Type 0 where
    pub rank : object.rank ≡ home
    pub block : IsBlock old.shape object
    pub unreserved : IsReserved old.shape object.block → ⊥
    -- it is empty, and this transaction has not made it before
    pub empty : content_of (committed new) object ≡ []
    pub unwritten : words_at old.writes object ≡ None
    pub reads : new.reads ≡ with_words old.reads object []
    pub writes : new.writes ≡ with_words old.writes object []
    pub stays : StaysBegun old new
    -- where the store tells its most, fewer objects were made so far
    pub most : MayMakeMore old home

  pub record Commits (note : N) (old new : StoreState N) (number : ℕ) : Type 0 where
    -- just this entry was placed, behind all that was seen, as the last one
    pub entry : slice_get new.seen number ≡ Some (next_entry old note)
    pub behind : length old.seen ≤ number
    pub last : length new.seen ≡ number + 1
    pub own : new.own ≡ old.own ++ number ∷ []
    pub allowance : new.allowance + 1 ≡ old.allowance
    pub ended : IsEnded new
    -- a strict store that tells its most commits only where each rank has the blocks
    pub blocks : IsSome old.most → old.strict ≡ true → HasBlocksOnEach old.shape (committed old) old.writes

  pub record Finishes (old new : StoreState N) (place : ℕ) : Type 0 where
    -- at this place all reads hold
    pub whole : length new.seen ≡ place
    pub agrees : Agrees old.reads (committed new)
    pub commits : KeepsCommits old new
    pub ended : IsEnded new

  pub record Aborts (old new : StoreState N) : Type 0 where
    pub commits : KeepsCommits old new
    pub ended : IsEnded new
