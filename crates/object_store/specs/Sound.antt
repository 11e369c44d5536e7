-- What holds of a store at every moment, and what every call keeps.
use Rattle.std.specs.Prelude.{◌≡◌, ◌≢◌, ℕ, ◌+◌, ◌<◌, ◌≤◌, true, List, [], ◌∷◌, ◌++◌, length, ◌⊎◌, Some, IsSome}
use Rattle.std.specs.List.{All, range_with_len}
use mathlib.Core.List.{IsPrefix}
use Rattle.rma_layout.specs.Shape.{Shape}
use Rattle.rma_layout.specs.Placement.{Place}
use Rattle.object_words.specs.Contents.{Agrees, IsByRisingObject, words_at}
use Rattle.object_words.specs.Entries.{Entry, IsLegalHistory}
use Rattle.object_store.specs.declared.phase.Phase.TheVariants.{Idle, Reading, Writing}
use Rattle.object_store.specs.State.{StoreState, Change, HasEveryRight, committed}

pub record IsSound {N : Type 0} (fits : Shape → Entry N → Type 0) (state : StoreState N) : Type 0 where
  -- what was seen is a legal list of fitting entries
  pub legal : IsLegalHistory state.counts_blocks state.shape state.seen
  pub fit : All (fits state.shape) state.seen
  -- what the transaction has read agrees with what was seen
  pub agrees : Agrees state.reads (committed state)
  -- each object is listed once among what was read, and once among what was written
  pub reads_in_order : IsByRisingObject state.reads
  pub writes_in_order : IsByRisingObject state.writes
  -- without a transaction nothing is read and nothing written
  pub idle_reads : state.phase ≡ Idle → state.reads ≡ []
  pub idle_writes : state.phase ≡ Idle → state.writes ≡ []
  -- a store that stands for every rank made every entry
  pub own : HasEveryRight state → state.own ≡ range_with_len 0 (length state.seen)

-- what every call keeps, whether it is refused or not
pub record Continues {N : Type 0} (fits : Shape → Entry N → Type 0) (old new : StoreState N) : Type 0 where
  pub shape : new.shape ≡ old.shape
  pub base : new.base ≡ old.base
  pub counts_blocks : new.counts_blocks ≡ old.counts_blocks
  -- what was seen goes on, and so does what changed
  pub seen : IsPrefix old.seen new.seen
  pub changes : IsPrefix old.changes new.changes
  -- no spare is kept, unless a writing transaction of a store that doesn't tell its most
  pub clean : IsSome old.most ⊎ (old.phase ≢ Writing) → old.clean ≡ true → new.clean ≡ true
  -- locks are tried for more and more often, and by a transaction that only reads not while it has tries left
  pub takes : old.takes ≤ new.takes
  pub lock_free : old.phase ≡ Reading → 0 < old.tries → new.takes ≡ old.takes
  pub sound : IsSound fits new

-- a refusal stays explained by stores before and after, whatever calls come before and after
pub record StaysExplained {S R : Type 0} (explains : S → S → R → Type 0) (old new : S) : Type 0 where
  pub later : (first : S) (why : R) → explains first old why → explains first new why
  pub earlier : (last : S) (why : R) → explains new last why → explains old last why

-- only a commit changes these
pub record KeepsCommits {N : Type 0} (old new : StoreState N) : Type 0 where
  pub own : new.own ≡ old.own
  pub allowance : new.allowance ≡ old.allowance
  -- where the store tells its most
  pub seen : IsSome old.most → new.seen ≡ old.seen

-- there is no transaction any more
pub record IsEnded {N : Type 0} (new : StoreState N) : Type 0 where
  pub phase : new.phase ≡ Idle
  pub reads : new.reads ≡ []
  pub writes : new.writes ≡ []

-- the transaction is begun as it was, with all that it may do, and what was read stays read
pub record StaysBegun {N : Type 0} (old new : StoreState N) : Type 0 where
  pub shape : new.shape ≡ old.shape
  pub phase : new.phase ≡ old.phase
  pub commits : KeepsCommits old new
  pub most : new.most ≡ old.most
  pub strict : new.strict ≡ old.strict
  pub tries : new.tries ≡ old.tries
  pub changes : new.changes ≡ old.changes
  pub reads : (object : Place) (words : List ℕ) → words_at old.reads object ≡ Some words
      → words_at new.reads object ≡ Some words

-- a try is lost, since something changed
pub record LosesTry {N : Type 0} (old new : StoreState N) : Type 0 where
  pub tries : new.tries + 1 ≡ old.tries
  pub change : Change
  pub changes : new.changes ≡ old.changes ++ change ∷ []
