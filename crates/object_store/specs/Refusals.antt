-- What each refusal of a store says. After each of them the transaction is aborted.
use Rattle.std.specs.Prelude.{◌≡◌, ℕ, ◌<◌, Bool, true, false, IsSome, Some, ◌⊎◌}
use Rattle.rma_layout.specs.Shape.{Shape}
use Rattle.rma_layout.specs.Placement.{Place}
use Rattle.object_words.specs.Contents.{Contents, words_at}
use Rattle.object_words.specs.Entries.{HasBlocks}
use Rattle.object_store.specs.declared.phase.Phase.TheVariants.{Reading}
use Rattle.object_store.specs.State.{StoreState, Said, names_nothing, names_object, names_rank, committed}
use Rattle.object_store.specs.Sound.{LosesTry}
use Rattle.object_store.specs.Calls.{made_so_far, Aborts}

-- the least rank on which the writes need more blocks than are left
pub record IsFirstWithoutBlocks (shape : Shape) (contents writes : Contents) (rank : ℕ) : Type 0 where
  pub within : rank < shape.ranks
  pub without : HasBlocks shape contents writes rank → ⊥
  pub first : (other : ℕ) → other < rank → HasBlocks shape contents writes other

module _ {N : Type 0} where
  -- a passing refusal comes only in a transaction that doesn't write
  abbrev pub OnlyReadPasses : StoreState N → StoreState N → Said → Type 0
  OnlyReadPasses old new said = said.passing ≡ true → (old.phase ≡ Reading) × LosesTry old new

  pub record RefusesBegin (writes : Bool) (old new : StoreState N) (said : Said) : Type 0 where
    pub aborted : Aborts old new
    pub names : said.names ≡ names_nothing
    -- it takes no memory, and a store that tells its most never refuses it
    pub memory : said.for_memory ≡ false
    pub told : IsSome old.most → ⊥
    pub passing : said.passing ≡ true → (writes ≡ false) × LosesTry old new

  -- of a read or a write
  pub record RefusesAccess (object : Place) (old new : StoreState N) (said : Said) : Type 0 where
    pub aborted : Aborts old new
    -- the object, or one that was read
    pub names : (said.names ≡ names_nothing) ⊎ (said.names ≡ names_object object)
        ⊎ ((read : Place) × (said.names ≡ names_object read) × IsSome (words_at old.reads read))
    -- a store that tells its most is refused for memory, or in passing
    pub told : IsSome old.most → (said.for_memory ≡ true) ⊎ (said.passing ≡ true)
    pub passing : OnlyReadPasses old new said

  pub record RefusesFresh (home : ℕ) (old new : StoreState N) (said : Said) : Type 0 where
    pub aborted : Aborts old new
    -- the home rank, or an object of it
    pub names : (said.names ≡ names_nothing) ⊎ (said.names ≡ names_rank home)
        ⊎ ((object : Place) × (said.names ≡ names_object object) × (object.rank ≡ home))
    pub told : IsSome old.most → (said.for_memory ≡ true) ⊎ (said.names ≡ names_rank home)
    -- by the rank's name only where as many objects are made as the store tells
    pub full : (most : ℕ → ℕ) → old.most ≡ Some most → said.names ≡ names_rank home → made_so_far old home ≡ most home
    pub passing : said.passing ≡ false

  pub record RefusesCommit (old new : StoreState N) (said : Said) : Type 0 where
    pub aborted : Aborts old new
    pub names : (said.names ≡ names_nothing) ⊎ ((rank : ℕ) × (said.names ≡ names_rank rank))
    -- a store that tells its most is refused for memory, or, if it is strict, by the name of the first rank without blocks
    pub told : IsSome old.most → (said.for_memory ≡ true)
        ⊎ ((old.strict ≡ true) × ((rank : ℕ) × (said.names ≡ names_rank rank)
        × IsFirstWithoutBlocks old.shape (committed old) old.writes rank))
    pub passing : said.passing ≡ false
