-- What a call that does its work by several calls of a store says of the whole: one fact for each of its ends.
use Rattle.std.specs.Prelude.{◌≡◌, ℕ, true, false, IsSome, Some, ◌⊎◌, Result, OnOk, IfErr}
use Rattle.rma_layout.specs.Shape.{Shape}
use Rattle.rma_layout.specs.Placement.{Place}
use Rattle.object_words.specs.Contents.{words_at}
use Rattle.object_words.specs.Entries.{Entry}
use Rattle.object_store.specs.State.{StoreState, Said, names_nothing, names_object, names_rank}
use Rattle.object_store.specs.Sound.{Continues, StaysExplained, StaysBegun}
use Rattle.object_store.specs.Calls.{made_so_far, Aborts}
use Rattle.object_store.specs.Refusals.{OnlyReadPasses}

-- the one object that a call reaches
abbrev pub At : Place → Shape → Place → Type 0
At object shape place = place ≡ object

-- the one home rank on which it makes an object
abbrev pub On : ℕ → Shape → ℕ → Type 0
On home shape rank = rank ≡ home

-- the home ranks of a call that makes none
abbrev pub Nowhere : Shape → ℕ → Type 0
Nowhere shape rank = ⊥

module _ {N : Type 0} where
  -- the transaction has written nothing more
  pub record Looks (old new : StoreState N) : Type 0 where
    pub stays : StaysBegun old new
    pub writes : new.writes ≡ old.writes

  -- it has read and written no objects but those that are told, and made objects on no ranks but those that are told
  pub record Reaches (Reached : Place → Type 0) (Makes : ℕ → Type 0) (old new : StoreState N) : Type 0 where
    pub stays : StaysBegun old new
    pub reads : (object : Place) → Reached object ⊎ (words_at new.reads object ≡ words_at old.reads object)
    pub writes : (object : Place) → Reached object ⊎ (words_at new.writes object ≡ words_at old.writes object)
    -- where the store tells its most
    pub made : IsSome old.most → (rank : ℕ) → Makes rank ⊎ (made_so_far new rank ≡ made_so_far old rank)

  -- the refusal of such a call
  pub record RefusesReach (Reached : Place → Type 0) (Makes : ℕ → Type 0) (old new : StoreState N) (said : Said) : Type 0 where
    pub aborted : Aborts old new
    -- nothing, an object that the call may reach, one that was read, one of a rank on which it makes one, or such a rank
    pub names : (said.names ≡ names_nothing)
        ⊎ ((object : Place) × (said.names ≡ names_object object)
        × (Reached object ⊎ IsSome (words_at old.reads object) ⊎ Makes object.rank))
        ⊎ ((rank : ℕ) × (said.names ≡ names_rank rank) × Makes rank)
    pub told : IsSome old.most → (said.for_memory ≡ true) ⊎ (said.passing ≡ true)
        ⊎ ((rank : ℕ) × (said.names ≡ names_rank rank) × Makes rank)
    -- by a rank's name only where as many objects are made as the store tells
    pub full : (most : ℕ → ℕ) (rank : ℕ) → old.most ≡ Some most → said.names ≡ names_rank rank
        → made_so_far old rank ≡ most rank
    pub passing : OnlyReadPasses old new said

module _ {N S E : Type 0} (fits : Shape → Entry N → Type 0) (state : S → StoreState N) (explains : S → S → E → Type 0) where
  -- of a call that was not refused
  pub record Went (Reached : Shape → Place → Type 0) (Makes : Shape → ℕ → Type 0) (old new : S) : Type 0 where
    pub keeps : Continues fits (state old) (state new)
    pub reaches : Reaches (Reached (state old).shape) (Makes (state old).shape) (state old) (state new)
    pub explained_still : StaysExplained explains old new

  module _ (says : E → Said) where
    -- of a call that was refused
    pub record Fell (Reached : Shape → Place → Type 0) (Makes : Shape → ℕ → Type 0) (old new : S) (why : E) : Type 0 where
      pub keeps : Continues fits (state old) (state new)
      pub refused : RefusesReach (Reached (state old).shape) (Makes (state old).shape) (state old) (state new) (says why)
      pub explained : explains old new why
      pub explained_still : StaysExplained explains old new

    -- of a call that found no memory itself
    pub record GaveUp (old new : S) (why : E) : Type 0 where
      pub keeps : Continues fits (state old) (state new)
      pub aborted : Aborts (state old) (state new)
      pub memory : (says why).for_memory ≡ true
      pub nothing : (says why).names ≡ names_nothing
      pub lasting : (says why).passing ≡ false
      pub explained : explains old new why
      pub explained_still : StaysExplained explains old new

    -- of either end
    pub record Works {T : Type 0} (Reached : Shape → Place → Type 0) (Makes : Shape → ℕ → Type 0)
        (old new : S) (result : Result T E) : Type 0 where
      pub went : OnOk result (Went Reached Makes old new)
      pub fell : IfErr result (λ why. Fell Reached Makes old new why)
