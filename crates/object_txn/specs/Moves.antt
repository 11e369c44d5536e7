-- What the parts of a call make of a view and of a transaction.
use Rattle.std.specs.Prelude.{◌≡◌, ◌≢◌, ℕ, ◌+◌, ◌<◌, ◌≤◌, ◌⊎◌, List, [], ◌∷◌, ◌++◌, Some, None, is_some, if◌then◌else◌}
use Rattle.rma_layout.specs.Shape.{Shape}
use Rattle.rma_layout.specs.Placement.{Place}
use Rattle.object_words.specs.Contents.{content_of, with_words, words_at}
use Rattle.window_rule.specs.View.{View, Marked, Locks}
use Rattle.window_rule.specs.Known.{known_of}
use Rattle.window_rule.specs.Locks.{hold_of}
use Rattle.window_rule.specs.Partition.{places_of, times}
use Rattle.window_rule.specs.Pool.{MayBeFree}
use Rattle.object_store.specs.State.{Named, names_nothing, names_object, names_rank}
use Rattle.object_txn.specs.declared.txn.Txn.{Txn}
use Rattle.object_txn.specs.Tied.{words_in}

-- how an object is held is as before, or it wasn't held, or it is marked
abbrev pub HeldAsBefore : Locks → Locks → Place → Type 0
HeldAsBefore old new object = (hold_of new object ≡ hold_of old object)
    ⊎ (hold_of old object ≡ None) ⊎ (hold_of new object ≡ Some Marked)

-- an object was locked, or was tried to: nothing but its lock, what is known of it, and what stood in
-- the way has changed
pub record Locked {N : Type 0} (object : Place) (before after : View N) (old new : Locks) : Type 0 where
  pub view : after ≡ record before {
    locks = after.locks;
    known = after.known;
    refusals = after.refusals;
    takes = after.takes;
  }
  -- what was known of it is forgotten only where it wasn't held
  pub known : (other : Place) → (other ≢ object) ⊎ (hold_of old object ≢ None)
      → known_of after.known other ≡ known_of before.known other
  pub others : (other : Place) → other ≢ object → hold_of new other ≡ hold_of old other
  pub here : HeldAsBefore old new object

-- an object was read: its words are the transaction's own last write, else what the view knows
pub record Reads {N : Type 0} (object : Place) (after : View N) (old new : Txn) (words : List ℕ)
    : Type 0 where
  pub found : Some words ≡ (if is_some
      (words_at old.writes object) then words_at old.writes object else words_in
      (known_of after.known object))
  pub reads : new.reads ≡ (if is_some
      (words_at old.writes object) then old.reads else with_words old.reads object words)
  -- what was read stays read
  pub stay : (other : Place) (was : List ℕ) → words_at old.reads other ≡ Some was
      → words_at new.reads other ≡ Some was

-- a refusal names nothing, or this rank
abbrev pub NamesRank : ℕ → Named → Type 0
NamesRank rank names = (names ≡ names_nothing) ⊎ (names ≡ names_rank rank)

-- a refusal names nothing, the home rank, or an object of it
abbrev pub NamesHome : ℕ → Named → Type 0
NamesHome home names = (names ≡ names_nothing) ⊎ (names ≡ names_rank home)
    ⊎ ((object : Place) × (names ≡ names_object object) × (object.rank ≡ home))

-- a block was taken that wasn't noted: it is the rank's own, and may be free
pub record Takes {N : Type 0} (shape : Shape) (home : ℕ) (block : Place) (after : View N)
    (old new : List Place) : Type 0 where
  pub free : MayBeFree shape home block
  pub own : 0 < times block (places_of after.private)
  pub noted : new ≡ old ++ block ∷ []
  pub unnoted : times block old ≡ 0

-- an object was made: it is an unreserved block of the home rank, which the view knows to be empty and
-- the transaction hadn't written
pub record Makes {N : Type 0} (shape : Shape) (home : ℕ) (after : View N) (old new : Txn)
    (made : Place) : Type 0 where
  pub free : MayBeFree shape home made
  pub known : words_in (known_of after.known made) ≡ Some []
  pub unwritten : words_at old.writes made ≡ None
  pub unread : content_of old.reads made ≡ []
  pub reads : new.reads ≡ with_words old.reads made []
  pub writes : new.writes ≡ with_words old.writes made []

-- no block came to the view's own but such as were noted
abbrev pub OwnsNoted : {N : Type 0} → View N → View N → List Place → List Place → Type 0
OwnsNoted before after old new = (block : Place)
    → times block (places_of after.private) + times block old ≤ times block (places_of before.private)
    + times block new
