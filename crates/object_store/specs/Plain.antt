-- The plain store: what it is as a store, and which object it makes next.
use Rattle.std.specs.Prelude.{[], refl, ◌≡◌, ℕ, ◌-◌, ◌^◌, ◌<◌, ◌≤◌, Bool, true, false, not, ◌&&◌, is_some, Some, length}
use Rattle.std.specs.List.{range_with_len}
use Rattle.atomic_table.specs.Seated.{TableId}
use Rattle.rma_layout.specs.Shape.{Shape, reserved_blocks}
use Rattle.rma_layout.specs.Placement.{Place}
use Rattle.object_words.specs.Contents.{Contents, content_of, words_at, is_empty}
use Rattle.object_words.specs.Blocks.{empty_objects, on_rank}
use Rattle.object_words.specs.Entries.{Entry, store_after}
use Rattle.object_store.specs.declared.transaction.Transaction.{Transaction}
use Rattle.object_store.specs.declared.plain_refused.PlainRefused.{PlainRefused}
use Rattle.object_store.specs.declared.plain_refused.PlainRefused.TheVariants.{Empty, NoMemory}
use Rattle.object_store.specs.State.{StoreState, Said, names_nothing, names_rank, HasEveryRight, committed}
use Rattle.object_store.specs.Sound.{IsSound}
use Rattle.object_store.specs.declared.phase.Phase.TheVariants.{Idle}
use Rattle.object_store.specs.Ledger.{Account}

-- it stands for all ranks, it has no spares, and a transaction may make as many objects of a rank as are empty
abbrev pub plain_state : {N : Type 0} → Shape → TableId → Transaction → Account N → StoreState N
plain_state shape table transaction account = record {
  shape = shape;
  base = record { table = table; rights = range_with_len 0 shape.ranks };
  phase = transaction.phase;
  reads = transaction.reads;
  writes = transaction.writes;
  seen = account.seen;
  own = account.own;
  allowance = 2 ^ 62 - length account.seen;
  clean = true;
  most = Some (λ rank. empty_objects shape (store_after account.seen) rank);
  strict = false;
  counts_blocks = false;
  tries = 8;
  takes = 0;
  changes = [];
}

-- the object is empty, and not among what is written
abbrev pub is_vacant : Contents → Contents → Place → Bool
is_vacant contents writes object = is_empty (content_of contents object) && not (is_some (words_at writes object))

-- the least unreserved block of a rank that is vacant
pub record IsFirstVacant (shape : Shape) (contents writes : Contents) (rank : ℕ) (object : Place) : Type 0 where
  pub on : object.rank ≡ rank
  pub unreserved : reserved_blocks shape ≤ object.block
  pub within : object.block < shape.blocks
  pub vacant : is_vacant contents writes object ≡ true
  pub first : (block : ℕ) → reserved_blocks shape ≤ block → block < object.block → is_vacant contents writes (on_rank rank block) ≡ false

-- no unreserved block of a rank is
abbrev pub IsNoneVacant : Shape → Contents → Contents → ℕ → Type 0
IsNoneVacant shape contents writes rank = (block : ℕ) → reserved_blocks shape ≤ block → block < shape.blocks → is_vacant contents writes (on_rank rank block) ≡ false

-- an Empty names its rank, and neither passes
abbrev pub said_by : PlainRefused → Said
said_by (Empty rank) = record { names = names_rank rank; for_memory = false; passing = false }
said_by NoMemory = record { names = names_nothing; for_memory = true; passing = false }

pub said_for_memory : (why : PlainRefused) → (said_by why).for_memory ≡ true → why ≡ NoMemory
said_for_memory (Empty rank) never = absurd (cc never)
said_for_memory NoMemory is = refl

-- what every plain store tells
pub record StandsAlone {N : Type 0} (state : StoreState N) : Type 0 where
  pub every_right : HasEveryRight state
  pub clean : state.clean ≡ true
  pub most : state.most ≡ Some (λ rank. empty_objects state.shape (committed state) rank)
  pub strict : state.strict ≡ false
  pub counts_blocks : state.counts_blocks ≡ false
  -- at most 2 ^ 62 commits
  pub allowance : state.allowance ≡ 2 ^ 62 - length state.seen
  -- it has no locks, and nothing changes under a transaction
  pub tries : state.tries ≡ 8
  pub takes : state.takes ≡ 0
  pub changes : state.changes ≡ []

-- a store with an empty history, and without a transaction
pub record IsNew {N : Type 0} (fits : Shape → Entry N → Type 0) (shape : Shape) (state : StoreState N) : Type 0 where
  pub shape_is : state.shape ≡ shape
  pub phase : state.phase ≡ Idle
  pub seen : state.seen ≡ []
  pub sound : IsSound fits state
  pub plain : StandsAlone state
