-- What ties a transaction to the rank that makes it.
use Rattle.std.specs.Prelude.{◌≡◌, ◌≢◌, ℕ, ◌<◌, ◌≤◌, ◌^◌, List, [], length, Option, Some, None}
use Rattle.rma_layout.specs.Shape.{Shape}
use Rattle.rma_layout.specs.Placement.{Place, IsBlock, IsReserved}
use Rattle.object_words.specs.Contents.{Contents, IsByRisingObject, content_of, words_at}
use Rattle.window_rule.specs.View.{View, Hold, Marked, Known, Locks, OwnBlock}
use Rattle.window_rule.specs.Known.{known_of}
use Rattle.window_rule.specs.Locks.{hold_of}
use Rattle.window_rule.specs.Partition.{places_of, times}
use Rattle.window_rule.specs.Spares.{SpareEnds, IsNoSpare}
use Rattle.fabric.specs.Window.{WindowModel, RankModel}
use Rattle.object_moves.specs.Noted.{Chains, blocks_of}
use Rattle.object_store.specs.declared.phase.Phase.{Phase}
use Rattle.object_store.specs.declared.phase.Phase.TheVariants.{Idle, Writing}
use Rattle.object_txn.specs.declared.txn.Txn.{Txn}
use Rattle.object_txn.specs.State.{gate_of}

abbrev pub words_in : Option Known → Option (List ℕ)
words_in None = None
words_in (Some known) = Some known.content

-- the locks of the view are those that are noted
pub record HasLocks (shape : Shape) (locks held : Locks) : Type 0 where
  pub same : (object : Place) → hold_of locks object ≡ hold_of held object
  pub blocks : (object : Place) (hold : Hold) → hold_of held object ≡ Some hold → IsBlock shape object

-- what was read is known, of objects that are locked
pub record HasRead (known : List (Place × Known)) (held : Locks) (reads : Contents) : Type 0 where
  pub known_is : (object : Place) (words : List ℕ) → words_at reads object ≡ Some words
      → words_in (known_of known object) ≡ Some words
  pub locked : (object : Place) → hold_of held object ≡ None → words_at reads object ≡ None
  pub in_order : IsByRisingObject reads

-- the transaction may write an object that is reserved, that it made, or that it has read and found
-- not empty
abbrev pub MayBeWritten : Shape → Contents → List Place → Place → Type 0
MayBeWritten shape reads taken object = ¬ IsReserved shape object.block → times object taken ≡ 0
    → content_of reads object ≢ []

abbrev pub chain_known : Option Known → Option (List Place)
chain_known None = None
chain_known (Some known) = Some known.chain

-- of each object that was read or written the chain is noted, as it is known. It is of an object that is locked
pub record HasChains (known : List (Place × Known)) (held : Locks) (chains : Chains)
    (reads writes : Contents) : Type 0 where
  pub known_is : (object : Place) (blocks : List Place) → blocks_of chains object ≡ Some blocks
      → chain_known (known_of known object) ≡ Some blocks
  pub locked : (object : Place) → hold_of held object ≡ None → blocks_of chains object ≡ None
  pub of_reads : (object : Place) (words : List ℕ) → words_at reads object ≡ Some words
      → blocks_of chains object ≢ None
  pub of_writes : (object : Place) (words : List ℕ) → words_at writes object ≡ Some words
      → blocks_of chains object ≢ None

-- what was written is marked, and may be written. It is at most 1,048,576 words
pub record HasWritten (shape : Shape) (held : Locks) (reads writes : Contents)
    (taken : List Place) : Type 0 where
  pub marked : (object : Place) (words : List ℕ) → words_at writes object ≡ Some words
      → hold_of held object ≡ Some Marked
  pub may : (object : Place) (words : List ℕ) → words_at writes object ≡ Some words
      → MayBeWritten shape reads taken object
  pub few_words : (object : Place) (words : List ℕ) → words_at writes object ≡ Some words
      → length words ≤ 2 ^ 20
  pub in_order : IsByRisingObject writes

-- the blocks that were taken are the rank's own and no spares, each once
pub record HasTaken (shape : Shape) (private : List OwnBlock) (spares : SpareEnds)
    (taken : List Place) : Type 0 where
  pub own : (block : Place) → 0 < times block taken → 0 < times block (places_of private)
  pub no_spare : (block : Place) → 0 < times block taken → IsNoSpare shape private spares block
  pub blocks : (block : Place) → 0 < times block taken → IsBlock shape block
  pub once : (block : Place) → times block taken ≤ 1

-- nothing is detached and no object open, and the place in the gate is that of the phase
pub record IsClosed {N : Type 0} (view : View N) (phase : Phase) : Type 0 where
  pub clean : view.dirty ≡ []
  pub closed : view.stamps.opened ≡ []
  pub gate : view.gate ≡ gate_of phase

-- a transaction has only what its phase allows
pub record IsInPhase (txn : Txn) : Type 0 where
  pub reads : txn.phase ≡ Idle → txn.reads ≡ []
  pub writes : txn.phase ≡ Idle → txn.writes ≡ []
  pub taken : txn.phase ≢ Writing → txn.taken.items ≡ []
  pub held : txn.phase ≡ Idle → txn.held ≡ []

pub record IsTied {N : Type 0} (window : WindowModel) (rank : RankModel N) (txn : Txn) : Type 0 where
  pub together : rank.window ≡ window
  pub locks : HasLocks window.shape rank.view.locks txn.held
  pub reads : HasRead rank.view.known txn.held txn.reads
  pub writes : HasWritten window.shape txn.held txn.reads txn.writes txn.taken.items
  pub taken : HasTaken window.shape rank.view.private rank.spares txn.taken.items
  pub closed : IsClosed rank.view txn.phase
  pub phase : IsInPhase txn

-- so it is with the chains of a transaction
abbrev pub KnowsChains : {N : Type 0} → View N → Txn → Type 0
KnowsChains view txn = HasChains view.known txn.held txn.chains txn.reads txn.writes

-- there is no transaction
pub record IsNone (txn : Txn) : Type 0 where
  pub phase : txn.phase ≡ Idle
  pub reads : txn.reads ≡ []
  pub writes : txn.writes ≡ []
  pub held : txn.held ≡ []
  pub chains : txn.chains ≡ []
  pub taken : txn.taken.items ≡ []

-- a rank without a transaction: it has no lock, no place in the gate, nothing detached and no object
-- open
pub record IsFree {N : Type 0} (view : View N) : Type 0 where
  pub locks : (object : Place) → hold_of view.locks object ≡ None
  pub closed : IsClosed view Idle
