-- A window under a rank, as a store.
use Rattle.std.specs.Prelude.{refl, ◌≡◌, ◌==◌, Bool, true, [], None}
use Rattle.std.specs.List.{list_all}
use Rattle.window_rule.specs.View.{GatePlace, Outside, AsWriter}
use Rattle.window_rule.specs.Spares.{SpareEnds}
use Rattle.fabric.specs.Window.{WindowModel, RankModel}
use Rattle.object_store.specs.declared.phase.Phase.{Phase}
use Rattle.object_store.specs.declared.phase.Phase.TheVariants.{Idle, Reading, Writing}
use Rattle.object_store.specs.State.{StoreState, Named, Said, names_nothing, names_object, names_rank}
use Rattle.object_txn.specs.declared.txn.Txn.{Txn}
use Rattle.object_txn.specs.declared.refused.TxnRefused.{TxnRefused}
use Rattle.object_txn.specs.declared.refused.TxnRefused.TheVariants.{Busy, GateBusy, Empty, PoolBusy, Worn, NoMemory}

-- there is no spare of any home rank
abbrev pub has_no_spare : SpareEnds → Bool
has_no_spare ends = list_all (λ first. first == 0) ends.firsts

-- It stands for the ranks of its rank, reads under locks, and doesn't tell how many objects it may
-- make
abbrev pub window_state : {N : Type 0} → WindowModel → RankModel N → Txn → StoreState N
window_state window rank txn = record {
  shape = window.shape;
  base = record { table = window.id; rights = rank.view.rights };
  phase = txn.phase;
  reads = txn.reads;
  writes = txn.writes;
  seen = rank.view.seen;
  own = rank.view.own;
  allowance = rank.view.allowance;
  clean = has_no_spare rank.spares;
  most = None;
  strict = Bool.false;
  counts_blocks = Bool.true;
  tries = 0;
  takes = rank.view.takes;
  changes = [];
}

-- a transaction that writes is in the gate
abbrev pub gate_of : Phase → GatePlace
gate_of Idle = Outside
gate_of Reading = Outside
gate_of Writing = AsWriter

abbrev pub named_by : TxnRefused → Named
named_by (Busy object want word) = names_object object
named_by (GateBusy word) = names_nothing
named_by (Empty rank head) = names_rank rank
named_by (PoolBusy rank loaded seen) = names_rank rank
named_by (Worn rank head) = names_rank rank
named_by NoMemory = names_nothing

abbrev pub is_for_memory : TxnRefused → Bool
is_for_memory (Busy object want word) = Bool.false
is_for_memory (GateBusy word) = Bool.false
is_for_memory (Empty rank head) = Bool.false
is_for_memory (PoolBusy rank loaded seen) = Bool.false
is_for_memory (Worn rank head) = Bool.false
is_for_memory NoMemory = Bool.true

-- none passes
abbrev pub said_by : TxnRefused → Said
said_by why =
    record { names = named_by why; for_memory = is_for_memory why; passing = Bool.false }

pub said_for_memory : (why : TxnRefused) → (said_by why).for_memory ≡ true → why ≡ NoMemory
said_for_memory (Busy object want word) never = absurd (cc never)
said_for_memory (GateBusy word) never = absurd (cc never)
said_for_memory (Empty rank head) never = absurd (cc never)
said_for_memory (PoolBusy rank loaded seen) never = absurd (cc never)
said_for_memory (Worn rank head) never = absurd (cc never)
said_for_memory NoMemory is = refl
