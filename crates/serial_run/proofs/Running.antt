-- How a run comes from one transaction to the next.
use Rattle.std.proofs.Common.{◌≡◌, ℕ, suc, ◌+◌, ◌<◌, ◌≤◌, ◌^◌, Bool, true, false, not, ◌||◌, List, [], ◌∷◌, ◌++◌, length, get_or, drop, sum_by, refl, sym, ap, subst, ◌∙◌, arith, Option, Some, None, if◌then◌else◌}
use Rattle.std.proofs.lemmas.List.Sums.{sum_by-cons}
use Rattle.gdi_kinds.specs.declared.reply.Reply.{Reply}
use Rattle.gdi_kinds.specs.declared.txn.Txn.{Txn}
use Rattle.gdi_kinds.specs.Calls.{is_writing}
use Rattle.rma_layout.specs.Shape.{Shape}
use Rattle.graph_model.specs.Graph.{Graph}
use Rattle.graph_model.specs.Capacity.{full_rank}
use Rattle.serial_run.specs.Serial.{ends, entries_after}
use Rattle.serial_run.specs.Runs.{MayBeFull, entries_behind}

may_be : (a w : Bool) (o : Option ℕ) (txn : Txn) → txn.aborts ≡ a → is_writing txn ≡ w → MayBeFull txn (if a || not w then None else o)
may_be true w o txn aborts writes = tt
may_be false false o txn aborts writes = tt
may_be false true None txn aborts writes = tt
may_be false true (Some rank) txn aborts writes = (aborts, writes)

pub full_ones_write : (shape : Shape) (g : Graph) (txn : Txn) → MayBeFull txn (full_rank shape g txn)
unfolding full_rank
full_ones_write shape g txn = may_be txn.aborts (is_writing txn) _ txn refl refl

pub behind_ends : (a w : Bool) (full : Option ℕ) (k : ℕ) (replies : List Reply) → entries_behind (ends a w full k replies) k ≡ entries_after a w full k
behind_ends true w full k replies = refl
behind_ends false true (Some rank) k replies = refl
behind_ends false true None k replies = omega arith
behind_ends false false full k replies = refl

-- a section more, of so many transactions
pub room_goes_on : (sections rest : List (List Txn)) (txns : List Txn) (before after entries all : ℕ) → sections ≡ txns ∷ rest
    → before + sum_by length sections ≤ entries + all → after ≤ before + length txns → after + sum_by length rest ≤ entries + all
room_goes_on sections rest txns before after entries all is room few =
    let split : sum_by length sections ≡ length txns + sum_by length rest = ap (sum_by length) is ∙ sum_by-cons length txns rest in
    omega (arith, room, few, split)

pub room_for : (sections rest : List (List Txn)) (txns : List Txn) (before entries all : ℕ) → sections ≡ txns ∷ rest
    → before + sum_by length sections ≤ entries + all → entries + all < 2 ^ 64 → before + length txns < 2 ^ 64
room_for sections rest txns before entries all is room small =
    let split : sum_by length sections ≡ length txns + sum_by length rest = ap (sum_by length) is ∙ sum_by-cons length txns rest in
    omega (arith, room, small, split)
