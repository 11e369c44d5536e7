use Rattle.std.proofs.Common.{ℕ, ◌+◌, List, ◌++◌, drop}
use Rattle.graph_model.specs.Placed.{Placed, placed_from}
use Rattle.run_replay.specs.Visits.{GoesOn}
use Rattle.run_replay.proofs.visits.visit_section.Given as goal

-- the visits so far, with those of the rest of the section
abbrev pub invariant-loop-txn : goal.invariant-loop-txn
invariant-loop-txn l = record {
  goes : (all more : List Placed) (number : ℕ) → GoesOn all l.fn.lines l.fn.visits.items (placed_from number 1 l.txn-items ++ more)
      → GoesOn all l.fn.lines l.visits.items (placed_from number (l.txn-index + 1) (drop l.txn-index l.txn-items) ++ more);
}
