use Rattle.std.proofs.Common.{◌+◌, drop}
use Rattle.graph_model.specs.Placed.{sections_from, transactions_of}
use Rattle.run_replay.specs.Visits.{GoesOn}
use Rattle.run_replay.proofs.visits.all_visits.Given as goal

-- the visits so far, with those of the rest of the script
abbrev pub invariant-loop-section : goal.invariant-loop-section
invariant-loop-section l = record {
  goes : GoesOn (transactions_of l.section-items) l.fn.lines l.visits.items (sections_from (l.section-index + 1) (drop l.section-index l.section-items));
}
