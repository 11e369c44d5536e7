use Rattle.std.proofs.Common.{◌≡◌, ◌+◌, ◌*◌, length}
use Rattle.std.specs.List.{range_with_len}
use Rattle.graph_walks.specs.Marks.{mark_at}
use Rattle.graph_walks.proofs.Naming.{IsSpreading, unnamed, one_if_some}
use Rattle.graph_walks.proofs.spreading.spread.Given as goal

abbrev pub invariant-loop-next : goal.invariant-loop-next
invariant-loop-next l = record {
  len : length l.names ≡ length l.fn.names;
  spreads : IsSpreading l.steps.hops l.least (mark_at l.fn.names) (mark_at l.names) l.front.items;
}

-- each round names someone, or is the last
abbrev pub decreases-loop-next : goal.decreases-loop-next
decreases-loop-next l = 2 * unnamed (mark_at l.names) (range_with_len 0 (length l.steps.ids)) + one_if_some l.front.items
