use Rattle.std.proofs.Common.{◌≡◌, length}
use Rattle.std.specs.List.{range_with_len}
use Rattle.graph_walks.specs.Marks.{mark_at}
use Rattle.graph_walks.specs.Naming.{IsNaming}
use Rattle.graph_walks.proofs.spreading.components.Given as goal

abbrev pub invariant-loop-place : goal.invariant-loop-place
invariant-loop-place l = record {
  len : length l.names ≡ length l.steps.ids;
  named : IsNaming l.steps.hops (range_with_len 0 (length l.steps.ids)) l.place (mark_at l.names);
}
