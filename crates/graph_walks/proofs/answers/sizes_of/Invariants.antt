use Rattle.std.proofs.Common.{◌≡◌, ℕ, ◌<◌, length, get_or}
use Rattle.std.specs.Prelude.{count_by}
use Rattle.std.specs.List.{range_with_len}
use Rattle.graph_walks.specs.Marks.{mark_at}
use Rattle.graph_walks.specs.Reached.{is_this}
use Rattle.graph_walks.proofs.answers.sizes_of.Given as goal

abbrev pub invariant-loop-place : goal.invariant-loop-place
invariant-loop-place l = record {
  len : length l.sizes.items ≡ length l.marks;
  each : (p : ℕ) → p < length l.marks → get_or l.sizes.items p 0 ≡ count_by (λ q. is_this p (mark_at l.marks q)) (range_with_len 0 l.place);
}
