use Rattle.std.proofs.Common.{◌≡◌, get_or}
use Rattle.std.specs.List.{filter_map, range_with_len}
use Rattle.graph_walks.specs.Marks.{mark_at}
use Rattle.graph_walks.specs.Reached.{pair_if}
use Rattle.graph_walks.proofs.answers.pairs_of.Given as goal

abbrev pub invariant-loop-place : goal.invariant-loop-place
invariant-loop-place l = l.pairs ≡ filter_map (λ p. pair_if (get_or l.ids p 0) (mark_at l.marks p)) (range_with_len 0 l.place)
