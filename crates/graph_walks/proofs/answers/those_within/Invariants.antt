use Rattle.std.proofs.Common.{◌≡◌, get_or, map}
use Rattle.std.specs.List.{filter, range_with_len}
use Rattle.graph_walks.specs.Marks.{mark_at}
use Rattle.graph_walks.specs.Reached.{is_within}
use Rattle.graph_walks.proofs.answers.those_within.Given as goal

abbrev pub invariant-loop-place : goal.invariant-loop-place
invariant-loop-place l = l.found ≡ map (λ p. get_or l.ids p 0) (filter (λ p. is_within l.most (mark_at l.marks p)) (range_with_len 0 l.place))
