use Rattle.std.proofs.Common.{◌≡◌, get_or, map}
use Rattle.std.specs.List.{filter, range_with_len}
use Rattle.graph_model.specs.Maps.{has}
use Rattle.traversals.specs.Rows.{row_of}
use Rattle.traversals.proofs.labelled.labelled_among.Given as goal

-- the vertices of the places so far
abbrev pub invariant-loop-place : goal.invariant-loop-place
invariant-loop-place l = l.found ≡ map (λ p. get_or l.ids p 0) (filter (λ p. has (row_of l.rows p) l.label) (range_with_len 0 l.place))
