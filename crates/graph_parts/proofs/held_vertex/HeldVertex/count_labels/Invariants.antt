use Rattle.std.proofs.Common.{◌≡◌, ℕ, ◌+◌}
use Rattle.graph_parts.specs.Counts.{count_of}
use Rattle.graph_parts.specs.Counts.{labels_kept}
use Rattle.graph_parts.proofs.held_vertex.HeldVertex.count_labels.Given as goal

-- with those to come, the counts are what they are to be
abbrev pub invariant-loop-label : goal.invariant-loop-label
invariant-loop-label l =
    (q : ℕ) → count_of l.counts q + labels_kept l.geometry l.id l.label-iterator q ≡ count_of l.fn.counts q + labels_kept l.geometry l.id l.fn.self.labels q
