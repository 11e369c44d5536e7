use Rattle.std.proofs.Common.{◌≡◌, ◌≤◌, drop, length, map}
use Rattle.std.specs.List.{filter}
use Rattle.graph_model.specs.Maps.{set_of}
use Rattle.edge_ops.specs.Lines.{is_listed}
use Rattle.graph_vertices.proofs.listed.ends_of.Given as goal

-- the ends of the last records, from the one that was looked at
abbrev pub invariant-loop-left : goal.invariant-loop-left
invariant-loop-left l = record {
  within : l.left ≤ length l.edges;
  ends : l.ends.keys ≡ set_of (map (λ edge. edge.other) (filter (is_listed l.dir) (drop l.left l.edges)));
}

abbrev pub decreases-loop-left : goal.decreases-loop-left
decreases-loop-left l = l.left
