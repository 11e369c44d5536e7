use Rattle.std.proofs.Common.{◌≡◌, ◌≤◌, drop, length, map}
use Rattle.graph_model.specs.Maps.{set_of}
use Rattle.graph_model.specs.ListCalls.{other_end}
use Rattle.map_graph.proofs.map_graph.lists.other_ends.Given as goal

-- the ends of the last lines, from the one that was looked at
abbrev pub invariant-loop-left : goal.invariant-loop-left
invariant-loop-left l = record {
  within : l.left ≤ length l.lines;
  ends : l.ends.keys ≡ set_of (map (other_end l.id) (drop l.left l.lines));
}

abbrev pub decreases-loop-left : goal.decreases-loop-left
decreases-loop-left l = l.left
