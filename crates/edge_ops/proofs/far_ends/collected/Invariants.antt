use Rattle.std.proofs.Common.{◌≡◌, take}
use Rattle.edge_ops.specs.Parting.{far_ends}
use Rattle.edge_ops.proofs.far_ends.collected.Given as goal

abbrev pub invariant-loop-edge : goal.invariant-loop-edge
invariant-loop-edge l = l.ends.items ≡ far_ends l.at (take l.edge-index l.edges)
