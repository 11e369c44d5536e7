use Rattle.std.proofs.Common.{◌≡◌, take}
use Rattle.edge_ops.specs.Lines.{lines_of}
use Rattle.edge_ops.proofs.records.listed.Given as goal

abbrev pub invariant-loop-edge : goal.invariant-loop-edge
invariant-loop-edge l = l.lines ≡ lines_of l.holder.id l.dir (take l.edge-index l.holder.edges)
