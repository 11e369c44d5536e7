use Rattle.std.proofs.Common.{◌≡◌, ℕ, ◌+◌, drop}
use Rattle.plain_graph.specs.Rooms.{taken_on}
use Rattle.plain_graph.specs.Counted.{makers_on}
use Rattle.plain_graph.proofs.block_count.take_makers.Given as goal

abbrev pub invariant-loop-call : goal.invariant-loop-call
invariant-loop-call l = (rank : ℕ) → taken_on l.taken rank + makers_on l.geometry (drop l.call-index l.calls) rank ≡ taken_on l.fn.taken rank + makers_on l.geometry l.calls rank
