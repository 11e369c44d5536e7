use Rattle.std.proofs.Common.{◌≡◌, ℕ, ◌+◌, drop}
use Rattle.plain_graph.specs.Rooms.{taken_on}
use Rattle.plain_graph.specs.Used.{HaveRanks, amount_on, growth_blocks}
use Rattle.plain_graph.proofs.capacity.grow_each.Given as goal

abbrev pub invariant-loop-growth : goal.invariant-loop-growth
invariant-loop-growth l = record {
  ranks : HaveRanks l.geometry (drop l.growth-index l.touched);
  taken : (rank : ℕ) → taken_on l.taken rank + amount_on rank growth_blocks (drop l.growth-index l.touched) ≡ taken_on l.fn.taken rank + amount_on rank growth_blocks l.touched;
}
