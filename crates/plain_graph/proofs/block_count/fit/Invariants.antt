use Rattle.std.proofs.Common.{◌≡◌, ℕ, ◌+◌, ◌<◌, ◌≤◌}
use Rattle.plain_graph.specs.Rooms.{taken_on}
use Rattle.plain_graph.proofs.block_count.fit.Given as goal

abbrev pub invariant-loop-rank : goal.invariant-loop-rank
invariant-loop-rank l = record {
  end : l.rank-end ≡ l.geometry.ranks;
  before : (rank : ℕ) → rank < l.rank → taken_on l.taken rank + taken_on l.more rank ≤ l.geometry.blocks;
}
