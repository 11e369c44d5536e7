use Rattle.window_rule.specs.Partition.{places_of}
use Rattle.window_rule.specs.RoomHolds.{count_on}
use Rattle.block_pool.proofs.Drained.{IsDraining}
use Rattle.block_pool.proofs.draining.drain_home.Given as goal

abbrev pub invariant-loop-rank : goal.invariant-loop-rank
invariant-loop-rank g l = IsDraining l.window.shape l.home l.fn.rank l.rank

abbrev pub decreases-loop-rank : goal.decreases-loop-rank
decreases-loop-rank g l = count_on l.home (places_of l.rank.view.private)
