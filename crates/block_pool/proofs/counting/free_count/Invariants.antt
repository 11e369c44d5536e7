use Rattle.block_pool.proofs.Walks.{IsWalked}
use Rattle.block_pool.proofs.counting.free_count.Given as goal

abbrev pub invariant-loop-count : goal.invariant-loop-count
invariant-loop-count g l =
    IsWalked l.window.shape l.home l.count l.block l.fn.rank l.rank
