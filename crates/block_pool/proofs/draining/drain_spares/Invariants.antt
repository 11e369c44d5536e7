use Rattle.block_pool.proofs.Drained.{IsDrained}
use Rattle.block_pool.proofs.draining.drain_spares.Given as goal

abbrev pub invariant-loop-home : goal.invariant-loop-home
invariant-loop-home g l = IsDrained l.window.shape l.home l.fn.rank l.rank
