use Rattle.block_pool.proofs.GivesKept.{IsTried}
use Rattle.block_pool.proofs.giving.give.Given as goal

abbrev pub invariant-loop : goal.invariant-loop
invariant-loop g l = IsTried l.window.shape l.block l.counter l.fn.rank l.rank
