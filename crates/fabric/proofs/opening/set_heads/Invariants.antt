use Rattle.window_rule.specs.Opening.{AreWords, set_so_far}
use Rattle.fabric.proofs.opening.set_heads.Given as goal

abbrev pub invariant-loop-rank : goal.invariant-loop-rank
invariant-loop-rank l = AreWords l.geometry l.words (set_so_far l.geometry l.fn.tag l.rank 0)
