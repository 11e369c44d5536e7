use Rattle.fabric.proofs.RightsKept.{AreBelow}
use Rattle.fabric.proofs.rank.rights.first_rights.Given as goal

abbrev pub invariant-loop-rank : goal.invariant-loop-rank
invariant-loop-rank l = AreBelow l.held.items l.rank
