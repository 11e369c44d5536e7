use Rattle.run_check.proofs.Rising.{illegal_is_not}
use Rattle.run_check.proofs.laws.illegal_ones_are_not.Goals as goal

pub returns : goal.returns
returns c = illegal_is_not
