use Rattle.run_check.proofs.Failures.{misnumbered_is_not}
use Rattle.run_check.proofs.laws.misnumbered_ones_are_not.Goals as goal

pub returns : goal.returns
returns c = misnumbered_is_not
