use Rattle.run_check.proofs.Failures.{misfit_is_none}
use Rattle.run_check.proofs.laws.misfits_dont_fit.Goals as goal

pub returns : goal.returns
returns c = misfit_is_none
