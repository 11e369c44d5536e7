use Rattle.run_check.proofs.Rising.{fitting_rise}
use Rattle.run_check.proofs.laws.fitting_ones_rise.Goals as goal

pub returns : goal.returns
returns c = fitting_rise
