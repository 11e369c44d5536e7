use Rattle.run_check.proofs.Failures.{early_is_out}
use Rattle.run_check.proofs.laws.early_ones_are_out_of_order.Goals as goal

pub returns : goal.returns
returns c = early_is_out
