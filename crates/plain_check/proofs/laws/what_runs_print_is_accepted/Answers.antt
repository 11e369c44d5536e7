use Rattle.plain_check.proofs.Accepted.{accepted}
use Rattle.plain_check.proofs.laws.what_runs_print_is_accepted.Goals as goal

pub returns : goal.returns
returns c = accepted
