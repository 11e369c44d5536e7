use Rattle.plain_check.proofs.Accepted.{right_outputs}
use Rattle.plain_check.proofs.laws.right_outputs_are_not_refused.Goals as goal

pub returns : goal.returns
returns c = right_outputs
