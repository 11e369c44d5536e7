use Rattle.graph_model.proofs.KeepsLimits.{legal_run_keeps_limits}
use Rattle.graph_model.proofs.laws.limits_are_kept.Goals as goal

pub returns-clause-run : goal.returns-clause-run
returns-clause-run c = legal_run_keeps_limits
