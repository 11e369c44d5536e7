use Rattle.graph_undo.proofs.CallsUndone.{steps_lead_back}
use Rattle.graph_undo.proofs.law.calls_are_undone.Goals as goal

pub returns : goal.returns
returns c = steps_lead_back
