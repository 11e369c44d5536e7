use Rattle.outcome_text.proofs.OldLaw.{old_outputs_stay}
use Rattle.outcome_text.proofs.laws.old_outputs_stay.Goals as goal

pub returns-clause-stay : goal.returns-clause-stay
returns-clause-stay c = old_outputs_stay
