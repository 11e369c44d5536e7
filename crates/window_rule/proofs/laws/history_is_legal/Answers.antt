use Rattle.window_rule.proofs.LawsHold.{has_history}
use Rattle.window_rule.proofs.laws.history_is_legal.Goals as goal

pub returns : goal.returns
returns g c = λ shape words views lawful. has_history g.L.Law.fits shape words views lawful
