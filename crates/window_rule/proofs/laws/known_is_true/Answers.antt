use Rattle.window_rule.proofs.LawsHold.{known_is_true}
use Rattle.window_rule.proofs.laws.known_is_true.Goals as goal

pub returns : goal.returns
returns g c = λ shape words views lawful. known_is_true g.L.Law.fits shape words views lawful
