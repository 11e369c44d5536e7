use Rattle.window_rule.proofs.LawsHold.{content_is_of_history}
use Rattle.window_rule.proofs.laws.content_is_of_history.Goals as goal

pub returns : goal.returns
returns g c = λ shape words views lawful. content_is_of_history g.L.Law.fits shape words views lawful
