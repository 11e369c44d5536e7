use Rattle.window_rule.proofs.LawsHold.{writers_exclude}
use Rattle.window_rule.proofs.laws.writers_exclude.Goals as goal

pub returns : goal.returns
returns g c = λ shape words views lawful. writers_exclude g.L.Law.fits shape words views lawful
