use Rattle.window_rule.proofs.LawsHold.{marks_exclude}
use Rattle.window_rule.proofs.laws.marks_exclude.Goals as goal

pub returns : goal.returns
returns g c = λ shape words views lawful. marks_exclude g.L.Law.fits shape words views lawful
