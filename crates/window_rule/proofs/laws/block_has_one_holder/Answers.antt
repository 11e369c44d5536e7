use Rattle.window_rule.proofs.LawsHold.{block_has_one_holder}
use Rattle.window_rule.proofs.laws.block_has_one_holder.Goals as goal

pub returns : goal.returns
returns g c = λ shape words views lawful. block_has_one_holder g.L.Law.fits shape words views lawful
