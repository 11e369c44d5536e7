use Rattle.script_text.proofs.FaultlessLaw.{faultless_text_spells, spelling_text_is_faultless}
use Rattle.script_text.proofs.laws.faultless_texts_are_scripts.Goals as goal

pub returns-clause-spells : goal.returns-clause-spells
returns-clause-spells c = faultless_text_spells

pub returns-clause-only : goal.returns-clause-only
returns-clause-only c = spelling_text_is_faultless
