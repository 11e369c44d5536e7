use Rattle.outcome_text.proofs.InverseLemmas.{no_word}
use Rattle.outcome_text.proofs.reply_reader.reply_of.Goals as goal

pub returns-in-None : goal.returns-in-None
returns-in-None c = no_word _ _ c.in-None.ensures
