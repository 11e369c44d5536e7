use Rattle.rma_layout.proofs.WordLemmas.{word_in-set_same, word_in-set_other}
use Rattle.rma_layout.proofs.laws.writes_change_one_word.Goals as goal

pub returns-clause-changed : goal.returns-clause-changed
returns-clause-changed c = word_in-set_same

pub returns-clause-others : goal.returns-clause-others
returns-clause-others c = word_in-set_other
