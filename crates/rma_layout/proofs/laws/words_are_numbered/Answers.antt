use Rattle.rma_layout.proofs.WordLemmas.{number_of-lt, number_of-ne, number_is_word}
use Rattle.rma_layout.proofs.laws.words_are_numbered.Goals as goal

pub returns-clause-below_total : goal.returns-clause-below_total
returns-clause-below_total c = number_of-lt

pub returns-clause-distinct : goal.returns-clause-distinct
returns-clause-distinct c = number_of-ne

pub returns-clause-onto : goal.returns-clause-onto
returns-clause-onto c = number_is_word
