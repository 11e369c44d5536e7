use Rattle.text_words.proofs.WordLemmas.{plain_first}
use Rattle.text_words.proofs.line_words.plain_word.Goals as goal

pub returns : goal.returns
returns c = plain_first c.args.line.now _ _ c.requires c.opening_of.ensures
