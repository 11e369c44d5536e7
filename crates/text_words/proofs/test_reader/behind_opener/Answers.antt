use Rattle.text_words.proofs.TestLemmas.{no_atom}
use Rattle.text_words.proofs.test_reader.behind_opener.Goals as goal

pub returns-in-None : goal.returns-in-None
returns-in-None c = no_atom c.args.word.now c.in-None.ensures
