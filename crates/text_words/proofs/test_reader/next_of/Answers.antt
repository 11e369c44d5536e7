use Rattle.text_words.proofs.test_reader.next_of.Goals as goal

pub returns-in-Atom : goal.returns-in-Atom
returns-in-Atom c = rw c.in-Atom.is c.behind_opener.ensures
