use Rattle.std.proofs.Common.{subst, drop}
use Rattle.text_words.specs.Forms.{atoms, HasForm, texts}
use Rattle.text_words.proofs.TestLemmas.{texts_at, no_atom}
use Rattle.text_words.proofs.test_reader.atom_of.Goals as goal

pub unreachable-requires-in-None : goal.unreachable-requires-in-None
unreachable-requires-in-None c = no_atom _ c.in-None.ensures (texts (drop 1 c.args.words.now)) (subst (HasForm atoms) (texts_at c.args.words.now 0 _ c.in-len1-up.len_at_least) c.requires)
