use Rattle.std.proofs.Common.{◌↔◌, drop}
use Rattle.text_words.specs.Forms.{atoms, HasForm, texts}
use Rattle.text_words.specs.Awaited.{form_at}
use Rattle.text_words.proofs.test_reader.are_atoms.Given as goal

-- the words are of the form where those that are left are of the form that is awaited
abbrev pub invariant-loop-word : goal.invariant-loop-word
invariant-loop-word l = HasForm atoms (texts l.words) ↔ HasForm (form_at l.awaited) (texts (drop l.word-index l.words))
