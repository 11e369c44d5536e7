use Rattle.std.proofs.Common.{◌≡◌, ◌++◌, map, drop}
use Rattle.gdi_run.proofs.words.texts_of.Given as goal

abbrev pub invariant-loop-word : goal.invariant-loop-word
invariant-loop-word l = map (λ text. text.now) l.texts.items ++ drop l.word-index l.words ≡ l.words
