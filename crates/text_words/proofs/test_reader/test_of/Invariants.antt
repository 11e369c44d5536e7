use Rattle.std.proofs.Common.{length}
use Rattle.text_words.specs.Forms.{texts}
use Rattle.text_words.proofs.TestLemmas.{IsTestRead}
use Rattle.text_words.proofs.test_reader.test_of.Given as goal

abbrev pub invariant-loop-rest : goal.invariant-loop-rest
invariant-loop-rest l = IsTestRead (texts l.fn.words) l.test l.alternative (texts l.rest)

abbrev pub decreases-loop-rest : goal.decreases-loop-rest
decreases-loop-rest l = length l.rest
