use Rattle.std.proofs.Common.{length}
use Rattle.text_words.specs.Forms.{texts}
use Rattle.outcome_text.proofs.CutLemmas.{IsCutting}
use Rattle.outcome_text.proofs.line_words.cut.Given as goal

abbrev pub invariant-words : goal.invariant-words
invariant-words l = IsCutting l.fn.line (texts l.words.items) l.rest

abbrev pub decreases-words : goal.decreases-words
decreases-words l = length l.rest
