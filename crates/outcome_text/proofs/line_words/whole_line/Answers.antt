use Rattle.outcome_text.proofs.CutLemmas.{ends_line}
use Rattle.outcome_text.proofs.line_words.whole_line.Goals as goal

pub returns : goal.returns
returns c = ends_line _ _ _ c.in_ok-line.ensures.0 c.in_ok-line.ensures.1
