use Rattle.std.proofs.Common.{sym, ◌∙◌}
use Rattle.outcome_text.specs.Reading.{is_mark}
use Rattle.outcome_text.proofs.CutLemmas.{no_mark, all_without, whole_first}
use Rattle.outcome_text.proofs.line_words.first_word.Goals as goal

pub returns-in-None : goal.returns-in-None
returns-in-None c = whole_first c.args.line.now (all_without is_mark _ no_mark c.args.line.now (sym c.mark_in.ensures ∙ c.in-None.is))
