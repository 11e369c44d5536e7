use Rattle.std.proofs.Common.{sym, ◌∙◌}
use Rattle.text_words.proofs.LineLemmas.{lines_at_end, lines_at_none}
use Rattle.text_words.proofs.lines.first_line.Goals as goal

pub returns-in-Some-clause-lines : goal.returns-in-Some-clause-lines
returns-in-Some-clause-lines c = lines_at_end c.args.text.now c.in-Some.end (sym c.position_of.ensures ∙ c.in-Some.is)

pub returns-in-None-clause-lines : goal.returns-in-None-clause-lines
returns-in-None-clause-lines c = lines_at_none c.args.text.now c.requires (sym c.position_of.ensures ∙ c.in-None.is)
