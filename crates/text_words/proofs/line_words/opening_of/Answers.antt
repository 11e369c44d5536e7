use Rattle.std.proofs.Common.{sym, ◌∙◌}
use Rattle.text_words.proofs.WordLemmas.{opens_to_space, opens_to_end}
use Rattle.text_words.proofs.line_words.opening_of.Goals as goal

pub returns-in-Some : goal.returns-in-Some
returns-in-Some c = opens_to_space c.args.line.now c.in-Some.end (sym c.position_of.ensures ∙ c.in-Some.is)

pub returns-in-None : goal.returns-in-None
returns-in-None c = opens_to_end c.args.line.now (sym c.position_of.ensures ∙ c.in-None.is)
