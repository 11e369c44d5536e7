use Rattle.outcome_text.proofs.CutLemmas.{never_closed, never_behind, quoted_first}
use Rattle.outcome_text.proofs.line_words.quoted_word.Goals as goal

pub returns-in_err-rest : goal.returns-in_err-rest
returns-in_err-rest c = rw c.from_residual.ensures (never_closed c.args.line.now c.requires.0 c.args.quoted.now c.requires.1 c.requires.2 c.in_err-rest.ensures)

pub returns-in_err-behind : goal.returns-in_err-behind
returns-in_err-behind c =
    rw c.from_residual-in_err-behind.ensures (never_behind c.args.line.now c.requires.0 c.args.quoted.now c.in_ok-rest.rest.now c.requires.1 c.requires.2 c.in_ok-rest.ensures c.in_err-behind.ensures)

pub returns : goal.returns
returns c = quoted_first c.args.line.now c.requires.0 c.args.quoted.now c.in_ok-rest.rest.now _ c.requires.1 c.requires.2 c.in_ok-rest.ensures c.in_ok-behind.ensures
