use Rattle.std.proofs.Common.{◌≡◌, false, true, rules}
use Rattle.outcome_text.proofs.SayingLemmas.{line_says, never_says}
use Rattle.outcome_text.proofs.said_reader.said_by.Goals as goal

pub returns-then-not-branch : goal.returns-then-not-branch
returns-then-not-branch c =
    let not_found : c.in_ok-cut.field-0 ≡ false = search rules in
    never_says c.args.line.now (rw not_found at c.in_ok-cut.ensures)

pub returns : goal.returns
returns c =
    let found : c.in_ok-cut.field-0 ≡ true = search rules in
    let cut = rw found at c.in_ok-cut.ensures in
    line_says c.args.line.now _ c.in_ok-said.said cut (rw c.as_slice.ensures.value at c.in_ok-said.ensures)
