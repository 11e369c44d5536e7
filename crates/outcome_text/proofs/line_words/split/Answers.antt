use Rattle.std.proofs.Common.{sym, ◌∙◌}
use Rattle.std.proofs.lemmas.Bool.{eqb-true}
use Rattle.outcome_text.proofs.CutLemmas.{is_byte, other_byte, all_without, all_before, parts_at, found_at}
use Rattle.outcome_text.proofs.line_words.split.Goals as goal

pub returns-in_err-end : goal.returns-in_err-end
returns-in_err-end c =
    rw c.from_residual.ensures (all_without (is_byte c.args.byte) _ (other_byte c.args.byte) c.args.text.now (sym c.position_of.ensures ∙ c.in_err-end.was))

pub returns : goal.returns
returns c =
    let at = sym c.position_of.ensures ∙ c.in_ok-end.was in
    (parts_at (is_byte c.args.byte) c.args.text.now c.in_ok-end.end c.args.byte at (eqb-true _ _ (found_at (is_byte c.args.byte) c.args.text.now c.in_ok-end.end at)), all_before (is_byte c.args.byte) _ (other_byte c.args.byte) c.args.text.now c.in_ok-end.end at)
