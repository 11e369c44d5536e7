use Rattle.std.proofs.Common.{sym, refl, ◌∙◌}
use Rattle.bulk_load.specs.Rows.{misplaced, too_large}
use Rattle.bulk_load.proofs.RowLemmas.{own_part, not_false}
use Rattle.bulk_load.proofs.row.load_record.Goals as goal

pub returns-then-misfits-clause-record : goal.returns-then-misfits-clause-record
returns-then-misfits-clause-record c =
    let s = c.in_ok-subject.ensures in
    misplaced c.in_ok-subject.subject s.0 s.1 (sym c.misfits.ensures ∙ c.if-misfits.true) c.misfit.ensures

pub returns-then-not-branch-clause-record : goal.returns-then-not-branch-clause-record
returns-then-not-branch-clause-record c =
    let s = c.in_ok-subject.ensures in
    let limit = rw (own_part c.args.calls.now s.0 _ _ c.len-before.ensures (c.as_slice.ensures ∙ s.2)) at c.in_ok-do_calls.ensures.limit in
    too_large c.in_ok-subject.subject s.0 s.1 (sym c.misfits.ensures ∙ c.if-misfits.false) (not_false _ (sym c.if-not-branch.true ∙ limit)) refl
