use Rattle.std.proofs.Common.{◌<◌, ap, ◌∙◌, subst, sym, refl}
use Rattle.window_rule.specs.Pairs.{pair_entry}
use Rattle.window_rule.specs.Stamping.{stamped}
use Rattle.window_rule.specs.Reads.{MayPut, put_in}
use Rattle.window_rule.proofs.PairSteps.{may_put, may_attach_two, pair_spares_left, may_commit, may_close, still_marked, is_shut, still_writer, at_rest, is_next}
use Rattle.fabric.proofs.MarkedPairs.{next_of}
use Rattle.fabric.proofs.examples.write_marked.Goals as goal

pub put-requires-clause-may : goal.put-requires-clause-may
put-requires-clause-may g c = may_put _ _ c.requires.object c.requires.reserved _ c.requires.begun.1 _
    (c.stamp_up.ensures.view ∙ ap (stamped c.args.o) c.requires.begun.2)
    _ c.detach.ensures.view

pub put-requires-2-clause-may : goal.put-requires-2-clause-may
put-requires-2-clause-may g c =
    subst (λ v. MayPut v c.args.o) (sym c.put.ensures.view)
    (may_put _ _ c.requires.object c.requires.reserved _ c.requires.begun.1 _
    (c.stamp_up.ensures.view ∙ ap (stamped c.args.o) c.requires.begun.2)
    _ c.detach.ensures.view)

pub put-requires-3-clause-may : goal.put-requires-3-clause-may
put-requires-3-clause-may g c =
    subst (λ v. MayPut v c.args.o)
    (sym (c.put-2.ensures.view ∙ ap (put_in c.args.o 1 c.args.first) c.put.ensures.view))
    (may_put _ _ c.requires.object c.requires.reserved _ c.requires.begun.1 _
    (c.stamp_up.ensures.view ∙ ap (stamped c.args.o) c.requires.begun.2)
    _ c.detach.ensures.view)

pub attach-requires-clause-may : goal.attach-requires-clause-may
attach-requires-clause-may g c =
    may_attach_two _ _ c.requires.object c.requires.reserved _ c.requires.begun.1 _
    (c.stamp_up.ensures.view ∙ ap (stamped c.args.o) c.requires.begun.2)
    _ c.detach.ensures.view c.requires.wide _ _ _
    (c.put-3.ensures.view
    ∙ ap (put_in c.args.o 2 c.args.second)
    (c.put-2.ensures.view ∙ ap (put_in c.args.o 1 c.args.first) c.put.ensures.view))

pub attach-requires-clause-spares_left : goal.attach-requires-clause-spares_left
attach-requires-clause-spares_left g c =
    pair_spares_left _ _ c.requires.object c.requires.reserved _ c.requires.begun.1 _
    (c.stamp_up.ensures.view ∙ ap (stamped c.args.o) c.requires.begun.2)
    _ c.detach.ensures.view c.requires.wide _ _ _
    (c.put-3.ensures.view
    ∙ ap (put_in c.args.o 2 c.args.second)
    (c.put-2.ensures.view ∙ ap (put_in c.args.o 1 c.args.first) c.put.ensures.view)) _

pub commit-number-requires-clause-may : goal.commit-number-requires-clause-may
commit-number-requires-clause-may g c =
    may_commit _ _ c.requires.object c.requires.reserved _ c.requires.begun.1 _
    (c.stamp_up.ensures.view ∙ ap (stamped c.args.o) c.requires.begun.2)
    _ c.detach.ensures.view c.requires.wide _ _ _
    (c.put-3.ensures.view
    ∙ ap (put_in c.args.o 2 c.args.second)
    (c.put-2.ensures.view ∙ ap (put_in c.args.o 1 c.args.first) c.put.ensures.view))
    _ c.attach.ensures.view g.L.Law.fits _
    (subst (λ v. 0 < v.allowance) c.requires.begun.2 c.requires.allowed)
    (subst (λ v. g.L.Law.fits c.args.window.now.shape
    (pair_entry v c.args.o c.args.first c.args.second (g.C.Carries.note c.args.note.now)))
    c.requires.begun.2 c.requires.fitting)

pub stamp_up-requires-2-clause-may : goal.stamp_up-requires-2-clause-may
stamp_up-requires-2-clause-may g c =
    may_close _ _ c.requires.object c.requires.reserved _ c.requires.begun.1 _
    (c.stamp_up.ensures.view ∙ ap (stamped c.args.o) c.requires.begun.2)
    _ c.detach.ensures.view c.requires.wide _ _ _
    (c.put-3.ensures.view
    ∙ ap (put_in c.args.o 2 c.args.second)
    (c.put-2.ensures.view ∙ ap (put_in c.args.o 1 c.args.first) c.put.ensures.view))
    _ c.attach.ensures.view g.L.Law.fits _
    (subst (λ v. 0 < v.allowance) c.requires.begun.2 c.requires.allowed)
    (subst (λ v. g.L.Law.fits c.args.window.now.shape
    (pair_entry v c.args.o c.args.first c.args.second (g.C.Carries.note c.args.note.now)))
    c.requires.begun.2 c.requires.fitting) _ _
    c.commit-number.ensures.view _ _ _ refl refl refl

pub mark_leave-requires-clause-marked : goal.mark_leave-requires-clause-marked
mark_leave-requires-clause-marked g c =
    still_marked _ _ c.requires.object c.requires.reserved _ c.requires.begun.1 _
    (c.stamp_up.ensures.view ∙ ap (stamped c.args.o) c.requires.begun.2)
    _ c.detach.ensures.view c.requires.wide _ _ _
    (c.put-3.ensures.view
    ∙ ap (put_in c.args.o 2 c.args.second)
    (c.put-2.ensures.view ∙ ap (put_in c.args.o 1 c.args.first) c.put.ensures.view))
    _ c.attach.ensures.view g.L.Law.fits _
    (subst (λ v. 0 < v.allowance) c.requires.begun.2 c.requires.allowed)
    (subst (λ v. g.L.Law.fits c.args.window.now.shape
    (pair_entry v c.args.o c.args.first c.args.second (g.C.Carries.note c.args.note.now)))
    c.requires.begun.2 c.requires.fitting) _ _
    c.commit-number.ensures.view _ _ _ c.stamp_up-2.ensures.view refl refl

pub mark_leave-requires-clause-closed : goal.mark_leave-requires-clause-closed
mark_leave-requires-clause-closed g c =
    is_shut _ _ c.requires.object c.requires.reserved _ c.requires.begun.1 _
    (c.stamp_up.ensures.view ∙ ap (stamped c.args.o) c.requires.begun.2)
    _ c.detach.ensures.view c.requires.wide _ _ _
    (c.put-3.ensures.view
    ∙ ap (put_in c.args.o 2 c.args.second)
    (c.put-2.ensures.view ∙ ap (put_in c.args.o 1 c.args.first) c.put.ensures.view))
    _ c.attach.ensures.view g.L.Law.fits _
    (subst (λ v. 0 < v.allowance) c.requires.begun.2 c.requires.allowed)
    (subst (λ v. g.L.Law.fits c.args.window.now.shape
    (pair_entry v c.args.o c.args.first c.args.second (g.C.Carries.note c.args.note.now)))
    c.requires.begun.2 c.requires.fitting) _ _
    c.commit-number.ensures.view _ _ _ c.stamp_up-2.ensures.view refl refl

pub writer_leave-requires-clause-writer : goal.writer_leave-requires-clause-writer
writer_leave-requires-clause-writer g c =
    still_writer _ _ c.requires.object c.requires.reserved _ c.requires.begun.1 _
    (c.stamp_up.ensures.view ∙ ap (stamped c.args.o) c.requires.begun.2)
    _ c.detach.ensures.view c.requires.wide _ _ _
    (c.put-3.ensures.view
    ∙ ap (put_in c.args.o 2 c.args.second)
    (c.put-2.ensures.view ∙ ap (put_in c.args.o 1 c.args.first) c.put.ensures.view))
    _ c.attach.ensures.view g.L.Law.fits _
    (subst (λ v. 0 < v.allowance) c.requires.begun.2 c.requires.allowed)
    (subst (λ v. g.L.Law.fits c.args.window.now.shape
    (pair_entry v c.args.o c.args.first c.args.second (g.C.Carries.note c.args.note.now)))
    c.requires.begun.2 c.requires.fitting) _ _
    c.commit-number.ensures.view _ _ _ c.stamp_up-2.ensures.view c.mark_leave.ensures.view refl

pub returns-clause-rest : goal.returns-clause-rest
returns-clause-rest g c = at_rest _ _ c.requires.object c.requires.reserved _ c.requires.begun.1 _
    (c.stamp_up.ensures.view ∙ ap (stamped c.args.o) c.requires.begun.2)
    _ c.detach.ensures.view c.requires.wide _ _ _
    (c.put-3.ensures.view
    ∙ ap (put_in c.args.o 2 c.args.second)
    (c.put-2.ensures.view ∙ ap (put_in c.args.o 1 c.args.first) c.put.ensures.view))
    _ c.attach.ensures.view g.L.Law.fits _
    (subst (λ v. 0 < v.allowance) c.requires.begun.2 c.requires.allowed)
    (subst (λ v. g.L.Law.fits c.args.window.now.shape
    (pair_entry v c.args.o c.args.first c.args.second (g.C.Carries.note c.args.note.now)))
    c.requires.begun.2 c.requires.fitting) _ _
    c.commit-number.ensures.view _ _ _ c.stamp_up-2.ensures.view c.mark_leave.ensures.view
    c.writer_leave.ensures.view

pub returns-clause-entry : goal.returns-clause-entry
returns-clause-entry g c =
    let next = is_next _ _ c.requires.object c.requires.reserved _ c.requires.begun.1 _
    (c.stamp_up.ensures.view ∙ ap (stamped c.args.o) c.requires.begun.2)
    _ c.detach.ensures.view c.requires.wide _ _ _
    (c.put-3.ensures.view
    ∙ ap (put_in c.args.o 2 c.args.second)
    (c.put-2.ensures.view ∙ ap (put_in c.args.o 1 c.args.first) c.put.ensures.view))
    _ c.attach.ensures.view g.L.Law.fits _
    (subst (λ v. 0 < v.allowance) c.requires.begun.2 c.requires.allowed)
    (subst (λ v. g.L.Law.fits c.args.window.now.shape
    (pair_entry v c.args.o c.args.first c.args.second (g.C.Carries.note c.args.note.now)))
    c.requires.begun.2 c.requires.fitting) _ _
    c.commit-number.ensures.view _ _ _ c.stamp_up-2.ensures.view c.mark_leave.ensures.view
    c.writer_leave.ensures.view in
    next_of c.args.o c.args.first c.args.second (g.C.Carries.note c.args.note.now) _ _ _ _
    c.requires.begun.2 next
