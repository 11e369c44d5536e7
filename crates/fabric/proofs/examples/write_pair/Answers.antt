use Rattle.std.proofs.Common.{ap, ◌∙◌, subst, sym}
use Rattle.window_rule.specs.View.{Marked}
use Rattle.window_rule.specs.Steps.{locked, tried}
use Rattle.window_rule.specs.Pairs.{pair_entry}
use Rattle.fabric.proofs.MarkedPairs.{next_before}
use Rattle.fabric.proofs.examples.write_pair.Goals as goal

pub write_marked-number-requires-clause-begun : goal.write_marked-number-requires-clause-begun
write_marked-number-requires-clause-begun g c = (
  c.args.rank.now.view,
  c.requires.rest,
  c.in_default.ensures.view
      ∙ ap (λ v. tried (locked c.args.o Marked v)) c.in_ok-writer_try.ensures.view,
)

pub write_marked-number-requires-clause-fitting : goal.write_marked-number-requires-clause-fitting
write_marked-number-requires-clause-fitting g c =
    subst (λ v. g.L.Law.fits c.args.window.now.shape
    (pair_entry v c.args.o c.args.first c.args.second (g.C.Carries.note c.args.note.now)))
    (sym (c.in_default.ensures.view
    ∙ ap (λ v. tried (locked c.args.o Marked v)) c.in_ok-writer_try.ensures.view))
    c.requires.fitting

pub returns-clause-entry : goal.returns-clause-entry
returns-clause-entry g c =
    next_before c.args.o c.args.first c.args.second (g.C.Carries.note c.args.note.now)
    c.args.rank.now.view _ _ _
    (c.in_default.ensures.view
    ∙ ap (λ v. tried (locked c.args.o Marked v)) c.in_ok-writer_try.ensures.view)
    c.write_marked-number.ensures.entry
