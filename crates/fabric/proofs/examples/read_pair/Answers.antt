use Rattle.std.proofs.Common.{ap, ◌∙◌, subst, sym}
use Rattle.window_rule.specs.Reads.{MayGet}
use Rattle.window_rule.proofs.PairReads.{may_get, two_words}
use Rattle.fabric.proofs.examples.read_pair.Goals as goal

pub get-requires-clause-may : goal.get-requires-clause-may
get-requires-clause-may g c =
    may_get g.L.Law.fits _ _ c.requires.reserved c.requires.wide _ _ _ c.length.ensures.view
    c.length.ensures.truths

pub get-requires-2-clause-may : goal.get-requires-2-clause-may
get-requires-2-clause-may g c =
    subst (λ v. MayGet v c.args.o) (sym c.get.ensures.view.view)
    (may_get g.L.Law.fits _ _ c.requires.reserved c.requires.wide _ _ _ c.length.ensures.view
    c.length.ensures.truths)

pub returns-clause-pair : goal.returns-clause-pair
returns-clause-pair g c =
    two_words g.L.Law.fits _ _ c.requires.reserved c.requires.wide _ _ _ c.length.ensures.view
    c.length.ensures.truths
    _ _ _ _ c.share_leave-2.new.self.view c.if-length-ne2.false c.get.ensures.view
    c.get.ensures.view.view c.get-2.ensures.view
    (ap (λ v. v.seen) c.share_leave-2.ensures.view
    ∙ (ap (λ v. v.seen) c.get-2.ensures.view.view ∙ ap (λ v. v.seen) c.get.ensures.view.view))
