use Rattle.std.proofs.Common.{false, get_or, ap, sym, ◌∙◌, arith}
use Rattle.window_rule.specs.RightsHold.{least_of}
use Rattle.fabric.proofs.RightsKept.{least_is, some_is_held}
use Rattle.fabric.proofs.rank.Rank.least_right.Goals as goal

pub returns-then-held : goal.returns-then-held
returns-then-held g c =
    let here = ap (λ l. get_or l c.loop-rank.rank false) c.deref-held-items.ensures.value in
    least_is c.self.inside.rights.items _ c.loop-rank.rank c.self.invariant.rights
    c.self.invariant.live
    (λ k below held. c.loop-rank.invariant k below
    (ap (λ l. get_or l k false) c.deref-held-items.ensures.value ∙ held))
    (sym here ∙ c.if-held.true)
    ∙ ap (λ m. least_of m.view.rights) c.self.view_is

pub returns : goal.returns
returns g c =
    absurd (some_is_held c.self.inside.rights.items _ c.self.invariant.rights
    c.self.invariant.live
    (λ k below held. c.loop-rank.invariant k
    (omega (arith, c.self.invariant.rights.sized, c.deref-held-items.ensures.len))
    (ap (λ l. get_or l k false) c.deref-held-items.ensures.value ∙ held)))
