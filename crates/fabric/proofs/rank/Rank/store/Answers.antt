use Rattle.fabric.proofs.Calls.{rank_keeps, step_call}
use Rattle.fabric.proofs.rank.Rank.store.Goals as goal

pub store-requires : goal.store-requires
store-requires g c =
    step_call g.L.Law.fits _ _ _ (λ _. c.args.new)
    (λ before _ after. g.T.Telling.told before c.args.new after) c.args.word _ _ _ _ _ _ _ _ _
    c.window.view_is c.window.invariant c.self.view_is c.self.invariant.live c.requires.window
    c.requires.word c.number-number.ensures c.requires.permits

pub invariant_of-self : goal.invariant_of-self
invariant_of-self g c =
    rank_keeps _ _ _ _ _ _ _
    (λ before. g.T.Telling.told before c.args.new c.store.new.seat.me.0) c.self.view_is
    c.requires.window c.self.invariant c.store.ensures.2 (c.requires.spares _)
