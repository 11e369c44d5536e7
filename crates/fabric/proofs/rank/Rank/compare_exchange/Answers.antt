use Rattle.std.proofs.Common.{◌==◌}
use prog.Atomic.{either}
use Rattle.fabric.proofs.Calls.{rank_keeps, step_call}
use Rattle.fabric.proofs.rank.Rank.compare_exchange.Goals as goal

pub compare_exchange-requires : goal.compare_exchange-requires
compare_exchange-requires g c =
    step_call g.L.Law.fits _ _ _
    (λ found. either (found == c.args.old) c.args.new found)
    g.T.Telling.told c.args.word _ _ _ _ _ _ _ _ _
    c.window.view_is c.window.invariant c.self.view_is c.self.invariant.live c.requires.window
    c.requires.word c.number-number.ensures c.requires.permits

pub invariant_of-self : goal.invariant_of-self
invariant_of-self g c =
    rank_keeps _ _ _ _ _ _ _
    (λ before. g.T.Telling.told before c.compare_exchange.result c.compare_exchange.new.seat.me.0) c.self.view_is
    c.requires.window c.self.invariant c.compare_exchange.ensures.2 (c.requires.spares _ _)
