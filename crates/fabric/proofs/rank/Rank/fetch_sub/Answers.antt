use Rattle.std.proofs.Common.{◌+◌, ◌-◌, ◌%◌, ◌^◌}
use Rattle.fabric.proofs.Calls.{rank_keeps, step_call}
use Rattle.fabric.proofs.rank.Rank.fetch_sub.Goals as goal

pub fetch_sub-requires : goal.fetch_sub-requires
fetch_sub-requires g c =
    step_call g.L.Law.fits _ _ _
    (λ found. (found + (2 ^ 64 - c.args.k)) % 2 ^ 64) g.T.Telling.told c.args.word _ _ _ _ _ _ _ _ _
    c.window.view_is c.window.invariant c.self.view_is c.self.invariant.live c.requires.window
    c.requires.word c.number-number.ensures c.requires.permits

pub invariant_of-self : goal.invariant_of-self
invariant_of-self g c =
    rank_keeps _ _ _ _ _ _ _
    (λ before. g.T.Telling.told before c.fetch_sub.result c.fetch_sub.new.seat.me.0) c.self.view_is
    c.requires.window c.self.invariant c.fetch_sub.ensures.2 (c.requires.spares _ _)
