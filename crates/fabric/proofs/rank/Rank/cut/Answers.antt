use Rattle.std.proofs.Common.{ap, subst, sym, ◌∙◌, arith}
use Rattle.window_rule.specs.HistoryHolds.{is_among}
use Rattle.window_rule.specs.Splits.{MaySplit}
use Rattle.fabric.proofs.RightsKept.{held_below}
use Rattle.fabric.proofs.SeatCalls.{split_call, split_keeps}
use Rattle.fabric.proofs.rank.Rank.cut.Goals as goal

pub split_seat-seat-requires : goal.split_seat-seat-requires
split_seat-seat-requires g c =
    split_call g.L.Law.fits _ _ _ _ _ _ _ _ c.window.view_is c.window.invariant _ _ c.self.view_is
    _ _ _ _ c.requires.window c.requires.picked c.requires.may

pub index_mut-requires : goal.index_mut-requires
index_mut-requires g c =
    let below = held_below c.self.inside.rights.items _ c.args.r c.self.invariant.rights
    (ap (λ m. is_among c.args.r m.view.rights) c.self.view_is ∙ c.requires.may.held) in
    omega (arith, c.self.invariant.rights.sized, below)

pub invariant_of-self : goal.invariant_of-self
invariant_of-self g c =
    split_keeps _ _ _ _ c.args.r _ _ c.requires.picked.0
    (subst (λ n. MaySplit c.self.inside.seat.me.0 n g.T.Cutting.commits) (sym c.requires.picked.0)
    (subst (λ n. MaySplit c.self.inside.seat.me.0 c.args.r n) (sym c.requires.picked.1)
    (subst (λ v. MaySplit v c.args.r c.args.commits) (sym (ap (λ r. r.view) c.self.view_is))
    c.requires.may)))
    c.self.invariant c.split_seat-seat.ensures.2
