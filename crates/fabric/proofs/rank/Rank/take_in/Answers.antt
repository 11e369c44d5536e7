use Rattle.std.proofs.Common.{◌≡◌, false, length, get_or, ap, sym, ◌∙◌}
use Rattle.fabric.specs.Window.{any}
use Rattle.fabric.proofs.Written.{written}
use Rattle.fabric.proofs.SeatCalls.{join_call, join_keeps}
use Rattle.fabric.proofs.rank.Rank.take_in.Goals as goal

pub join_seat-requires : goal.join_seat-requires
join_seat-requires g c =
    join_call g.L.Law.fits _ _ _ _ _ _ _ _ c.window.view_is c.window.invariant _ _ c.self.view_is
    _ _ _ c.self.invariant.live c.requires.window c.requires.idle

pub invariant_of-self : goal.invariant_of-self
invariant_of-self g c =
    let new = c.add_rights.new.held in
    let sized : length new ≡ 64 = c.add_rights.auto.held ∙ (ap length c.as_mut_slice.ensures.value
    ∙ c.self.invariant.rights.sized) in
    let is = written new c.self.inside.rights.items c.self.inside.rights.len
    (sym (c.add_rights.auto.held ∙ c.as_mut_slice.ensures.len)) in
    join_keeps _ _ c.args.other.me.0 c.args.rights.now _ _ _ (ap length is ∙ sized)
    (λ rank. ap (λ l. get_or l rank false) is ∙ (c.add_rights.ensures rank
    ∙ ap (λ l. any (get_or l rank false) (get_or c.args.rights.now rank false))
    c.as_mut_slice.ensures.value))
    c.requires.rights c.self.invariant c.join_seat.ensures.2
