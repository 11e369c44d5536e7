use Rattle.std.proofs.Common.{◌≡◌, Bool, false, replicate, rules, ap, ◌∙◌, arith}
use Rattle.window_rule.specs.HistoryHolds.{is_among}
use Rattle.fabric.proofs.RightsKept.{held_below, none_below, one_is}
use Rattle.fabric.proofs.rank.Rank.one_right.Goals as goal

pub index_mut-requires : goal.index_mut-requires
index_mut-requires g c =
    let below = held_below c.self.inside.rights.items _ c.args.right c.self.invariant.rights
    (ap (λ m. is_among c.args.right m.view.rights) c.self.view_is ∙ c.requires) in
    omega (arith, c.self.invariant.rights.sized, below, c.len.ensures, c.in_ok-held.ensures.len)

pub returns : goal.returns
returns g c =
    let below = held_below c.self.inside.rights.items _ c.args.right c.self.invariant.rights
    (ap (λ m. is_among c.args.right m.view.rights) c.self.view_is ∙ c.requires) in
    let sized : c.len.result ≡ 64 = omega (arith, c.len.ensures, c.self.invariant.rights.sized) in
    let is : c.in_ok-held.held.items ≡ replicate {A = Bool} c.len.result false = search rules in
    one_is c.in_ok-held.held.items c.args.right below
    (none_below _ (is ∙ ap (λ n. replicate {A = Bool} n false) sized))
