use Rattle.std.proofs.Common.{◌≡◌, rules, subst, arith}
use Rattle.fabric.proofs.RightsKept.{AreBelow, all_below, none_below, one_more}
use Rattle.fabric.proofs.rank.rights.first_rights.Goals as goal

pub loop-rank-init : goal.loop-rank-init
loop-rank-init c = none_below _ (search rules)

pub loop-rank-preserved : goal.loop-rank-preserved
loop-rank-preserved c = one_more _ c.loop-rank.rank (omega arith) c.loop-rank.invariant

pub returns : goal.returns
returns c =
    let all : c.loop-rank.rank ≡ c.args.ranks = omega arith in
    all_below _ c.args.ranks (subst (AreBelow c.loop-rank.held.items) all c.loop-rank.invariant)
