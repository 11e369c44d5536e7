use Rattle.std.proofs.Common.{◌≡◌, arith}
use Rattle.window_rule.proofs.Openings.{AreWords-all}
use Rattle.fabric.proofs.opening.set_free_lists.Goals as goal

pub returns : goal.returns
returns c =
    let all : c.loop-rank.rank ≡ c.args.geometry.now.ranks = omega arith in
    AreWords-all c.args.geometry.now c.args.tag c.loop-rank.words (rw all at c.loop-rank.invariant)
