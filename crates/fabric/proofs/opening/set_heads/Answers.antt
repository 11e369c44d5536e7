use Rattle.std.proofs.Common.{arith}
use Rattle.window_rule.proofs.Openings.{AreWords-head}
use Rattle.fabric.proofs.opening.set_heads.Goals as goal

pub loop-rank-preserved : goal.loop-rank-preserved
loop-rank-preserved c =
    rw (c.number.ensures.value, c.first_head-head.ensures)
    (AreWords-head c.args.geometry.now c.args.tag c.loop-rank.words c.loop-rank.rank
    (omega arith) c.loop-rank.invariant)
