use Rattle.std.proofs.Common.{arith}
use Rattle.drill.specs.Drill.{step_of}
use Rattle.drill.proofs.Growing.{passes_more, fails_more}
use Rattle.drill.proofs.script.section.Goals as goal

pub loop-i-preserved : goal.loop-i-preserved
loop-i-preserved c =
    grind (arith, passes_more (step_of c.args.n c.args.seed) c.args.s c.loop-i.i, fails_more (step_of c.args.n c.args.seed) c.args.s c.loop-i.i)
