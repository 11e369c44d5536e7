use Rattle.std.proofs.Common.{arith}
use Rattle.drill.specs.Drill.{section_of}
use Rattle.drill.proofs.Growing.{map_more}
use Rattle.drill.proofs.script.drill_script.Goals as goal

pub loop-s-preserved : goal.loop-s-preserved
loop-s-preserved c = grind (arith, map_more (section_of c.args.n c.args.seed) c.loop-s.s)
