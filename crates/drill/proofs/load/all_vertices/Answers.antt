use Rattle.std.proofs.Common.{arith}
use Rattle.drill.specs.Drill.{vertex_calls}
use Rattle.drill.proofs.Growing.{flat_map_more}
use Rattle.drill.proofs.load.all_vertices.Goals as goal

pub loop-id-preserved : goal.loop-id-preserved
loop-id-preserved c = grind (arith, flat_map_more vertex_calls c.loop-id.id)
