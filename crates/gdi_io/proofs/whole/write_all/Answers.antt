use Rattle.std.proofs.Common.{arith}
use Rattle.std.proofs.lemmas.Grind.{common_steps}
use Rattle.gdi_io.proofs.WriteSoFar.{has_taken_on}
use Rattle.gdi_io.proofs.whole.write_all.Goals as goal

pub loop-taken-preserved : goal.loop-taken-preserved
loop-taken-preserved g c = has_taken_on _ _ _ _ _ _ _ c.loop-taken.invariant (grind (arith, common_steps)) c.in_ok-taken.ensures
