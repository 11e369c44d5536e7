use Rattle.std.proofs.Common.{length, ◌-◌}
use Rattle.gdi_io.proofs.WriteSoFar.{HasTaken}
use Rattle.gdi_io.proofs.whole.write_all.Given as goal

abbrev pub invariant-loop-taken : goal.invariant-loop-taken
invariant-loop-taken g l = HasTaken (g.K.Sink.taken l.fn.out) (g.K.Sink.taken l.out) l.bytes l.taken

abbrev pub decreases-loop-taken : goal.decreases-loop-taken
decreases-loop-taken g l = length l.bytes - l.taken
