use Rattle.std.proofs.Common.{length}
use Rattle.script_text.proofs.PartLemmas.{IsPart}
use Rattle.script_text.proofs.script_reader.read_script.Given as goal

abbrev pub invariant-loop-rest : goal.invariant-loop-rest
invariant-loop-rest l = IsPart l.bytes l.rest l.number l.reader

abbrev pub decreases-loop-rest : goal.decreases-loop-rest
decreases-loop-rest l = length l.rest
