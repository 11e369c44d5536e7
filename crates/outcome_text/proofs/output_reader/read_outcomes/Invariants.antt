use Rattle.std.proofs.Common.{length}
use Rattle.outcome_text.proofs.OutputLaw.{IsReading}
use Rattle.outcome_text.proofs.output_reader.read_outcomes.Given as goal

abbrev pub invariant-loop-line : goal.invariant-loop-line
invariant-loop-line l = IsReading l.bytes l.rest l.number l.reader

abbrev pub decreases-loop-line : goal.decreases-loop-line
decreases-loop-line l = length l.rest
