use Rattle.outcome_text.proofs.SayingLemmas.{no_writes_says}
use Rattle.outcome_text.proofs.said_reader.writes_said.Goals as goal

pub returns-in_err-writes : goal.returns-in_err-writes
returns-in_err-writes c = rw c.from_residual.ensures (no_writes_says _ c.in_err-writes.ensures)
