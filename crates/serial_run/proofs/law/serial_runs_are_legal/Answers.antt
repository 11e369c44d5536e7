use Rattle.serial_run.proofs.SerialIsLegal.{serial_is_legal}
use Rattle.serial_run.proofs.law.serial_runs_are_legal.Goals as goal

pub returns : goal.returns
returns c = serial_is_legal
