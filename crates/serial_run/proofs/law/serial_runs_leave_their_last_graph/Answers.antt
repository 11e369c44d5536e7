use Rattle.serial_run.proofs.SerialIsLegal.{serial_leaves_last}
use Rattle.serial_run.proofs.law.serial_runs_leave_their_last_graph.Goals as goal

pub returns : goal.returns
returns c = serial_leaves_last
