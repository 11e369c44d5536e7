use Rattle.window_rule.specs.Gate.{LeavesGate}
use Rattle.window_rule.specs.Trails.{Following}
use Rattle.fabric.proofs.rank.Rank.writer_leave.Given as goal

abbrev pub ghosts-fetch_sub : goal.ghosts-fetch_sub
ghosts-fetch_sub g a = record { told = Following (λ before _ after. LeavesGate before after) }
