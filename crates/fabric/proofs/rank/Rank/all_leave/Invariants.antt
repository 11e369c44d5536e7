use Rattle.window_rule.specs.Gate.{LeavesWhole}
use Rattle.window_rule.specs.Trails.{Following}
use Rattle.fabric.proofs.rank.Rank.all_leave.Given as goal

abbrev pub ghosts-fetch_sub : goal.ghosts-fetch_sub
ghosts-fetch_sub g a = record { told = Following (λ before _ after. LeavesWhole before after) }
