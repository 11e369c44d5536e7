use Rattle.window_rule.specs.Gate.{EntersAsWriter, LeavesGate}
use Rattle.window_rule.specs.Trails.{Following}
use Rattle.fabric.proofs.rank.Rank.writer_try.Given as goal

abbrev pub ghosts-fetch_add : goal.ghosts-fetch_add
ghosts-fetch_add g a = record { told = Following (EntersAsWriter a.window.now.shape) }

abbrev pub ghosts-fetch_sub : goal.ghosts-fetch_sub
ghosts-fetch_sub g a = record { told = Following (λ before _ after. LeavesGate before after) }
