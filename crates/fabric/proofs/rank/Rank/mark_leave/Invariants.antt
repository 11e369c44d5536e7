use Rattle.window_rule.specs.Steps.{Leaves, object_of}
use Rattle.window_rule.specs.Trails.{Following}
use Rattle.fabric.proofs.rank.Rank.mark_leave.Given as goal

abbrev pub ghosts-fetch_sub : goal.ghosts-fetch_sub
ghosts-fetch_sub g a =
    record { told = Following (λ before _ after. Leaves (object_of a.word) before after) }
