use Rattle.window_rule.specs.Steps.{object_of}
use Rattle.window_rule.specs.Stamping.{RaisesStamp}
use Rattle.window_rule.specs.Trails.{Following}
use Rattle.fabric.proofs.rank.Rank.stamp_up.Given as goal

abbrev pub ghosts-fetch_add : goal.ghosts-fetch_add
ghosts-fetch_add g a =
    record { told = Following (λ before _ after. RaisesStamp (object_of a.word) before after) }
