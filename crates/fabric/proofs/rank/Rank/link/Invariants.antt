use Rattle.window_rule.specs.Steps.{object_of}
use Rattle.window_rule.specs.Pool.{linked}
use Rattle.std.specs.Prelude.{◌≡◌}
use Rattle.window_rule.specs.Trails.{Going}
use Rattle.fabric.proofs.rank.Rank.link.Given as goal

abbrev pub ghosts-store : goal.ghosts-store
ghosts-store g a =
    record { told = Going (λ before next after. after ≡ linked (object_of a.word) next before) }
