use Rattle.window_rule.specs.Pool.{rank_of, renewed}
use Rattle.std.specs.Prelude.{◌≡◌}
use Rattle.window_rule.specs.Trails.{Following}
use Rattle.fabric.proofs.rank.Rank.renew_at.Given as goal

abbrev pub ghosts-store : goal.ghosts-store
ghosts-store g a =
    record { told = Following (λ before _ after. after ≡ renewed (rank_of a.word) before) }
