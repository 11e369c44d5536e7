use Rattle.std.specs.Prelude.{◌≡◌}
use Rattle.window_rule.specs.Steps.{object_of}
use Rattle.window_rule.specs.Pool.{linked}
use Rattle.fabric.proofs.rank.joins.link_seat.Given as goal

abbrev pub ghosts-store_by : goal.ghosts-store_by
ghosts-store_by g a =
    record { told = λ before next after. after ≡ linked (object_of a.word) next before }
