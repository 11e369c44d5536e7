use Rattle.window_rule.specs.Objects.{first_of}
use Rattle.window_rule.specs.Pool.{rank_of, Pushes}
use Rattle.window_rule.specs.Trails.{Going}
use Rattle.fabric.proofs.rank.Rank.push.Given as goal

abbrev pub ghosts-compare_exchange : goal.ghosts-compare_exchange
ghosts-compare_exchange g a =
    record { told = Going (Pushes a.window.now.shape (rank_of a.word) a.old (first_of a.new)) }
