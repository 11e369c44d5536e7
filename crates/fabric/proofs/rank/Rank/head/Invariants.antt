use Rattle.window_rule.specs.Pool.{rank_of, Heads}
use Rattle.window_rule.specs.Trails.{Following}
use Rattle.fabric.proofs.rank.Rank.head.Given as goal

abbrev pub ghosts-load : goal.ghosts-load
ghosts-load g a = record { told = Following (Heads a.window.now.shape (rank_of a.word)) }
