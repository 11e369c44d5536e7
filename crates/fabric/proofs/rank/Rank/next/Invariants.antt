use Rattle.window_rule.specs.Steps.{object_of}
use Rattle.window_rule.specs.Pool.{Nexts}
use Rattle.window_rule.specs.Trails.{Following}
use Rattle.fabric.proofs.rank.Rank.next.Given as goal

abbrev pub ghosts-load : goal.ghosts-load
ghosts-load g a = record { told = Following (Nexts a.window.now.shape (object_of a.word)) }
