use Rattle.window_rule.specs.Steps.{object_of, index_of}
use Rattle.window_rule.specs.Reads.{Gets}
use Rattle.window_rule.specs.Trails.{Following}
use Rattle.fabric.proofs.rank.Rank.get.Given as goal

abbrev pub ghosts-load : goal.ghosts-load
ghosts-load g a =
    record { told = Following (Gets a.window.now.shape (object_of a.word) (index_of a.word)) }
