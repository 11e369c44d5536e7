use Rattle.window_rule.specs.Steps.{Marks, object_of}
use Rattle.window_rule.specs.Trails.{Following}
use Rattle.fabric.proofs.rank.Rank.mark_try.Given as goal

abbrev pub ghosts-compare_exchange : goal.ghosts-compare_exchange
ghosts-compare_exchange g a =
    record { told = Following (Marks a.window.now.shape (object_of a.word)) }
