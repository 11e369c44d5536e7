use Rattle.window_rule.specs.Steps.{Rises, object_of}
use Rattle.window_rule.specs.Trails.{Following}
use Rattle.fabric.proofs.rank.Rank.rise_try.Given as goal

abbrev pub ghosts-compare_exchange : goal.ghosts-compare_exchange
ghosts-compare_exchange g a =
    record { told = Following (Rises a.window.now.shape (object_of a.word)) }
