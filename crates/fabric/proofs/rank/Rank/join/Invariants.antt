use Rattle.window_rule.specs.Splits.{Settles}
use Rattle.fabric.proofs.rank.Rank.join.Given as goal

abbrev pub ghosts-load : goal.ghosts-load
ghosts-load g a = record { told = λ before _ after. Settles before after }
