use Rattle.window_rule.specs.Steps.{object_of}
use Rattle.window_rule.specs.Attach.{AttachesAll}
use Rattle.window_rule.specs.Trails.{Going}
use Rattle.fabric.proofs.rank.Rank.attach.Given as goal

abbrev pub ghosts-store : goal.ghosts-store
ghosts-store g a = record { told = Going (AttachesAll a.window.now.shape (object_of a.word)) }
