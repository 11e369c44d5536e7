use Rattle.window_rule.specs.Steps.{object_of}
use Rattle.window_rule.specs.Detach.{Detaches}
use Rattle.window_rule.specs.Trails.{Following}
use Rattle.fabric.proofs.rank.Rank.detach.Given as goal

abbrev pub ghosts-store : goal.ghosts-store
ghosts-store g a =
    record {
      told = Following
          (λ before _ after. Detaches a.window.now.shape (object_of a.word) before after);
    }
