use Rattle.window_rule.specs.Steps.{object_of, index_of}
use Rattle.window_rule.specs.Reads.{Puts}
use Rattle.window_rule.specs.Trails.{Following}
use Rattle.fabric.proofs.rank.Rank.put.Given as goal

abbrev pub ghosts-store : goal.ghosts-store
ghosts-store g a =
    record {
      told = Following
          (λ before new after. Puts (object_of a.word) (index_of a.word) before new after);
    }
