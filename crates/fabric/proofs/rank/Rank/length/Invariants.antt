use Rattle.window_rule.specs.Steps.{object_of}
use Rattle.window_rule.specs.Lengths.{Measures}
use Rattle.window_rule.specs.Trails.{Following}
use Rattle.window_rule.specs.Truths.{IsTrueView}
use Rattle.fabric.proofs.rank.Rank.length.Given as goal

abbrev pub ghosts-load : goal.ghosts-load
ghosts-load g a = record {
  told = λ before found after. Following (Measures (object_of a.word)) before found after
      × IsTrueView g.L.Law.fits a.window.now.shape after;
}
