use Rattle.window_rule.specs.Lengths.{Places}
use Rattle.window_rule.specs.Trails.{Following}
use Rattle.window_rule.specs.Truths.{IsTrueView, WasLawful}
use Rattle.fabric.proofs.rank.Rank.place.Given as goal

abbrev pub ghosts-load : goal.ghosts-load
ghosts-load g a = record {
  told = λ before found after.
      (Following Places before found after × IsTrueView g.L.Law.fits a.window.now.shape after)
      × WasLawful g.L.Law.fits a.window.now.shape a.word found after;
}
