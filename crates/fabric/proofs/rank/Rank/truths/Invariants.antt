use Rattle.std.proofs.Common.{◌≡◌}
use Rattle.window_rule.specs.Trails.{Following}
use Rattle.window_rule.specs.Truths.{IsTrueView}
use Rattle.fabric.proofs.rank.Rank.truths.Given as goal

abbrev pub ghosts-load : goal.ghosts-load
ghosts-load g a = record {
  told = λ before found after. Following (λ one _ other. other ≡ one) before found after
      × IsTrueView g.L.Law.fits a.window.now.shape after;
}
