use Rattle.window_rule.proofs.LengthRead.{length_permitted}
use Rattle.window_rule.proofs.TrueViews.{truly_permitted}
use Rattle.window_rule.proofs.Trails.{following, measures_on}
use Rattle.fabric.proofs.rank.Rank.length.Goals as goal

pub load-requires-clause-permits : goal.load-requires-clause-permits
load-requires-clause-permits g c =
    truly_permitted g.L.Law.fits _ _ _ _ _
    (following g.L.Law.fits _ _ _ _ _
    (length_permitted g.L.Law.fits _ _ _ c.requires.object c.requires.may) (measures_on _ _))

pub load-requires-clause-spares : goal.load-requires-clause-spares
load-requires-clause-spares g c = λ found after told. told.0.2 _ _
