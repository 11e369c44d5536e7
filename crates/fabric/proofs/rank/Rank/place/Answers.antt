use Rattle.window_rule.proofs.PlaceSteps.{place_permitted}
use Rattle.window_rule.proofs.TrueViews.{truly_permitted, witnessed}
use Rattle.window_rule.proofs.Trails.{following, places_on}
use Rattle.fabric.proofs.rank.Rank.place.Goals as goal

pub load-requires-clause-permits : goal.load-requires-clause-permits
load-requires-clause-permits g c =
    witnessed g.L.Law.fits _ _ _ _
    (truly_permitted g.L.Law.fits _ _ _ _ _
    (following g.L.Law.fits _ _ _ _ _ (place_permitted g.L.Law.fits _ _) (places_on _)))

pub load-requires-clause-spares : goal.load-requires-clause-spares
load-requires-clause-spares g c = λ found after told. told.0.0.2 _ _
