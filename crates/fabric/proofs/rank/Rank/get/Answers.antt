use Rattle.window_rule.proofs.GetSteps.{get_permitted}
use Rattle.std.proofs.Common.{refl}
use Rattle.window_rule.proofs.Trails.{following, stays}
use Rattle.fabric.proofs.rank.Rank.get.Goals as goal

pub load-requires-clause-permits : goal.load-requires-clause-permits
load-requires-clause-permits g c =
    following g.L.Law.fits _ _ _ _ _
    (get_permitted g.L.Law.fits _ _ _ _)
    (λ _ _ told. stays c.args.self.now.view _ _ told.view refl)

pub load-requires-clause-spares : goal.load-requires-clause-spares
load-requires-clause-spares g c = λ found after told. told.2 _ _
