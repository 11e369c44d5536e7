use Rattle.std.proofs.Common.{refl}
use Rattle.window_rule.proofs.StampSteps.{stamp_permitted}
use Rattle.window_rule.proofs.Trails.{following, stays}
use Rattle.fabric.proofs.rank.Rank.stamp_up.Goals as goal

pub fetch_add-requires-clause-permits : goal.fetch_add-requires-clause-permits
fetch_add-requires-clause-permits g c =
    following g.L.Law.fits _ _ _ _ _
    (stamp_permitted g.L.Law.fits _ _ _ c.requires.object c.requires.may)
    (λ _ _ told. stays c.args.self.now.view _ _ told refl)

pub fetch_add-requires-clause-spares : goal.fetch_add-requires-clause-spares
fetch_add-requires-clause-spares g c = λ found after told. told.2 _ _
