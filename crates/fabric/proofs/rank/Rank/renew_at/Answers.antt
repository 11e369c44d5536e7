use Rattle.std.proofs.Common.{refl}
use Rattle.window_rule.proofs.Renewals.{renew_permitted_at}
use Rattle.window_rule.proofs.Trails.{following, stays}
use Rattle.fabric.proofs.rank.Rank.renew_at.Goals as goal

pub store-requires-clause-permits : goal.store-requires-clause-permits
store-requires-clause-permits g c =
    following g.L.Law.fits _ _ _ _ _
    (renew_permitted_at g.L.Law.fits _ _ _ _ _ c.requires.may c.first.ensures.first)
    (λ _ _ told. stays c.args.self.now.view _ _ told refl)

pub store-requires-clause-spares : goal.store-requires-clause-spares
store-requires-clause-spares g c = λ after told. told.2 _ _
