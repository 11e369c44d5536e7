use Rattle.window_rule.proofs.PutSteps.{put_permitted}
use Rattle.std.proofs.Common.{refl}
use Rattle.window_rule.proofs.Trails.{following, stays}
use Rattle.fabric.proofs.rank.Rank.put.Goals as goal

pub store-requires-clause-permits : goal.store-requires-clause-permits
store-requires-clause-permits g c =
    following g.L.Law.fits _ _ _ _ _
    (put_permitted g.L.Law.fits _ _ _ _ _ c.requires.may)
    (λ _ _ told. stays c.args.self.now.view _ _ told refl)

pub store-requires-clause-spares : goal.store-requires-clause-spares
store-requires-clause-spares g c = λ after told. told.2 _ _
