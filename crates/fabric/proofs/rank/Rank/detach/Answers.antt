use Rattle.window_rule.proofs.DetachKept.{detach_permitted}
use Rattle.std.proofs.Common.{refl}
use Rattle.window_rule.proofs.Trails.{following, stays}
use Rattle.fabric.proofs.rank.Rank.detach.Goals as goal

pub store-requires-clause-permits : goal.store-requires-clause-permits
store-requires-clause-permits g c =
    following g.L.Law.fits _ _ _ _ _
    (detach_permitted g.L.Law.fits _ _ _ c.requires.object c.requires.may)
    (λ _ _ told. stays c.args.self.now.view _ _ told.view refl)

pub store-requires-clause-spares : goal.store-requires-clause-spares
store-requires-clause-spares g c = λ after told. told.2 _ _
