use Rattle.window_rule.proofs.AttachSteps.{attach_permitted}
use Rattle.window_rule.proofs.Trails.{going, attaches_on}
use Rattle.fabric.proofs.rank.Rank.attach.Goals as goal

pub store-requires-clause-permits : goal.store-requires-clause-permits
store-requires-clause-permits g c =
    going g.L.Law.fits _ _ _ _ _
    (attach_permitted g.L.Law.fits _ _ _ _ c.requires.object c.requires.may)
    (λ _ after told. (attaches_on _ _ _ _ _ after c.requires.may c.requires.spares_left told).0)

pub store-requires-clause-spares : goal.store-requires-clause-spares
store-requires-clause-spares g c =
    λ after told. (attaches_on _ _ _ _ _ after c.requires.may c.requires.spares_left told.0).1
