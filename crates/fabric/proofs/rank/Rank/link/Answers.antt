use Rattle.window_rule.proofs.LinkSteps.{link_permitted}
use Rattle.window_rule.proofs.Trails.{going, links_on}
use Rattle.fabric.proofs.rank.Rank.link.Goals as goal

pub store-requires-clause-permits : goal.store-requires-clause-permits
store-requires-clause-permits g c =
    going g.L.Law.fits _ _ _ _ _
    (link_permitted g.L.Law.fits _ _ _ _ c.requires.may)
    (λ _ after told. (links_on _ _ _ _ _ after c.requires.no_spare told).0)

pub store-requires-clause-spares : goal.store-requires-clause-spares
store-requires-clause-spares g c =
    λ after told. (links_on _ _ _ _ _ after c.requires.no_spare told.0).1
