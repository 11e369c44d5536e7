use Rattle.window_rule.proofs.LinkSteps.{link_permitted}
use Rattle.fabric.proofs.rank.joins.link_seat.Goals as goal

pub store_by-requires-clause-permits : goal.store_by-requires-clause-permits
store_by-requires-clause-permits g c =
    link_permitted g.L.Law.fits _ _ _ _ c.requires.may
