use Rattle.window_rule.proofs.NextSteps.{next_permitted}
use Rattle.window_rule.proofs.Trails.{following, nexts_on}
use Rattle.fabric.proofs.rank.Rank.next.Goals as goal

pub load-requires-clause-permits : goal.load-requires-clause-permits
load-requires-clause-permits g c =
    following g.L.Law.fits _ _ _ _ _
    (next_permitted g.L.Law.fits _ _ _ c.requires.some_block)
    (nexts_on _ _ _)

pub load-requires-clause-spares : goal.load-requires-clause-spares
load-requires-clause-spares g c = λ found after told. told.2 _ _
