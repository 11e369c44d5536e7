use Rattle.window_rule.proofs.NoteSteps.{head_permitted}
use Rattle.window_rule.proofs.Trails.{following, heads_on}
use Rattle.fabric.proofs.rank.Rank.head.Goals as goal

pub load-requires-clause-permits : goal.load-requires-clause-permits
load-requires-clause-permits g c =
    following g.L.Law.fits _ _ _ _ _
    (head_permitted g.L.Law.fits _ _ _ c.requires.rank)
    (heads_on _ _ _)

pub load-requires-clause-spares : goal.load-requires-clause-spares
load-requires-clause-spares g c = λ found after told. told.2 _ _
