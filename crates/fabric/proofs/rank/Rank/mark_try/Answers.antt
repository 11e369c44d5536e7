use Rattle.window_rule.proofs.LockSteps.{mark_permitted}
use Rattle.window_rule.proofs.Trails.{following, marks_on}
use Rattle.fabric.proofs.rank.Rank.mark_try.Goals as goal

pub compare_exchange-word-requires-clause-permits :
    goal.compare_exchange-word-requires-clause-permits
compare_exchange-word-requires-clause-permits g c =
    following g.L.Law.fits _ _ _ _ _
    (mark_permitted g.L.Law.fits _ _ c.requires.object _ c.requires.unlocked)
    (marks_on _ _ _)

pub compare_exchange-word-requires-clause-spares :
    goal.compare_exchange-word-requires-clause-spares
compare_exchange-word-requires-clause-spares g c = λ found after told. told.2 _ _
