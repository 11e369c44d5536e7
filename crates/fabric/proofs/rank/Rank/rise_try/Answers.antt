use Rattle.window_rule.proofs.LockSteps.{rise_permitted}
use Rattle.window_rule.proofs.Trails.{following, rises_on}
use Rattle.fabric.proofs.rank.Rank.rise_try.Goals as goal

pub compare_exchange-word-requires-clause-permits :
    goal.compare_exchange-word-requires-clause-permits
compare_exchange-word-requires-clause-permits g c =
    following g.L.Law.fits _ _ _ _ _
    (rise_permitted g.L.Law.fits _ _ c.requires.object _ c.requires.shared)
    (rises_on _ _ _)

pub compare_exchange-word-requires-clause-spares :
    goal.compare_exchange-word-requires-clause-spares
compare_exchange-word-requires-clause-spares g c = λ found after told. told.2 _ _
