use Rattle.window_rule.proofs.LockSteps.{mark_leave_permitted}
use Rattle.std.proofs.Common.{refl}
use Rattle.window_rule.proofs.Trails.{following, stays}
use Rattle.fabric.proofs.rank.Rank.mark_leave.Goals as goal

pub fetch_sub-requires-clause-permits : goal.fetch_sub-requires-clause-permits
fetch_sub-requires-clause-permits g c =
    following g.L.Law.fits _ _ _ _ _
    (mark_leave_permitted g.L.Law.fits _ _ c.requires.object _ c.requires.marked c.requires.clean
    c.requires.closed)
    (λ _ _ told. stays c.args.self.now.view _ _ told refl)

pub fetch_sub-requires-clause-spares : goal.fetch_sub-requires-clause-spares
fetch_sub-requires-clause-spares g c = λ found after told. told.2 _ _
