use Rattle.std.proofs.Common.{refl}
use Rattle.window_rule.proofs.GateSteps.{whole_leave_permitted}
use Rattle.window_rule.proofs.Trails.{following, stays}
use Rattle.fabric.proofs.rank.Rank.all_leave.Goals as goal

pub fetch_sub-requires-clause-permits : goal.fetch_sub-requires-clause-permits
fetch_sub-requires-clause-permits g c =
    following g.L.Law.fits _ _ _ _ _ (whole_leave_permitted g.L.Law.fits _ _ c.requires.whole)
    (λ _ _ told. stays c.args.self.now.view _ _ told refl)

pub fetch_sub-requires-clause-spares : goal.fetch_sub-requires-clause-spares
fetch_sub-requires-clause-spares g c = λ found after told. told.2 _ _
