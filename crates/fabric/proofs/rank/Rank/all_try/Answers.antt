use Rattle.std.proofs.Common.{ap, refl}
use Rattle.window_rule.proofs.GateSteps.{whole_permitted, whole_return_permitted}
use Rattle.window_rule.proofs.Trails.{following, stays, enters_as_whole_on}
use Rattle.fabric.proofs.rank.Rank.all_try.Goals as goal

pub fetch_add-word-requires-clause-permits : goal.fetch_add-word-requires-clause-permits
fetch_add-word-requires-clause-permits g c =
    following g.L.Law.fits _ _ _ _ _ (whole_permitted g.L.Law.fits _ _ c.requires.outside)
    (enters_as_whole_on _ _)

pub fetch_sub-requires-clause-permits : goal.fetch_sub-requires-clause-permits
fetch_sub-requires-clause-permits g c =
    following g.L.Law.fits _ _ _ _ _
    (whole_return_permitted g.L.Law.fits _ _
    (ap (λ v. v.gate)
    (c.fetch_add-word.ensures.told.0.failed (c.conflicts.ensures.0 c.if-conflicts.true))))
    (λ _ _ told. stays c.fetch_add-word.new.self.view _ _ told refl)

pub fetch_add-word-requires-clause-spares : goal.fetch_add-word-requires-clause-spares
fetch_add-word-requires-clause-spares g c = λ found after told. told.2 _ _

pub fetch_sub-requires-clause-spares : goal.fetch_sub-requires-clause-spares
fetch_sub-requires-clause-spares g c = λ found after told. told.2 _ _
