use Rattle.std.proofs.Common.{ap, ◌∙◌, refl}
use Rattle.window_rule.specs.View.{Returning}
use Rattle.window_rule.specs.Locks.{hold_of}
use Rattle.window_rule.proofs.LockLemmas.{hold_of-with_same}
use Rattle.window_rule.proofs.LockSteps.{share_permitted, share_return_permitted}
use Rattle.window_rule.proofs.Trails.{following, stays, shares_on}
use Rattle.fabric.proofs.rank.Rank.share_try.Goals as goal

pub fetch_add-word-requires-clause-permits : goal.fetch_add-word-requires-clause-permits
fetch_add-word-requires-clause-permits g c =
    following g.L.Law.fits _ _ _ _ _
    (share_permitted g.L.Law.fits _ _ c.requires.object _ c.requires.unlocked) (shares_on _ _ _)

pub fetch_sub-requires-clause-permits : goal.fetch_sub-requires-clause-permits
fetch_sub-requires-clause-permits g c =
    following g.L.Law.fits _ _ _ _ _
    (share_return_permitted g.L.Law.fits _ _ c.requires.object _
    (ap (λ v. hold_of v.locks c.args.o)
    (c.fetch_add-word.ensures.told.0.failed (c.conflicts.ensures.0 c.if-conflicts.true))
    ∙ hold_of-with_same _ c.args.o Returning))
    (λ _ _ told. stays c.fetch_add-word.new.self.view _ _ told refl)

pub fetch_add-word-requires-clause-spares : goal.fetch_add-word-requires-clause-spares
fetch_add-word-requires-clause-spares g c = λ found after told. told.2 _ _

pub fetch_sub-requires-clause-spares : goal.fetch_sub-requires-clause-spares
fetch_sub-requires-clause-spares g c = λ found after told. told.2 _ _
