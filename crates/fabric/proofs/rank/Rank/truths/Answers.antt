use Rattle.std.proofs.Common.{refl}
use Rattle.window_rule.proofs.TrueViews.{truly_permitted, look_permitted}
use Rattle.window_rule.proofs.Trails.{following, stays}
use Rattle.fabric.proofs.rank.Rank.truths.Goals as goal

pub load-requires-clause-permits : goal.load-requires-clause-permits
load-requires-clause-permits g c =
    truly_permitted g.L.Law.fits _ _ _ _ _
    (following g.L.Law.fits _ _ _ _ _ (look_permitted g.L.Law.fits _ _ _)
    (λ _ _ told. stays c.args.self.now.view _ _ told refl))

pub load-requires-clause-spares : goal.load-requires-clause-spares
load-requires-clause-spares g c = λ found after told. told.0.2 _ _
