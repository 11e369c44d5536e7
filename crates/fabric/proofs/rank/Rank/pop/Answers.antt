use Rattle.std.proofs.Common.{◌+◌, ap, ◌∙◌}
use Rattle.window_rule.specs.Pool.{head_of}
use Rattle.window_rule.proofs.PopSteps.{pop_permitted}
use Rattle.window_rule.proofs.Trails.{following, pops_on}
use Rattle.fabric.proofs.rank.Rank.pop.Goals as goal

pub compare_exchange-found-requires-clause-permits :
    goal.compare_exchange-found-requires-clause-permits
compare_exchange-found-requires-clause-permits g c =
    following g.L.Law.fits _ _ _ _ _
    (pop_permitted g.L.Law.fits _ c.args.r c.args.head c.args.next _ _ c.requires.may
    (c.head_of-new.ensures.head ∙ ap (λ t. head_of (t + 1) c.args.next) c.tag.ensures.tag))
    (λ found after told. pops_on _ _ _ _ _ found after told)

pub compare_exchange-found-requires-clause-spares :
    goal.compare_exchange-found-requires-clause-spares
compare_exchange-found-requires-clause-spares g c = λ found after told. told.2 _ _
