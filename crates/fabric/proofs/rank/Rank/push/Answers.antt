use Rattle.std.proofs.Common.{◌+◌, ap, ◌∙◌}
use Rattle.window_rule.specs.Pool.{head_of}
use Rattle.window_rule.proofs.PushSteps.{push_permitted_at}
use Rattle.window_rule.proofs.Trails.{going, pushes_at}
use Rattle.fabric.proofs.rank.Rank.push.Goals as goal

pub compare_exchange-found-requires-clause-permits :
    goal.compare_exchange-found-requires-clause-permits
compare_exchange-found-requires-clause-permits g c =
    going g.L.Law.fits _ _ _ _ _
    (push_permitted_at g.L.Law.fits _ c.args.b c.rank.result c.block.result c.args.head _ _
    c.requires.may c.rank.ensures c.block.ensures.value
    (c.head_of-new.ensures.head ∙ ap (λ t. head_of (t + 1) c.block.result) c.tag.ensures.tag))
    (λ found after told. (pushes_at _ _ c.args.b _ _ _ _ found after c.rank.ensures
    (c.head_of-new.ensures.first ∙ c.block.ensures.value) c.requires.no_spare told).0)

pub compare_exchange-found-requires-clause-spares :
    goal.compare_exchange-found-requires-clause-spares
compare_exchange-found-requires-clause-spares g c =
    λ found after told. (pushes_at _ _ c.args.b _ _ _ _ found after c.rank.ensures
    (c.head_of-new.ensures.first ∙ c.block.ensures.value) c.requires.no_spare told.0).1
