use Rattle.std.proofs.Common.{◌≡◌, ◌+◌, ◌-◌, get_or, Some, ap, ◌∙◌, arith}
use Rattle.graph_walks.proofs.Finding.{absent, get-at}
use Rattle.graph_walks.proofs.places.counted.Goals as goal

pub returns-then-id-first : goal.returns-then-id-first
returns-then-id-first c = absent c.args.ids.now c.args.id (λ k below is. let at = c.requires k below in absurd (omega (arith, at, is, c.if-id-first.true)))

pub returns-then-id-first-2 : goal.returns-then-id-first-2
returns-then-id-first-2 c = absent c.args.ids.now c.args.id (λ k below is. let at = c.requires k below in absurd (omega (arith, at, is, below, c.if-id-first-2.true)))

pub returns : goal.returns
returns c =
    let first = get_or c.args.ids.now 0 0 in
    let sum : first + (c.args.id - first) ≡ c.args.id = omega (arith, c.if-id-first.false) in
    let at : get_or c.args.ids.now (c.args.id - first) 0 ≡ first + (c.args.id - first) = c.requires (c.args.id - first) c.if-id-first-2.false in
    get-at c.args.ids.now (c.args.id - first) c.if-id-first-2.false ∙ ap Some (at ∙ sum)
