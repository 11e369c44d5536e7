use Rattle.std.proofs.Common.{◌≡◌, Some, ap, ◌∙◌, get_or, arith}
use Rattle.graph_walks.proofs.Finding.{all_below, passed_over, get-at}
use Rattle.graph_walks.proofs.places.halved.Goals as goal

pub returns-then-low-ids : goal.returns-then-low-ids
returns-then-low-ids c = all_below c.args.ids.now c.args.id c.loop-low.low c.loop-low.invariant.before c.requires.rises (λ k from below. c.loop-low.invariant.behind k (omega (arith, c.loop-low-test.false, from)) below) (omega (arith, c.if-low-ids.true))

pub returns-then-ids-low : goal.returns-then-ids-low
returns-then-ids-low c = passed_over c.args.ids.now c.args.id c.loop-low.low c.loop-low.invariant.before c.requires.rises (λ k from below. c.loop-low.invariant.behind k (omega (arith, c.loop-low-test.false, from)) below) (omega (arith, c.if-low-ids.false, c.loop-low.invariant.order, c.loop-low.invariant.high)) c.if-ids-low.true

pub returns : goal.returns
returns c =
    let is : get_or c.args.ids.now c.loop-low.low 0 ≡ c.args.id = c.if-ids-low.false in
    get-at c.args.ids.now c.loop-low.low (omega (arith, c.if-low-ids.false, c.loop-low.invariant.order, c.loop-low.invariant.high)) ∙ ap Some is
