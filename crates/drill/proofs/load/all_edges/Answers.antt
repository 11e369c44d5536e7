use Rattle.std.proofs.Common.{◌≡◌, ◌+◌, ◌*◌, ap, arith}
use Rattle.drill.specs.Draws.{state_after}
use Rattle.drill.specs.Drill.{edge_call}
use Rattle.drill.proofs.Growing.{map_more, first_drawn, drawn_on}
use Rattle.drill.proofs.load.all_edges.Goals as goal

pub loop-preserved : goal.loop-preserved
loop-preserved c =
    let k = c.loop.counter in
    let seed = c.args.seed in
    let first = first_drawn seed c.args.n (2 * k) _ c.loop.invariant.0 in
    let between = drawn_on seed (2 * k) _ c.loop.invariant.0 in
    let second = first_drawn seed c.args.n (2 * k + 1) _ between in
    let after = drawn_on seed (2 * k + 1) _ between in
    let next : 2 * k + 1 + 1 ≡ 2 * (k + 1) = omega arith in
    grind (arith, first, between, second, after, ap (state_after seed) next, map_more (edge_call c.args.n seed) k)
