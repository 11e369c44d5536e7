use Rattle.std.proofs.Common.{◌≡◌, ◌+◌, ◌*◌, ap, arith}
use Rattle.drill.specs.Draws.{state_after}
use Rattle.drill.specs.Drill.{target_of}
use Rattle.drill.proofs.Growing.{map_more, first_drawn, drawn_on}
use Rattle.drill.proofs.script.targets.Goals as goal

pub loop-preserved : goal.loop-preserved
loop-preserved c =
    let k = c.loop.counter in
    let n = c.args.n in
    let seed = c.args.seed in
    let value = first_drawn seed n (2 * n + k) _ c.loop.invariant.0 in
    let after = drawn_on seed (2 * n + k) _ c.loop.invariant.0 in
    let next : 2 * n + k + 1 ≡ 2 * n + (k + 1) = omega arith in
    grind (arith, value, after, ap (state_after seed) next, map_more (target_of n seed) k)
