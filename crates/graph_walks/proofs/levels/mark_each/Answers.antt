use Rattle.std.proofs.Common.{arith}
use Rattle.graph_walks.proofs.Finding.{place-has}
use Rattle.graph_walks.proofs.levels.mark_each.Goals as goal

pub mark_one-requires-clause-place : goal.mark_one-requires-clause-place
mark_one-requires-clause-place c =
    let inside = c.requires.within _ (place-has c.args.places.now c.loop-place.place-index _ c.loop-place-test.true Rattle.std.proofs.Common.refl) in omega (arith, inside, c.loop-place.invariant.len)
