use Rattle.std.proofs.Common.{◌≡◌, ◌*◌, map}
use Rattle.std.specs.List.{range_with_len}
use Rattle.drill.specs.Draws.{state_after}
use Rattle.drill.specs.Drill.{edge_call}
use Rattle.drill.proofs.load.all_edges.Given as goal

abbrev pub invariant-loop : goal.invariant-loop
invariant-loop l =
    (l.draws ≡ state_after l.seed (2 * l.counter)) × (l.calls ≡ map (edge_call l.n l.seed) (range_with_len 0 l.counter))
