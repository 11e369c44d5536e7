use Rattle.std.proofs.Common.{◌≡◌, ◌+◌, ◌*◌, map}
use Rattle.std.specs.List.{range_with_len}
use Rattle.drill.specs.Draws.{state_after}
use Rattle.drill.specs.Drill.{target_of}
use Rattle.drill.proofs.script.targets.Given as goal

abbrev pub invariant-loop : goal.invariant-loop
invariant-loop l =
    (l.draws ≡ state_after l.seed (2 * l.n + l.counter)) × (l.targets ≡ map (target_of l.n l.seed) (range_with_len 0 l.counter))
