use Rattle.std.proofs.Common.{◌≡◌}
use Rattle.drill.specs.Draws.{state_after}
use Rattle.drill.proofs.script.behind_load.Given as goal

abbrev pub invariant-loop : goal.invariant-loop
invariant-loop l = l.draws ≡ state_after l.seed l.counter
