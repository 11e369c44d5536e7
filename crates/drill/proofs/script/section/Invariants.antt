use Rattle.std.proofs.Common.{◌≡◌, ◌%◌, ◌==◌, map, filter}
use Rattle.std.specs.List.{range_with_len}
use Rattle.drill.specs.Drill.{step_of}
use Rattle.drill.proofs.script.section.Given as goal

abbrev pub invariant-loop-i : goal.invariant-loop-i
invariant-loop-i l = l.section ≡ map (step_of l.n l.seed) (filter (λ i. i % 8 == l.s) (range_with_len 0 l.i))
