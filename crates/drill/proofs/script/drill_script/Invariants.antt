use Rattle.std.proofs.Common.{◌≡◌, map}
use Rattle.std.specs.List.{range_with_len}
use Rattle.drill.specs.Drill.{section_of}
use Rattle.drill.proofs.script.drill_script.Given as goal

abbrev pub invariant-loop-s : goal.invariant-loop-s
invariant-loop-s l = l.script ≡ map (section_of l.n l.seed) (range_with_len 0 l.s)
