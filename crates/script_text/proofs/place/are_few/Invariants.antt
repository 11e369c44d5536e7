use Rattle.std.proofs.Common.{◌≡◌, ◌+◌, length, take}
use Rattle.std.specs.Prelude.{sum_by}
use Rattle.script_text.proofs.place.are_few.Given as goal

-- what is left of the limit
abbrev pub invariant-loop-atoms : goal.invariant-loop-atoms
invariant-loop-atoms l = l.left + sum_by length (take l.atoms-index l.atoms-items) ≡ 64
