use Rattle.std.proofs.Common.{◌≡◌, ◌++◌, drop, take}
use Rattle.std.specs.Prelude.{codes}
use Rattle.std.specs.List.{flat_map, AllByRecursion}
use Rattle.text_words.specs.Spelling.{spaced, behind, alternative_parts, IsPart}
use Rattle.text_words.proofs.test_printer.print_test.Given as goal

-- the alternatives so far and those of the rest are all
abbrev pub invariant-loop-atoms : goal.invariant-loop-atoms
invariant-loop-atoms l = record {
  printed : l.out.items ++ flat_map spaced (behind (codes "or") alternative_parts (drop l.atoms-index l.others)) ≡ l.initial.out.items ++ flat_map spaced (behind (codes "or") alternative_parts l.others);
  parts : AllByRecursion IsPart (behind (codes "or") alternative_parts (take l.atoms-index l.others));
}
