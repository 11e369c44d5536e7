use Rattle.std.proofs.Common.{◌≡◌, ◌++◌, drop, take}
use Rattle.std.specs.Prelude.{codes}
use Rattle.std.specs.List.{flat_map, AllByRecursion}
use Rattle.text_words.specs.Spelling.{spaced, behind, atom_parts, IsPart}
use Rattle.text_words.proofs.test_printer.print_alternative.Given as goal

-- the atoms so far and those of the rest are all
abbrev pub invariant-loop-atom : goal.invariant-loop-atom
invariant-loop-atom l = record {
  printed : l.out.items ++ flat_map spaced (behind (codes "and") atom_parts (drop l.atom-index l.others)) ≡ l.initial.out.items ++ flat_map spaced (behind (codes "and") atom_parts l.others);
  parts : AllByRecursion IsPart (behind (codes "and") atom_parts (take l.atom-index l.others));
}
