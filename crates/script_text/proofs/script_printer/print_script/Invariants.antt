use Rattle.std.proofs.Common.{◌≡◌, ◌++◌, drop}
use Rattle.std.specs.List.{flat_map}
use Rattle.script_text.specs.Scripts.{step_text, steps_of_section}
use Rattle.script_text.proofs.script_printer.print_script.Given as goal

-- the lines so far and those of the rest are all
abbrev pub invariant-loop-section : goal.invariant-loop-section
invariant-loop-section l = l.out.items ++ flat_map step_text (flat_map steps_of_section (drop l.section-index l.section-items)) ≡ flat_map step_text (flat_map steps_of_section l.section-items)
