use Rattle.std.proofs.Common.{◌≡◌, ◌++◌, drop}
use Rattle.std.specs.List.{flat_map}
use Rattle.script_text.specs.Scripts.{step_text, steps_of_txn}
use Rattle.script_text.specs.declared.step.Step.TheVariants.{Section}
use Rattle.script_text.proofs.script_printer.print_section.Given as goal

-- the lines so far and those of the rest are all
abbrev pub invariant-loop-txn : goal.invariant-loop-txn
invariant-loop-txn l = l.out.items ++ flat_map step_text (flat_map steps_of_txn (drop l.txn-index l.txn-items)) ≡ (l.fn.out.items ++ step_text Section) ++ flat_map step_text (flat_map steps_of_txn l.txn-items)
