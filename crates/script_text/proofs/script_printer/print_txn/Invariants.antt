use Rattle.std.proofs.Common.{◌≡◌, ◌++◌, drop, map}
use Rattle.std.specs.List.{flat_map}
use Rattle.script_text.specs.Scripts.{step_text}
use Rattle.script_text.specs.declared.step.Step.TheVariants.{Does, Begin}
use Rattle.script_text.proofs.script_printer.print_txn.Given as goal

-- the lines so far and those of the rest are all
abbrev pub invariant-loop-call : goal.invariant-loop-call
invariant-loop-call l = l.out.items ++ flat_map step_text (map Does (drop l.call-index l.call-items)) ≡ (l.fn.out.items ++ step_text (Begin l.fn.txn.whole)) ++ flat_map step_text (map Does l.call-items)
