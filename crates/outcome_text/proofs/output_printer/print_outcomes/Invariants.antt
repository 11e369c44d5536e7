use Rattle.std.proofs.Common.{◌≡◌, ◌++◌, drop}
use Rattle.std.specs.List.{flat_map, AllByRecursion}
use Rattle.outcome_text.specs.Outputs.{line_text}
use Rattle.outcome_text.specs.Runs.{IsLine}
use Rattle.outcome_text.specs.Told.{OutcomeIsTold}
use Rattle.outcome_text.proofs.output_printer.print_outcomes.Given as goal

-- the lines so far and those of the rest are all, and all fit if the rest do
abbrev pub invariant-loop-line : goal.invariant-loop-line
invariant-loop-line l =
    (l.out.items ++ flat_map line_text (drop l.line-index l.line-items) ≡ flat_map line_text l.line-items)
    × (AllByRecursion (λ line. OutcomeIsTold line.outcome → IsLine line) (drop l.line-index l.line-items) → AllByRecursion (λ line. OutcomeIsTold line.outcome → IsLine line) l.line-items)
