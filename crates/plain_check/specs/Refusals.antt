-- Why an output isn't checked.
use Rattle.std.specs.Prelude.{ℕ, List}
use Rattle.gdi_kinds.specs.declared.outcome.Printed.{Printed}
use Rattle.rma_layout.specs.Shape.{Shape}
use Rattle.outcome_text.specs.declared.output_reader.OutputRefused.{OutputRefused}
use Rattle.outcome_text.specs.declared.output_reader.OutputRefused.TheVariants as output
use Rattle.outcome_text.specs.Runs.{IsOutput}
use Rattle.outcome_text.specs.WrongLine.{IsFirstWrong}
use Rattle.plain_run.specs.declared.run_refused.RunRefused.TheVariants.{BadLoad, BadScript, LoadFull, NoMemory}
use Rattle.plain_run.specs.declared.workload.Workload.{Workload}
use Rattle.plain_run.specs.Given.{Given}
use Rattle.plain_run.specs.Running.{AreTexts, TellsWhy}
use Rattle.plain_check.specs.declared.check_refused.CheckRefused.{CheckRefused}
use Rattle.plain_check.specs.declared.check_refused.CheckRefused.TheVariants.{Texts, BadOutput}

-- as an output is refused by its reader
abbrev pub refused_by : OutputRefused → CheckRefused
refused_by (output.Bad line) = BadOutput line
refused_by output.NoMemory = Texts NoMemory

-- Why an output isn't checked: its wrong line is told where the texts are right, and want of room where it has no wrong line.
abbrev pub IsUnchecked : Shape → Given → List ℕ → CheckRefused → Type 0
IsUnchecked shape texts output (Texts (BadLoad file row kind)) = TellsWhy shape texts (BadLoad file row kind)
IsUnchecked shape texts output (Texts (BadScript line kind)) = TellsWhy shape texts (BadScript line kind)
IsUnchecked shape texts output (BadOutput line) = ((workload : Workload) × AreTexts shape texts workload) × IsFirstWrong output line
IsUnchecked shape texts output (Texts (LoadFull file rank)) = ((run : Printed) × IsOutput output run) × TellsWhy shape texts (LoadFull file rank)
IsUnchecked shape texts output (Texts NoMemory) = Unit {0}
