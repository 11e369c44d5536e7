-- Which outputs are accepted, and when a check isn't refused.
use Rattle.std.specs.Prelude.{◌≡◌, ◌⊎◌, ℕ, List, Option, None, Result, Ok, Err, MatchResult}
use Rattle.gdi_kinds.specs.declared.outcome.Printed.{Printed}
use Rattle.rma_layout.specs.Shape.{Shape}
use Rattle.outcome_text.specs.Runs.{IsOutput}
use Rattle.plain_run.specs.declared.run_refused.RunRefused.TheVariants.{NoMemory}
use Rattle.plain_run.specs.declared.workload.Workload.{Workload}
use Rattle.plain_run.specs.Given.{Given}
use Rattle.plain_run.specs.Loading.{HasRoom}
use Rattle.plain_run.specs.Running.{AreTexts, PrintsLegalRun}
use Rattle.run_check.specs.declared.illegal.Illegal.{Illegal}
use Rattle.plain_check.specs.declared.check_refused.CheckRefused.{CheckRefused}
use Rattle.plain_check.specs.declared.check_refused.CheckRefused.TheVariants.{Texts}
use Rattle.plain_check.specs.Checking.{IsVerdict}
use Rattle.plain_check.specs.Refusals.{IsUnchecked}

abbrev pub RightOutputsAreNotRefused : Type 0
RightOutputsAreNotRefused = (shape : Shape) (texts : Given) (output : List ℕ) (workload : Workload) (run : Printed) (refused : CheckRefused)
    → AreTexts shape texts workload → HasRoom shape workload.load → IsOutput output run → IsUnchecked shape texts output refused → refused ≡ Texts NoMemory

-- whatever a check of what a legal run prints may answer, it is that it is legal, or want of memory
abbrev pub WhatRunsPrintIsAccepted : Type 0
WhatRunsPrintIsAccepted = (shape : Shape) (texts : Given) (output : List ℕ) (answer : Result (Option Illegal) CheckRefused) → PrintsLegalRun shape texts output
    → MatchResult answer (IsVerdict shape texts output) (IsUnchecked shape texts output) → (answer ≡ Ok None) ⊎ (answer ≡ Err (Texts NoMemory))
