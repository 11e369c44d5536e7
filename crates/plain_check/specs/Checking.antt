-- What a check says of an output.
use Rattle.std.specs.Prelude.{ℕ, List, length, Option, MatchOption}
use Rattle.gdi_kinds.specs.declared.txn.Txn.{Txn}
use Rattle.gdi_kinds.specs.declared.outcome.Printed.{Printed}
use Rattle.rma_layout.specs.Shape.{Shape}
use Rattle.graph_model.specs.History.{load_entries}
use Rattle.graph_model.specs.LegalRun.{graph_of_run, IsLegalRun}
use Rattle.outcome_text.specs.Runs.{IsOutput}
use Rattle.plain_run.specs.declared.workload.Workload.{Workload}
use Rattle.plain_run.specs.Given.{Given}
use Rattle.plain_run.specs.Loading.{txns_of, HasRoom}
use Rattle.plain_run.specs.Running.{AreTexts, PrintsLegalRun}
use Rattle.run_check.specs.declared.illegal.Illegal.{Illegal}
use Rattle.run_check.specs.Clauses.{FailsFirst}

-- this clause is the least that a run doesn't keep, and this outcome the first that fails in it
abbrev pub FailsAt : Shape → List Txn → List (List Txn) → Printed → Illegal → Type 0
FailsAt shape load script run illegal = FailsFirst shape (graph_of_run shape load script run) (length (load_entries load)) script run illegal.clause illegal.place

-- the texts are a load that has room, and a script, and the output spells a run that isn't legal for them, for this cause
pub record PrintsIllegalRun (shape : Shape) (texts : Given) (output : List ℕ) (illegal : Illegal) : Type 0 where
  pub workload : Workload
  pub run : Printed
  pub are : AreTexts shape texts workload
  pub room : HasRoom shape workload.load
  pub printed : IsOutput output run
  pub fails : FailsAt shape (txns_of workload.load) workload.script run illegal
  pub not_legal : ¬ IsLegalRun shape (txns_of workload.load) workload.script run

-- the output is one that a run of the texts may print, or it is none for this cause
abbrev pub IsVerdict : Shape → Given → List ℕ → Option Illegal → Type 0
IsVerdict shape texts output verdict = MatchOption verdict (PrintsLegalRun shape texts output) (PrintsIllegalRun shape texts output)
