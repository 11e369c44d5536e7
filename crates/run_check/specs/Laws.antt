-- What is told as the first failure is one.
use Rattle.std.specs.Prelude.{ℕ, List, [], length}
use Rattle.gdi_kinds.specs.declared.txn.Txn.{Txn}
use Rattle.gdi_kinds.specs.declared.outcome.Line.{Line}
use Rattle.gdi_kinds.specs.declared.outcome.Printed.{Printed}
use Rattle.rma_layout.specs.Shape.{Shape}
use Rattle.graph_model.specs.Placed.{Placed, transactions_of}
use Rattle.graph_model.specs.History.{load_entries}
use Rattle.graph_model.specs.LegalRun.{FitsScript, IsNumbered, KeepsSessionOrder, graph_of_run, IsLegalRun}
use Rattle.run_check.specs.declared.clause.Clause.{Clause}
use Rattle.run_check.specs.declared.place.Place.{Place}
use Rattle.run_check.specs.Places.{FirstFails}
use Rattle.run_check.specs.Fitting.{FirstMisfit}
use Rattle.run_check.specs.Numbering.{FirstMisnumbered}
use Rattle.run_check.specs.Ordering.{TooEarly, RisesBySection}
use Rattle.run_check.specs.Clauses.{FailsFirst}

abbrev pub MisfitsDontFit : Type 0
MisfitsDontFit = (transactions : List Placed) (lines : List Line) (place : Place) → FirstMisfit transactions lines place → ¬ FitsScript transactions lines

abbrev pub MisnumberedOnesAreNot : Type 0
MisnumberedOnesAreNot = (load : ℕ) (run : Printed) (place : Place) → FirstMisnumbered load run place → ¬ IsNumbered load run

abbrev pub EarlyOnesAreOutOfOrder : Type 0
EarlyOnesAreOutOfOrder = (lines : List Line) (place : Place) → FirstFails TooEarly [] lines place → ¬ KeepsSessionOrder lines

abbrev pub FittingOnesRise : Type 0
FittingOnesRise = (script : List (List Txn)) (lines : List Line) → FitsScript (transactions_of script) lines → RisesBySection lines

abbrev pub IllegalOnesAreNot : Type 0
IllegalOnesAreNot = (shape : Shape) (load : List Txn) (script : List (List Txn)) (run : Printed) (clause : Clause) (place : Place)
    → FailsFirst shape (graph_of_run shape load script run) (length (load_entries load)) script run clause place → ¬ IsLegalRun shape load script run
