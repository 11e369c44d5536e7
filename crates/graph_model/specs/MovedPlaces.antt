-- Runs that differ in the places at which transactions read.
use Rattle.std.specs.Prelude.{◌≡◌, ◌≤◌, List, [], ◌∷◌, length}
use Rattle.std.specs.List.{AllByRecursion}
use Rattle.gdi_kinds.specs.declared.txn.Txn.{Txn}
use Rattle.gdi_kinds.specs.declared.outcome.Outcome.{Outcome}
use Rattle.gdi_kinds.specs.declared.outcome.Outcome.TheVariants.{Read}
use Rattle.gdi_kinds.specs.declared.outcome.Line.{Line}
use Rattle.gdi_kinds.specs.declared.outcome.Printed.{Printed}
use Rattle.rma_layout.specs.Shape.{Shape}
use Rattle.graph_model.specs.Placed.{pairs_of}
use Rattle.graph_model.specs.History.{load_entries}
use Rattle.graph_model.specs.LegalRun.{reading_places, KeepsSessionOrder, HasReplies, graph_of_run, IsLegalRun}

-- the same outcome, or the same replies read at another place
abbrev pub IsMoved : Outcome → Outcome → Type 0
IsMoved (Read place replies) (Read other others) = replies ≡ others
IsMoved outcome other = outcome ≡ other

abbrev pub AreMoved : List Line → List Line → Type 0
AreMoved [] [] = Unit {0}
AreMoved [] (other ∷ others) = ⊥
AreMoved (line ∷ lines) [] = ⊥
AreMoved (line ∷ lines) (other ∷ others) = (line.section ≡ other.section) × (line.txn ≡ other.txn) × IsMoved line.outcome other.outcome × AreMoved lines others

-- the new places lie among the entries and in the order of their sections, and give the same replies
pub record MovesReadingPlaces (shape : Shape) (load : List Txn) (script : List (List Txn)) (run moved : Printed) : Type 0 where
  pub lines : AreMoved run.lines moved.lines
  pub writes : run.writes ≡ moved.writes
  pub places : AllByRecursion (λ n. (length (load_entries load) ≤ n) × (n ≤ moved.writes)) (reading_places moved.lines)
  pub in_order : KeepsSessionOrder moved.lines
  pub replies : AllByRecursion (λ pair. HasReplies shape (graph_of_run shape load script run) pair.0.txn pair.1.outcome) (pairs_of script moved.lines)

abbrev pub ReadingPlacesMayMove : Type 0
ReadingPlacesMayMove = (shape : Shape) (load : List Txn) (script : List (List Txn)) (run moved : Printed) → IsLegalRun shape load script run → MovesReadingPlaces shape load script run moved
    → IsLegalRun shape load script moved
