-- The least clause that a run doesn't keep, with the first outcome that fails in it.
use Rattle.std.specs.Prelude.{◌≡◌, ◌⊎◌, ℕ, List, [], ◌∷◌}
use Rattle.std.specs.List.{AllByRecursion}
use Rattle.gdi_kinds.specs.declared.txn.Txn.{Txn}
use Rattle.gdi_kinds.specs.declared.outcome.Line.{Line}
use Rattle.gdi_kinds.specs.declared.outcome.Printed.{Printed}
use Rattle.rma_layout.specs.Shape.{Shape}
use Rattle.graph_model.specs.Graph.{Graph}
use Rattle.graph_model.specs.Placed.{Placed, transactions_of, pairs_of}
use Rattle.graph_model.specs.LegalRun.{FitsScript, IsNumbered, KeepsSessionOrder, HasReplies, EndsByCapacity}
use Rattle.run_check.specs.declared.clause.Clause.{Clause}
use Rattle.run_check.specs.declared.clause.Clause.TheVariants.{Fit, Numbers, Order, Replies, Room}
use Rattle.run_check.specs.declared.place.Place.{Place}
use Rattle.run_check.specs.Places.{FirstFails, place_of}
use Rattle.run_check.specs.Fitting.{FirstMisfit}
use Rattle.run_check.specs.Numbering.{FirstMisnumbered}
use Rattle.run_check.specs.Ordering.{TooEarly}

-- the number of a clause, from 1
abbrev pub clause_number : Clause → ℕ
clause_number Fit = 1
clause_number Numbers = 2
clause_number Order = 3
clause_number Replies = 4
clause_number Room = 5

-- an outcome for each transaction, entries each once, and each section in its order
pub record IsPlaced (load : ℕ) (script : List (List Txn)) (run : Printed) : Type 0 where
  pub fits : FitsScript (transactions_of script) run.lines
  pub numbered : IsNumbered load run
  pub in_order : KeepsSessionOrder run.lines

-- a transaction's outcome has the replies of the graph at its place
abbrev pub RepliesAreRight : Shape → (ℕ → Graph) → Placed × Line → Type 0
RepliesAreRight shape graph pair = HasReplies shape graph pair.0.txn pair.1.outcome

-- it is refused for blocks exactly as the graph at its place says
abbrev pub RoomIsRight : Shape → (ℕ → Graph) → Placed × Line → Type 0
RoomIsRight shape graph pair = EndsByCapacity shape graph pair.0.txn pair.1.outcome

-- the first transaction whose outcome isn't right, by the place that the outcome prints
abbrev pub FirstUnlike : (Placed × Line → Type 0) → List (Placed × Line) → Place → Type 0
FirstUnlike IsRight [] place = ⊥
FirstUnlike IsRight (pair ∷ pairs) place = ((¬ IsRight pair) × (place ≡ place_of pair.1)) ⊎ (IsRight pair × FirstUnlike IsRight pairs place)

-- the clauses before this one hold, and in this one the outcome at this place is the first that fails
abbrev pub FailsFirst : Shape → (ℕ → Graph) → ℕ → List (List Txn) → Printed → Clause → Place → Type 0
FailsFirst shape graph load script run Fit place = FirstMisfit (transactions_of script) run.lines place
FailsFirst shape graph load script run Numbers place = FitsScript (transactions_of script) run.lines × FirstMisnumbered load run place
FailsFirst shape graph load script run Order place =
    FitsScript (transactions_of script) run.lines × IsNumbered load run × FirstFails TooEarly [] run.lines place
FailsFirst shape graph load script run Replies place =
    IsPlaced load script run × FirstUnlike (RepliesAreRight shape graph) (pairs_of script run.lines) place
FailsFirst shape graph load script run Room place =
    IsPlaced load script run × AllByRecursion (RepliesAreRight shape graph) (pairs_of script run.lines)
    × FirstUnlike (RoomIsRight shape graph) (pairs_of script run.lines) place
