-- The sections of lines that fit a script never fall.
use Rattle.std.proofs.Common.{ℕ, ◌+◌, ◌≤◌, List, [], ◌∷◌, ◌++◌, inl, inr, length, sym, subst, arith}
use Rattle.std.specs.List.{AllByRecursion}
use Rattle.gdi_kinds.specs.declared.txn.Txn.{Txn}
use Rattle.gdi_kinds.specs.declared.outcome.Line.{Line}
use Rattle.gdi_kinds.specs.declared.outcome.Printed.{Printed}
use Rattle.rma_layout.specs.Shape.{Shape}
use Rattle.graph_model.specs.Placed.{Placed, placed_from, sections_from, transactions_of}
use Rattle.graph_model.specs.History.{load_entries}
use Rattle.graph_model.specs.LegalRun.{FitsScript, IsLegalRun, graph_of_run}
use Rattle.run_check.specs.declared.clause.Clause.{Clause}
use Rattle.run_check.specs.declared.clause.Clause.TheVariants.{Fit, Numbers, Order, Replies, Room}
use Rattle.run_check.specs.declared.place.Place.{Place}
use Rattle.run_check.specs.Clauses.{FailsFirst, FirstUnlike}
use Rattle.run_check.specs.Ordering.{RisesBySection}
use Rattle.run_check.proofs.Failures.{misfit_is_none, misnumbered_is_not, early_is_out}

abbrev From : ℕ → List Placed → Type 0
From s ps = AllByRecursion (λ (p : Placed). s ≤ p.section) ps

abbrev Rises : List Placed → Type 0
Rises [] = Unit {0}
Rises (p ∷ ps) = From p.section ps × Rises ps

section_from : (s t n : ℕ) (txns : List Txn) (rest : List Placed) → s ≤ t → From s rest → From s (placed_from t n txns ++ rest)
section_from s t n [] rest le later = later
section_from s t n (txn ∷ txns) rest le later = (le, section_from s t (n + 1) txns rest le later)

all_from : (s t : ℕ) (sections : List (List Txn)) → s ≤ t → From s (sections_from t sections)
all_from s t [] le = tt
all_from s t (txns ∷ sections) le = section_from s t 1 txns (sections_from (t + 1) sections) le (all_from s (t + 1) sections (omega (arith, le)))

section_rises : (s n : ℕ) (txns : List Txn) (rest : List Placed) → From s rest → Rises rest → Rises (placed_from s n txns ++ rest)
section_rises s n [] rest later rises = rises
section_rises s n (txn ∷ txns) rest later rises = (section_from s s (n + 1) txns rest (omega arith) later, section_rises s (n + 1) txns rest later rises)

all_rise : (s : ℕ) (sections : List (List Txn)) → Rises (sections_from s sections)
all_rise s [] = tt
all_rise s (txns ∷ sections) =
    section_rises s 1 txns (sections_from (s + 1) sections) (all_from s (s + 1) sections (omega arith)) (all_rise (s + 1) sections)

lines_from : (s : ℕ) (ps : List Placed) (lines : List Line) → FitsScript ps lines → From s ps → AllByRecursion (λ (l : Line). s ≤ l.section) lines
lines_from s [] [] fits later = tt
lines_from s [] (line ∷ lines) fits later = absurd fits
lines_from s (p ∷ ps) [] fits later = absurd fits
lines_from s (p ∷ ps) (line ∷ lines) fits later = (subst (λ n. s ≤ n) (sym fits.0.0) later.0, lines_from s ps lines fits.1 later.1)

lines_rise : (ps : List Placed) (lines : List Line) → FitsScript ps lines → Rises ps → RisesBySection lines
lines_rise [] [] fits rises = tt
lines_rise [] (line ∷ lines) fits rises = absurd fits
lines_rise (p ∷ ps) [] fits rises = absurd fits
lines_rise (p ∷ ps) (line ∷ lines) fits rises = (
  lines_from line.section ps lines fits.1 (subst (λ n. From n ps) (sym fits.0.0) rises.0),
  lines_rise ps lines fits.1 rises.1,
)

pub fitting_rise : (script : List (List Txn)) (lines : List Line) → FitsScript (transactions_of script) lines → RisesBySection lines
fitting_rise script lines fits = lines_rise (transactions_of script) lines fits (all_rise 1 script)

-- ---- a clause that fails

unlike_is_none : (P : Placed × Line → Type 0) (pairs : List (Placed × Line)) (place : Place) → FirstUnlike P pairs place → ¬ AllByRecursion P pairs
unlike_is_none P [] place first = λ all. first
unlike_is_none P (pair ∷ pairs) place first = λ all. elim first [
  | inl here ↦ here.0 all.0
  | inr later ↦ unlike_is_none P pairs place later.1 all.1
]

pub illegal_is_not : (shape : Shape) (load : List Txn) (script : List (List Txn)) (run : Printed) (clause : Clause) (place : Place)
    → FailsFirst shape (graph_of_run shape load script run) (length (load_entries load)) script run clause place → ¬ IsLegalRun shape load script run
illegal_is_not shape load script run Fit place fails = λ legal. misfit_is_none _ _ place fails legal.fits_script
illegal_is_not shape load script run Numbers place fails = λ legal. misnumbered_is_not _ run place fails.1 legal.is_numbered
illegal_is_not shape load script run Order place fails = λ legal. early_is_out _ place fails.2 legal.in_order
illegal_is_not shape load script run Replies place fails = λ legal. unlike_is_none _ _ place fails.1 legal.replies
illegal_is_not shape load script run Room place fails = λ legal. unlike_is_none _ _ place fails.2 legal.room
