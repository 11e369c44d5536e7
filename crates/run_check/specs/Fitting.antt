-- Outcomes that stand for the transactions of a script, one for each and in their order.
use Rattle.std.specs.Prelude.{◌≡◌, ◌⊎◌, List, [], ◌∷◌, ◌++◌}
use Rattle.gdi_kinds.specs.declared.outcome.Line.{Line}
use Rattle.graph_model.specs.Placed.{Placed}
use Rattle.graph_model.specs.LegalRun.{FitsScript, MayEnd}
use Rattle.run_check.specs.declared.place.Place.{Place}
use Rattle.run_check.specs.Places.{place_of, place_in}

-- a line that may stand for a transaction
abbrev pub Fits : Placed → Line → Type 0
Fits placed line = (line.section ≡ placed.section) × (line.txn ≡ placed.number) × MayEnd placed.txn line.outcome

-- The first line that doesn't stand for the next transaction, at the place that it prints; or, behind all lines, the first
-- transaction that has none.
abbrev pub FirstMisfit : List Placed → List Line → Place → Type 0
FirstMisfit [] [] place = ⊥
FirstMisfit [] (line ∷ lines) place = place ≡ place_of line
FirstMisfit (placed ∷ rest) [] place = place ≡ place_in placed
FirstMisfit (placed ∷ rest) (line ∷ lines) place =
    ((¬ Fits placed line) × (place ≡ place_of line)) ⊎ (Fits placed line × FirstMisfit rest lines place)

-- These transactions have their lines in front of the others: so whatever transactions follow, what is so of the others is so
-- of all.
pub record GoesOn (first : List Placed) (lines others : List Line) : Type 0 where
  pub fits : (more : List Placed) → FitsScript more others → FitsScript (first ++ more) lines
  pub misfit : (more : List Placed) (place : Place) → FirstMisfit more others place → FirstMisfit (first ++ more) lines place

-- the first misfit is among the lines of these, whatever transactions follow
abbrev pub Stops : List Placed → List Line → Place → Type 0
Stops first lines place = (more : List Placed) → FirstMisfit (first ++ more) lines place
