-- Places of outcomes, and the first outcome that fails.
use Rattle.std.specs.Prelude.{◌≡◌, ◌⊎◌, List, [], ◌∷◌, ◌++◌}
use Rattle.gdi_kinds.specs.declared.outcome.Line.{Line}
use Rattle.graph_model.specs.Placed.{Placed}
use Rattle.run_check.specs.declared.place.Place.{Place}

-- the place that a line prints
abbrev pub place_of : Line → Place
place_of line = record { section = line.section; txn = line.txn }

-- the place of a transaction of the script
abbrev pub place_in : Placed → Place
place_in placed = record { section = placed.section; txn = placed.number }

-- none of these lines fails, each seen behind all those before it
abbrev pub NoneFails : (List Line → Line → Type 0) → List Line → List Line → Type 0
NoneFails Fails before [] = Unit {0}
NoneFails Fails before (line ∷ lines) = (¬ Fails before line) × NoneFails Fails (before ++ line ∷ []) lines

-- the first of these lines that fails prints this place
abbrev pub FirstFails : (List Line → Line → Type 0) → List Line → List Line → Place → Type 0
FirstFails Fails before [] place = ⊥
FirstFails Fails before (line ∷ lines) place =
    (Fails before line × (place ≡ place_of line)) ⊎ ((¬ Fails before line) × FirstFails Fails (before ++ line ∷ []) lines place)
