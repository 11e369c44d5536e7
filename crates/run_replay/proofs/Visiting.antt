-- Visits that are found one after the other.
use Rattle.std.proofs.Common.{◌≡◌, ℕ, List, [], ◌∷◌, length, drop, refl, sym, subst}
use Rattle.std.proofs.lemmas.List.{append-nil}
use Rattle.gdi_kinds.specs.declared.outcome.Line.{Line}
use Rattle.graph_model.specs.Placed.{Placed}
use Rattle.run_replay.specs.declared.visit.Visit.{Visit}
use Rattle.run_replay.specs.Visits.{AreVisits, GoesOn}

none_left : (i : ℕ) (more : List Placed) (rest : List Visit) → AreVisits i more [] rest → rest ≡ []
none_left i [] rest are = are
none_left i (placed ∷ more) rest are = are

-- where no line is left, no visit is left either
pub no_more : (all more : List Placed) (lines : List Line) (visits : List Visit) (placed : Placed) → drop (length visits) lines ≡ []
    → GoesOn all lines visits (placed ∷ more) → GoesOn all lines visits more
no_more all more lines visits placed end goes = λ rest are.
    goes rest (subst (λ l. AreVisits (length visits) (placed ∷ more) l rest) (sym end)
    (none_left (length visits) more rest (subst (λ l. AreVisits (length visits) more l rest) end are)))

pub all_are : (all : List Placed) (lines : List Line) (visits : List Visit) → GoesOn all lines visits [] → AreVisits 0 all lines visits
all_are all lines visits goes = subst (AreVisits 0 all lines) (append-nil visits) (goes [] refl)
