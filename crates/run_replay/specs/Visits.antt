-- The transactions of a script with their outcomes, as a replay visits them.
use Rattle.std.specs.Prelude.{◌≡◌, ℕ, ◌+◌, ◌*◌, List, [], ◌∷◌, ◌++◌, length, drop, Option, Some, None, Bool, true, false, nat_lt, if◌then◌else◌}
use Rattle.std.specs.Option.{option_map}
use Rattle.std.specs.List.Sorted.{IsNonDecreasingBy, IsPermutation}
use Rattle.gdi_kinds.specs.declared.outcome.Outcome.{Outcome}
use Rattle.gdi_kinds.specs.declared.outcome.Outcome.TheVariants.{Wrote, Read, Aborted, Full}
use Rattle.gdi_kinds.specs.declared.outcome.Line.{Line}
use Rattle.graph_model.specs.Placed.{Placed}
use Rattle.run_check.specs.declared.place.Place.{Place}
use Rattle.run_check.specs.Places.{place_of}
use Rattle.run_replay.specs.declared.visit.Visit.{Visit}

-- each transaction with its line and the place of that in the output, as far as there are lines
abbrev pub AreVisits : ℕ → List Placed → List Line → List Visit → Type 0
AreVisits i [] lines visits = visits ≡ []
AreVisits i (placed ∷ rest) [] visits = visits ≡ []
AreVisits i (placed ∷ rest) (line ∷ lines) [] = ⊥
AreVisits i (placed ∷ rest) (line ∷ lines) (visit ∷ visits) =
    ((visit.index ≡ i) × (visit.txn.now ≡ placed.txn) × (visit.line.now ≡ line)) × AreVisits (i + 1) rest lines visits

-- Some visits are found, and these transactions are left: whatever visits they are, all are those of all transactions.
abbrev pub GoesOn : List Placed → List Line → List Visit → List Placed → Type 0
GoesOn all lines visits left =
    (rest : List Visit) → AreVisits (length visits) left (drop (length visits) lines) rest → AreVisits 0 all lines (visits ++ rest)

-- the order of a history: those that looked at a graph come before the entry that changed it
abbrev pub visit_key : Outcome → ℕ
visit_key (Wrote k replies) = k * 2 + 1
visit_key (Read place replies) = place * 2
visit_key (Full rank place) = place * 2
visit_key Aborted = 0

-- the visits of these transactions in the order of the history
pub record AreInOrder (all : List Placed) (lines : List Line) (sorted : List Visit) : Type 0 where
  -- in the order of the output
  pub visits : List Visit
  pub are : AreVisits 0 all lines visits
  pub same : IsPermutation visits sorted
  pub rise : IsNonDecreasingBy (λ visit. visit_key visit.line.now.outcome) sorted

-- the first in the output of those that aren't right, with one more
abbrev pub earlier : Option Visit → Bool → Visit → Option Visit
earlier first true visit = first
earlier None false visit = Some visit
earlier (Some first) false visit = if nat_lt first.index visit.index then Some first else Some visit

-- the place that such a visit prints
abbrev pub place_told : Option Visit → Option Place
place_told first = option_map (λ visit. place_of visit.line.now) first
