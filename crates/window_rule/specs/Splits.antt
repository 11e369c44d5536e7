-- What splitting a rank in two, and joining two ranks, makes of their views.
use Rattle.std.specs.Prelude.{◌≡◌, ◌≢◌, ℕ, ◌+◌, ◌-◌, ◌≤◌, ◌==◌, true, nat_le, List, [], ◌∷◌, ◌++◌, length, if◌then◌else◌}
use Rattle.rma_layout.specs.Placement.{Place}
use Rattle.window_rule.specs.View.{View, Outside, spent}
use Rattle.window_rule.specs.Partition.{times, places_of}
use Rattle.window_rule.specs.HistoryHolds.{AreHeard, past_of, chronicle_of, is_among, numbers_from}

abbrev pub without_right : ℕ → List ℕ → List ℕ
without_right rank [] = []
without_right rank (right ∷ more) =
    if right == rank then without_right rank more else right ∷ without_right rank more

-- the view with all rights but one, and so many commits fewer. It keeps its notes, but no bound of
-- a tag
abbrev pub remaining : {N : Type 0} → ℕ → ℕ → View N → View N
remaining rank commits view = record view {
  rights = without_right rank view.rights;
  allowance = view.allowance - commits;
  bounds = [];
  own = numbers_from 0 (without_right rank view.rights) view.seen;
}

-- the view that has that right and these commits
abbrev pub parted : {N : Type 0} → ℕ → ℕ → View N → View N
parted rank commits view = record spent {
  rights = rank ∷ [];
  allowance = commits;
  seen = view.seen;
  own = numbers_from 0 (rank ∷ []) view.seen;
}

pub record MaySplit {N : Type 0} (view : View N) (rank commits : ℕ) : Type 0 where
  pub held : is_among rank view.rights ≡ true
  pub another : without_right rank view.rights ≢ []
  pub allowed : commits ≤ view.allowance

abbrev pub longer : {E : Type 0} → List E → List E → List E
longer one other = if nat_le (length other) (length one) then one else other

-- the view of both: all that it had is there, but the notes
abbrev pub joined : {N : Type 0} → View N → View N → View N
joined view other = record view {
  rights = view.rights ++ other.rights;
  allowance = view.allowance + other.allowance;
  private = view.private ++ other.private;
  cells = [];
  known = [];
  notes = [];
  bounds = [];
  seen = longer view.seen other.seen;
  own = numbers_from 0 (view.rights ++ other.rights) (longer view.seen other.seen);
  heard = chronicle_of view ∷ chronicle_of other ∷ [];
}

-- the joined view has told what it was joined of
abbrev pub settled : {N : Type 0} → View N → View N
settled view = record view { heard = [] }

pub record Settles {N : Type 0} (before after : View N) : Type 0 where
  pub view : after ≡ settled before
  pub heard : AreHeard (past_of before)
  -- no block was with both
  pub once : (block : Place) → times block (places_of before.private) ≤ 1

-- the view has no lock and no place in the gate. So it has read nothing, and has nothing detached
-- or open
pub record IsIdle {N : Type 0} (view : View N) : Type 0 where
  pub locks : view.locks ≡ []
  pub gate : view.gate ≡ Outside
