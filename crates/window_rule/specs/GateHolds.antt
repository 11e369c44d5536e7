-- The part of the invariant on the gate: its word counts the places that views have in it.
use Rattle.std.specs.Prelude.{◌≡◌, ℕ, ◌<◌, List}
use Rattle.std.specs.List.{sum_by}
use Rattle.lock_words.specs.Counts.{gate_word}
use Rattle.window_rule.specs.View.{GatePlace, Outside, AsWriter, AsWhole, WriterReturning, WholeReturning}

abbrev pub writers_of : GatePlace → ℕ
writers_of Outside = 0
writers_of AsWriter = 1
writers_of AsWhole = 0
writers_of WriterReturning = 1
writers_of WholeReturning = 0

abbrev pub wholes_of : GatePlace → ℕ
wholes_of Outside = 0
wholes_of AsWriter = 0
wholes_of AsWhole = 1
wholes_of WriterReturning = 0
wholes_of WholeReturning = 1

-- the places that are to last
abbrev pub lasting_writers_of : GatePlace → ℕ
lasting_writers_of Outside = 0
lasting_writers_of AsWriter = 1
lasting_writers_of AsWhole = 0
lasting_writers_of WriterReturning = 0
lasting_writers_of WholeReturning = 0

abbrev pub lasting_wholes_of : GatePlace → ℕ
lasting_wholes_of Outside = 0
lasting_wholes_of AsWriter = 0
lasting_wholes_of AsWhole = 1
lasting_wholes_of WriterReturning = 0
lasting_wholes_of WholeReturning = 0

-- a gate word, beside the places of each kind and those of them that are to last
pub record IsGateCounted (word writers wholes lasting_writers lasting_wholes : ℕ) : Type 0 where
  pub word_is : word ≡ gate_word writers wholes
  -- a writer stands beside no whole one but such as are about to leave, and the other way about
  pub apart : 0 < lasting_wholes → lasting_writers ≡ 0

-- It reads the gate word, and the gate place of each view. That a view with dirt has a writer's
-- place stands with the dirt.
abbrev pub GateHolds : ℕ → List GatePlace → Type 0
GateHolds word places = IsGateCounted word (sum_by writers_of places) (sum_by wholes_of places)
    (sum_by lasting_writers_of places) (sum_by lasting_wholes_of places)
