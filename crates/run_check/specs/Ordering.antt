-- Outcomes that stand too early in the history for their section.
use Rattle.std.specs.Prelude.{◌≡◌, ℕ, ◌+◌, ◌≤◌, Bool, true, List, [], ◌∷◌, nat_le}
use Rattle.std.specs.List.{AllByRecursion}
use Rattle.gdi_kinds.specs.declared.outcome.Outcome.{Outcome}
use Rattle.gdi_kinds.specs.declared.outcome.Outcome.TheVariants.{Wrote, Read, Aborted, Full}
use Rattle.gdi_kinds.specs.declared.outcome.Line.{Line}
use Rattle.graph_model.specs.LegalRun.{MayStandBefore}

-- an outcome may stand behind those of its section among these
abbrev pub MayFollow : List Line → Line → Type 0
MayFollow before line = AllByRecursion (λ earlier. earlier.section ≡ line.section → MayStandBefore earlier.outcome line.outcome) before

abbrev pub TooEarly : List Line → Line → Type 0
TooEarly before line = ¬ MayFollow before line

-- the sections of the lines never fall
abbrev pub RisesBySection : List Line → Type 0
RisesBySection [] = Unit {0}
RisesBySection (line ∷ lines) = AllByRecursion (λ later. line.section ≤ later.section) lines × RisesBySection lines

-- the least number or place that may stand behind an outcome in its section
abbrev pub least_behind : Outcome → ℕ
least_behind (Wrote k replies) = k + 1
least_behind (Read place replies) = place
least_behind (Full rank place) = place
least_behind Aborted = 0

-- an outcome's number or place is no less than this, where it has one
abbrev pub is_from : ℕ → Outcome → Bool
is_from least (Wrote k replies) = nat_le least k
is_from least (Read place replies) = nat_le least place
is_from least (Full rank place) = nat_le least place
is_from least Aborted = true

-- What is known behind some lines: none has a later section than this, and what may follow those of this section is what is
-- from here on.
pub record HasCome (before : List Line) (section least : ℕ) : Type 0 where
  pub sections : AllByRecursion (λ earlier. earlier.section ≤ section) before
  pub follows : (outcome : Outcome) → is_from least outcome ≡ true
      → AllByRecursion (λ earlier. earlier.section ≡ section → MayStandBefore earlier.outcome outcome) before
  pub only : (outcome : Outcome) → AllByRecursion (λ earlier. earlier.section ≡ section → MayStandBefore earlier.outcome outcome) before
      → is_from least outcome ≡ true
