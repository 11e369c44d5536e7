-- Numbers of entries and reading places that can't be.
use Rattle.std.specs.Prelude.{◌≡◌, ◌≢◌, ◌⊎◌, ℕ, ◌+◌, Bool, false, true, ◌||◌, ◌==◌, nat_le, nat_lt, List, [], length}
use Rattle.std.specs.List.{list_any}
use Rattle.gdi_kinds.specs.declared.outcome.Outcome.{Outcome}
use Rattle.gdi_kinds.specs.declared.outcome.Outcome.TheVariants.{Wrote, Read, Aborted, Full}
use Rattle.gdi_kinds.specs.declared.outcome.Line.{Line}
use Rattle.gdi_kinds.specs.declared.outcome.Printed.{Printed}
use Rattle.graph_model.specs.LegalRun.{numbers_of}
use Rattle.run_check.specs.declared.place.Place.{Place}
use Rattle.run_check.specs.Places.{NoneFails, FirstFails}

-- whether a number stands among others
abbrev pub is_among : List ℕ → ℕ → Bool
is_among numbers k = list_any (λ n. n == k) numbers

-- a place at which nobody could look: among the load's entries, or behind the last
abbrev pub is_outside : ℕ → ℕ → ℕ → Bool
is_outside load writes place = nat_lt place load || nat_lt writes place

-- An entry is one of those behind the load's, and no outcome before is the same one. One that looked did so behind the load's
-- entries, and not behind the last.
abbrev pub is_misnumbered : ℕ → ℕ → List ℕ → Outcome → Bool
is_misnumbered load writes earlier (Wrote k replies) = nat_lt k load || nat_le writes k || is_among earlier k
is_misnumbered load writes earlier (Read place replies) = is_outside load writes place
is_misnumbered load writes earlier (Full rank place) = is_outside load writes place
is_misnumbered load writes earlier Aborted = false

abbrev pub Misnumbered : ℕ → ℕ → List Line → Line → Type 0
Misnumbered load writes before line = is_misnumbered load writes (numbers_of before) line.outcome ≡ true

-- no outcome is meant
abbrev pub no_place : Place
no_place = record { section = 0; txn = 0 }

-- each outcome is well numbered, but they aren't as many entries as are said
pub record Miscounted (load : ℕ) (run : Printed) (place : Place) : Type 0 where
  pub none : NoneFails (Misnumbered load run.writes) [] run.lines
  pub count : run.writes ≢ load + length (numbers_of run.lines)
  pub named : place ≡ no_place

abbrev pub FirstMisnumbered : ℕ → Printed → Place → Type 0
FirstMisnumbered load run place = FirstFails (Misnumbered load run.writes) [] run.lines place ⊎ Miscounted load run place

-- a set of numbers that rises, and the numbers that were put into it: they are the same, each once
pub record HasSeen (keys numbers : List ℕ) : Type 0 where
  pub members : (k : ℕ) → list_any (λ n. k == n) keys ≡ is_among numbers k
  pub count : length keys ≡ length numbers
