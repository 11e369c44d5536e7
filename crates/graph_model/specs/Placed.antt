-- The transactions of a script, each with its place, and the outcomes that stand for them.
use Rattle.std.specs.Prelude.{ℕ, ◌+◌, List, [], ◌∷◌, ◌++◌, Option, Some, None}
use Rattle.std.specs.List.{zip}
use Rattle.gdi_kinds.specs.declared.txn.Txn.{Txn}
use Rattle.gdi_kinds.specs.declared.outcome.Outcome.{Outcome}
use Rattle.gdi_kinds.specs.declared.outcome.Outcome.TheVariants.{Wrote, Read, Aborted, Full}
use Rattle.gdi_kinds.specs.declared.outcome.Line.{Line}

-- a transaction with the numbers of its section and of itself there, from 1
pub record Placed : Type 0 where
  pub section : ℕ
  pub number : ℕ
  pub txn : Txn

-- the transactions of a section, from a number on
abbrev pub placed_from : ℕ → ℕ → List Txn → List Placed
placed_from section number [] = []
placed_from section number (txn ∷ txns) = (record { section = section; number = number; txn = txn }) ∷ placed_from section (number + 1) txns

-- the transactions of sections, from a number on
abbrev pub sections_from : ℕ → List (List Txn) → List Placed
sections_from section [] = []
sections_from section (txns ∷ sections) = placed_from section 1 txns ++ sections_from (section + 1) sections

-- every transaction, in the order of the script
abbrev pub transactions_of : List (List Txn) → List Placed
transactions_of script = sections_from 1 script

-- the number of the entry that an outcome is, if it is one
abbrev pub entry_number : Outcome → Option ℕ
entry_number (Wrote k replies) = Some k
entry_number (Read place replies) = None
entry_number Aborted = None
entry_number (Full rank place) = None

-- the place at which an outcome looked and wrote nothing
abbrev pub reading_place : Outcome → Option ℕ
reading_place (Wrote k replies) = None
reading_place (Read place replies) = Some place
reading_place Aborted = None
reading_place (Full rank place) = Some place

-- each transaction with its line
abbrev pub pairs_of : List (List Txn) → List Line → List (Placed × Line)
pairs_of script lines = zip (transactions_of script) lines
