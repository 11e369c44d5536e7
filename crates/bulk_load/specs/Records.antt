-- The records of a file, as `csv` cuts it.
use Rattle.std.specs.Prelude.{◌≡◌, ℕ, ◌%◌, List, count_by, ◌==◌}
use Rattle.csv.specs.Reading.{Reached, AreRecords, default_config, strip_bom}
use Rattle.csv.specs.declared.parser.State.{State}
use Rattle.csv.specs.declared.parser.State.TheVariants as state

-- the fields of a record, each as its bytes
abbrev pub Fields : Type 0
Fields = List (List ℕ)

-- these are all the records of a file, behind a byte order mark that it may have
abbrev pub HasRecords : List ℕ → List Fields → Type 0
HasRecords bytes records = AreRecords default_config state.StartRecord (strip_bom bytes) records

-- the records of a file begin with these
abbrev pub BeginsWith : List ℕ → List Fields → Type 0
BeginsWith bytes records = (at : State) × (rest : List ℕ) × Reached default_config state.StartRecord (strip_bom bytes) records at rest

-- the quotes of a file come in pairs
abbrev pub HasPairedQuotes : List ℕ → Type 0
HasPairedQuotes bytes = count_by (λ byte. byte == 34) bytes % 2 ≡ 0
