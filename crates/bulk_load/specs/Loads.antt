-- Load files: the transaction that a file is on a graph, or its first wrong record.
use Rattle.std.specs.Prelude.{◌≡◌, ℕ, ◌+◌, true, false, not, List, [], ◌∷◌, ◌++◌, map, length, is_some}
use Rattle.std.specs.List.{filter}
use Rattle.gdi_kinds.specs.declared.call.Call.{Call}
use Rattle.gdi_kinds.specs.declared.call.Call.TheVariants.{NewType}
use Rattle.gdi_kinds.specs.declared.txn.Txn.{Txn}
use Rattle.graph_model.specs.Graph.{Graph}
use Rattle.graph_model.specs.Lookups.{type_number}
use Rattle.graph_model.specs.Transactions.{graph_after_calls}
use Rattle.map_graph.specs.Plain.{Plain}
use Rattle.bulk_load.specs.declared.column.Column.{Column}
use Rattle.bulk_load.specs.declared.header.Header.{Header}
use Rattle.bulk_load.specs.declared.load_file.LoadFile.{LoadFile}
use Rattle.bulk_load.specs.declared.load_fault.LoadFault.{LoadFault}
use Rattle.bulk_load.specs.declared.load_fault.LoadFault.TheVariants as fault
use Rattle.bulk_load.specs.declared.load_refused.LoadRefused.{LoadRefused}
use Rattle.bulk_load.specs.declared.load_refused.LoadRefused.TheVariants as refused
use Rattle.bulk_load.specs.Records.{Fields, HasRecords, BeginsWith, HasPairedQuotes}
use Rattle.bulk_load.specs.Headers.{IsHeader}
use Rattle.bulk_load.specs.Rows.{DoCalls, IsWrong, meets_limit}

-- a type for each column whose type isn't there yet, in order
abbrev pub new_types : Graph → List Column → List Call
new_types g columns =
    map (λ column. NewType column.name column.kind column.many) (filter (λ column. not (is_some (type_number g column.name))) columns)

-- the file has this header, whose types are made
pub record HasHeader (file : LoadFile) (bytes : List ℕ) (before : Plain) (fields : Fields) (header : Header) : Type 0 where
  pub quotes : HasPairedQuotes bytes
  pub is : IsHeader before.graph file fields header
  pub within : meets_limit before.shape before.graph (new_types before.graph header.columns) ≡ false

-- the graph on which the records stand
abbrev pub with_types : Plain → Header → Graph
with_types before header = graph_after_calls before.shape before.graph (new_types before.graph header.columns)

-- the file is this transaction: no record is wrong
pub record Loads (file : LoadFile) (bytes : List ℕ) (before : Plain) (txn : Txn) : Type 0 where
  pub fields : Fields
  pub records : List Fields
  pub header : Header
  pub calls : List Call
  pub cut : HasRecords bytes (fields ∷ records)
  pub headed : HasHeader file bytes before fields header
  pub do_calls : DoCalls before.shape header (with_types before header) records calls
  pub txn_is : txn ≡ record { whole = false; calls = new_types before.graph header.columns ++ calls; aborts = false }

-- the first wrong record of a file, 0 for the file or its header, and what is wrong with it
pub data IsFirstWrong (file : LoadFile) (bytes : List ℕ) (before : Plain) (row : ℕ) (told : LoadFault) : Type 0 where
  open_quote : row ≡ 0 → told ≡ fault.Quotes → ¬ HasPairedQuotes bytes → IsFirstWrong file bytes before row told
  no_record : row ≡ 0 → told ≡ fault.Header → HasPairedQuotes bytes → HasRecords bytes [] → IsFirstWrong file bytes before row told
  no_header : row ≡ 0 → told ≡ fault.Header → HasPairedQuotes bytes → (fields : Fields) → BeginsWith bytes (fields ∷ [])
      → ((header : Header) → ¬ IsHeader before.graph file fields header) → IsFirstWrong file bytes before row told
  no_room : row ≡ 0 → told ≡ fault.TooLarge → HasPairedQuotes bytes → (fields : Fields) → BeginsWith bytes (fields ∷ [])
      → (header : Header) → IsHeader before.graph file fields header
      → meets_limit before.shape before.graph (new_types before.graph header.columns) ≡ true → IsFirstWrong file bytes before row told
  wrong_record : (fields : Fields) (header : Header) → HasHeader file bytes before fields header
      → (right : List Fields) (wrong : Fields) → BeginsWith bytes (fields ∷ right ++ wrong ∷ []) → row ≡ length right + 1
      → (calls : List Call) → DoCalls before.shape header (with_types before header) right calls
      → IsWrong before.shape (graph_after_calls before.shape (with_types before header) calls) header wrong told
      → IsFirstWrong file bytes before row told

-- what is told is the first wrong record, unless it is want of memory
abbrev pub TellsWrong : LoadFile → List ℕ → Plain → LoadRefused → Type 0
TellsWrong file bytes before (refused.Bad row told) = IsFirstWrong file bytes before row told
TellsWrong file bytes before refused.NoMemory = Unit {0}
