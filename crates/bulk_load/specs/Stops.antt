-- How reading a record stops.
use Rattle.std.specs.Prelude.{◌≡◌, ℕ, ◌+◌, List, [], ◌∷◌, ◌++◌, length}
use Rattle.gdi_kinds.specs.declared.call.Call.{Call}
use Rattle.graph_model.specs.Transactions.{graph_after_calls}
use Rattle.map_graph.specs.Plain.{Plain}
use Rattle.bulk_load.specs.declared.header.Header.{Header}
use Rattle.bulk_load.specs.Records.{Fields, HasRecords, BeginsWith}
use Rattle.bulk_load.specs.Rows.{IsRight, IsWrong, DoCalls}
use Rattle.bulk_load.specs.declared.load_fault.LoadFault.{LoadFault}
use Rattle.bulk_load.specs.declared.load_refused.LoadRefused.{LoadRefused}
use Rattle.bulk_load.specs.declared.load_refused.LoadRefused.TheVariants as refused
use Rattle.bulk_load.specs.declared.stop.Stop.{Stop}
use Rattle.bulk_load.specs.declared.stop.Stop.TheVariants as stop

-- what is told of a fault holds, unless want of memory is told
abbrev pub OrNoMemory : (LoadFault → Type 0) → Stop → Type 0
OrNoMemory P (stop.Bad told) = P told
OrNoMemory P stop.NoMemory = Unit {0}

-- a right record is done on a graph, and its calls are put behind others
pub record DoesRecord (before : Plain) (header : Header) (fields : Fields) (calls calls_after : List Call) (after : Plain) : Type 0 where
  pub own : List Call
  pub right : IsRight before.shape before.graph header fields own
  pub behind : calls_after ≡ calls ++ own
  pub done : after.graph ≡ graph_after_calls before.shape before.graph own

-- the records behind the first are right, and their calls are put behind others
pub record LoadsBehind (bytes : List ℕ) (first : Fields) (header : Header) (before : Plain) (calls calls_after : List Call) (after : Plain) : Type 0 where
  pub records : List Fields
  pub own : List Call
  pub cut : HasRecords bytes (first ∷ records)
  pub does : DoCalls before.shape header before.graph records own
  pub behind : calls_after ≡ calls ++ own
  pub done : after.graph ≡ graph_after_calls before.shape before.graph own

-- the first wrong record behind the first
pub record FirstWrongBehind (bytes : List ℕ) (first : Fields) (header : Header) (before : Plain) (row : ℕ) (told : LoadFault) : Type 0 where
  pub right : List Fields
  pub wrong : Fields
  pub calls : List Call
  pub begins : BeginsWith bytes (first ∷ right ++ wrong ∷ [])
  pub row_is : row ≡ length right + 1
  pub does : DoCalls before.shape header before.graph right calls
  pub is_wrong : IsWrong before.shape (graph_after_calls before.shape before.graph calls) header wrong told

-- what is told is the first wrong record behind the first, unless it is want of memory
abbrev pub TellsBehind : List ℕ → Fields → Header → Plain → LoadRefused → Type 0
TellsBehind bytes first header before (refused.Bad row told) = FirstWrongBehind bytes first header before row told
TellsBehind bytes first header before refused.NoMemory = Unit {0}

-- how a file is refused where reading stops at a record
abbrev pub refused_at : ℕ → Stop → LoadRefused
refused_at row (stop.Bad told) = refused.Bad row told
refused_at row stop.NoMemory = refused.NoMemory
