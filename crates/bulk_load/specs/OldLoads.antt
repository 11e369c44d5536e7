-- Load files as they were before a type could keep many values and an edge could be undirected.
use Rattle.std.specs.Prelude.{◌≡◌, ◌≢◌, ℕ, ◌≤◌, true, false, not, List, [], ◌∷◌, ◌++◌, map, length, codes, Option, Some, None, is_some}
use Rattle.std.specs.List.{AllByRecursion, filter}
use Rattle.std.specs.Option.{option_map_or, option_to_list}
use Rattle.gdi_kinds.specs.Constraint.{same_kind}
use Rattle.gdi_kinds.specs.Names.{IsName}
use Rattle.gdi_kinds.specs.declared.call.Call.{Call}
use Rattle.gdi_kinds.specs.declared.call.Call.TheVariants.{NewType, Vertex, Tag, Set, Edge, ESet}
use Rattle.gdi_kinds.specs.declared.txn.Txn.{Txn}
use Rattle.gdi_kinds.specs.declared.value.Kind.{Kind}
use Rattle.gdi_kinds.specs.declared.value.Value.{Value}
use Rattle.rma_layout.specs.Shape.{Shape}
use Rattle.text_words.specs.Spelling.{kind_text}
use Rattle.graph_model.specs.Graph.{Name, Graph, is_vertex}
use Rattle.graph_model.specs.Lookups.{type_number, kind_at}
use Rattle.graph_model.specs.Transactions.{graph_after_calls}
use Rattle.map_graph.specs.Plain.{Plain}
use Rattle.bulk_load.specs.declared.column.Column.{Column}
use Rattle.bulk_load.specs.declared.header.Header.{Header}
use Rattle.bulk_load.specs.declared.lead.Lead.TheVariants as lead
use Rattle.bulk_load.specs.declared.load_file.LoadFile.{LoadFile}
use Rattle.bulk_load.specs.declared.load_file.LoadFile.TheVariants as file
use Rattle.bulk_load.specs.Records.{Fields, HasRecords, HasPairedQuotes}
use Rattle.bulk_load.specs.Headers.{are_apart}
use Rattle.bulk_load.specs.Fields.{Spells, IsId, AreLabels, IsLabel}
use Rattle.bulk_load.specs.Rows.{new_labels, next_ordinal, meets_limit}
use Rattle.bulk_load.specs.Loads.{Loads}

-- a property's column: its type
pub record OldColumn : Type 0 where
  pub name : Name
  pub kind : Kind

abbrev pub old_lead : LoadFile → Fields
old_lead file.Vertices = codes ":ID" ∷ codes ":LABEL" ∷ []
old_lead file.Edges = codes ":START_ID" ∷ codes ":END_ID" ∷ codes ":TYPE" ∷ []

abbrev pub old_column_text : OldColumn → List ℕ
old_column_text column = column.name ++ 58 ∷ kind_text column.kind

-- no property stands twice, and none has a type of another kind on the graph
pub record IsOldHeader (g : Graph) (file : LoadFile) (fields : Fields) (columns : List OldColumn) : Type 0 where
  pub few : length fields ≤ 256
  pub texts : fields ≡ old_lead file ++ map old_column_text columns
  pub names : AllByRecursion (λ (column : OldColumn). IsName column.name) columns
  pub apart : are_apart (map (λ column. column.name) columns) ≡ true
  pub kinds : AllByRecursion (λ (column : OldColumn). option_map_or (λ type. same_kind (kind_at g type) column.kind) (type_number g column.name) true ≡ true) columns

-- a type for each column whose type isn't there yet
abbrev pub old_types : Graph → List OldColumn → List Call
old_types g columns =
    map (λ column. NewType column.name column.kind false) (filter (λ column. not (is_some (type_number g column.name))) columns)

-- a property's field: a value, or none where it is empty
abbrev pub IsOldField : Kind → List ℕ → Option Value → Type 0
IsOldField kind field None = field ≡ []
IsOldField kind field (Some v) = (field ≢ []) × Spells kind field v

abbrev pub AreOldFields : List OldColumn → Fields → List (Option Value) → Type 0
AreOldFields [] [] [] = Unit {0}
AreOldFields (column ∷ columns) (field ∷ fields) (v ∷ values) = IsOldField column.kind field v × AreOldFields columns fields values
AreOldFields columns fields values = ⊥

-- the values that there are are set, in the columns' order
abbrev pub old_sets : (Name → Value → Call) → List OldColumn → List (Option Value) → List Call
old_sets set (column ∷ columns) (Some v ∷ values) = set column.name v ∷ old_sets set columns values
old_sets set (column ∷ columns) (None ∷ values) = old_sets set columns values
old_sets set columns values = []

-- the record of a vertex that isn't there yet
pub record IsOldVertex (g : Graph) (columns : List OldColumn) (fields : Fields) (calls : List Call) : Type 0 where
  pub id_field : List ℕ
  pub label_field : List ℕ
  pub behind : Fields
  pub id : ℕ
  pub labels : Fields
  pub values : List (Option Value)
  pub fields_are : fields ≡ id_field ∷ label_field ∷ behind
  pub is_id : IsId id_field id
  pub are_labels : AreLabels label_field labels
  pub are_values : AreOldFields columns behind values
  pub is_new : is_vertex g id ≡ false
  pub calls_are : calls ≡ (new_labels g labels ++ Vertex id ∷ map (Tag id) labels) ++ old_sets (Set id) columns values

-- the record of an edge whose ends are there
pub record IsOldEdge (g : Graph) (columns : List OldColumn) (fields : Fields) (calls : List Call) : Type 0 where
  pub source_field : List ℕ
  pub target_field : List ℕ
  pub label_field : List ℕ
  pub behind : Fields
  pub source : ℕ
  pub target : ℕ
  pub label : Option Name
  pub values : List (Option Value)
  pub fields_are : fields ≡ source_field ∷ target_field ∷ label_field ∷ behind
  pub is_source : IsId source_field source
  pub is_target : IsId target_field target
  pub is_label : IsLabel label_field label
  pub are_values : AreOldFields columns behind values
  pub has_source : is_vertex g source ≡ true
  pub has_target : is_vertex g target ≡ true
  pub calls_are : calls ≡ (new_labels g (option_to_list label) ++ Edge source target label ∷ []) ++ old_sets (ESet source (next_ordinal g source)) columns values

abbrev pub IsOldRecord : LoadFile → Graph → List OldColumn → Fields → List Call → Type 0
IsOldRecord file.Vertices = IsOldVertex
IsOldRecord file.Edges = IsOldEdge

-- the calls of records one after the other, none of which makes an object too large
abbrev pub AreOldCalls : LoadFile → Shape → List OldColumn → Graph → List Fields → List Call → Type 0
AreOldCalls file shape columns g [] calls = calls ≡ []
AreOldCalls file shape columns g (fields ∷ records) calls = (own : List Call) × (others : List Call) × IsOldRecord file g columns fields own
    × (meets_limit shape g own ≡ false) × AreOldCalls file shape columns (graph_after_calls shape g own) records others × (calls ≡ own ++ others)

-- the file was this transaction
pub record OldLoads (file : LoadFile) (bytes : List ℕ) (before : Plain) (txn : Txn) : Type 0 where
  pub fields : Fields
  pub records : List Fields
  pub columns : List OldColumn
  pub calls : List Call
  pub quotes : HasPairedQuotes bytes
  pub cut : HasRecords bytes (fields ∷ records)
  pub header : IsOldHeader before.graph file fields columns
  pub within : meets_limit before.shape before.graph (old_types before.graph columns) ≡ false
  pub does : AreOldCalls file before.shape columns (graph_after_calls before.shape before.graph (old_types before.graph columns)) records calls
  pub txn_is : txn ≡ record { whole = false; calls = old_types before.graph columns ++ calls; aborts = false }

-- a graph of that time: no type of it is marked
abbrev pub IsOldGraph : Graph → Type 0
IsOldGraph g = AllByRecursion (λ type. type.many ≡ false) g.types

-- every file of that time is the transaction that it was
abbrev pub OldLoadsStay : Type 0
OldLoadsStay = (file : LoadFile) (bytes : List ℕ) (before : Plain) (txn : Txn) → IsOldGraph before.graph → OldLoads file bytes before txn → Loads file bytes before txn

-- a header with none of the columns that are new
abbrev pub HasNoNewColumns : Header → Type 0
HasNoNewColumns header = (header.lead ≢ lead.MarkedEdges) × AllByRecursion (λ (column : Column). column.many ≡ false) header.columns

-- and a file without new columns was a file of that time
abbrev pub OldLoadsAreAll : Type 0
OldLoadsAreAll = (file : LoadFile) (bytes : List ℕ) (before : Plain) (txn : Txn) (loads : Loads file bytes before txn) → HasNoNewColumns loads.header → OldLoads file bytes before txn
