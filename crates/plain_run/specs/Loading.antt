-- What a load is, and when it has room.
use Rattle.std.specs.Prelude.{◌≡◌, ℕ, List, ◌++◌, length, Option, Some, None}
use Rattle.std.specs.Option.{option_to_list}
use Rattle.gdi_kinds.specs.declared.txn.Txn.{Txn}
use Rattle.rma_layout.specs.Shape.{Shape}
use Rattle.graph_model.specs.Graph.{empty_graph}
use Rattle.graph_model.specs.Transactions.{graph_after_txn}
use Rattle.graph_model.specs.Capacity.{full_rank}
use Rattle.graph_model.specs.History.{load_entries}
use Rattle.map_graph.specs.Plain.{Plain}
use Rattle.bulk_load.specs.declared.load_fault.LoadFault.{LoadFault}
use Rattle.bulk_load.specs.declared.load_file.LoadFile.{LoadFile}
use Rattle.bulk_load.specs.declared.load_file.LoadFile.TheVariants.{Vertices, Edges}
use Rattle.bulk_load.specs.Loads.{Loads, IsFirstWrong}
use Rattle.plain_run.specs.declared.load.Load.{Load}
use Rattle.plain_run.specs.declared.loaded.Loaded.{Loaded}

-- the graph before a load
abbrev pub empty_plain : Shape → Plain
empty_plain shape = record { shape = shape; graph = empty_graph }

-- the graph behind a transaction, where there is one
abbrev pub behind : Plain → Option Txn → Plain
behind before None = before
behind before (Some txn) = record before { graph = graph_after_txn before.shape before.graph txn }

-- the transactions of a load, the vertices' before the edges'
abbrev pub txns_of : Load → List Txn
txns_of load = option_to_list load.vertices ++ option_to_list load.edges

abbrev pub behind_vertices : Shape → Load → Plain
behind_vertices shape load = behind (empty_plain shape) load.vertices

abbrev pub behind_load : Shape → Load → Plain
behind_load shape load = behind (behind_vertices shape load) load.edges

-- a file that is given is a transaction on the graph before it, and one that isn't given is none
abbrev pub LoadsFile : LoadFile → Option (List ℕ) → Plain → Option Txn → Type 0
LoadsFile file (Some bytes) before (Some txn) = Loads file bytes before txn
LoadsFile file None before None = Unit {0}
LoadsFile file (Some bytes) before None = ⊥
LoadsFile file None before (Some txn) = ⊥

-- the files are this load
pub record IsLoad (shape : Shape) (vertex_file edge_file : Option (List ℕ)) (load : Load) : Type 0 where
  pub vertices : LoadsFile Vertices vertex_file (empty_plain shape) load.vertices
  pub edges : LoadsFile Edges edge_file (behind_vertices shape load) load.edges

-- the first wrong record of a file that is given, and what is wrong with it
abbrev pub IsWrongFile : LoadFile → Option (List ℕ) → Plain → ℕ → LoadFault → Type 0
IsWrongFile file None before row kind = ⊥
IsWrongFile file (Some bytes) before row kind = IsFirstWrong file bytes before row kind

-- what is wrong with the files; with that of the edges where that of the vertices is right, or isn't given
abbrev pub IsWrongLoad : Shape → Option (List ℕ) → Option (List ℕ) → LoadFile → ℕ → LoadFault → Type 0
IsWrongLoad shape vertex_file edge_file Vertices row kind = IsWrongFile Vertices vertex_file (empty_plain shape) row kind
IsWrongLoad shape vertex_file edge_file Edges row kind = (txn : Option Txn) × LoadsFile Vertices vertex_file (empty_plain shape) txn
    × IsWrongFile Edges edge_file (behind (empty_plain shape) txn) row kind

-- the rank that has too few blocks for a transaction, if there is one
abbrev pub full_for : Plain → Option Txn → Option ℕ
full_for before None = None
full_for before (Some txn) = full_rank before.shape before.graph txn

-- each rank has enough blocks for each file's transaction
pub record HasRoom (shape : Shape) (load : Load) : Type 0 where
  pub vertices : full_for (empty_plain shape) load.vertices ≡ None
  pub edges : full_for (behind_vertices shape load) load.edges ≡ None

-- a rank that has too few for a file's transaction; for that of the edges where there is room for that of the vertices
abbrev pub IsFullAt : Shape → Load → LoadFile → ℕ → Type 0
IsFullAt shape load Vertices rank = full_for (empty_plain shape) load.vertices ≡ Some rank
IsFullAt shape load Edges rank = (full_for (empty_plain shape) load.vertices ≡ None) × (full_for (behind_vertices shape load) load.edges ≡ Some rank)

-- a load that has room: the graph behind it, and how many entries it made
pub record HasLoaded (shape : Shape) (load : Load) (loaded : Loaded) : Type 0 where
  pub room : HasRoom shape load
  pub graph : loaded.graph ≡ behind_load shape load
  pub entries : loaded.entries ≡ length (load_entries (txns_of load))

-- a graph that is handed on is that behind the load, which has room
abbrev pub IsReady : Shape → Load → Option Plain → Type 0
IsReady shape load None = Unit {0}
IsReady shape load (Some graph) = HasRoom shape load × (graph ≡ behind_load shape load)
