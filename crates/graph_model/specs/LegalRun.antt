-- When what a run prints is one legal serial history of its script: serializable, and each section in its order.
use Rattle.std.specs.Prelude.{◌≡◌, ◌≢◌, ℕ, ◌+◌, ◌<◌, ◌≤◌, IsTrue, not, List, [], ◌∷◌, length, Some, None, IfSome}
use Rattle.std.specs.List.{filter_map, AllByRecursion}
use Rattle.gdi_kinds.specs.declared.txn.Txn.{Txn}
use Rattle.gdi_kinds.specs.declared.outcome.Outcome.{Outcome}
use Rattle.gdi_kinds.specs.declared.outcome.Outcome.TheVariants.{Wrote, Read, Aborted, Full}
use Rattle.gdi_kinds.specs.declared.outcome.Line.{Line}
use Rattle.gdi_kinds.specs.declared.outcome.Printed.{Printed}
use Rattle.gdi_kinds.specs.Calls.{is_writing}
use Rattle.rma_layout.specs.Shape.{Shape}
use Rattle.graph_model.specs.Graph.{Graph}
use Rattle.graph_model.specs.Transactions.{replies_to}
use Rattle.graph_model.specs.Capacity.{full_rank}
use Rattle.graph_model.specs.Placed.{Placed, transactions_of, pairs_of, entry_number, reading_place}
use Rattle.graph_model.specs.History.{load_entries, entry_at, graph_after}

-- an outcome that a transaction of this text may have
abbrev pub MayEnd : Txn → Outcome → Type 0
MayEnd txn Aborted = IsTrue txn.aborts
MayEnd txn (Wrote k replies) = IsTrue (not txn.aborts) × IsTrue (is_writing txn) × (length replies ≡ length txn.calls)
MayEnd txn (Read place replies) = IsTrue (not txn.aborts) × IsTrue (not (is_writing txn)) × (length replies ≡ length txn.calls)
MayEnd txn (Full rank place) = IsTrue (not txn.aborts) × IsTrue (is_writing txn)

-- one line for each transaction, in the order of the script
abbrev pub FitsScript : List Placed → List Line → Type 0
FitsScript [] [] = Unit {0}
FitsScript [] (line ∷ lines) = ⊥
FitsScript (placed ∷ rest) [] = ⊥
FitsScript (placed ∷ rest) (line ∷ lines) =
    ((line.section ≡ placed.section) × (line.txn ≡ placed.number) × MayEnd placed.txn line.outcome) × FitsScript rest lines

-- no number stands twice
abbrev pub IsDistinct : List ℕ → Type 0
IsDistinct [] = Unit {0}
IsDistinct (n ∷ ns) = AllByRecursion (λ m. m ≢ n) ns × IsDistinct ns

-- the numbers of the entries that the outcomes are, and the places at which others looked
abbrev pub numbers_of : List Line → List ℕ
numbers_of lines = filter_map (λ line. entry_number line.outcome) lines

abbrev pub reading_places : List Line → List ℕ
reading_places lines = filter_map (λ line. reading_place line.outcome) lines

-- the entries from `first` to the last are the outcomes that wrote, each once; and no other looked outside
pub record IsNumbered (first : ℕ) (run : Printed) : Type 0 where
  pub count : run.writes ≡ first + length (numbers_of run.lines)
  pub numbers : AllByRecursion (λ k. (first ≤ k) × (k < run.writes)) (numbers_of run.lines)
  pub once : IsDistinct (numbers_of run.lines)
  pub places : AllByRecursion (λ n. (first ≤ n) × (n ≤ run.writes)) (reading_places run.lines)

-- an outcome, and one that may stand later in the same section
abbrev pub MayStandBefore : Outcome → Outcome → Type 0
MayStandBefore (Wrote k replies) later = IfSome (entry_number later) (λ m. k < m) × IfSome (reading_place later) (λ n. k < n)
MayStandBefore (Read place replies) later = IfSome (entry_number later) (λ m. place ≤ m) × IfSome (reading_place later) (λ n. place ≤ n)
MayStandBefore (Full rank place) later = IfSome (entry_number later) (λ m. place ≤ m) × IfSome (reading_place later) (λ n. place ≤ n)
MayStandBefore Aborted later = Unit {0}

-- each section keeps its order
abbrev pub KeepsSessionOrder : List Line → Type 0
KeepsSessionOrder [] = Unit {0}
KeepsSessionOrder (line ∷ lines) =
    AllByRecursion (λ later. later.section ≡ line.section → MayStandBefore line.outcome later.outcome) lines × KeepsSessionOrder lines

-- the replies are those of the graph at the outcome's place
abbrev pub HasReplies : Shape → (ℕ → Graph) → Txn → Outcome → Type 0
HasReplies shape graph txn (Wrote k replies) = replies ≡ replies_to shape (graph k) txn
HasReplies shape graph txn (Read place replies) = replies ≡ replies_to shape (graph place) txn
HasReplies shape graph txn Aborted = Unit {0}
HasReplies shape graph txn (Full rank place) = Unit {0}

-- a transaction is refused for blocks exactly where a rank has too few, by that rank
abbrev pub EndsByCapacity : Shape → (ℕ → Graph) → Txn → Outcome → Type 0
EndsByCapacity shape graph txn (Wrote k replies) = full_rank shape (graph k) txn ≡ None
EndsByCapacity shape graph txn (Full rank place) = full_rank shape (graph place) txn ≡ Some rank
EndsByCapacity shape graph txn (Read place replies) = Unit {0}
EndsByCapacity shape graph txn Aborted = Unit {0}

-- the graph after so many entries of the history that a run tells of
abbrev pub graph_of_run : Shape → List Txn → List (List Txn) → Printed → ℕ → Graph
graph_of_run shape load script run = graph_after shape (entry_at load (pairs_of script run.lines))

-- each of the load's entries has the blocks that it needs on the graph of the entries before it
abbrev pub EntriesHaveRoom : Shape → (ℕ → Graph) → ℕ → List Txn → Type 0
EntriesHaveRoom shape graph k [] = Unit {0}
EntriesHaveRoom shape graph k (txn ∷ txns) = (full_rank shape (graph k) txn ≡ None) × EntriesHaveRoom shape graph (k + 1) txns

pub record IsLegalRun (shape : Shape) (load : List Txn) (script : List (List Txn)) (run : Printed) : Type 0 where
  pub fits_script : FitsScript (transactions_of script) run.lines
  pub is_numbered : IsNumbered (length (load_entries load)) run
  pub in_order : KeepsSessionOrder run.lines
  pub load_room : EntriesHaveRoom shape (graph_of_run shape load script run) 0 (load_entries load)
  pub replies : AllByRecursion (λ pair. HasReplies shape (graph_of_run shape load script run) pair.0.txn pair.1.outcome) (pairs_of script run.lines)
  pub room : AllByRecursion (λ pair. EndsByCapacity shape (graph_of_run shape load script run) pair.0.txn pair.1.outcome) (pairs_of script run.lines)
