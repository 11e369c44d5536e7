-- Transactions that run one after the other, each on the graph that the ones before it left.
use Rattle.std.specs.Prelude.{◌≡◌, ℕ, suc, Bool, true, false, List, [], ◌∷◌, length, Option, Some, None, is_some, if◌then◌else◌}
use Rattle.gdi_kinds.specs.declared.reply.Reply.{Reply}
use Rattle.gdi_kinds.specs.declared.txn.Txn.{Txn}
use Rattle.gdi_kinds.specs.declared.outcome.Outcome.{Outcome}
use Rattle.gdi_kinds.specs.declared.outcome.Outcome.TheVariants.{Wrote, Read, Aborted, Full}
use Rattle.gdi_kinds.specs.declared.outcome.Line.{Line}
use Rattle.gdi_kinds.specs.declared.outcome.Printed.{Printed}
use Rattle.gdi_kinds.specs.Calls.{is_writing}
use Rattle.rma_layout.specs.Shape.{Shape}
use Rattle.graph_model.specs.Graph.{Graph, empty_graph}
use Rattle.graph_model.specs.Transactions.{graph_after_txn, replies_to}
use Rattle.graph_model.specs.Capacity.{full_rank}
use Rattle.graph_model.specs.History.{load_entries}
use Rattle.graph_model.specs.Placed.{Placed, transactions_of}
use Rattle.graph_model.specs.LegalRun.{IsLegalRun, graph_of_run}

-- how a transaction ends: whether it aborts, whether it writes, the rank that has too few blocks for it, the entries
-- before it, its replies
abbrev pub ends : Bool → Bool → Option ℕ → ℕ → List Reply → Outcome
ends true writes full k replies = Aborted
ends false true (Some rank) k replies = Full rank k
ends false true None k replies = Wrote k replies
ends false false full k replies = Read k replies

-- how many entries there are after it
abbrev pub entries_after : Bool → Bool → Option ℕ → ℕ → ℕ
entries_after true writes full k = k
entries_after false true (Some rank) k = k
entries_after false true None k = suc k
entries_after false false full k = k

abbrev pub outcome_on : Shape → Graph → ℕ → Txn → Outcome
outcome_on shape g k txn = ends txn.aborts (is_writing txn) (full_rank shape g txn) k (replies_to shape g txn)

abbrev pub line_on : Shape → Graph → ℕ → Placed → Line
line_on shape g k p = record { section = p.section; txn = p.number; outcome = outcome_on shape g k p.txn }

abbrev pub next_entries : Shape → Graph → ℕ → Txn → ℕ
next_entries shape g k txn = entries_after txn.aborts (is_writing txn) (full_rank shape g txn) k

-- one that is refused for blocks leaves the graph
abbrev pub next_graph : Shape → Graph → Txn → Graph
next_graph shape g txn = if is_some (full_rank shape g txn) then g else graph_after_txn shape g txn

-- the lines of transactions that run one after the other, from a graph that has k entries on
abbrev pub serial_lines : Shape → Graph → ℕ → List Placed → List Line
serial_lines shape g k [] = []
serial_lines shape g k (p ∷ ps) = line_on shape g k p ∷ serial_lines shape (next_graph shape g p.txn) (next_entries shape g k p.txn) ps

abbrev pub serial_writes : Shape → Graph → ℕ → List Placed → ℕ
serial_writes shape g k [] = k
serial_writes shape g k (p ∷ ps) = serial_writes shape (next_graph shape g p.txn) (next_entries shape g k p.txn) ps

-- the graph that they leave
abbrev pub serial_graph : Shape → Graph → List Placed → Graph
serial_graph shape g [] = g
serial_graph shape g (p ∷ ps) = serial_graph shape (next_graph shape g p.txn) ps

abbrev pub serial_run : Shape → Graph → ℕ → List Placed → Printed
serial_run shape g k ps = record { lines = serial_lines shape g k ps; writes = serial_writes shape g k ps }

-- the graph after transactions that aren't refused
abbrev pub graph_after_txns : Shape → Graph → List Txn → Graph
graph_after_txns shape g [] = g
graph_after_txns shape g (txn ∷ txns) = graph_after_txns shape (graph_after_txn shape g txn) txns

-- each of these transactions has the blocks that it needs on the graph of those before it
abbrev pub HaveRoom : Shape → Graph → List Txn → Type 0
HaveRoom shape g [] = Unit {0}
HaveRoom shape g (txn ∷ txns) = (full_rank shape g txn ≡ None) × HaveRoom shape (graph_after_txn shape g txn) txns

-- the run of a script on the graph of a load
abbrev pub run_after : Shape → List Txn → List (List Txn) → Printed
run_after shape load script =
    serial_run shape (graph_after_txns shape empty_graph (load_entries load)) (length (load_entries load)) (transactions_of script)

-- the law: whatever shape, load and script are, if the load has room
abbrev pub SerialRunsAreLegal : Type 0
SerialRunsAreLegal = (shape : Shape) (load : List Txn) (script : List (List Txn)) → HaveRoom shape empty_graph (load_entries load)
    → IsLegalRun shape load script (run_after shape load script)

-- the graph that it leaves
abbrev pub graph_behind : Shape → List Txn → List (List Txn) → Graph
graph_behind shape load script = serial_graph shape (graph_after_txns shape empty_graph (load_entries load)) (transactions_of script)

-- the graph behind the last entry of the history that a run tells of
abbrev pub last_graph : Shape → List Txn → List (List Txn) → Printed → Graph
last_graph shape load script run = graph_of_run shape load script run run.writes

-- the law: they are one
abbrev pub SerialRunsLeaveTheirLastGraph : Type 0
SerialRunsLeaveTheirLastGraph = (shape : Shape) (load : List Txn) (script : List (List Txn))
    → graph_behind shape load script ≡ last_graph shape load script (run_after shape load script)
