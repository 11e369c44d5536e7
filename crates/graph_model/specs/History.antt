-- The history that outcomes tell of, and the graph after so many of its entries.
use Rattle.std.specs.Prelude.{ℕ, zero, suc, Bool, false, List, Option, find, ◌==◌}
use Rattle.std.specs.Option.{option_map, option_map_or, option_or}
use Rattle.std.specs.List.{filter}
use Rattle.gdi_kinds.specs.declared.txn.Txn.{Txn}
use Rattle.gdi_kinds.specs.declared.outcome.Line.{Line}
use Rattle.gdi_kinds.specs.Calls.{is_writing}
use Rattle.rma_layout.specs.Shape.{Shape}
use Rattle.graph_model.specs.Maps.{item_at}
use Rattle.graph_model.specs.Graph.{Graph, empty_graph}
use Rattle.graph_model.specs.Transactions.{graph_after_txn}
use Rattle.graph_model.specs.Placed.{Placed, entry_number}

-- the load's transactions that write
abbrev pub load_entries : List Txn → List Txn
load_entries load = filter is_writing load

abbrev pub is_entry : ℕ → Line → Bool
is_entry k line = option_map_or (λ n. n == k) (entry_number line.outcome) false

-- entry k of the history, from 0: the load's come first, and then the transactions whose outcomes wrote
abbrev pub entry_at : List Txn → List (Placed × Line) → ℕ → Option Txn
entry_at load pairs k = option_or (item_at (load_entries load) k) (option_map (λ pair. pair.0.txn) (find (λ pair. is_entry k pair.1) pairs))

-- the graph after n entries: the empty one, changed by one entry after the other
abbrev pub graph_after : Shape → (ℕ → Option Txn) → ℕ → Graph
graph_after shape entry zero = empty_graph
graph_after shape entry (suc n) = option_map_or (graph_after_txn shape (graph_after shape entry n)) (entry n) (graph_after shape entry n)
