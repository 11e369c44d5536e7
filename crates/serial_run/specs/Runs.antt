-- A run of transactions one after the other, as far as it has come.
use Rattle.std.specs.Prelude.{◌≡◌, ℕ, ◌+◌, ◌≤◌, true, false, List, [], ◌∷◌, ◌++◌, length, Option, Some, None}
use Rattle.gdi_kinds.specs.declared.txn.Txn.{Txn}
use Rattle.gdi_kinds.specs.declared.outcome.Outcome.{Outcome}
use Rattle.gdi_kinds.specs.declared.outcome.Outcome.TheVariants.{Wrote}
use Rattle.gdi_kinds.specs.Calls.{is_writing}
use Rattle.graph_model.specs.Placed.{Placed, placed_from, transactions_of}
use Rattle.map_graph.specs.Plain.{Plain}
use Rattle.serial_run.specs.Serial.{line_on, next_entries, next_graph, serial_graph, serial_lines, serial_run, serial_writes}
use Rattle.serial_run.specs.declared.runner.SerialRun.{SerialRun}
use Rattle.serial_run.specs.declared.script_run.ScriptRun.{ScriptRun}

-- only one that writes and ends is refused for blocks
abbrev pub MayBeFull : Txn → Option ℕ → Type 0
MayBeFull txn None = Unit {0}
MayBeFull txn (Some rank) = (txn.aborts ≡ false) × (is_writing txn ≡ true)

-- an outcome that wrote is an entry
abbrev pub entries_behind : Outcome → ℕ → ℕ
entries_behind (Wrote k replies) entries = entries + 1
entries_behind other entries = entries

-- a run after one more transaction
pub record RunsOne (old new : SerialRun) (placed : Placed) : Type 0 where
  pub shape : new.graph.shape ≡ old.graph.shape
  pub graph : new.graph.graph ≡ next_graph old.graph.shape old.graph.graph placed.txn
  pub lines : new.lines ≡ old.lines ++ line_on old.graph.shape old.graph.graph old.writes placed ∷ []
  pub writes : new.writes ≡ next_entries old.graph.shape old.graph.graph old.writes placed.txn

-- A run after some transactions of a section: whatever follows, the lines so far and those of the rest are the same.
pub record RunsOn (old new : SerialRun) (section first : ℕ) (txns : List Txn) : Type 0 where
  pub shape : new.graph.shape ≡ old.graph.shape
  pub lines : (rest : List Placed) → new.lines ++ serial_lines old.graph.shape new.graph.graph new.writes rest
      ≡ old.lines ++ serial_lines old.graph.shape old.graph.graph old.writes (placed_from section first txns ++ rest)
  pub writes : (rest : List Placed) → serial_writes old.graph.shape new.graph.graph new.writes rest
      ≡ serial_writes old.graph.shape old.graph.graph old.writes (placed_from section first txns ++ rest)
  pub graph : (rest : List Placed) → serial_graph old.graph.shape new.graph.graph rest
      ≡ serial_graph old.graph.shape old.graph.graph (placed_from section first txns ++ rest)
  pub few : new.writes ≤ old.writes + length txns

-- what a script prints on a graph with so many entries, and the graph that it leaves
pub record RunsScript (before : Plain) (entries : ℕ) (script : List (List Txn)) (run : ScriptRun) : Type 0 where
  pub shape : run.graph.shape ≡ before.shape
  pub graph : run.graph.graph ≡ serial_graph before.shape before.graph (transactions_of script)
  pub printed : run.printed ≡ serial_run before.shape before.graph entries (transactions_of script)
