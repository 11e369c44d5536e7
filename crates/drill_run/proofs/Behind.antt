-- The run of a drill's script behind its load.
use Rattle.std.proofs.Common.{◌≡◌, ℕ, zero, suc, ◌+◌, ◌*◌, ◌<◌, ◌≤◌, ◌%◌, true, cond, List, [], ◌∷◌, map, length, sum_by, ◌^◌, refl, sym, ap, subst, ◌∙◌, arith}
use Rattle.std.specs.Prelude.{◌==◌}
use Rattle.std.specs.List.{filter, range_with_len}
use Rattle.std.proofs.Math.Nat.{suc-mul}
use Rattle.std.proofs.lemmas.List.{length-map}
use Rattle.std.proofs.lemmas.List.FromFn.{length-range_with_len}
use Rattle.std.proofs.lemmas.List.Sums.{sum_by-cons}
use Rattle.gdi_kinds.specs.declared.txn.Txn.{Txn}
use Rattle.gdi_kinds.specs.Calls.{is_writing}
use Rattle.rma_layout.specs.Shape.{Shape}
use Rattle.graph_model.specs.Graph.{empty_graph}
use Rattle.graph_model.specs.History.{load_entries}
use Rattle.graph_model.specs.LegalRun.{IsLegalRun}
use Rattle.graph_model.specs.Placed.{transactions_of}
use Rattle.graph_model.proofs.Sets.{length-filter-le}
use Rattle.map_graph.specs.Plain.{Plain}
use Rattle.serial_run.specs.Serial.{graph_after_txns, graph_behind, last_graph, run_after, serial_graph, serial_run, HaveRoom}
use Rattle.serial_run.specs.Runs.{RunsScript}
use Rattle.serial_run.specs.declared.script_run.ScriptRun.{ScriptRun}
use Rattle.serial_run.proofs.SerialIsLegal.{serial_is_legal, serial_leaves_last}
use Rattle.plain_run.specs.declared.loaded.Loaded.{Loaded}
use Rattle.plain_run.specs.Loading.{HasLoaded}
use Rattle.drill.specs.Drill.{all_edges, all_vertices, drill_load, drill_script, section_of, step_of}
use Rattle.drill_run.specs.Drills.{load_of}

-- ---- the script is short

short_sections : (n seed : ℕ) (ss : List ℕ) → sum_by length (map (section_of n seed) ss) ≤ length ss * n
short_sections n seed [] = omega arith
short_sections n seed (s ∷ ss) =
    let ids = filter (λ i. i % 8 == s) (range_with_len 0 n) in
    let here = length-map ids (step_of n seed) in
    omega (arith, sum_by-cons length (section_of n seed s) (map (section_of n seed) ss), here, length-filter-le (λ i. i % 8 == s) (range_with_len 0 n), length-range_with_len 0 n, short_sections n seed ss, suc-mul (length ss) n)

pub few_txns : (n seed : ℕ) → sum_by length (drill_script n seed) ≤ 8 * n
few_txns n seed = short_sections n seed (range_with_len 0 8)

-- ---- both transactions of the load write

edges_write : (n seed : ℕ) → 0 < n → is_writing (all_edges n seed) ≡ true
edges_write zero seed some = absurd (omega (arith, some))
edges_write (suc n) seed some = refl

pub both_write : (n seed : ℕ) → 0 < n → load_entries (drill_load n seed) ≡ drill_load n seed
both_write n seed some = ap (λ b. all_vertices n ∷ cond b (all_edges n seed ∷ []) []) (edges_write n seed some)

-- ---- the run behind the load

module _ (shape : Shape) (n seed : ℕ) (some : 0 < n) (loaded : Loaded) (run : ScriptRun) (has : HasLoaded shape (load_of n seed) loaded) (runs : RunsScript loaded.graph loaded.entries (drill_script n seed) run) where
  abbrev load : List Txn
  load = drill_load n seed

  abbrev script : List (List Txn)
  script = drill_script n seed

  abbrev entries : List Txn
  entries = load_entries load

  room : HaveRoom shape empty_graph entries
  room = subst (HaveRoom shape empty_graph) (sym (both_write n seed some)) (has.room.vertices, (has.room.edges, tt))

  behind : loaded.graph ≡ (record { shape = shape; graph = graph_after_txns shape empty_graph entries })
  behind = has.graph ∙ ap (λ (l : List Txn). record { shape = shape; graph = graph_after_txns shape empty_graph l }) (sym (both_write n seed some))

  pub printed : run.printed ≡ run_after shape load script
  printed =
      runs.printed
      ∙ ap (λ (plain : Plain). serial_run plain.shape plain.graph loaded.entries (transactions_of script)) behind
      ∙ ap (λ k. serial_run shape (graph_after_txns shape empty_graph entries) k (transactions_of script)) has.entries

  pub left : run.graph.graph ≡ graph_behind shape load script
  left = runs.graph ∙ ap (λ (plain : Plain). serial_graph plain.shape plain.graph (transactions_of script)) behind

  pub legal : IsLegalRun shape load script run.printed
  legal = subst (IsLegalRun shape load script) (sym printed) (serial_is_legal shape load script room)

  pub last : run.graph.graph ≡ last_graph shape load script run.printed
  last = left ∙ serial_leaves_last shape load script ∙ ap (last_graph shape load script) (sym printed)

-- the load has two transactions at the most, and the script eight for each vertex
pub short_enough : (n seed entries : ℕ) → n ≤ 10000 → entries ≡ length (load_entries (drill_load n seed)) → entries + sum_by length (drill_script n seed) < 2 ^ 64
short_enough n seed entries few is = omega (arith, few, is, few_txns n seed, length-filter-le is_writing (drill_load n seed))
