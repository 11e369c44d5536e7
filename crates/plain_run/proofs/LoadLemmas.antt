-- A load of two files as a list of transactions, and the run of a script behind it.
use Rattle.std.proofs.Common.{◌≡◌, ℕ, suc, ◌+◌, ◌≤◌, Bool, true, false, not, cond, IsTrue, List, [], ◌∷◌, ◌++◌, length, Option, Some, None, refl, sym, ap, subst, ◌∙◌, arith, length-append}
use Rattle.std.specs.Prelude.{IfSome}
use Rattle.std.specs.Option.{option_to_list}
use Rattle.gdi_kinds.specs.declared.txn.Txn.{Txn}
use Rattle.gdi_kinds.specs.Calls.{is_writing}
use Rattle.rma_layout.specs.Shape.{Shape}
use Rattle.graph_model.specs.Graph.{Graph, empty_graph}
use Rattle.graph_model.specs.Transactions.{graph_after_txn}
use Rattle.graph_model.specs.Capacity.{full_rank}
use Rattle.graph_model.specs.History.{load_entries}
use Rattle.graph_model.specs.Placed.{transactions_of}
use Rattle.graph_model.specs.LegalRun.{IsLegalRun}
use Rattle.graph_model.proofs.Transactions.{looking_leaves}
use Rattle.map_graph.specs.Plain.{Plain}
use Rattle.serial_run.specs.Serial.{graph_after_txns, run_after, serial_run, HaveRoom}
use Rattle.serial_run.proofs.SerialIsLegal.{serial_is_legal}
use Rattle.serial_run.specs.Runs.{RunsScript}
use Rattle.serial_run.specs.declared.script_run.ScriptRun.{ScriptRun}
use Rattle.plain_run.specs.declared.load.Load.{Load}
use Rattle.plain_run.specs.declared.loaded.Loaded.{Loaded}
use Rattle.plain_graph.specs.Counted.{Blocks, IsCountOf}
use Rattle.plain_run.specs.Loading.{IsReady, behind, behind_load, behind_vertices, empty_plain, full_for, txns_of, HasLoaded, HasRoom}

-- ---- transactions that don't write are no entries, and leave the graph

not_false : (b : Bool) → b ≡ false → IsTrue (not b)
not_false true e = absurd cc
not_false false e = refl

one_more : (shape : Shape) (g : Graph) (txn : Txn) (txns : List Txn) (w : Bool) → is_writing txn ≡ w
    → ((h : Graph) → graph_after_txns shape h (load_entries txns) ≡ graph_after_txns shape h txns)
    → graph_after_txns shape g (cond w (txn ∷ load_entries txns) (load_entries txns)) ≡ graph_after_txns shape (graph_after_txn shape g txn) txns
one_more shape g txn txns true writes rest = rest (graph_after_txn shape g txn)
one_more shape g txn txns false writes rest = rest g ∙ ap (λ h. graph_after_txns shape h txns) (sym (looking_leaves shape g txn (not_false (is_writing txn) writes)))

entries_alone : (shape : Shape) (g : Graph) (txns : List Txn) → graph_after_txns shape g (load_entries txns) ≡ graph_after_txns shape g txns
entries_alone shape g [] = refl
entries_alone shape g (txn ∷ txns) = one_more shape g txn txns (is_writing txn) refl (λ h. entries_alone shape h txns)

room_more : (shape : Shape) (g : Graph) (txn : Txn) (txns : List Txn) (w : Bool) → is_writing txn ≡ w
    → full_rank shape g txn ≡ None → ((h : Graph) → HaveRoom shape h txns → HaveRoom shape h (load_entries txns)) → HaveRoom shape (graph_after_txn shape g txn) txns
    → HaveRoom shape g (cond w (txn ∷ load_entries txns) (load_entries txns))
room_more shape g txn txns true writes here rest room = (here, rest (graph_after_txn shape g txn) room)
room_more shape g txn txns false writes here rest room = rest g (subst (λ h. HaveRoom shape h txns) (looking_leaves shape g txn (not_false (is_writing txn) writes)) room)

entries_have_room : (shape : Shape) (g : Graph) (txns : List Txn) → HaveRoom shape g txns → HaveRoom shape g (load_entries txns)
entries_have_room shape g [] room = tt
entries_have_room shape g (txn ∷ txns) room = room_more shape g txn txns (is_writing txn) refl room.0 (λ h. entries_have_room shape h txns) room.1

-- ---- the two files

pub shape_behind : (before : Plain) (txn : Option Txn) → (behind before txn).shape ≡ before.shape
shape_behind before None = refl
shape_behind before (Some txn) = refl

both_files : (shape : Shape) (vertices edges : Option Txn)
    → graph_after_txns shape empty_graph (option_to_list vertices ++ option_to_list edges) ≡ (behind (behind (empty_plain shape) vertices) edges).graph
both_files shape None None = refl
both_files shape None (Some e) = refl
both_files shape (Some v) None = refl
both_files shape (Some v) (Some e) = refl

both_have_room : (shape : Shape) (vertices edges : Option Txn) → full_for (empty_plain shape) vertices ≡ None → full_for (behind (empty_plain shape) vertices) edges ≡ None
    → HaveRoom shape empty_graph (option_to_list vertices ++ option_to_list edges)
both_have_room shape None None v e = tt
both_have_room shape None (Some edges) v e = (e, tt)
both_have_room shape (Some vertices) None v e = (v, tt)
both_have_room shape (Some vertices) (Some edges) v e = (v, (e, tt))

one_entry : (txn : Txn) (w : Bool) → length (cond w (txn ∷ []) []) ≤ 1
one_entry txn true = omega arith
one_entry txn false = omega arith

pub at_most_one : (txn : Option Txn) → length (load_entries (option_to_list txn)) ≤ 1
at_most_one None = omega arith
at_most_one (Some txn) = one_entry txn (is_writing txn)

entries_of_both : (v : Txn) (edges : Option Txn) (w : Bool)
    → length (cond w (v ∷ load_entries (option_to_list edges)) (load_entries (option_to_list edges))) ≡ length (cond w (v ∷ []) []) + length (load_entries (option_to_list edges))
entries_of_both v edges true = omega arith
entries_of_both v edges false = omega arith

pub entries_add : (vertices edges : Option Txn)
    → length (load_entries (option_to_list vertices ++ option_to_list edges)) ≡ length (load_entries (option_to_list vertices)) + length (load_entries (option_to_list edges))
entries_add None edges = omega arith
entries_add (Some v) edges = entries_of_both v edges (is_writing v)

pub few_entries : (load : Load) → length (load_entries (txns_of load)) ≤ 2
few_entries load = omega (arith, entries_add load.vertices load.edges, at_most_one load.vertices, at_most_one load.edges)

-- ---- the graph behind a load

pub behind_shape : (shape : Shape) (load : Load) → (behind_load shape load).shape ≡ shape
behind_shape shape load = shape_behind (behind_vertices shape load) load.edges ∙ shape_behind (empty_plain shape) load.vertices

pub behind_graph : (shape : Shape) (load : Load) → (behind_load shape load).graph ≡ graph_after_txns shape empty_graph (load_entries (txns_of load))
behind_graph shape load = sym (entries_alone shape empty_graph (txns_of load) ∙ both_files shape load.vertices load.edges)

pub load_has_room : (shape : Shape) (load : Load) → HasRoom shape load → HaveRoom shape empty_graph (load_entries (txns_of load))
load_has_room shape load room = entries_have_room shape empty_graph (txns_of load) (both_have_room shape load.vertices load.edges room.vertices room.edges)

-- ---- the run

pub legal_behind : (shape : Shape) (load : Load) (script : List (List Txn)) (loaded : Loaded) (run : ScriptRun)
    → HasLoaded shape load loaded → RunsScript loaded.graph loaded.entries script run → IsLegalRun shape (txns_of load) script run.printed
legal_behind shape load script loaded run has runs =
    let ps = transactions_of script in
    let txns = txns_of load in
    let k = length (load_entries txns) in
    let printed : run.printed ≡ run_after shape txns script
    = runs.printed
    ∙ ap (λ (plain : Plain). serial_run plain.shape plain.graph loaded.entries ps) has.graph
    ∙ ap (λ n. serial_run (behind_load shape load).shape (behind_load shape load).graph n ps) has.entries
    ∙ ap (λ s. serial_run s (behind_load shape load).graph k ps) (behind_shape shape load)
    ∙ ap (λ g. serial_run shape g k ps) (behind_graph shape load) in
    subst (IsLegalRun shape txns script) (sym printed) (serial_is_legal shape txns script (load_has_room shape load has.room))

-- ---- a graph that is handed on

pub shape_behind_vertices : (shape : Shape) (load : Load) → (behind_vertices shape load).shape ≡ shape
shape_behind_vertices shape load = shape_behind (empty_plain shape) load.vertices

pub handed_on : (shape : Shape) (load : Load) (handed : Option Plain) (graph : Plain) (vertices_fit edges_fit : Bool)
    → IfSome handed (λ h. (vertices_fit ≡ true) × (edges_fit ≡ true) × (h ≡ graph))
    → (vertices_fit ≡ true → full_for (empty_plain shape) load.vertices ≡ None) → (edges_fit ≡ true → full_for (behind_vertices shape load) load.edges ≡ None)
    → graph ≡ behind_load shape load → IsReady shape load handed
handed_on shape load None graph v e so vertices edges is = tt
handed_on shape load (Some h) graph v e so vertices edges is = (record { vertices = vertices so.0; edges = edges so.1 }, so.2 ∙ is)

pub counted_there : (shape : Shape) (plain before : Plain) (blocks : Blocks) → plain ≡ before → before.shape ≡ shape → IsCountOf plain.shape plain.graph blocks → IsCountOf shape before.graph blocks
counted_there shape plain before blocks is same count =
    subst (λ s. IsCountOf s before.graph blocks) same (subst (λ (p : Plain). IsCountOf p.shape p.graph blocks) is count)
