-- Texts that are a load that has room, and a script, have no fault.
use Rattle.std.proofs.Common.{◌≡◌, ℕ, List, Option, Some, None, refl, sym, ap, subst, ◌∙◌}
use Rattle.gdi_kinds.specs.declared.txn.Txn.{Txn}
use Rattle.rma_layout.specs.Shape.{Shape}
use Rattle.map_graph.specs.Plain.{Plain}
use Rattle.script_text.proofs.FaultlessLaw.{spelling_text_is_faultless}
use Rattle.script_text.proofs.ScriptLaw.{one_script}
use Rattle.bulk_load.specs.declared.load_fault.LoadFault.{LoadFault}
use Rattle.bulk_load.specs.declared.load_file.LoadFile.{LoadFile}
use Rattle.bulk_load.specs.declared.load_file.LoadFile.TheVariants.{Vertices, Edges}
use Rattle.bulk_load.proofs.AloneLemmas.{one_transaction, not_wrong}
use Rattle.plain_run.specs.declared.load.Load.{Load}
use Rattle.plain_run.specs.declared.run_refused.RunRefused.TheVariants.{BadLoad, BadScript, LoadFull, NoMemory}
use Rattle.plain_run.specs.declared.workload.Workload.{Workload}
use Rattle.plain_run.specs.Given.{Given}
use Rattle.plain_run.specs.Loading.{behind, behind_vertices, empty_plain, full_for, IsFullAt, IsLoad, IsWrongFile, LoadsFile}
use Rattle.plain_run.specs.Running.{AreTexts, RightTextsAreNotRefused}

file_same : (of : LoadFile) (text : Option (List ℕ)) (before : Plain) (a b : Option Txn) → LoadsFile of text before a → LoadsFile of text before b → a ≡ b
file_same of None before None None left right = refl
file_same of None before None (Some b) left right = absurd right
file_same of None before (Some a) b left right = absurd left
file_same of (Some bytes) before None b left right = absurd left
file_same of (Some bytes) before (Some a) None left right = absurd right
file_same of (Some bytes) before (Some a) (Some b) left right = ap Some (one_transaction of bytes before a b left right)

file_not_wrong : (of : LoadFile) (text : Option (List ℕ)) (before : Plain) (txn : Option Txn) (row : ℕ) (kind : LoadFault) → LoadsFile of text before txn → ¬ IsWrongFile of text before row kind
file_not_wrong of None before txn row kind right wrong = absurd wrong
file_not_wrong of (Some bytes) before None row kind right wrong = absurd right
file_not_wrong of (Some bytes) before (Some txn) row kind right wrong = not_wrong of bytes before txn row kind right wrong

load_same : (shape : Shape) (vertex_file edge_file : Option (List ℕ)) (a b : Load) → IsLoad shape vertex_file edge_file a → IsLoad shape vertex_file edge_file b → a ≡ b
load_same shape vertex_file edge_file a b left right =
    let vertices = file_same Vertices vertex_file (empty_plain shape) a.vertices b.vertices left.vertices right.vertices in
    let edges = file_same Edges edge_file (behind_vertices shape b) a.edges b.edges
    (subst (λ (v : Option Txn). LoadsFile Edges edge_file (behind (empty_plain shape) v) a.edges) vertices left.edges) right.edges in
    ap (λ (v : Option Txn). (record { vertices = v; edges = a.edges })) vertices ∙ ap (λ (e : Option Txn). (record { vertices = b.vertices; edges = e })) edges

-- texts are one load and one script
pub workload_same : (shape : Shape) (texts : Given) (a b : Workload) → AreTexts shape texts a → AreTexts shape texts b → a ≡ b
workload_same shape texts a b left right =
    ap (λ (l : Load). (record { load = l; script = a.script })) (load_same shape texts.vertices texts.edges a.load b.load left.load right.load)
    ∙ ap (λ (s : List (List Txn)). (record { load = b.load; script = s })) (one_script texts.script a.script b.script left.script right.script)

not_full : (full : Option ℕ) (rank : ℕ) → full ≡ None → ¬ (full ≡ Some rank)
not_full full rank none some = let e : ◌≡◌ {A = Option ℕ} None (Some rank) = sym none ∙ some in absurd (cc)

pub right_texts : RightTextsAreNotRefused
right_texts shape texts workload NoMemory are room why = refl
right_texts shape texts workload (BadLoad Vertices row kind) are room why =
    absurd (file_not_wrong Vertices texts.vertices (empty_plain shape) workload.load.vertices row kind are.load.vertices why)
right_texts shape texts workload (BadLoad Edges row kind) are room (txn, loads, wrong) =
    let same = file_same Vertices texts.vertices (empty_plain shape) txn workload.load.vertices loads are.load.vertices in
    absurd (file_not_wrong Edges texts.edges (behind_vertices shape workload.load) workload.load.edges row kind are.load.edges
    (subst (λ (v : Option Txn). IsWrongFile Edges texts.edges (behind (empty_plain shape) v) row kind) same wrong))
right_texts shape texts workload (BadScript line kind) are room why =
    absurd (spelling_text_is_faultless texts.script (λ none. none workload.script are.script) line kind why.1)
right_texts shape texts workload (LoadFull Vertices rank) are room (other, also, full) =
    let same = load_same shape texts.vertices texts.edges other.load workload.load also.load are.load in
    let here = subst (λ (l : Load). IsFullAt shape l Vertices rank) same full in
    absurd (not_full (full_for (empty_plain shape) workload.load.vertices) rank room.vertices here)
right_texts shape texts workload (LoadFull Edges rank) are room (other, also, full) =
    let same = load_same shape texts.vertices texts.edges other.load workload.load also.load are.load in
    let here = subst (λ (l : Load). IsFullAt shape l Edges rank) same full in
    absurd (not_full (full_for (behind_vertices shape workload.load) workload.load.edges) rank room.edges here.1)
