-- What the replay of a run says behind a load, said of the texts.
use Rattle.std.proofs.Common.{◌≡◌, ℕ, List, length, Option, Some, None, sym, ap, subst, ◌∙◌}
use Rattle.std.specs.Prelude.{MatchOption}
use Rattle.gdi_kinds.specs.declared.txn.Txn.{Txn}
use Rattle.gdi_kinds.specs.declared.outcome.Printed.{Printed}
use Rattle.rma_layout.specs.Shape.{Shape}
use Rattle.graph_model.specs.Graph.{empty_graph}
use Rattle.graph_model.specs.History.{load_entries}
use Rattle.graph_model.specs.LegalRun.{graph_of_run, IsLegalRun}
use Rattle.map_graph.specs.Plain.{Plain}
use Rattle.serial_run.specs.Serial.{graph_after_txns, HaveRoom}
use Rattle.outcome_text.specs.Runs.{IsOutput}
use Rattle.plain_run.specs.declared.loaded.Loaded.{Loaded}
use Rattle.plain_run.specs.declared.workload.Workload.{Workload}
use Rattle.plain_run.specs.Given.{Given}
use Rattle.plain_run.specs.Loading.{txns_of, HasLoaded}
use Rattle.plain_run.specs.Running.{AreTexts}
use Rattle.plain_run.proofs.LoadLemmas.{behind_graph, behind_shape, load_has_room}
use Rattle.run_check.specs.declared.illegal.Illegal.{Illegal}
use Rattle.run_check.specs.Clauses.{FailsFirst}
use Rattle.run_check.specs.Laws.{IllegalOnesAreNot}
use Rattle.run_replay.specs.Judging.{IsBehindLoad}
use Rattle.plain_check.specs.Checking.{IsVerdict}

-- a verdict by these graphs
abbrev Judged : Shape → ℕ → List Txn → List (List Txn) → Printed → Option Illegal → Type 0
Judged shape entries load script run first = MatchOption first (IsLegalRun shape load script run) (λ illegal. FailsFirst shape (graph_of_run shape load script run) entries script run illegal.clause illegal.place)

module _ (shape : Shape) (texts : Given) (output : List ℕ) (workload : Workload) (run : Printed) (loaded : Loaded)
    (are : AreTexts shape texts workload) (spells : IsOutput output run) (has : HasLoaded shape workload.load loaded) (law : IllegalOnesAreNot) where
  -- the graph is the one behind the load
  judged : (first : Option Illegal) → ((load : List Txn) → IsBehindLoad loaded.graph loaded.entries load → HaveRoom loaded.graph.shape empty_graph (load_entries load) → Judged loaded.graph.shape loaded.entries load workload.script run first)
      → Judged shape (length (load_entries (txns_of workload.load))) (txns_of workload.load) workload.script run first
  judged first judges =
      let load = txns_of workload.load in
      let shape_is : loaded.graph.shape ≡ shape = ap (λ (p : Plain). p.shape) has.graph ∙ behind_shape shape workload.load in
      let graph_is : loaded.graph.graph ≡ graph_after_txns loaded.graph.shape empty_graph (load_entries load) =
      ap (λ (p : Plain). p.graph) has.graph ∙ behind_graph shape workload.load ∙ ap (λ (s : Shape). graph_after_txns s empty_graph (load_entries load)) (sym shape_is) in
      let behind : IsBehindLoad loaded.graph loaded.entries load = record { count = has.entries; graph = graph_is } in
      let room : HaveRoom loaded.graph.shape empty_graph (load_entries load) = subst (λ (s : Shape). HaveRoom s empty_graph (load_entries load)) (sym shape_is) (load_has_room shape workload.load has.room) in
      subst (λ (n : ℕ). Judged shape n load workload.script run first) has.entries (subst (λ (s : Shape). Judged s loaded.entries load workload.script run first) shape_is (judges load behind room))

  told : (first : Option Illegal) → Judged shape (length (load_entries (txns_of workload.load))) (txns_of workload.load) workload.script run first → IsVerdict shape texts output first
  told None legal = record { workload = workload; run = run; are = are; room = has.room; legal = legal; printed = spells }
  told (Some illegal) fails = record {
    workload = workload;
    run = run;
    are = are;
    room = has.room;
    printed = spells;
    fails = fails;
    not_legal = law shape (txns_of workload.load) workload.script run illegal.clause illegal.place fails;
  }

  pub verdict : (first : Option Illegal) → ((load : List Txn) → IsBehindLoad loaded.graph loaded.entries load → HaveRoom loaded.graph.shape empty_graph (load_entries load) → Judged loaded.graph.shape loaded.entries load workload.script run first)
      → IsVerdict shape texts output first
  verdict first judges = told first (judged first judges)
