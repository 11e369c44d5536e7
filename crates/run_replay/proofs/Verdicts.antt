-- A run that keeps all clauses is legal.
use Rattle.std.proofs.Common.{◌≡◌, ℕ, ◌+◌, List, length, Option, Some, None, refl, ap, subst, ◌∙◌, arith}
use Rattle.std.specs.Prelude.{MatchOption}
use Rattle.std.specs.List.{AllByRecursion}
use Rattle.gdi_kinds.specs.declared.txn.Txn.{Txn}
use Rattle.gdi_kinds.specs.declared.outcome.Printed.{Printed}
use Rattle.rma_layout.specs.Shape.{Shape}
use Rattle.graph_model.specs.Graph.{empty_graph}
use Rattle.graph_model.specs.Placed.{pairs_of}
use Rattle.graph_model.specs.History.{load_entries, entry_at}
use Rattle.graph_model.specs.LegalRun.{IsNumbered, IsLegalRun, EntriesHaveRoom, graph_of_run}
use Rattle.map_graph.specs.Plain.{Plain}
use Rattle.serial_run.specs.Serial.{HaveRoom}
use Rattle.serial_run.proofs.LoadGraphs.{room_along, are_entries}
use Rattle.serial_run.proofs.SerialIsLegal.{entry_of_load}
use Rattle.run_check.specs.declared.place.Place.{Place}
use Rattle.run_check.specs.Clauses.{IsPlaced, FailsFirst, FirstUnlike, RepliesAreRight, RoomIsRight}
use Rattle.run_replay.specs.declared.unlike.Unlike.{Unlike}
use Rattle.run_replay.specs.Judging.{IsBehindLoad, IsUnlike, illegal_of}

load_has_room : (shape : Shape) (load : List Txn) (script : List (List Txn)) (run : Printed) → HaveRoom shape empty_graph (load_entries load)
    → EntriesHaveRoom shape (graph_of_run shape load script run) 0 (load_entries load)
load_has_room shape load script run room =
    let pairs = pairs_of script run.lines in
    let entry = entry_at load pairs in
    let txns = load_entries load in
    let are = are_entries shape entry 0 txns (λ j lt. let same : 0 + j ≡ j = omega arith in ap entry same ∙ entry_of_load load pairs j lt) in
    room_along shape entry empty_graph 0 txns refl are room

module _ (shape : Shape) (load : List Txn) (entries : ℕ) (script : List (List Txn)) (run : Printed) where
  judge : (replies room : Option Place) → entries ≡ length (load_entries load) → HaveRoom shape empty_graph (load_entries load) → IsPlaced entries script run
      → MatchOption replies (AllByRecursion (RepliesAreRight shape (graph_of_run shape load script run)) (pairs_of script run.lines))
      (FirstUnlike (RepliesAreRight shape (graph_of_run shape load script run)) (pairs_of script run.lines))
      → MatchOption room (AllByRecursion (RoomIsRight shape (graph_of_run shape load script run)) (pairs_of script run.lines))
      (FirstUnlike (RoomIsRight shape (graph_of_run shape load script run)) (pairs_of script run.lines))
      → MatchOption (illegal_of replies room) (IsLegalRun shape load script run) (λ illegal. FailsFirst shape (graph_of_run shape load script run) entries script run illegal.clause illegal.place)
  judge (Some place) room count loaded placed unlike short = (placed, unlike)
  judge None (Some place) count loaded placed unlike short = (placed, unlike, short)
  judge None None count loaded placed unlike short = record {
    fits_script = placed.fits;
    is_numbered = subst (λ n. IsNumbered n run) count placed.numbered;
    in_order = placed.in_order;
    load_room = load_has_room shape load script run loaded;
    replies = unlike;
    room = short;
  }

pub judged : (before : Plain) (load : List Txn) (entries : ℕ) (script : List (List Txn)) (run : Printed) (unlike : Unlike) → IsBehindLoad before entries load
    → HaveRoom before.shape empty_graph (load_entries load) → IsPlaced entries script run → IsUnlike before.shape (graph_of_run before.shape load script run) script run unlike
    → MatchOption (illegal_of unlike.replies unlike.room) (IsLegalRun before.shape load script run)
    (λ illegal. FailsFirst before.shape (graph_of_run before.shape load script run) entries script run illegal.clause illegal.place)
judged before load entries script run unlike behind loaded placed is = judge before.shape load entries script run unlike.replies unlike.room behind.count loaded placed is.replies is.room

pub none_told : {X : Type 0} → (first : Option X) (P : Type 0) (Q : X → Type 0) → first ≡ None → MatchOption first P Q → P
none_told None P Q is told = told
none_told (Some x) P Q is told = absurd (cc)
