-- How a replay comes from one visit to the next.
use Rattle.std.proofs.Common.{◌≡◌, ℕ, zero, suc, ◌+◌, true, IsTrue, List, [], ◌∷◌, ◌++◌, take, drop, Option, Some, None, refl, sym, ap, subst, ◌∙◌}
use Rattle.std.specs.Prelude.{MatchOption, ◌↔◌}
use Rattle.std.specs.List.{AllByRecursion, zip}
use Rattle.std.proofs.lemmas.List.Sorted.{IsPermutation-sym}
use Rattle.gdi_kinds.specs.declared.txn.Txn.{Txn}
use Rattle.gdi_kinds.specs.declared.outcome.Outcome.{Outcome}
use Rattle.gdi_kinds.specs.declared.outcome.Line.{Line}
use Rattle.gdi_kinds.specs.declared.outcome.Printed.{Printed}
use Rattle.graph_model.specs.Graph.{Graph}
use Rattle.graph_model.specs.Placed.{Placed, transactions_of, pairs_of}
use Rattle.graph_model.specs.History.{entry_at}
use Rattle.graph_model.specs.LegalRun.{IsNumbered, HasReplies, EndsByCapacity, graph_of_run}
use Rattle.map_graph.specs.Plain.{Plain}
use Rattle.run_check.specs.Clauses.{FirstUnlike}
use Rattle.run_replay.specs.declared.visit.Visit.{Visit}
use Rattle.run_replay.specs.declared.sight.Sight.{Sight}
use Rattle.run_replay.specs.declared.unlike.Unlike.{Unlike}
use Rattle.run_replay.specs.Visits.{AreInOrder, AreVisits, earlier, place_told}
use Rattle.run_replay.specs.Replaying.{Sees, graph_behind}
use Rattle.run_replay.specs.Judging.{IsBehindLoad, IsUnlike}
use Rattle.run_replay.proofs.Walking.{outcome_of, Rise, Reaches, Steps, is_entry_of, steps, replies_there, replies_here, room_there, room_here}
use Rattle.run_replay.proofs.Telling.{Told, RightVisit, RightPair, one_more, told_permuted, all_pairs, first_pair}
use Rattle.run_replay.proofs.Knowing.{known_sorted, rise_sorted, starts}

pub all_drop : {X : Type 0} (P : X → Type 0) (i : ℕ) (xs : List X) → AllByRecursion P xs → AllByRecursion P (drop i xs)
all_drop P zero xs all = all
all_drop P (suc i) [] all = tt
all_drop P (suc i) (x ∷ xs) all = all_drop P i xs all.1

rise_drop : (i : ℕ) (vs : List Visit) → Rise vs → Rise (drop i vs)
rise_drop zero vs rise = rise
rise_drop (suc i) [] rise = tt
rise_drop (suc i) (v ∷ vs) rise = rise_drop i vs rise.1

abbrev pub graphs_of : Plain → List Txn → List (List Txn) → Printed → ℕ → Graph
graphs_of before load script run = graph_of_run before.shape load script run

-- so many visits are done, behind whatever load it is
pub record Goes (before : Plain) (entries : ℕ) (script : List (List Txn)) (run : Printed) (items : List Visit) (i : ℕ) (now : Plain) (first_reply first_room : Option Visit) : Type 0 where
  pub shape : now.shape ≡ before.shape
  pub walk : (load : List Txn) → IsBehindLoad before entries load → Reaches before.shape (entry_at load (pairs_of script run.lines)) entries items (drop i items) now.graph
  pub replies : (load : List Txn) → IsBehindLoad before entries load → Told (RightVisit (HasReplies before.shape (graphs_of before load script run))) first_reply (take i items)
  pub room : (load : List Txn) → IsBehindLoad before entries load → Told (RightVisit (EndsByCapacity before.shape (graphs_of before load script run))) first_room (take i items)

pub begins : (before : Plain) (entries : ℕ) (script : List (List Txn)) (run : Printed) (items : List Visit) → IsNumbered entries run
    → AreInOrder (transactions_of script) run.lines items → Goes before entries script run items 0 before None None
begins before entries script run items numbered order = record {
  shape = refl;
  walk = λ load behind. starts before load entries (pairs_of script run.lines) items behind (known_sorted load entries script run items behind.count numbered order);
  replies = λ load behind. tt;
  room = λ load behind. tt;
}

pub goes_on : (before : Plain) (entries : ℕ) (script : List (List Txn)) (run : Printed) (items : List Visit) (i : ℕ) (now after : Plain) (replies room : Option Visit) (v : Visit) (sight : Sight)
    → IsNumbered entries run → AreInOrder (transactions_of script) run.lines items → drop i items ≡ v ∷ drop (i + 1) items → take (i + 1) items ≡ take i items ++ v ∷ []
    → Goes before entries script run items i now replies room → after.shape ≡ now.shape → Sees now v.txn.now (outcome_of v) sight
    → after.graph ≡ graph_behind now.shape now.graph v.txn.now (outcome_of v)
    → Goes before entries script run items (i + 1) after (earlier replies sight.replies v) (earlier room sight.room v)
goes_on before entries script run items i now after replies room v sight numbered order rest done goes same_shape sees graph =
    let rest_items = drop (i + 1) items in
    let stepped : (load : List Txn) → IsBehindLoad before entries load → Steps before.shape (entry_at load (pairs_of script run.lines)) entries items rest_items now.graph v
    = λ load behind.
    let entry = entry_at load (pairs_of script run.lines) in
    let known = known_sorted load entries script run items behind.count numbered order in
    let own = subst (AllByRecursion (λ (w : Visit). (k : ℕ) → is_entry_of k (outcome_of w) ≡ true → entry k ≡ Some w.txn.now)) rest
    (all_drop (λ (w : Visit). (k : ℕ) → is_entry_of k (outcome_of w) ≡ true → entry k ≡ Some w.txn.now) i items known.own) in
    let rise = subst Rise rest (rise_drop i items (rise_sorted items order.rise)) in
    let reaches = subst (λ l. Reaches before.shape entry entries items l now.graph) rest (goes.walk load behind) in
    steps before.shape entry entries items rest_items now.graph v (outcome_of v) refl known own.0 reaches rise in
    record {
      shape = same_shape ∙ goes.shape;
      walk = λ load behind.
          subst (Reaches before.shape (entry_at load (pairs_of script run.lines)) entries items rest_items)
          (sym (graph ∙ ap (λ s. graph_behind s now.graph v.txn.now (outcome_of v)) goes.shape)) (stepped load behind).reaches;
      replies = λ load behind.
          let graphs = graphs_of before load script run in
          let here = subst (λ s. IsTrue sight.replies ↔ HasReplies s (λ place. now.graph) v.txn.now (outcome_of v)) goes.shape sees.replies in
          let at = (stepped load behind).at in
          subst (Told (RightVisit (HasReplies before.shape graphs)) (earlier replies sight.replies v)) (sym done)
          (one_more (RightVisit (HasReplies before.shape graphs)) (take i items) replies sight.replies v
          (λ right. replies_there before.shape graphs now.graph v.txn.now (outcome_of v) at (here.0 right))
          (λ right. here.1 (replies_here before.shape graphs now.graph v.txn.now (outcome_of v) at right)) (goes.replies load behind));
      room = λ load behind.
          let graphs = graphs_of before load script run in
          let here = subst (λ s. IsTrue sight.room ↔ EndsByCapacity s (λ place. now.graph) v.txn.now (outcome_of v)) goes.shape sees.room in
          let at = (stepped load behind).at in
          subst (Told (RightVisit (EndsByCapacity before.shape graphs)) (earlier room sight.room v)) (sym done)
          (one_more (RightVisit (EndsByCapacity before.shape graphs)) (take i items) room sight.room v
          (λ right. room_there before.shape graphs now.graph v.txn.now (outcome_of v) at (here.0 right))
          (λ right. here.1 (room_here before.shape graphs now.graph v.txn.now (outcome_of v) at right)) (goes.room load behind));
    }

told_pairs : (IsRight : Txn → Outcome → Type 0) (first : Option Visit) (ps : List Placed) (lines : List Line) (vs : List Visit) → AreVisits 0 ps lines vs → Told (RightVisit IsRight) first vs
    → MatchOption (place_told first) (AllByRecursion (RightPair IsRight) (zip ps lines)) (FirstUnlike (RightPair IsRight) (zip ps lines))
told_pairs IsRight None ps lines vs are told = all_pairs IsRight 0 ps lines vs are told
told_pairs IsRight (Some first) ps lines vs are told = first_pair IsRight 0 ps lines vs first are told.0 told.1 told.2

pub ends : (before : Plain) (entries : ℕ) (script : List (List Txn)) (run : Printed) (items : List Visit) (i : ℕ) (now : Plain) (replies room : Option Visit) (unlike : Unlike)
    → AreInOrder (transactions_of script) run.lines items → take i items ≡ items → Goes before entries script run items i now replies room
    → unlike.replies ≡ place_told replies → unlike.room ≡ place_told room
    → (load : List Txn) → IsBehindLoad before entries load → IsUnlike before.shape (graphs_of before load script run) script run unlike
ends before entries script run items i now replies room unlike order whole goes is_replies is_room load behind =
    let graphs = graphs_of before load script run in
    let ps = transactions_of script in
    let back = IsPermutation-sym order.visits items order.same in
    let told : (IsRight : Txn → Outcome → Type 0) (first : Option Visit) → Told (RightVisit IsRight) first (take i items)
    → MatchOption (place_told first) (AllByRecursion (RightPair IsRight) (zip ps run.lines)) (FirstUnlike (RightPair IsRight) (zip ps run.lines))
    = λ IsRight first t. told_pairs IsRight first ps run.lines order.visits order.are
    (told_permuted (RightVisit IsRight) first items order.visits back (subst (Told (RightVisit IsRight) first) whole t)) in
    record {
      replies = subst (λ o. MatchOption o (AllByRecursion (RightPair (HasReplies before.shape graphs)) (zip ps run.lines)) (FirstUnlike (RightPair (HasReplies before.shape graphs)) (zip ps run.lines)))
          (sym is_replies) (told (HasReplies before.shape graphs) replies (goes.replies load behind));
      room = subst (λ o. MatchOption o (AllByRecursion (RightPair (EndsByCapacity before.shape graphs)) (zip ps run.lines)) (FirstUnlike (RightPair (EndsByCapacity before.shape graphs)) (zip ps run.lines)))
          (sym is_room) (told (EndsByCapacity before.shape graphs) room (goes.room load behind));
    }
