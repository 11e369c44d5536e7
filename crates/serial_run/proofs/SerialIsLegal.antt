-- Transactions that run one after the other are a legal run.
use Rattle.std.proofs.Common.{◌≡◌, ◌≢◌, ℕ, suc, ◌+◌, ◌<◌, ◌≤◌, Bool, true, false, not, eqb, List, [], ◌∷◌, ◌++◌, length, Option, Some, None, IsTrue, is_some, if◌then◌else◌, refl, sym, ap, ◌∙◌, append_assoc, arith}
use Rattle.std.specs.Prelude.{IfSome, find}
use Rattle.std.specs.Option.{option_map, option_map_or, option_or}
use Rattle.std.specs.List.{AllByRecursion, zip}
use Rattle.std.proofs.lemmas.Bool.Decides.{nat_tests}
use Rattle.gdi_kinds.specs.declared.reply.Reply.{Reply}
use Rattle.gdi_kinds.specs.declared.call.Call.{Call}
use Rattle.gdi_kinds.specs.declared.txn.Txn.{Txn}
use Rattle.gdi_kinds.specs.declared.outcome.Outcome.{Outcome}
use Rattle.gdi_kinds.specs.declared.outcome.Outcome.TheVariants.{Wrote, Read, Aborted, Full}
use Rattle.gdi_kinds.specs.declared.outcome.Line.{Line}
use Rattle.gdi_kinds.specs.Calls.{is_writing}
use Rattle.rma_layout.specs.Shape.{Shape}
use Rattle.graph_model.specs.Maps.{item_at}
use Rattle.graph_model.specs.Graph.{Graph, empty_graph}
use Rattle.graph_model.specs.Calls.{graph_after_call}
use Rattle.graph_model.specs.Transactions.{replies_to_calls, graph_after_txn, replies_to}
use Rattle.graph_model.specs.Capacity.{full_rank}
use Rattle.graph_model.specs.Placed.{Placed, transactions_of, pairs_of, entry_number, reading_place}
use Rattle.graph_model.specs.History.{load_entries, entry_at, is_entry, graph_after}
use Rattle.graph_model.specs.LegalRun.{MayEnd, FitsScript, IsDistinct, numbers_of, reading_places, MayStandBefore, KeepsSessionOrder, HasReplies, EndsByCapacity, IsLegalRun}
use Rattle.graph_model.proofs.Transactions.{abort_leaves, looking_leaves}
use Rattle.serial_run.specs.Serial.{ends, entries_after, line_on, next_entries, next_graph, serial_lines, serial_graph, serial_writes, graph_after_txns, graph_behind, run_after, SerialRunsAreLegal, SerialRunsLeaveTheirLastGraph}
use Rattle.serial_run.proofs.LoadGraphs.{item_past, item_there, graph_along, room_along, are_entries, AreEntries}

-- ---- the lines fit the script

length-replies : (shape : Shape) (g : Graph) (calls : List Call) → length (replies_to_calls shape g calls) ≡ length calls
length-replies shape g [] = refl
length-replies shape g (c ∷ cs) = ap suc (length-replies shape (graph_after_call shape g c) cs)

not_false : (b : Bool) → b ≡ false → IsTrue (not b)
not_false true e = absurd cc
not_false false e = refl

may_end : (txn : Txn) (a w : Bool) (full : Option ℕ) (k : ℕ) (rs : List Reply) → txn.aborts ≡ a → is_writing txn ≡ w → length rs ≡ length txn.calls → MayEnd txn (ends a w full k rs)
may_end txn true w full k rs ae we le = ae
may_end txn false true (Some rank) k rs ae we le = (not_false txn.aborts ae, we)
may_end txn false true None k rs ae we le = (not_false txn.aborts ae, we, le)
may_end txn false false full k rs ae we le = (not_false txn.aborts ae, not_false (is_writing txn) we, le)

fits_script : (shape : Shape) (g : Graph) (k : ℕ) (ps : List Placed) → FitsScript ps (serial_lines shape g k ps)
fits_script shape g k [] = tt
fits_script shape g k (p ∷ ps) = (
  (refl, refl, may_end p.txn p.txn.aborts (is_writing p.txn) (full_rank shape g p.txn) k (replies_to shape g p.txn) refl refl (length-replies shape g p.txn.calls)),
  fits_script shape (next_graph shape g p.txn) (next_entries shape g k p.txn) ps,
)

-- ---- numbers and places

entries_rise : (a w : Bool) (full : Option ℕ) (k : ℕ) → k ≤ entries_after a w full k
entries_rise true w full k = omega arith
entries_rise false true (Some rank) k = omega arith
entries_rise false true None k = omega arith
entries_rise false false full k = omega arith

writes_rise : (shape : Shape) (g : Graph) (k : ℕ) (ps : List Placed) → k ≤ serial_writes shape g k ps
writes_rise shape g k [] = omega arith
writes_rise shape g k (p ∷ ps) =
    omega (arith, entries_rise p.txn.aborts (is_writing p.txn) (full_rank shape g p.txn) k, writes_rise shape (next_graph shape g p.txn) (next_entries shape g k p.txn) ps)

-- a line's number and place are at least k
abbrev FromOn : ℕ → Outcome → Type 0
FromOn k outcome = IfSome (entry_number outcome) (λ n. k ≤ n) × IfSome (reading_place outcome) (λ n. k ≤ n)

ends_from_on : (j : ℕ) (a w : Bool) (full : Option ℕ) (k : ℕ) (rs : List Reply) → j ≤ k → FromOn j (ends a w full k rs)
ends_from_on j true w full k rs le = (tt, tt)
ends_from_on j false true (Some rank) k rs le = (tt, le)
ends_from_on j false true None k rs le = (le, tt)
ends_from_on j false false full k rs le = (tt, le)

lines_from_on : (shape : Shape) (g : Graph) (j k : ℕ) (ps : List Placed) → j ≤ k → AllByRecursion (λ line. FromOn j line.outcome) (serial_lines shape g k ps)
lines_from_on shape g j k [] le = tt
lines_from_on shape g j k (p ∷ ps) le = (
  ends_from_on j p.txn.aborts (is_writing p.txn) (full_rank shape g p.txn) k (replies_to shape g p.txn) le,
  lines_from_on shape (next_graph shape g p.txn) j (next_entries shape g k p.txn) ps (omega (arith, le, entries_rise p.txn.aborts (is_writing p.txn) (full_rank shape g p.txn) k)),
)

follows : (a w : Bool) (full : Option ℕ) (k : ℕ) (rs : List Reply) (later : Outcome) → FromOn (entries_after a w full k) later → MayStandBefore (ends a w full k rs) later
follows true w full k rs later h = tt
follows false true (Some rank) k rs later h = h
follows false true None k rs (Wrote n rs') h = (omega (arith, h.0), tt)
follows false true None k rs (Read n rs') h = (tt, omega (arith, h.1))
follows false true None k rs Aborted h = (tt, tt)
follows false true None k rs (Full r n) h = (tt, omega (arith, h.1))
follows false false full k rs later h = h

all_follow : (a w : Bool) (full : Option ℕ) (k : ℕ) (rs : List Reply) (section : ℕ) (lines : List Line) → AllByRecursion (λ line. FromOn (entries_after a w full k) line.outcome) lines
    → AllByRecursion (λ later. later.section ≡ section → MayStandBefore (ends a w full k rs) later.outcome) lines
all_follow a w full k rs section [] h = tt
all_follow a w full k rs section (line ∷ lines) h = (λ _. follows a w full k rs line.outcome h.0, all_follow a w full k rs section lines h.1)

in_order : (shape : Shape) (g : Graph) (k : ℕ) (ps : List Placed) → KeepsSessionOrder (serial_lines shape g k ps)
in_order shape g k [] = tt
in_order shape g k (p ∷ ps) =
    let next = next_entries shape g k p.txn in
    let after = next_graph shape g p.txn in (
      all_follow p.txn.aborts (is_writing p.txn) (full_rank shape g p.txn) k (replies_to shape g p.txn) p.section _ (lines_from_on shape after next next ps (omega arith)),
      in_order shape after next ps,
    )

-- the numbers of these lines are those from k to the last, each once
record Numbers (k last : ℕ) (lines : List Line) : Type 0 where
  count : last ≡ k + length (numbers_of lines)
  numbers : AllByRecursion (λ n. (k ≤ n) × (n < last)) (numbers_of lines)
  once : IsDistinct (numbers_of lines)
  places : AllByRecursion (λ n. (k ≤ n) × (n ≤ last)) (reading_places lines)

wider : (j k last : ℕ) (ns : List ℕ) → j ≤ k → AllByRecursion (λ n. (k ≤ n) × (n < last)) ns → AllByRecursion (λ n. (j ≤ n) × (n < last)) ns
wider j k last [] le h = tt
wider j k last (n ∷ ns) le h = ((omega (arith, h.0.0), h.0.1), wider j k last ns le h.1)

wider_places : (j k last : ℕ) (ns : List ℕ) → j ≤ k → AllByRecursion (λ n. (k ≤ n) × (n ≤ last)) ns → AllByRecursion (λ n. (j ≤ n) × (n ≤ last)) ns
wider_places j k last [] le h = tt
wider_places j k last (n ∷ ns) le h = ((omega (arith, h.0.0), h.0.1), wider_places j k last ns le h.1)

apart : (k last : ℕ) (ns : List ℕ) → AllByRecursion (λ n. (suc k ≤ n) × (n < last)) ns → AllByRecursion (λ n. n ≢ k) ns
apart k last [] h = tt
apart k last (n ∷ ns) h = (λ e. omega (arith, h.0.0), apart k last ns h.1)

one_more : (a w : Bool) (full : Option ℕ) (k last : ℕ) (rs : List Reply) (section number : ℕ) (lines : List Line) → entries_after a w full k ≤ last
    → Numbers (entries_after a w full k) last lines → Numbers k last ((record { section = section; txn = number; outcome = ends a w full k rs }) ∷ lines)
one_more true w full k last rs section number lines le h = record { count = h.count; numbers = h.numbers; once = h.once; places = h.places }
one_more false true (Some rank) k last rs section number lines le h = record { count = h.count; numbers = h.numbers; once = h.once; places = ((omega arith, le), h.places) }
one_more false true None k last rs section number lines le h = record {
  count = omega (arith, h.count);
  numbers = ((omega arith, omega arith), wider k (suc k) last _ (omega arith) h.numbers);
  once = (apart k last _ h.numbers, h.once);
  places = wider_places k (suc k) last _ (omega arith) h.places;
}
one_more false false full k last rs section number lines le h = record { count = h.count; numbers = h.numbers; once = h.once; places = ((omega arith, le), h.places) }

numbered : (shape : Shape) (g : Graph) (k : ℕ) (ps : List Placed) → Numbers k (serial_writes shape g k ps) (serial_lines shape g k ps)
numbered shape g k [] = record { count = omega arith; numbers = tt; once = tt; places = tt }
numbered shape g k (p ∷ ps) =
    let next = next_entries shape g k p.txn in
    let after = next_graph shape g p.txn in
    one_more p.txn.aborts (is_writing p.txn) (full_rank shape g p.txn) k (serial_writes shape after next ps) (replies_to shape g p.txn) p.section p.number _
    (writes_rise shape after next ps) (numbered shape after next ps)

-- ---- the graphs

-- the number of an entry before is below k
abbrev Below : ℕ → Line → Type 0
Below k line = IfSome (entry_number line.outcome) (λ n. n < k)

ends_below : (a w : Bool) (full : Option ℕ) (k : ℕ) (rs : List Reply) → IfSome (entry_number (ends a w full k rs)) (λ n. n < entries_after a w full k)
ends_below true w full k rs = tt
ends_below false true (Some rank) k rs = tt
ends_below false true None k rs = omega arith
ends_below false false full k rs = tt

below_more : (j k : ℕ) (before : List (Placed × Line)) → j ≤ k → AllByRecursion (λ pair. Below j pair.1) before → AllByRecursion (λ pair. Below k pair.1) before
below_more j k [] le h = tt
below_more j k (pair ∷ before) le h =
    (elim (entry_number pair.1.outcome) as (λ o. IfSome o (λ n. n < j) → IfSome o (λ n. n < k)) [ None ↦ λ _. tt | Some n ↦ λ lt. omega arith ] h.0, below_more j k before le h.1)

below_push : (k : ℕ) (before : List (Placed × Line)) (pair : Placed × Line) → AllByRecursion (λ q. Below k q.1) before → Below k pair.1 → AllByRecursion (λ q. Below k q.1) (before ++ pair ∷ [])
below_push k [] pair h here = (here, tt)
below_push k (q ∷ before) pair h here = (h.0, below_push k before pair h.1 here)

not_entry : (k : ℕ) (line : Line) → Below k line → is_entry k line ≡ false
not_entry k line h =
    elim (entry_number line.outcome) as (λ o. IfSome o (λ n. n < k) → option_map_or (λ n. eqb n k) o false ≡ false) [ None ↦ λ _. refl | Some n ↦ λ lt. grind (arith, nat_tests) ] h

-- no entry before has the number, so what comes next decides
find_past : (k : ℕ) (before after : List (Placed × Line)) → AllByRecursion (λ pair. Below k pair.1) before → find (λ pair. is_entry k pair.1) (before ++ after) ≡ find (λ pair. is_entry k pair.1) after
find_past k [] after h = refl
find_past k (pair ∷ before) after h = rw (not_entry k pair.1 h.0) (find_past k before after h.1)

same_eqb : (k : ℕ) → eqb k k ≡ true
same_eqb k = grind (arith, nat_tests)

-- past the load's entries, that of a transaction that wrote is found under its number
entry_is : (load : List Txn) (a w : Bool) (full : Option ℕ) (k : ℕ) (rs : List Reply) (p : Placed) (before after : List (Placed × Line)) → length (load_entries load) ≤ k
    → a ≡ false → w ≡ true → full ≡ None → AllByRecursion (λ pair. Below k pair.1) before
    → entry_at load (before ++ (p, record { section = p.section; txn = p.number; outcome = ends a w full k rs }) ∷ after) k ≡ Some p.txn
entry_is load true w full k rs p before after le ae we fe h = absurd cc
entry_is load false false full k rs p before after le ae we fe h = absurd cc
entry_is load false true (Some rank) k rs p before after le ae we fe h = absurd cc
entry_is load false true None k rs p before after le ae we fe h =
    rw (item_past (load_entries load) k le) (ap (option_map (λ pair. pair.0.txn)) (find_past k before _ h) ∙ rw (same_eqb k) refl)

-- the graph after the transaction is that of the history after its entry, if it is one
graph_follows : (shape : Shape) (entry : ℕ → Option Txn) (g : Graph) (k : ℕ) (txn : Txn) (a w : Bool) (full : Option ℕ) → txn.aborts ≡ a → is_writing txn ≡ w
    → g ≡ graph_after shape entry k → (a ≡ false → w ≡ true → full ≡ None → entry k ≡ Some txn)
    → (if is_some full then g else graph_after_txn shape g txn) ≡ graph_after shape entry (entries_after a w full k)
graph_follows shape entry g k txn true w (Some rank) ae we here is_next = here
graph_follows shape entry g k txn true w None ae we here is_next = abort_leaves shape g txn ae ∙ here
graph_follows shape entry g k txn false false (Some rank) ae we here is_next = here
graph_follows shape entry g k txn false false None ae we here is_next = looking_leaves shape g txn (not_false (is_writing txn) we) ∙ here
graph_follows shape entry g k txn false true (Some rank) ae we here is_next = here
graph_follows shape entry g k txn false true None ae we here is_next =
    ap (λ (h : Graph). graph_after_txn shape h txn) here
    ∙ sym (ap (λ (o : Option Txn). option_map_or (graph_after_txn shape (graph_after shape entry k)) o (graph_after shape entry k)) (is_next refl refl refl))

replies_hold : (shape : Shape) (graph : ℕ → Graph) (g : Graph) (txn : Txn) (a w : Bool) (full : Option ℕ) (k : ℕ) → g ≡ graph k
    → HasReplies shape graph txn (ends a w full k (replies_to shape g txn))
replies_hold shape graph g txn true w full k here = tt
replies_hold shape graph g txn false true (Some rank) k here = tt
replies_hold shape graph g txn false true None k here = ap (λ (h : Graph). replies_to shape h txn) here
replies_hold shape graph g txn false false full k here = ap (λ (h : Graph). replies_to shape h txn) here

room_holds : (shape : Shape) (graph : ℕ → Graph) (g : Graph) (txn : Txn) (a w : Bool) (full : Option ℕ) (k : ℕ) (rs : List Reply) → g ≡ graph k → full_rank shape g txn ≡ full
    → EndsByCapacity shape graph txn (ends a w full k rs)
room_holds shape graph g txn true w full k rs here room = tt
room_holds shape graph g txn false true (Some rank) k rs here room = ap (λ (h : Graph). full_rank shape h txn) (sym here) ∙ room
room_holds shape graph g txn false true None k rs here room = ap (λ (h : Graph). full_rank shape h txn) (sym here) ∙ room
room_holds shape graph g txn false false full k rs here room = tt

module _ (shape : Shape) (load : List Txn) (pairs : List (Placed × Line)) where
  abbrev graph_at : ℕ → Graph
  graph_at = graph_after shape (entry_at load pairs)

  record Hold (rest : List (Placed × Line)) (left : Graph) (writes : ℕ) : Type 0 where
    replies : AllByRecursion (λ pair. HasReplies shape graph_at pair.0.txn pair.1.outcome) rest
    room : AllByRecursion (λ pair. EndsByCapacity shape graph_at pair.0.txn pair.1.outcome) rest
    last : left ≡ graph_at writes

  all_hold : (before : List (Placed × Line)) (g : Graph) (k : ℕ) (ps : List Placed) → length (load_entries load) ≤ k → pairs ≡ before ++ zip ps (serial_lines shape g k ps)
      → AllByRecursion (λ pair. Below k pair.1) before → g ≡ graph_at k → Hold (zip ps (serial_lines shape g k ps)) (serial_graph shape g ps) (serial_writes shape g k ps)
  all_hold before g k [] le split below here = record { replies = tt; room = tt; last = here }
  all_hold before g k (p ∷ ps) le split below here =
      let a = p.txn.aborts in
      let w = is_writing p.txn in
      let full = full_rank shape g p.txn in
      let rs = replies_to shape g p.txn in
      let next = next_entries shape g k p.txn in
      let after = next_graph shape g p.txn in
      let rest = zip ps (serial_lines shape after next ps) in
      let line = line_on shape g k p in
      let rises = entries_rise a w full k in
      let is_next : a ≡ false → w ≡ true → full ≡ None → entry_at load pairs k ≡ Some p.txn
      = λ ae we fe. ap (λ (l : List (Placed × Line)). entry_at load l k) split ∙ entry_is load a w full k rs p before rest le ae we fe below in
      let here_next : after ≡ graph_at next = graph_follows shape (entry_at load pairs) g k p.txn a w full refl refl here is_next in
      let split_next : pairs ≡ (before ++ (p, line) ∷ []) ++ rest = split ∙ sym (append_assoc before ((p, line) ∷ []) rest) in
      let below_next = below_push next before (p, line) (below_more k next before rises below) (ends_below a w full k rs) in
      let others = all_hold (before ++ (p, line) ∷ []) after next ps (omega arith) split_next below_next here_next in
      record {
        replies = (replies_hold shape graph_at g p.txn a w full k here, others.replies);
        room = (room_holds shape graph_at g p.txn a w full k rs here refl, others.room);
        last = others.last;
      }

-- a load's entries come first
pub entry_of_load : (load : List Txn) (pairs : List (Placed × Line)) (j : ℕ) → j < length (load_entries load) → entry_at load pairs j ≡ item_at (load_entries load) j
entry_of_load load pairs j lt =
    let there = item_there (load_entries load) j lt in
    rw there.1 refl

-- the entries of a load lead to the graph behind them
module _ (shape : Shape) (load : List Txn) (pairs : List (Placed × Line)) where
  entries_first : AreEntries shape (entry_at load pairs) 0 (load_entries load)
  entries_first = are_entries shape (entry_at load pairs) 0 (load_entries load)
      (λ j lt. let same : 0 + j ≡ j = omega arith in ap (entry_at load pairs) same ∙ entry_of_load load pairs j lt)

  start : graph_after_txns shape empty_graph (load_entries load) ≡ graph_after shape (entry_at load pairs) (length (load_entries load))
  start =
      let from_zero : 0 + length (load_entries load) ≡ length (load_entries load) = omega arith in
      graph_along shape (entry_at load pairs) empty_graph 0 (load_entries load) refl entries_first ∙ ap (graph_after shape (entry_at load pairs)) from_zero

module _ (shape : Shape) (load : List Txn) (script : List (List Txn)) where
  abbrev pairs : List (Placed × Line)
  pairs = pairs_of script (run_after shape load script).lines

  holds : Hold shape load pairs pairs (graph_behind shape load script) (run_after shape load script).writes
  holds = all_hold shape load pairs [] (graph_after_txns shape empty_graph (load_entries load)) (length (load_entries load)) (transactions_of script) (omega arith) refl tt
      (start shape load pairs)

-- a run one after the other, on a load that has room, is legal
pub serial_is_legal : SerialRunsAreLegal
serial_is_legal shape load script room =
    let ps = transactions_of script in
    let entries = load_entries load in
    let g = graph_after_txns shape empty_graph entries in
    let k = length entries in
    let entry = entry_at load (pairs shape load script) in
    let numbers = numbered shape g k ps in
    let hold = holds shape load script in
    record {
      fits_script = fits_script shape g k ps;
      is_numbered = record { count = numbers.count; numbers = numbers.numbers; once = numbers.once; places = numbers.places };
      in_order = in_order shape g k ps;
      load_room = room_along shape entry empty_graph 0 entries refl (entries_first shape load (pairs shape load script)) room;
      replies = hold.replies;
      room = hold.room;
    }

-- and the graph behind it is that of its last entry
pub serial_leaves_last : SerialRunsLeaveTheirLastGraph
serial_leaves_last shape load script = (holds shape load script).last
