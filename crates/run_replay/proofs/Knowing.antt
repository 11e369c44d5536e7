-- What a numbered run that fits its script says of its visits.
use Rattle.std.proofs.Common.{◌≡◌, ◌≢◌, ℕ, suc, ◌+◌, ◌<◌, ◌≤◌, Bool, true, false, List, [], ◌∷◌, length, Option, Some, None, if◌then◌else◌, refl, sym, ap, subst, ◌∙◌, arith, get_or}
use Rattle.std.specs.Prelude.{find}
use Rattle.std.specs.Option.{option_map, option_or}
use Rattle.std.specs.List.{AllByRecursion, zip}
use Rattle.std.specs.List.Sorted.{IsNonDecreasingBy}
use Rattle.std.proofs.lemmas.List.Sorted.{sum_by-IsPermutation}
use Rattle.std.proofs.lemmas.List.Sums.{sum_by-cons}
use Rattle.gdi_kinds.specs.declared.txn.Txn.{Txn}
use Rattle.gdi_kinds.specs.declared.outcome.Outcome.{Outcome}
use Rattle.gdi_kinds.specs.declared.outcome.Outcome.TheVariants.{Wrote, Read, Aborted, Full}
use Rattle.gdi_kinds.specs.declared.outcome.Line.{Line}
use Rattle.gdi_kinds.specs.declared.outcome.Printed.{Printed}
use Rattle.graph_model.specs.Graph.{empty_graph}
use Rattle.graph_model.specs.Placed.{Placed, transactions_of, pairs_of}
use Rattle.graph_model.specs.History.{load_entries, entry_at, is_entry, graph_after}
use Rattle.graph_model.specs.LegalRun.{FitsScript, IsDistinct, IsNumbered, MayEnd, numbers_of, reading_places}
use Rattle.map_graph.specs.Plain.{Plain}
use Rattle.serial_run.proofs.LoadGraphs.{item_past, graph_along, are_entries}
use Rattle.serial_run.proofs.SerialIsLegal.{entry_of_load}
use Rattle.run_replay.specs.declared.visit.Visit.{Visit}
use Rattle.run_replay.specs.Visits.{AreInOrder, AreVisits, visit_key}
use Rattle.run_replay.specs.Judging.{IsBehindLoad}
use Rattle.run_replay.proofs.Walking.{is_entry_of, outcome_of, key_of, counts, counts_none, counts_one, entries_at, none_then, then_none, IsFrom, AllFrom, Rise, AreKnown, Reaches, all_both}
use Rattle.run_replay.proofs.Telling.{all_permuted}

-- ---- one visit for each line, in their order

abbrev May : Visit → Type 0
May v = MayEnd v.txn.now (outcome_of v)

may_end : (i : ℕ) (ps : List Placed) (lines : List Line) (vs : List Visit) → AreVisits i ps lines vs → FitsScript ps lines → AllByRecursion May vs
may_end i [] lines vs are fits = subst (AllByRecursion May) (sym are) tt
may_end i (p ∷ ps) [] vs are fits = absurd fits
may_end i (p ∷ ps) (line ∷ lines) [] are fits = absurd are
may_end i (p ∷ ps) (line ∷ lines) (v ∷ vs) are fits = (
  subst (λ t. MayEnd t (outcome_of v)) (sym are.0.1) (subst (λ (l : Line). MayEnd p.txn l.outcome) (sym are.0.2) fits.0.2),
  may_end (i + 1) ps lines vs are.1 fits.1,
)

pub may_end_sorted : (ps : List Placed) (lines : List Line) (sorted : List Visit) → FitsScript ps lines → AreInOrder ps lines sorted → AllByRecursion May sorted
may_end_sorted ps lines sorted fits order = all_permuted May order.visits sorted order.same (may_end 0 ps lines order.visits order.are fits)

-- the numbers of visits, one after the other
abbrev Bounds : ℕ → ℕ → List Line → Type 0
Bounds first writes lines = AllByRecursion (λ k. (first ≤ k) × (k < writes)) (numbers_of lines) × AllByRecursion (λ n. (first ≤ n) × (n ≤ writes)) (reading_places lines)

from_line : (first writes section txn : ℕ) (o : Outcome) (lines : List Line) → Bounds first writes ((record { section = section; txn = txn; outcome = o }) ∷ lines)
    → IsFrom first o × Bounds first writes lines
from_line first writes section txn (Wrote k rs) lines b = (b.0.0.0, (b.0.1, b.1))
from_line first writes section txn (Read p rs) lines b = (b.1.0.0, (b.0, b.1.1))
from_line first writes section txn (Full r p) lines b = (b.1.0.0, (b.0, b.1.1))
from_line first writes section txn Aborted lines b = (tt, b)

all_from : (first writes i : ℕ) (ps : List Placed) (lines : List Line) (vs : List Visit) → AreVisits i ps lines vs → Bounds first writes lines → AllFrom first vs
all_from first writes i [] lines vs are b = subst (AllFrom first) (sym are) tt
all_from first writes i (p ∷ ps) [] vs are b = subst (AllFrom first) (sym are) tt
all_from first writes i (p ∷ ps) (line ∷ lines) [] are b = absurd are
all_from first writes i (p ∷ ps) (line ∷ lines) (v ∷ vs) are b =
    let parts = from_line first writes line.section line.txn line.outcome lines b in (
      subst (λ (l : Line). IsFrom first l.outcome) (sym are.0.2) parts.0,
      all_from first writes (i + 1) ps lines vs are.1 parts.1,
    )

-- a number that no line has, no visit has
without_line : (k section txn : ℕ) (o : Outcome) (lines : List Line) → AllByRecursion (λ m. m ≢ k) (numbers_of ((record { section = section; txn = txn; outcome = o }) ∷ lines))
    → (is_entry_of k o ≡ false) × AllByRecursion (λ m. m ≢ k) (numbers_of lines)
without_line k section txn (Wrote n rs) lines all = (grind (arith, all.0), all.1)
without_line k section txn (Read p rs) lines all = (refl, all)
without_line k section txn (Full r p) lines all = (refl, all)
without_line k section txn Aborted lines all = (refl, all)

no_entry : (k i : ℕ) (ps : List Placed) (lines : List Line) (vs : List Visit) → AreVisits i ps lines vs → AllByRecursion (λ m. m ≢ k) (numbers_of lines)
    → AllByRecursion (λ v. is_entry_of k (outcome_of v) ≡ false) vs
no_entry k i [] lines vs are all = subst (AllByRecursion (λ (v : Visit). is_entry_of k (outcome_of v) ≡ false)) (sym are) tt
no_entry k i (p ∷ ps) [] vs are all = subst (AllByRecursion (λ (v : Visit). is_entry_of k (outcome_of v) ≡ false)) (sym are) tt
no_entry k i (p ∷ ps) (line ∷ lines) [] are all = absurd are
no_entry k i (p ∷ ps) (line ∷ lines) (v ∷ vs) are all =
    let parts = without_line k line.section line.txn line.outcome lines all in (
      ap (λ (l : Line). is_entry_of k l.outcome) are.0.2 ∙ parts.0,
      no_entry k (i + 1) ps lines vs are.1 parts.1,
    )

-- the first line of lines whose numbers are each once: where it is an entry, no other line is the same one
apart_line : (section txn : ℕ) (o : Outcome) (lines : List Line) → IsDistinct (numbers_of ((record { section = section; txn = txn; outcome = o }) ∷ lines))
    → ((k : ℕ) → is_entry_of k o ≡ true → AllByRecursion (λ m. m ≢ k) (numbers_of lines)) × IsDistinct (numbers_of lines)
apart_line section txn (Wrote n rs) lines once =
    ((λ k is. let same : n ≡ k = grind (arith, is) in subst (λ m. AllByRecursion (λ other. other ≢ m) (numbers_of lines)) same once.0), once.1)
apart_line section txn (Read p rs) lines once = ((λ k is. absurd (grind (arith, is))), once)
apart_line section txn (Full r p) lines once = ((λ k is. absurd (grind (arith, is))), once)
apart_line section txn Aborted lines once = ((λ k is. absurd (grind (arith, is))), once)

-- the transaction of the entry that these pairs have
abbrev found : ℕ → List (Placed × Line) → Option Txn
found k pairs = option_map (λ pair. pair.0.txn) (find (λ pair. is_entry k pair.1) pairs)

-- each number once: so the first pair with it is the only one
record AreApart (ps : List Placed) (lines : List Line) (vs : List Visit) : Type 0 where
  own : AllByRecursion (λ v. (k : ℕ) → is_entry_of k (outcome_of v) ≡ true → found k (zip ps lines) ≡ Some v.txn.now) vs
  only : (k : ℕ) → entries_at k vs ≡ 0 → found k (zip ps lines) ≡ None
  once : (k : ℕ) → entries_at k vs ≤ 1

found_here : (k : ℕ) (p : Placed) (line : Line) (pairs : List (Placed × Line)) → is_entry_of k line.outcome ≡ true → found k ((p, line) ∷ pairs) ≡ Some p.txn
found_here k p line pairs is = ap (λ b. option_map (λ (pair : Placed × Line). pair.0.txn) (if b then Some (p, line) else find (λ pair. is_entry k pair.1) pairs)) is

found_later : (k : ℕ) (p : Placed) (line : Line) (pairs : List (Placed × Line)) → is_entry_of k line.outcome ≡ false → found k ((p, line) ∷ pairs) ≡ found k pairs
found_later k p line pairs is = ap (λ b. option_map (λ (pair : Placed × Line). pair.0.txn) (if b then Some (p, line) else find (λ pair. is_entry k pair.1) pairs)) is

none_apart : (ps : List Placed) (lines : List Line) (vs : List Visit) → vs ≡ [] → zip ps lines ≡ [] → AreApart ps lines vs
none_apart ps lines vs empty pairs = record {
  own = subst (AllByRecursion (λ (v : Visit). (k : ℕ) → is_entry_of k (outcome_of v) ≡ true → found k (zip ps lines) ≡ Some v.txn.now)) (sym empty) tt;
  only = λ k none. ap (found k) pairs;
  once = λ k. let zero_of : entries_at k vs ≡ 0 = ap (entries_at k) empty in omega (arith, zero_of);
}

not_both : (k : ℕ) (v : Visit) (vs : List Visit) (b : Bool) → is_entry_of k (outcome_of v) ≡ b → (is_entry_of k (outcome_of v) ≡ true → entries_at k vs ≡ 0) → entries_at k vs ≤ 1
    → entries_at k (v ∷ vs) ≤ 1
not_both k v vs true is others few = omega (arith, sum_by-cons (counts k) v vs, counts_one k v is, others is)
not_both k v vs false is others few = omega (arith, sum_by-cons (counts k) v vs, counts_none k v is, few)

none_first : (k : ℕ) (v : Visit) (vs : List Visit) → entries_at k (v ∷ vs) ≡ 0 → (is_entry_of k (outcome_of v) ≡ false) × (entries_at k vs ≡ 0)
none_first k v vs none = let all = then_none k (v ∷ vs) none in (all.0, none_then k vs all.1)

differs : (k : ℕ) (a b : Bool) → a ≡ true → b ≡ true → (a ≡ true → b ≡ false) → ⊥
differs k a b one other apart = absurd (grind (arith, other, apart one))

apart_visits : (i : ℕ) (ps : List Placed) (lines : List Line) (vs : List Visit) → AreVisits i ps lines vs → IsDistinct (numbers_of lines) → AreApart ps lines vs
apart_visits i [] lines vs are once = none_apart [] lines vs are refl
apart_visits i (p ∷ ps) [] vs are once = none_apart (p ∷ ps) [] vs are refl
apart_visits i (p ∷ ps) (line ∷ lines) [] are once = absurd are
apart_visits i (p ∷ ps) (line ∷ lines) (v ∷ vs) are once =
    let parts = apart_line line.section line.txn line.outcome lines once in
    let rest = apart_visits (i + 1) ps lines vs are.1 parts.1 in
    let pairs = zip ps lines in
    let same : (k : ℕ) → is_entry_of k (outcome_of v) ≡ is_entry_of k line.outcome = λ k. ap (λ (l : Line). is_entry_of k l.outcome) are.0.2 in
    let others : (k : ℕ) → is_entry_of k line.outcome ≡ true → AllByRecursion (λ w. is_entry_of k (outcome_of w) ≡ false) vs = λ k is. no_entry k (i + 1) ps lines vs are.1 (parts.0 k is) in
    record {
      own = (
        (λ k is. found_here k p line pairs (sym (same k) ∙ is) ∙ ap Some (sym are.0.1)),
        later_own p line vs pairs others rest.own,
      );
      only = λ k none. let first = none_first k v vs none in found_later k p line pairs (sym (same k) ∙ first.0) ∙ rest.only k first.1;
      once = λ k. not_both k v vs _ refl (λ is. none_then k vs (others k (sym (same k) ∙ is))) (rest.once k);
    }
  where
    later_case : (p : Placed) (line : Line) (pairs : List (Placed × Line)) (k : ℕ) (t : Txn) (b : Bool) → is_entry_of k line.outcome ≡ b → (is_entry_of k line.outcome ≡ true → ⊥)
        → found k pairs ≡ Some t → found k ((p, line) ∷ pairs) ≡ Some t
    later_case p line pairs k t true is other there = absurd (other is)
    later_case p line pairs k t false is other there = found_later k p line pairs is ∙ there

    later_own : (p : Placed) (line : Line) (ws : List Visit) (pairs : List (Placed × Line))
        → ((k : ℕ) → is_entry_of k line.outcome ≡ true → AllByRecursion (λ w. is_entry_of k (outcome_of w) ≡ false) ws)
        → AllByRecursion (λ w. (k : ℕ) → is_entry_of k (outcome_of w) ≡ true → found k pairs ≡ Some w.txn.now) ws
        → AllByRecursion (λ w. (k : ℕ) → is_entry_of k (outcome_of w) ≡ true → found k ((p, line) ∷ pairs) ≡ Some w.txn.now) ws
    later_own p line [] pairs others own = tt
    later_own p line (w ∷ ws) pairs others own = (
      (λ k is. later_case p line pairs k w.txn.now _ refl (λ mine. differs k _ _ mine is (λ m. (others k m).0)) (own.0 k is)),
      later_own p line ws pairs (λ k mine. (others k mine).1) own.1,
    )

-- ---- behind a load

behind_load : (load : List Txn) (pairs : List (Placed × Line)) (k : ℕ) → length (load_entries load) ≤ k → entry_at load pairs k ≡ found k pairs
behind_load load pairs k le = ap (λ o. option_or o (found k pairs)) (item_past (load_entries load) k le)

pub known_sorted : (load : List Txn) (entries : ℕ) (script : List (List Txn)) (run : Printed) (sorted : List Visit) → entries ≡ length (load_entries load)
    → IsNumbered entries run → AreInOrder (transactions_of script) run.lines sorted
    → AreKnown (entry_at load (pairs_of script run.lines)) entries sorted
known_sorted load entries script run sorted count numbered order =
    let ps = transactions_of script in
    let vs = order.visits in
    let pairs = pairs_of script run.lines in
    let apart = apart_visits 0 ps run.lines vs order.are numbered.once in
    let from = all_from entries run.writes 0 ps run.lines vs order.are (numbered.numbers, numbered.places) in
    let totals : (k : ℕ) → entries_at k sorted ≡ entries_at k vs = λ k. sum_by-IsPermutation (counts k) vs sorted order.same in
    let own = all_both (λ v. IsFrom entries (outcome_of v)) (λ v. (k : ℕ) → is_entry_of k (outcome_of v) ≡ true → found k pairs ≡ Some v.txn.now)
    (λ v. (k : ℕ) → is_entry_of k (outcome_of v) ≡ true → entry_at load pairs k ≡ Some v.txn.now)
    (λ v low mine k is. behind_load load pairs k (entry_from entries k (outcome_of v) low is count) ∙ mine k is) vs from apart.own in
    record {
      own = all_permuted (λ v. (k : ℕ) → is_entry_of k (outcome_of v) ≡ true → entry_at load pairs k ≡ Some v.txn.now) vs sorted order.same own;
      from = all_permuted (λ v. IsFrom entries (outcome_of v)) vs sorted order.same from;
      only = λ k low none. behind_load load pairs k (omega (arith, low, count)) ∙ apart.only k (sym (totals k) ∙ none);
      once = λ k. omega (arith, totals k, apart.once k);
    }
  where
    entry_from : (entries k : ℕ) (o : Outcome) → IsFrom entries o → is_entry_of k o ≡ true → entries ≡ length (load_entries load) → length (load_entries load) ≤ k
    entry_from entries k (Wrote n rs) low is count = grind (arith, low, is, count)
    entry_from entries k (Read p rs) low is count = absurd (grind (arith, is))
    entry_from entries k (Full r p) low is count = absurd (grind (arith, is))
    entry_from entries k Aborted low is count = absurd (grind (arith, is))

-- before the first visit
pub starts : (before : Plain) (load : List Txn) (entries : ℕ) (pairs : List (Placed × Line)) (sorted : List Visit) → IsBehindLoad before entries load
    → AreKnown (entry_at load pairs) entries sorted → Reaches before.shape (entry_at load pairs) entries sorted sorted before.graph
starts before load entries pairs sorted behind known =
    let txns = load_entries load in
    let entry = entry_at load pairs in
    let are = are_entries before.shape entry 0 txns (λ j lt. let same : 0 + j ≡ j = omega arith in ap entry same ∙ entry_of_load load pairs j lt) in
    let from_zero : 0 + length txns ≡ entries = omega (arith, behind.count) in
    record {
      n = entries;
      behind = omega arith;
      here = behind.graph ∙ graph_along before.shape entry empty_graph 0 txns refl are ∙ ap (graph_after before.shape entry) from_zero;
      from = known.from;
      covered = λ k low. refl;
    }

-- ---- in the order of the history

later_keys : (b : ℕ) (vs : List Visit) → ((j : ℕ) (d : Visit) → j < length vs → b ≤ key_of (get_or vs j d)) → AllByRecursion (λ w. b ≤ key_of w) vs
later_keys b [] above = tt
later_keys b (v ∷ vs) above = (above 0 v (omega arith), later_keys b vs (λ j d within. above (suc j) d (omega arith)))

pub rise_sorted : (vs : List Visit) → IsNonDecreasingBy (λ visit. visit_key visit.line.now.outcome) vs → Rise vs
rise_sorted [] never_falls = tt
rise_sorted (v ∷ vs) never_falls = (
  later_keys (key_of v) vs (λ j d within. never_falls 0 (suc j) d (omega arith) (omega arith)),
  rise_sorted vs (λ i j d le within. never_falls (suc i) (suc j) d (omega arith) (omega arith)),
)
