-- The graph at each visit of a replay.
use Rattle.std.proofs.Common.{◌≡◌, ℕ, zero, suc, ◌+◌, ◌-◌, ◌*◌, ◌<◌, ◌≤◌, Bool, true, false, List, [], ◌∷◌, sum_by, Option, Some, None, if◌then◌else◌, ◌==◌, refl, sym, ap, subst, ◌∙◌, arith}
use Rattle.std.specs.List.{AllByRecursion}
use Rattle.std.specs.Option.{option_map_or}
use Rattle.std.proofs.lemmas.List.Sums.{sum_by-cons}
use Rattle.gdi_kinds.specs.declared.txn.Txn.{Txn}
use Rattle.gdi_kinds.specs.declared.outcome.Outcome.{Outcome}
use Rattle.gdi_kinds.specs.declared.outcome.Outcome.TheVariants.{Wrote, Read, Aborted, Full}
use Rattle.rma_layout.specs.Shape.{Shape}
use Rattle.graph_model.specs.Graph.{Graph}
use Rattle.graph_model.specs.Transactions.{graph_after_txn}
use Rattle.graph_model.specs.Placed.{entry_number}
use Rattle.graph_model.specs.History.{graph_after}
use Rattle.graph_model.specs.LegalRun.{HasReplies, EndsByCapacity}
use Rattle.run_replay.specs.declared.visit.Visit.{Visit}
use Rattle.run_replay.specs.Visits.{visit_key}
use Rattle.run_replay.specs.Replaying.{graph_behind}

-- whether an outcome is entry k
abbrev pub is_entry_of : ℕ → Outcome → Bool
is_entry_of k outcome = option_map_or (λ n. n == k) (entry_number outcome) false

abbrev pub outcome_of : Visit → Outcome
outcome_of visit = visit.line.now.outcome

abbrev pub key_of : Visit → ℕ
key_of visit = visit_key (outcome_of visit)

abbrev pub counts : ℕ → Visit → ℕ
counts k visit = if is_entry_of k (outcome_of visit) then 1 else 0

-- how many visits are entry k
abbrev pub entries_at : ℕ → List Visit → ℕ
entries_at k visits = sum_by (counts k) visits

-- an outcome's number or place is no less than n
abbrev pub IsFrom : ℕ → Outcome → Type 0
IsFrom n (Wrote k replies) = n ≤ k
IsFrom n (Read place replies) = n ≤ place
IsFrom n (Full rank place) = n ≤ place
IsFrom n Aborted = Unit {0}

abbrev pub AllFrom : ℕ → List Visit → Type 0
AllFrom n visits = AllByRecursion (λ visit. IsFrom n (outcome_of visit)) visits

abbrev pub Rise : List Visit → Type 0
Rise [] = Unit {0}
Rise (v ∷ vs) = AllByRecursion (λ w. key_of v ≤ key_of w) vs × Rise vs

-- what is known of all visits, in whatever order, where entries are numbered
pub record AreKnown (entry : ℕ → Option Txn) (first : ℕ) (visits : List Visit) : Type 0 where
  pub own : AllByRecursion (λ visit. (k : ℕ) → is_entry_of k (outcome_of visit) ≡ true → entry k ≡ Some visit.txn.now) visits
  pub from : AllFrom first visits
  pub only : (k : ℕ) → first ≤ k → entries_at k visits ≡ 0 → entry k ≡ None
  pub once : (k : ℕ) → entries_at k visits ≤ 1

-- the graph is the one after n entries, and what is left are all entries from there on
pub record Reaches (shape : Shape) (entry : ℕ → Option Txn) (first : ℕ) (all rest : List Visit) (g : Graph) : Type 0 where
  pub n : ℕ
  pub behind : first ≤ n
  pub here : g ≡ graph_after shape entry n
  pub from : AllFrom n rest
  pub covered : (k : ℕ) → n ≤ k → entries_at k rest ≡ entries_at k all

-- ---- lists

pub all_map : {X : Type 0} (P Q : X → Type 0) → ((x : X) → P x → Q x) → (xs : List X) → AllByRecursion P xs → AllByRecursion Q xs
all_map P Q f [] all = tt
all_map P Q f (x ∷ xs) all = (f x all.0, all_map P Q f xs all.1)

pub all_both : {X : Type 0} (P Q R : X → Type 0) → ((x : X) → P x → Q x → R x) → (xs : List X) → AllByRecursion P xs → AllByRecursion Q xs → AllByRecursion R xs
all_both P Q R f [] all more = tt
all_both P Q R f (x ∷ xs) all more = (f x all.0 more.0, all_both P Q R f xs all.1 more.1)

-- ---- outcomes

not_below : (q : ℕ) (o : Outcome) → q * 2 + 1 < visit_key o → is_entry_of q o ≡ false
not_below q (Wrote k rs) lt = grind (arith, lt)
not_below q (Read p rs) lt = refl
not_below q (Full r p) lt = refl
not_below q Aborted lt = refl

from_key : (p : ℕ) (o : Outcome) → p * 2 ≤ visit_key o → IsFrom p o
from_key p (Wrote k rs) le = omega (arith, le)
from_key p (Read n rs) le = omega (arith, le)
from_key p (Full r n) le = omega (arith, le)
from_key p Aborted le = tt

from_behind : (p : ℕ) (o : Outcome) → p * 2 + 1 ≤ visit_key o → is_entry_of p o ≡ false → IsFrom (p + 1) o
from_behind p (Wrote k rs) le other = grind (arith, le, other)
from_behind p (Read n rs) le other = omega (arith, le)
from_behind p (Full r n) le other = omega (arith, le)
from_behind p Aborted le other = tt

pub counts_none : (k : ℕ) (v : Visit) → is_entry_of k (outcome_of v) ≡ false → counts k v ≡ 0
counts_none k v is = ap (λ b. if b then 1 else 0) is

pub counts_one : (k : ℕ) (v : Visit) → is_entry_of k (outcome_of v) ≡ true → counts k v ≡ 1
counts_one k v is = ap (λ b. if b then 1 else 0) is

pub none_then : (q : ℕ) (vs : List Visit) → AllByRecursion (λ v. is_entry_of q (outcome_of v) ≡ false) vs → entries_at q vs ≡ 0
none_then q [] all = refl
none_then q (v ∷ vs) all = omega (arith, sum_by-cons (counts q) v vs, counts_none q v all.0, none_then q vs all.1)

counted : (q : ℕ) (v : Visit) (b : Bool) → is_entry_of q (outcome_of v) ≡ b → counts q v ≡ 0 → is_entry_of q (outcome_of v) ≡ false
counted q v true is none = absurd (omega (arith, counts_one q v is, none))
counted q v false is none = is

pub then_none : (q : ℕ) (vs : List Visit) → entries_at q vs ≡ 0 → AllByRecursion (λ v. is_entry_of q (outcome_of v) ≡ false) vs
then_none q [] none = tt
then_none q (v ∷ vs) none = (
  counted q v _ refl (omega (arith, sum_by-cons (counts q) v vs, none)),
  then_none q vs (omega (arith, sum_by-cons (counts q) v vs, none)),
)

-- ---- graphs

idle : (shape : Shape) (entry : ℕ → Option Txn) (n d : ℕ) → ((q : ℕ) → n ≤ q → q < n + d → entry q ≡ None) → graph_after shape entry (n + d) ≡ graph_after shape entry n
idle shape entry n zero none = let same : n + 0 ≡ n = omega arith in ap (graph_after shape entry) same
idle shape entry n (suc d) none =
    let next : n + suc d ≡ suc (n + d) = omega arith in
    ap (graph_after shape entry) next
    ∙ ap (λ (o : Option Txn). option_map_or (graph_after_txn shape (graph_after shape entry (n + d))) o (graph_after shape entry (n + d))) (none (n + d) (omega arith) (omega arith))
    ∙ idle shape entry n d (λ q le lt. none q le (omega (arith, lt)))

-- the graph at a place that none of the visits left comes before
moved : (shape : Shape) (entry : ℕ → Option Txn) (first : ℕ) (all rest : List Visit) (g : Graph) (p : ℕ) → AreKnown entry first all
    → (reaches : Reaches shape entry first all rest g) → reaches.n ≤ p → AllByRecursion (λ w. p * 2 ≤ key_of w) rest → g ≡ graph_after shape entry p
moved shape entry first all rest g p known reaches le later =
    let n = reaches.n in
    let d = p - n in
    let there : n + d ≡ p = omega (arith, le) in
    let none : (q : ℕ) → n ≤ q → q < n + d → entry q ≡ None
    = λ q from lt. known.only q (omega (arith, from, reaches.behind))
    (sym (reaches.covered q from) ∙ none_then q rest (all_map (λ w. p * 2 ≤ key_of w) (λ w. is_entry_of q (outcome_of w) ≡ false) (λ w above. not_below q (outcome_of w) (omega (arith, above, lt, there))) rest later)) in
    reaches.here ∙ sym (idle shape entry n d none) ∙ ap (graph_after shape entry) there

-- the graph is the one at an outcome's place
abbrev pub AtPlace : (ℕ → Graph) → Graph → Outcome → Type 0
AtPlace graph g (Wrote k replies) = g ≡ graph k
AtPlace graph g (Read place replies) = g ≡ graph place
AtPlace graph g (Full rank place) = g ≡ graph place
AtPlace graph g Aborted = Unit {0}

-- what one visit makes of what is left
pub record Steps (shape : Shape) (entry : ℕ → Option Txn) (first : ℕ) (all rest : List Visit) (g : Graph) (visit : Visit) : Type 0 where
  pub at : AtPlace (graph_after shape entry) g (outcome_of visit)
  pub reaches : Reaches shape entry first all rest (graph_behind shape g visit.txn.now (outcome_of visit))

all_keys : (v : Visit) (rest : List Visit) (b : ℕ) → b ≤ key_of v → Rise (v ∷ rest) → AllByRecursion (λ w. b ≤ key_of w) (v ∷ rest)
all_keys v rest b le rise = (le, all_map (λ w. key_of v ≤ key_of w) (λ w. b ≤ key_of w) (λ w above. omega (arith, above, le)) rest rise.0)

module _ (shape : Shape) (entry : ℕ → Option Txn) (first : ℕ) (all rest : List Visit) (g : Graph) (v : Visit) where
  -- a place that is looked at
  looked : (p : ℕ) → AreKnown entry first all → (reaches : Reaches shape entry first all (v ∷ rest) g) → Rise (v ∷ rest) → reaches.n ≤ p → key_of v ≡ p * 2
      → ((k : ℕ) → is_entry_of k (outcome_of v) ≡ false) → (g ≡ graph_after shape entry p) × Reaches shape entry first all rest g
  looked p known reaches rise le key none =
      let later = all_keys v rest (p * 2) (omega (arith, key)) rise in
      let at = moved shape entry first all (v ∷ rest) g p known reaches le later in (
        at,
        record {
          n = p;
          behind = omega (arith, le, reaches.behind);
          here = at;
          from = all_map (λ w. p * 2 ≤ key_of w) (λ w. IsFrom p (outcome_of w)) (λ w above. from_key p (outcome_of w) above) rest later.1;
          covered = λ k from. omega (arith, sum_by-cons (counts k) v rest, counts_none k v (none k), reaches.covered k (omega (arith, from, le)));
        },
      )

  -- an entry
  wrote : (p : ℕ) → AreKnown entry first all → (reaches : Reaches shape entry first all (v ∷ rest) g) → Rise (v ∷ rest) → reaches.n ≤ p → key_of v ≡ p * 2 + 1
      → is_entry_of p (outcome_of v) ≡ true → ((k : ℕ) → p < k → is_entry_of k (outcome_of v) ≡ false) → entry p ≡ Some v.txn.now
      → (g ≡ graph_after shape entry p) × Reaches shape entry first all rest (graph_after_txn shape g v.txn.now)
  wrote p known reaches rise le key own none is =
      let later = all_keys v rest (p * 2) (omega (arith, key)) rise in
      let behind = all_keys v rest (p * 2 + 1) (omega (arith, key)) rise in
      let at = moved shape entry first all (v ∷ rest) g p known reaches le later in
      let no_other : entries_at p rest ≡ 0 = omega (arith, sum_by-cons (counts p) v rest, counts_one p v own, reaches.covered p le, known.once p) in
      let step : graph_after_txn shape g v.txn.now ≡ graph_after shape entry (suc p)
      = ap (λ (h : Graph). graph_after_txn shape h v.txn.now) at
      ∙ sym (ap (λ (o : Option Txn). option_map_or (graph_after_txn shape (graph_after shape entry p)) o (graph_after shape entry p)) is) in
      let next : suc p ≡ p + 1 = omega arith in (
        at,
        record {
          n = p + 1;
          behind = omega (arith, le, reaches.behind);
          here = step ∙ ap (graph_after shape entry) next;
          from = all_both (λ w. p * 2 + 1 ≤ key_of w) (λ w. is_entry_of p (outcome_of w) ≡ false) (λ w. IsFrom (p + 1) (outcome_of w)) (λ w above other. from_behind p (outcome_of w) above other)
              rest behind.1 (then_none p rest no_other);
          covered = λ k from. omega (arith, sum_by-cons (counts k) v rest, counts_none k v (none k (omega (arith, from))), reaches.covered k (omega (arith, from, le)));
        },
      )

  -- one visit more
  pub steps : (o : Outcome) → outcome_of v ≡ o → AreKnown entry first all → ((k : ℕ) → is_entry_of k (outcome_of v) ≡ true → entry k ≡ Some v.txn.now)
      → Reaches shape entry first all (v ∷ rest) g → Rise (v ∷ rest) → Steps shape entry first all rest g v
  steps (Wrote p rs) is known own reaches rise =
      let mine : is_entry_of p (outcome_of v) ≡ true = ap (is_entry_of p) is ∙ grind arith in
      let none : (k : ℕ) → p < k → is_entry_of k (outcome_of v) ≡ false = λ k lt. ap (is_entry_of k) is ∙ grind (arith, lt) in
      let stepped = wrote p known reaches rise (subst (IsFrom reaches.n) is reaches.from.0) (ap visit_key is) mine none (own p mine) in
      record {
        at = subst (AtPlace (graph_after shape entry) g) (sym is) stepped.0;
        reaches = subst (λ o. Reaches shape entry first all rest (graph_behind shape g v.txn.now o)) (sym is) stepped.1;
      }
  steps (Read p rs) is known own reaches rise =
      let stepped = looked p known reaches rise (subst (IsFrom reaches.n) is reaches.from.0) (ap visit_key is) (λ k. ap (is_entry_of k) is) in
      record {
        at = subst (AtPlace (graph_after shape entry) g) (sym is) stepped.0;
        reaches = subst (λ o. Reaches shape entry first all rest (graph_behind shape g v.txn.now o)) (sym is) stepped.1;
      }
  steps (Full rank p) is known own reaches rise =
      let stepped = looked p known reaches rise (subst (IsFrom reaches.n) is reaches.from.0) (ap visit_key is) (λ k. ap (is_entry_of k) is) in
      record {
        at = subst (AtPlace (graph_after shape entry) g) (sym is) stepped.0;
        reaches = subst (λ o. Reaches shape entry first all rest (graph_behind shape g v.txn.now o)) (sym is) stepped.1;
      }
  steps Aborted is known own reaches rise = record {
    at = subst (AtPlace (graph_after shape entry) g) (sym is) tt;
    reaches = subst (λ o. Reaches shape entry first all rest (graph_behind shape g v.txn.now o)) (sym is) (record {
      n = reaches.n;
      behind = reaches.behind;
      here = reaches.here;
      from = reaches.from.1;
      covered = λ k from. omega (arith, sum_by-cons (counts k) v rest, counts_none k v (ap (is_entry_of k) is), reaches.covered k from);
    });
  }

-- ---- what is right on the graph at a place is right at that place

module _ (shape : Shape) (graph : ℕ → Graph) (g : Graph) (txn : Txn) where
  pub replies_there : (o : Outcome) → AtPlace graph g o → HasReplies shape (λ place. g) txn o → HasReplies shape graph txn o
  replies_there (Wrote k rs) at right = subst (λ h. HasReplies shape (λ place. h) txn (Wrote k rs)) at right
  replies_there (Read p rs) at right = subst (λ h. HasReplies shape (λ place. h) txn (Read p rs)) at right
  replies_there (Full r p) at right = tt
  replies_there Aborted at right = tt

  pub replies_here : (o : Outcome) → AtPlace graph g o → HasReplies shape graph txn o → HasReplies shape (λ place. g) txn o
  replies_here (Wrote k rs) at right = subst (λ h. HasReplies shape (λ place. h) txn (Wrote k rs)) (sym at) right
  replies_here (Read p rs) at right = subst (λ h. HasReplies shape (λ place. h) txn (Read p rs)) (sym at) right
  replies_here (Full r p) at right = tt
  replies_here Aborted at right = tt

  pub room_there : (o : Outcome) → AtPlace graph g o → EndsByCapacity shape (λ place. g) txn o → EndsByCapacity shape graph txn o
  room_there (Wrote k rs) at right = subst (λ h. EndsByCapacity shape (λ place. h) txn (Wrote k rs)) at right
  room_there (Read p rs) at right = tt
  room_there (Full r p) at right = subst (λ h. EndsByCapacity shape (λ place. h) txn (Full r p)) at right
  room_there Aborted at right = tt

  pub room_here : (o : Outcome) → AtPlace graph g o → EndsByCapacity shape graph txn o → EndsByCapacity shape (λ place. g) txn o
  room_here (Wrote k rs) at right = subst (λ h. EndsByCapacity shape (λ place. h) txn (Wrote k rs)) (sym at) right
  room_here (Read p rs) at right = tt
  room_here (Full r p) at right = subst (λ h. EndsByCapacity shape (λ place. h) txn (Full r p)) (sym at) right
  room_here Aborted at right = tt
