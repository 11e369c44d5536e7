-- The first visit, in the order of the output, that isn't right.
use Rattle.std.proofs.Common.{◌≡◌, ℕ, ◌+◌, ◌<◌, ◌≤◌, Bool, true, false, IsTrue, List, [], ◌∷◌, ◌++◌, Option, Some, None, refl, sym, ap, subst, ◌∙◌, arith, ◌⊎◌, inl, inr, if◌then◌else◌}
use Rattle.std.specs.Prelude.{nat_lt}
use Rattle.std.specs.List.{AllByRecursion, Contains, zip}
use Rattle.std.specs.List.Sorted.{IsPermutation}
use Rattle.std.proofs.lemmas.List.Elements.{All-from_recursion, recursion_from_All, All-contains, Contains-append_left, Contains-push, Contains-append_cases}
use Rattle.std.proofs.lemmas.List.Sorted.{All-permutation, Contains-permutation}
use Rattle.gdi_kinds.specs.declared.txn.Txn.{Txn}
use Rattle.gdi_kinds.specs.declared.outcome.Outcome.{Outcome}
use Rattle.gdi_kinds.specs.declared.outcome.Line.{Line}
use Rattle.graph_model.specs.Placed.{Placed}
use Rattle.run_check.specs.Places.{place_of}
use Rattle.run_check.specs.Clauses.{FirstUnlike}
use Rattle.run_replay.specs.declared.visit.Visit.{Visit}
use Rattle.run_replay.specs.Visits.{AreVisits, earlier}
use Rattle.run_replay.proofs.Walking.{all_map}

pub all_permuted : (P : Visit → Type 0) (xs ys : List Visit) → IsPermutation xs ys → AllByRecursion P xs → AllByRecursion P ys
all_permuted P xs ys same all = recursion_from_All P ys (All-permutation P xs ys same (All-from_recursion P xs all))

all_push : (P : Visit → Type 0) (xs : List Visit) (x : Visit) → AllByRecursion P xs → P x → AllByRecursion P (xs ++ x ∷ [])
all_push P [] x all h = (h, tt)
all_push P (y ∷ xs) x all h = (all.0, all_push P xs x all.1 h)

-- this is the first of these that isn't right, if there is one
abbrev pub Told : (Visit → Type 0) → Option Visit → List Visit → Type 0
Told IsRight None visits = AllByRecursion IsRight visits
Told IsRight (Some first) visits = Contains visits first × (¬ IsRight first) × AllByRecursion (λ visit. visit.index < first.index → IsRight visit) visits

not_true : (P : Type 0) → (P → IsTrue false) → ¬ P
not_true P h p = absurd (grind (arith, h p))

one_wrong : (P : Visit → Type 0) (done : List Visit) (first v : Visit) (b : Bool) → nat_lt first.index v.index ≡ b → ¬ P v → Told P (Some first) done
    → Told P (if b then Some first else Some v) (done ++ v ∷ [])
one_wrong P done first v true less wrong told = (
  Contains-append_left done (v ∷ []) first told.0,
  told.1,
  all_push (λ (w : Visit). w.index < first.index → P w) done v told.2 (λ lt. absurd (grind (arith, less, lt))),
)
one_wrong P done first v false less wrong told = (
  Contains-push done v,
  wrong,
  all_push (λ (w : Visit). w.index < v.index → P w) done v
      (all_map (λ (w : Visit). w.index < first.index → P w) (λ (w : Visit). w.index < v.index → P w) (λ w h lt. h (grind (arith, less, lt))) done told.2) (λ lt. absurd (omega (arith, lt))),
)

pub one_more : (P : Visit → Type 0) (done : List Visit) (first : Option Visit) (b : Bool) (v : Visit) → (IsTrue b → P v) → (P v → IsTrue b) → Told P first done
    → Told P (earlier first b v) (done ++ v ∷ [])
one_more P done None true v right back told = all_push P done v told (right refl)
one_more P done (Some first) true v right back told = (
  Contains-append_left done (v ∷ []) first told.0,
  told.1,
  all_push (λ (w : Visit). w.index < first.index → P w) done v told.2 (λ lt. right refl),
)
one_more P done None false v right back told = (
  Contains-push done v,
  not_true (P v) back,
  all_push (λ (w : Visit). w.index < v.index → P w) done v (all_map P (λ (w : Visit). w.index < v.index → P w) (λ w h lt. h) done told) (λ lt. absurd (omega (arith, lt))),
)
one_more P done (Some first) false v right back told = one_wrong P done first v (nat_lt first.index v.index) refl (not_true (P v) back) told

pub told_permuted : (P : Visit → Type 0) (first : Option Visit) (xs ys : List Visit) → IsPermutation xs ys → Told P first xs → Told P first ys
told_permuted P None xs ys same told = all_permuted P xs ys same told
told_permuted P (Some first) xs ys same told = (
  Contains-permutation xs ys first same told.0,
  told.1,
  all_permuted (λ (w : Visit). w.index < first.index → P w) xs ys same told.2,
)

-- ---- from visits to transactions with their lines

from_index : (i : ℕ) (ps : List Placed) (lines : List Line) (vs : List Visit) → AreVisits i ps lines vs → AllByRecursion (λ v. i ≤ v.index) vs
from_index i [] lines vs are = subst (AllByRecursion (λ (v : Visit). i ≤ v.index)) (sym are) tt
from_index i (p ∷ ps) [] vs are = subst (AllByRecursion (λ (v : Visit). i ≤ v.index)) (sym are) tt
from_index i (p ∷ ps) (line ∷ lines) [] are = tt
from_index i (p ∷ ps) (line ∷ lines) (v ∷ vs) are = (
  omega (arith, are.0.0),
  all_map (λ (w : Visit). i + 1 ≤ w.index) (λ (w : Visit). i ≤ w.index) (λ w le. omega (arith, le)) vs (from_index (i + 1) ps lines vs are.1),
)

contains_cases : (v f : Visit) (vs : List Visit) → Contains (v ∷ vs) f → (v ≡ f) ⊎ Contains vs f
contains_cases v f vs has = elim (Contains-append_cases (v ∷ []) vs f has) [
  | inl here ↦ inl (sym (All-contains (λ w. w ≡ v) (v ∷ []) f (All-from_recursion (λ w. w ≡ v) (v ∷ []) (refl, tt)) here))
  | inr later ↦ inr later
]

module _ (IsRight : Txn → Outcome → Type 0) where
  abbrev pub RightVisit : Visit → Type 0
  RightVisit v = IsRight v.txn.now v.line.now.outcome

  abbrev pub RightPair : Placed × Line → Type 0
  RightPair pair = IsRight pair.0.txn pair.1.outcome

  to_pair : (p : Placed) (line : Line) (v : Visit) → v.txn.now ≡ p.txn → v.line.now ≡ line → RightVisit v → RightPair (p, line)
  to_pair p line v txn is right = subst (λ t. IsRight t line.outcome) txn (subst (λ (l : Line). IsRight v.txn.now l.outcome) is right)

  to_visit : (p : Placed) (line : Line) (v : Visit) → v.txn.now ≡ p.txn → v.line.now ≡ line → RightPair (p, line) → RightVisit v
  to_visit p line v txn is right = subst (λ (l : Line). IsRight v.txn.now l.outcome) (sym is) (subst (λ t. IsRight t line.outcome) (sym txn) right)

  pub all_pairs : (i : ℕ) (ps : List Placed) (lines : List Line) (vs : List Visit) → AreVisits i ps lines vs → AllByRecursion RightVisit vs → AllByRecursion RightPair (zip ps lines)
  all_pairs i [] lines vs are all = tt
  all_pairs i (p ∷ ps) [] vs are all = tt
  all_pairs i (p ∷ ps) (line ∷ lines) [] are all = absurd are
  all_pairs i (p ∷ ps) (line ∷ lines) (v ∷ vs) are all = (to_pair p line v are.0.1 are.0.2 all.0, all_pairs (i + 1) ps lines vs are.1 all.1)

  pub first_pair : (i : ℕ) (ps : List Placed) (lines : List Line) (vs : List Visit) (f : Visit) → AreVisits i ps lines vs → Contains vs f → ¬ RightVisit f
      → AllByRecursion (λ v. v.index < f.index → RightVisit v) vs → FirstUnlike RightPair (zip ps lines) (place_of f.line.now)
  first_pair i [] lines vs f are has wrong before = absurd (omega (arith, (subst (λ l. Contains l f) are has).1))
  first_pair i (p ∷ ps) [] vs f are has wrong before = absurd (omega (arith, (subst (λ l. Contains l f) are has).1))
  first_pair i (p ∷ ps) (line ∷ lines) [] f are has wrong before = absurd are
  first_pair i (p ∷ ps) (line ∷ lines) (v ∷ vs) f are has wrong before = elim (contains_cases v f vs has) [
    | inl here ↦ inl ((λ right. wrong (subst RightVisit here (to_visit p line v are.0.1 are.0.2 right))), ap (λ (w : Visit). place_of w.line.now) (sym here) ∙ ap place_of are.0.2)
    | inr later ↦
        let after = All-contains (λ w. i + 1 ≤ w.index) vs f (All-from_recursion (λ w. i + 1 ≤ w.index) vs (from_index (i + 1) ps lines vs are.1)) later in
        inr (to_pair p line v are.0.1 are.0.2 (before.0 (omega (arith, are.0.0, after))), first_pair (i + 1) ps lines vs f are.1 later wrong before.1)
  ]
