-- What levels say: the least number of steps of a walk, where there is one.
use Rattle.std.proofs.Common.{◌≡◌, ℕ, zero, suc, ◌+◌, ◌<◌, ◌≤◌, Bool, true, false, ◌&&◌, List, [], ◌∷◌, ◌++◌, length, if◌then◌else◌, Some, None, inl, inr, refl, sym, ap, subst, ◌∙◌, arith, eqb}
use Rattle.std.specs.Prelude as prelude
use Rattle.std.specs.Prelude.{◌==◌, IsSome}
use Rattle.std.specs.List.{AllByRecursion, list_any, flat_map, range_with_len}
use Rattle.std.specs.Ordering.{nat_cmp}
use Rattle.std.specs.FinMap.Entries.{is_some-find}
use Rattle.std.proofs.lemmas.Bool.{and_parts, and_from, or_cases, or_left, or_right, eqb-true, eqb-false, eq-eqb}
use Rattle.graph_model.specs.Maps.{Map, keys, has}
use Rattle.graph_model.specs.Graph.{Graph, Vertex, Edge, EdgeKey, vertex_at}
use Rattle.graph_model.specs.WellFormed.{EdgeFits}
use Rattle.graph_model.specs.Walks.{both_ways, steps_over, graph_steps, is_walk_by, is_walk}
use Rattle.graph_model.specs.Laws.{LevelIsLeast, EachWalkHasALevel}
use Rattle.graph_model.proofs.Sets.{is_eq-nat_cmp}
use Rattle.graph_model.proofs.Entries.{same_value, nothing, never, some-there}
use Rattle.graph_model.proofs.Short.{find-in_range}
use Rattle.graph_model.proofs.Shortest.{IsWalking, shortest_below}

-- a step leads from i to t
abbrev pub leads : List (ℕ × ℕ) → ℕ → ℕ → Bool
leads steps i t = list_any (λ step. step.0 == i && step.1 == t) steps

any-split : (steps : List (ℕ × ℕ)) (i : ℕ) (p : ℕ → Bool) → list_any (λ step. step.0 == i && p step.1) steps ≡ true
    → (t : ℕ) × (leads steps i t ≡ true) × (p t ≡ true)
any-split [] i p some = never some
any-split (s ∷ ss) i p some =
    elim (or_cases (s.0 == i && p s.1) _ some) [
      | inl first ↦
          let parts = and_parts (s.0 == i) (p s.1) first in
          (s.1, or_left _ _ (and_from _ _ parts.0 (eq-eqb s.1 s.1 refl)), parts.1)
      | inr later ↦
          let rest = any-split ss i p later in
          (rest.0, or_right _ _ rest.1, rest.2)
    ]

any-join : (steps : List (ℕ × ℕ)) (i : ℕ) (p : ℕ → Bool) (t : ℕ) → leads steps i t ≡ true → p t ≡ true
    → list_any (λ step. step.0 == i && p step.1) steps ≡ true
any-join [] i p t some passes = never some
any-join (s ∷ ss) i p t some passes =
    elim (or_cases (s.0 == i && s.1 == t) _ some) [
      | inl first ↦
          let parts = and_parts (s.0 == i) (s.1 == t) first in
          or_left _ _ (and_from _ _ parts.0 (subst (λ k. p k ≡ true) (sym (eqb-true s.1 t parts.1)) passes))
      | inr later ↦ or_right _ _ (any-join ss i p t later passes)
    ]

pub walking : (steps : List (ℕ × ℕ)) → IsWalking (is_walk_by steps) (λ i t. leads steps i t ≡ true)
walking steps = record {
  here = λ i j walk. eqb-true i j walk;
  stays = λ i. eq-eqb i i refl;
  splits = λ n i j walk. any-split steps i (λ t. is_walk_by steps n t j) walk;
  joins = λ n i t j step walk. any-join steps i (λ k. is_walk_by steps n k j) t step walk;
}

-- both ends of a step are vertices
abbrev pub EndsAreThere : Graph → ℕ × ℕ → Type 0
EndsAreThere g step = IsSome (vertex_at g step.0) × IsSome (vertex_at g step.1)

pub led-there : (g : Graph) (steps : List (ℕ × ℕ)) → AllByRecursion (EndsAreThere g) steps → (i t : ℕ) → leads steps i t ≡ true
    → IsSome (vertex_at g t)
led-there g [] all i t some = never some
led-there g (s ∷ ss) all i t some =
    elim (or_cases (s.0 == i && s.1 == t) _ some) [
      | inl first ↦ subst (λ k. IsSome (vertex_at g k)) (eqb-true s.1 t (and_parts (s.0 == i) (s.1 == t) first).1) all.0.1
      | inr later ↦ led-there g ss all.1 i t later
    ]

pub steps-there : (g : Graph) (es : Map EdgeKey Edge) → AllByRecursion (λ entry. EdgeFits g entry.0 entry.1) es
    → AllByRecursion (EndsAreThere g) (flat_map steps_over es)
steps-there g [] all = tt
steps-there g (e ∷ es) all =
    let source = some-there (vertex_at g e.0.source) (λ v. e.0.ordinal < v.next) all.0.source in
    let target = all.0.target in
    elim e.1.undirected as (λ b. AllByRecursion (EndsAreThere g) ((if b then both_ways e.0.source e.1.target else (e.0.source, e.1.target) ∷ []) ++ flat_map steps_over es)) [
      | true ↦ ((source, target), ((target, source), steps-there g es all.1))
      | false ↦ ((source, target), steps-there g es all.1)
    ]

pub listed : (g : Graph) (x : ℕ) → IsSome (vertex_at g x) → has (keys g.vertices) x ≡ true
listed g x there = ap (λ test. list_any test (keys g.vertices)) (λ i k. sym (is_eq-nat_cmp x k) i) ∙ sym (is_some-find nat_cmp x g.vertices) ∙ there

pub length-keys : (vs : Map ℕ Vertex) → length (keys vs) ≡ length vs
length-keys [] = refl
length-keys (v ∷ vs) = ap suc (length-keys vs)

-- the first number of a range that passes is the least
find-least : (p : ℕ → Bool) (start count n : ℕ) → prelude.find p (range_with_len start count) ≡ Some n → (p n ≡ true) × ((m : ℕ) → start ≤ m → m < n → p m ≡ false)
find-least p start zero n found = nothing n found
find-least p start (suc count) n found =
    elim (p start) as (λ b. p start ≡ b → (if b then Some start else prelude.find p (range_with_len (start + 1) count)) ≡ Some n → (p n ≡ true) × ((m : ℕ) → start ≤ m → m < n → p m ≡ false)) [
      | true ↦ λ passes is. let same = same_value start n is in (subst (λ k. p k ≡ true) same passes, λ m above below. absurd (omega arith))
      | false ↦ λ fails is.
          let rest = find-least p (start + 1) count n is in (
            rest.0,
            λ m above below. elim (eqb start m) as (λ b. eqb start m ≡ b → p m ≡ false) [
              | true ↦ λ same. subst (λ k. p k ≡ false) (eqb-true start m same) fails
              | false ↦ λ other. rest.1 m (omega (arith, eqb-false start m other)) below
            ] refl,
          )
    ] refl found

pub level_least : LevelIsLeast
level_least g i j n found =
    let least = find-least (λ m. is_walk g m i j) 0 (length g.vertices) n found in
    (least.0, λ m below. least.1 m (omega arith) below)

-- where some number passes, there is a least one
pub least_of : (p : ℕ → Bool) (m : ℕ) → p m ≡ true → (n : ℕ) × (p n ≡ true) × ((k : ℕ) → k < n → p k ≡ false)
least_of p m passes =
    elim (prelude.find p (range_with_len 0 (suc m))) as (λ found. prelude.find p (range_with_len 0 (suc m)) ≡ found → IsSome found → (n : ℕ) × (p n ≡ true) × ((k : ℕ) → k < n → p k ≡ false)) [
      | None ↦ λ _ none. never none
      | Some n ↦ λ found _.
          let least = find-least p 0 (suc m) n found in
          (n, least.0, λ k below. least.1 k (omega arith) below)
    ] refl (find-in_range p 0 (suc m) m (omega arith) (omega arith) passes)

pub walk_level : EachWalkHasALevel
walk_level g i j m well there walk =
    let least = least_of (λ n. is_walk g n i j) m walk in
    let ends = led-there g (graph_steps g) (steps-there g g.edges well.each_edge) in
    let few = shortest_below (is_walk g) (λ a t. leads (graph_steps g) a t ≡ true) (walking (graph_steps g)) (keys g.vertices)
    (λ x. IsSome (vertex_at g x)) ends (listed g) least.0 i j there least.1 least.2 in
    find-in_range (λ n. is_walk g n i j) 0 (length g.vertices) least.0 (omega arith) (omega (arith, few, length-keys g.vertices)) least.1
