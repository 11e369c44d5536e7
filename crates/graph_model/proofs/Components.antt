-- What components say: the least identifier that a walk joins, directions ignored.
use Rattle.std.proofs.Common.{◌≡◌, ℕ, zero, suc, ◌+◌, ◌<◌, ◌≤◌, Bool, true, false, ◌||◌, List, [], ◌∷◌, length, if◌then◌else◌, Some, inl, inr, refl, sym, ap, subst, ◌∙◌, arith, true≢false}
use Rattle.std.specs.Prelude as prelude
use Rattle.std.specs.Prelude.{◌==◌, IsSome}
use Rattle.std.specs.List.{AllByRecursion, list_any, flat_map, range_with_len}
use Rattle.std.specs.Ordering.{nat_cmp, is_lt}
use Rattle.std.specs.FinMap.Entries.{below_all, is_sorted}
use Rattle.std.proofs.lemmas.Bool.{and_parts, or_cases, or_left, or_right, eqb-true, eqb-false, eq-eqb}
use Rattle.std.proofs.lemmas.Bool.Decides.{nat_tests}
use Rattle.graph_model.specs.Maps.{Map, IsMap, IsSet, keys, has}
use Rattle.graph_model.specs.Graph.{Graph, Vertex, vertex_at}
use Rattle.graph_model.specs.WellFormed.{IsWellFormed}
use Rattle.graph_model.specs.Walks.{both_ways, graph_steps, joining_steps, is_joined}
use Rattle.graph_model.specs.Laws.{ComponentIsLeast, EachVertexHasAComponent}
use Rattle.graph_model.proofs.Entries.{same_value, nothing, never}
use Rattle.graph_model.proofs.Shortest.{shortest_below, reached}
use Rattle.graph_model.proofs.Levels.{EndsAreThere, leads, walking, led-there, steps-there, listed, length-keys, least_of}

-- each step may be taken back
joining-there : (g : Graph) (steps : List (ℕ × ℕ)) → AllByRecursion (EndsAreThere g) steps
    → AllByRecursion (EndsAreThere g) (flat_map (λ step. both_ways step.0 step.1) steps)
joining-there g [] all = tt
joining-there g (s ∷ ss) all = (all.0, ((all.0.1, all.0.0), joining-there g ss all.1))

-- the keys of a map rise
less-than : (a b : ℕ) → is_lt (nat_cmp a b) ≡ true → a < b
less-than a b less = grind (arith, nat_tests)

above-keys : (k : ℕ) (vs : Map ℕ Vertex) → below_all nat_cmp k vs ≡ true → AllByRecursion (λ m. k < m) (keys vs)
above-keys k [] below = tt
above-keys k (v ∷ vs) below =
    let parts = and_parts (is_lt (nat_cmp k v.0)) (below_all nat_cmp k vs) below in
    (less-than k v.0 parts.0, above-keys k vs parts.1)

IsSet-keys : (vs : Map ℕ Vertex) → IsMap nat_cmp vs → IsSet (keys vs)
IsSet-keys [] sorted = tt
IsSet-keys (v ∷ vs) sorted =
    let parts = and_parts (below_all nat_cmp v.0 vs) (is_sorted nat_cmp vs) sorted in
    (above-keys v.0 vs parts.0, IsSet-keys vs parts.1)

All-has : (P : ℕ → Type 0) (ks : List ℕ) (k : ℕ) → AllByRecursion P ks → has ks k ≡ true → P k
All-has P [] k all there = never there
All-has P (x ∷ xs) k all there =
    elim (or_cases (x == k) (has xs k) there) [
      | inl same ↦ subst P (eqb-true x k same) all.0
      | inr later ↦ All-has P xs k all.1 later
    ]

-- the first of a set that passes is the least
first-least : (p : ℕ → Bool) (ks : List ℕ) (j : ℕ) → IsSet ks → prelude.find p ks ≡ Some j → (p j ≡ true) × ((k : ℕ) → has ks k ≡ true → p k ≡ true → j ≤ k)
first-least p [] j set found = nothing j found
first-least p (x ∷ xs) j set found =
    elim (p x) as (λ b. p x ≡ b → (if b then Some x else prelude.find p xs) ≡ Some j → (p j ≡ true) × ((k : ℕ) → has (x ∷ xs) k ≡ true → p k ≡ true → j ≤ k)) [
      | true ↦ λ passes is.
          let same = same_value x j is in (
            subst (λ k. p k ≡ true) same passes,
            λ k there _. elim (or_cases (x == k) (has xs k) there) [
              | inl here ↦ omega (arith, same, eqb-true x k here)
              | inr later ↦ omega (arith, same, All-has (λ m. x < m) xs k set.0 later)
            ],
          )
      | false ↦ λ fails is.
          let rest = first-least p xs j set.1 is in (
            rest.0,
            λ k there passes. elim (or_cases (x == k) (has xs k) there) [
              | inl here ↦ absurd (true≢false (sym passes ∙ ap p (sym (eqb-true x k here)) ∙ fails))
              | inr later ↦ rest.1 k later passes
            ],
          )
    ] refl found

has-found : (p : ℕ → Bool) (ks : List ℕ) (k : ℕ) → has ks k ≡ true → p k ≡ true → IsSome (prelude.find p ks)
has-found p [] k there passes = never there
has-found p (x ∷ xs) k there passes =
    elim (p x) as (λ b. p x ≡ b → IsSome (if b then Some x else prelude.find p xs)) [
      | true ↦ λ _. refl
      | false ↦ λ fails. elim (or_cases (x == k) (has xs k) there) [
        | inl here ↦ absurd (true≢false (sym passes ∙ ap p (sym (eqb-true x k here)) ∙ fails))
        | inr later ↦ has-found p xs k later passes
      ]
    ] refl

any-in_range : (p : ℕ → Bool) (start count n : ℕ) → start ≤ n → n < start + count → p n ≡ true → list_any p (range_with_len start count) ≡ true
any-in_range p start zero n above below passes = absurd (omega arith)
any-in_range p start (suc count) n above below passes =
    elim (start == n) as (λ b. (start == n) ≡ b → (p start || list_any p (range_with_len (start + 1) count)) ≡ true) [
      | true ↦ λ same. or_left _ _ (subst (λ k. p k ≡ true) (sym (eqb-true start n same)) passes)
      | false ↦ λ other. or_right _ _ (any-in_range p (start + 1) count n (omega (arith, eqb-false start n other)) (omega arith) passes)
    ] refl

any-one : (p : ℕ → Bool) (ks : List ℕ) → list_any p ks ≡ true → (n : ℕ) × (p n ≡ true)
any-one p [] some = never some
any-one p (k ∷ ks) some = elim (or_cases (p k) (list_any p ks) some) [ inl here ↦ (k, here) | inr later ↦ any-one p ks later ]

module _ (g : Graph) (i : ℕ) (well : IsWellFormed g) (there : IsSome (vertex_at g i)) where
  -- a walk of few steps joins i with this identifier
  abbrev joined_soon : ℕ → Bool
  joined_soon k = list_any (λ n. is_joined g n i k) (range_with_len 0 (length g.vertices))

  ends : (a t : ℕ) → leads (joining_steps g) a t ≡ true → IsSome (vertex_at g t)
  ends = led-there g (joining_steps g) (joining-there g (graph_steps g) (steps-there g g.edges well.each_edge))

  joined_there : (m k : ℕ) → is_joined g m i k ≡ true → has (keys g.vertices) k ≡ true
  joined_there m k walk =
      listed g k (reached (is_joined g) (λ a t. leads (joining_steps g) a t ≡ true) (walking (joining_steps g)) (λ x. IsSome (vertex_at g x)) ends m i k there walk)

  soon : (m k : ℕ) → is_joined g m i k ≡ true → joined_soon k ≡ true
  soon m k walk =
      let least = least_of (λ n. is_joined g n i k) m walk in
      let few = shortest_below (is_joined g) (λ a t. leads (joining_steps g) a t ≡ true) (walking (joining_steps g)) (keys g.vertices)
      (λ x. IsSome (vertex_at g x)) ends (listed g) least.0 i k there least.1 least.2 in
      any-in_range (λ n. is_joined g n i k) 0 (length g.vertices) least.0 (omega arith) (omega (arith, few, length-keys g.vertices)) least.1

pub component_least : ComponentIsLeast
component_least g i j well there found =
    let least = first-least (joined_soon g i well there) (keys g.vertices) j (IsSet-keys g.vertices well.vertices) found in
    (any-one (λ n. is_joined g n i j) (range_with_len 0 (length g.vertices)) least.0, λ k m walk. least.1 k (joined_there g i well there m k walk) (soon g i well there m k walk))

pub vertex_component : EachVertexHasAComponent
vertex_component g i well there = has-found (joined_soon g i well there) (keys g.vertices) i (listed g i there) (soon g i well there 0 i (eq-eqb i i refl))
