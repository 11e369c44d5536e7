-- Walks by the steps of rows are those of the graph.
use Rattle.std.proofs.Common.{◌≡◌, ℕ, zero, suc, ◌<◌, Bool, true, false, cond, ◌&&◌, ◌||◌, List, [], ◌∷◌, ◌++◌, Option, Some, None, is_some, if◌then◌else◌, refl, sym, ap, ◌∙◌, arith}
use Rattle.std.specs.Prelude.{◌==◌, IsSome, nat_le, nat_lt, count_by}
use Rattle.std.specs.List.{AllByRecursion, flat_map, filter}
use Rattle.std.specs.Option.{option_map_or, option_or}
use Rattle.std.proofs.lemmas.Bool.{or_left, or_right, eq-eqb}
use Rattle.std.proofs.lemmas.List.{append_assoc}
use Rattle.std.proofs.lemmas.List.Sums.{sum_by-cons}
use Rattle.graph_model.specs.Maps.{Map, keys, has}
use Rattle.graph_model.specs.Graph.{Graph, Vertex, Edge, EdgeKey, vertex_at}
use Rattle.graph_model.specs.WellFormed.{IsWellFormed}
use Rattle.graph_model.specs.Walks.{both_ways, steps_over, graph_steps, joining_steps, is_walk_by, component_of, least_below}
use Rattle.graph_model.proofs.Levels.{EndsAreThere, walking, listed}
use Rattle.graph_model.proofs.Components.{component_least}
use Rattle.graph_walks.specs.Steps.{leads, IsTwoWay, IsLeastJoined}
use Rattle.graph_walks.proofs.Bools.{same_tests}

-- ---- the same steps, the same walks

module _ (a b : List (ℕ × ℕ)) (same : (i t : ℕ) → leads a i t ≡ leads b i t) where
  walk-over : (n i j : ℕ) → is_walk_by a n i j ≡ true → is_walk_by b n i j ≡ true
  walk-over zero i j walk = walk
  walk-over (suc n) i j walk =
      let first = (walking a).splits n i j walk in
      (walking b).joins n i first.0 j (sym (same i first.0) ∙ first.1) (walk-over n first.0 j first.2)

pub same_walks : (a b : List (ℕ × ℕ)) → ((i t : ℕ) → leads a i t ≡ leads b i t) → (n i j : ℕ) → is_walk_by a n i j ≡ is_walk_by b n i j
same_walks a b same n i j = same_tests _ _ (walk-over a b same n i j) (walk-over b a (λ i t. sym (same i t)) n i j)

pub same_levels : (a b : List (ℕ × ℕ)) → ((i t : ℕ) → leads a i t ≡ leads b i t) → (i j bound : ℕ) → least_below (λ n. is_walk_by a n i j) bound ≡ least_below (λ n. is_walk_by b n i j) bound
same_levels a b same i j bound = ap (λ (p : ℕ → Bool). least_below p bound) (λ k n. same_walks a b same n i j k)

-- ---- steps of edges

pub or-false : (x : Bool) → (x || false) ≡ x
or-false true = refl
or-false false = refl

-- the steps so far and those of the edges to come
pub steps_more : (over : EdgeKey × Edge → List (ℕ × ℕ)) (before after whole : List (ℕ × ℕ)) (es rest : Map EdgeKey Edge) (e : EdgeKey × Edge) → es ≡ e ∷ rest
    → after ≡ before ++ over e → before ++ flat_map over es ≡ whole → after ++ flat_map over rest ≡ whole
steps_more over before after whole es rest e next added so_far =
    ap (λ steps. steps ++ flat_map over rest) added ∙ append_assoc before (over e) (flat_map over rest) ∙ sym (ap (λ entries. before ++ flat_map over entries) next) ∙ so_far

-- both ways over each edge
abbrev pub both_over : EdgeKey × Edge → List (ℕ × ℕ)
both_over entry = both_ways entry.0.source entry.1.target

twice : (x y z : Bool) → (x || (y || (y || (x || z)))) ≡ (x || (y || z))
twice true y z = refl
twice false true z = refl
twice false false z = refl

pub joining-over : (es : Map EdgeKey Edge) (i t : ℕ) → leads (flat_map (λ step. both_ways step.0 step.1) (flat_map steps_over es)) i t ≡ leads (flat_map both_over es) i t
joining-over [] i t = refl
joining-over (e ∷ es) i t =
    let there = e.0.source == i && e.1.target == t in
    let back = e.1.target == i && e.0.source == t in
    elim e.1.undirected as (λ u. leads (flat_map (λ step. both_ways step.0 step.1) ((if u then both_ways e.0.source e.1.target else (e.0.source, e.1.target) ∷ []) ++ flat_map steps_over es)) i t ≡ leads (flat_map both_over (e ∷ es)) i t) [
      | true ↦
          ap (λ b. there || (back || (back || (there || b)))) (joining-over es i t)
          ∙ twice there back (leads (flat_map both_over es) i t)
      | false ↦ ap (λ b. there || (back || b)) (joining-over es i t)
    ]

-- ---- steps that may be taken back

and-turn : (x y : Bool) → (x && y) ≡ (y && x)
and-turn true true = refl
and-turn true false = refl
and-turn false true = refl
and-turn false false = refl

or-swap : (x y z : Bool) → (x || (y || z)) ≡ (y || (x || z))
or-swap true true z = refl
or-swap true false z = refl
or-swap false true z = refl
or-swap false false z = refl

two-way : (steps : List (ℕ × ℕ)) (i t : ℕ) → leads (flat_map (λ step. both_ways step.0 step.1) steps) i t ≡ leads (flat_map (λ step. both_ways step.0 step.1) steps) t i
two-way [] i t = refl
two-way (s ∷ ss) i t =
    ap (λ b. (s.0 == i && s.1 == t) || ((s.1 == i && s.0 == t) || b)) (two-way ss i t)
    ∙ or-swap (s.0 == i && s.1 == t) (s.1 == i && s.0 == t) _
    ∙ ap (λ b. b || ((s.0 == i && s.1 == t) || leads (flat_map (λ step. both_ways step.0 step.1) ss) t i)) (and-turn (s.1 == i) (s.0 == t))
    ∙ ap (λ b. (s.0 == t && s.1 == i) || (b || leads (flat_map (λ step. both_ways step.0 step.1) ss) t i)) (and-turn (s.0 == i) (s.1 == t))

joining-there : (g : Graph) (steps : List (ℕ × ℕ)) → AllByRecursion (EndsAreThere g) steps → AllByRecursion (EndsAreThere g) (flat_map (λ step. both_ways step.0 step.1) steps)
joining-there g [] all = tt
joining-there g (s ∷ ss) all = (all.0, ((all.0.1, all.0.0), joining-there g ss all.1))

-- both ends of each edge are vertices
abbrev pub EndsAreIn : List ℕ → EdgeKey × Edge → Type 0
EndsAreIn ids entry = (has ids entry.0.source ≡ true) × (has ids entry.1.target ≡ true)

pub ends-there : (g : Graph) → IsWellFormed g → AllByRecursion (EndsAreIn (keys g.vertices)) g.edges
ends-there g well = by_list g.edges well.each_edge
  where
    some_there : (id : ℕ) (o : Option Vertex) (P : Vertex → Type 0) → Rattle.std.specs.Prelude.IsSomeAnd o P → is_some o ≡ true
    some_there id None P wrong = absurd wrong
    some_there id (Some v) P there = refl

    by_list : (es : Map EdgeKey Edge) → AllByRecursion (λ entry. Rattle.graph_model.specs.WellFormed.EdgeFits g entry.0 entry.1) es → AllByRecursion (EndsAreIn (keys g.vertices)) es
    by_list [] all = tt
    by_list (e ∷ es) all = ((listed g e.0.source (some_there e.0.source (vertex_at g e.0.source) (λ (v : Vertex). e.0.ordinal < v.next) all.0.source), listed g e.1.target all.0.target), by_list es all.1)

module _ (g : Graph) (steps : List (ℕ × ℕ)) (same : (i t : ℕ) → leads steps i t ≡ leads (joining_steps g) i t) where
  pub joining_two_way : IsTwoWay steps
  joining_two_way = λ i t step. same t i ∙ two-way (graph_steps g) t i ∙ sym (same i t) ∙ step

  -- the component's name is the least that is joined
  pub named : (j c : ℕ) → IsWellFormed g → IsSome (vertex_at g j) → component_of g j ≡ Some c → IsLeastJoined steps j c
  named j c well there is =
      let least = component_least g j c well there is in
      let walk = least.0 in record {
        joined = (walk.0, same_walks steps (joining_steps g) same walk.0 j c ∙ walk.1);
        least = λ k n far. least.1 k n (sym (same_walks steps (joining_steps g) same n j k) ∙ far);
      }

-- ---- lists that are told by members alone

pub filter-same : (p q : ℕ → Bool) (ks : List ℕ) → ((j : ℕ) → has ks j ≡ true → p j ≡ q j) → filter p ks ≡ filter q ks
filter-same p q [] same = refl
filter-same p q (k ∷ ks) same =
    ap (λ b. if b then k ∷ filter p ks else filter p ks) (same k (or_left _ _ (eq-eqb k k refl)))
    ∙ ap (λ rest. if q k then k ∷ rest else rest) (filter-same p q ks (λ j there. same j (or_right _ _ there)))

abbrev one_if : Bool → ℕ
one_if b = cond b 1 0

pub count-same : (p q : ℕ → Bool) (ks : List ℕ) → ((j : ℕ) → has ks j ≡ true → p j ≡ q j) → count_by p ks ≡ count_by q ks
count-same p q [] same = refl
count-same p q (k ∷ ks) same =
    let later = count-same p q ks (λ j there. same j (or_right _ _ there)) in
    let here = ap one_if (same k (or_left _ _ (eq-eqb k k refl))) in
    omega (arith, later, here, sum_by-cons (λ (v : ℕ). one_if (p v)) k ks, sum_by-cons (λ (v : ℕ). one_if (q v)) k ks)
