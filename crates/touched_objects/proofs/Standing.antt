-- What an object weighs among those of a rank, and sums that differ by some objects.
use Rattle.std.proofs.Common.{◌≡◌, ℕ, zero, suc, ◌+◌, ◌≤◌, ◌<◌, Bool, true, false, cond, not, ◌&&◌, List, [], ◌∷◌, map, Some, None, is_some, refl, sym, ap, subst, ◌∙◌, eqb, arith}
use Rattle.std.specs.Prelude.{◌==◌, nat_lt}
use Rattle.std.specs.List.{sum_by, filter, range_with_len}
use Rattle.std.specs.List.Sorted.{IsStrictlySortedBy}
use Rattle.std.specs.Map.{keys_of}
use Rattle.std.specs.Option.{option_map_or}
use Rattle.std.specs.Ordering.{nat_cmp, is_eq}
use Rattle.std.specs.declared.cmp.Ordering.{Ordering}
use Rattle.std.specs.Cmp.{IsTotalOrder, nat_cmp_total, tied_itself}
use Rattle.std.specs.FinMap.{IsAntisymmetric, nat_cmp-IsAntisymmetric}
use Rattle.std.specs.FinMap.Entries.{find}
use Rattle.std.proofs.lemmas.Bool.{and_parts, eqb-true, lt-ltb, le-ltb}
use Rattle.std.proofs.lemmas.Bool.Decides.{nat_tests}
use Rattle.std.proofs.lemmas.List.Sums.{sum_by-cons}
use Rattle.rma_layout.specs.Shape.{Shape, reserved_blocks}
use Rattle.rma_layout.specs.Placement.{home_of}
use Rattle.graph_model.specs.Maps.{Map, keys}
use Rattle.graph_model.specs.Graph.{Graph, Vertex, Edge, EdgeKey, edge_cmp, vertex_at, is_vertex, edge_at, is_heavy, is_heavy_at}
use Rattle.graph_model.specs.Sizes.{blocks_of_words}
use Rattle.graph_model.specs.Capacity.{Object, objects_on, blocks_of_object}
use Rattle.graph_model.specs.Capacity.Object.{Reserved, OfVertex, OfHeavyEdge}
use Rattle.graph_model.proofs.Entries.{never, edge_cmp_total, edge_cmp_same}
use Rattle.graph_model.proofs.Sets.{is_eq-nat_cmp}
use Rattle.graph_model.proofs.Sums.{sum_by-map, sum_by-none, sum_by-same}
use Rattle.graph_model.proofs.ObjectsMade.{vertices_on, heavy_on, edge_object, sum-objects}
use Rattle.edge_index.proofs.EdgeMaps.{is_at-named}
use Rattle.graph_undo.specs.Undo.{IsInOrder}
use Rattle.graph_undo.proofs.PutBack.{sum-out}
use Rattle.touched_objects.specs.Touched.{Spot, is_same_spot, is_touched, IsSameAt}
use Rattle.touched_objects.specs.Weights.{weight_on, weight_of, AreApart, SumsDifferByThese, UsedDiffersByTouched}
use Rattle.touched_objects.proofs.Differing.{if_so, IsSameness, weighed, Apart, sums-differ}

eqb-turned : (a b : ℕ) → eqb a b ≡ eqb b a
eqb-turned a b = grind (arith, nat_tests)

eqb-self : (a : ℕ) → eqb a a ≡ true
eqb-self a = grind (arith, nat_tests)

-- ---- which objects are the same

same-itself : (x : Spot) → is_same_spot x x ≡ true
same-itself (r, Reserved a) = ap (λ b. b && a == a) (eqb-self r) ∙ eqb-self a
same-itself (r, OfVertex i) = eqb-self i
same-itself (r, OfHeavyEdge i m) = ap (λ b. b && m == m) (eqb-self i) ∙ eqb-self m

same-turned : (x y : Spot) → is_same_spot x y ≡ is_same_spot y x
same-turned (r, Reserved a) (s, Reserved b) = λ i. eqb-turned r s i && eqb-turned a b i
same-turned (r, Reserved a) (s, OfVertex j) = refl
same-turned (r, Reserved a) (s, OfHeavyEdge j n) = refl
same-turned (r, OfVertex i) (s, Reserved b) = refl
same-turned (r, OfVertex i) (s, OfVertex j) = eqb-turned i j
same-turned (r, OfVertex i) (s, OfHeavyEdge j n) = refl
same-turned (r, OfHeavyEdge i m) (s, Reserved b) = refl
same-turned (r, OfHeavyEdge i m) (s, OfVertex j) = refl
same-turned (r, OfHeavyEdge i m) (s, OfHeavyEdge j n) = λ k. eqb-turned i j k && eqb-turned m n k

vertex-on : (r s i j : ℕ) (z : Spot) → i ≡ j → is_same_spot (r, OfVertex i) z ≡ is_same_spot (s, OfVertex j) z
vertex-on r s i j (t, Reserved c) is = refl
vertex-on r s i j (t, OfVertex k) is = ap (λ n. n == k) is
vertex-on r s i j (t, OfHeavyEdge k o) is = refl

edge-on : (r s i m j n : ℕ) (z : Spot) → i ≡ j → m ≡ n → is_same_spot (r, OfHeavyEdge i m) z ≡ is_same_spot (s, OfHeavyEdge j n) z
edge-on r s i m j n (t, Reserved c) one other = refl
edge-on r s i m j n (t, OfVertex k) one other = refl
edge-on r s i m j n (t, OfHeavyEdge k o) one other = λ p. one p == k && other p == o

same-on : (x y z : Spot) → is_same_spot x y ≡ true → is_same_spot x z ≡ is_same_spot y z
same-on (r, Reserved a) (s, Reserved b) z is =
    let parts = and_parts (r == s) (a == b) is in
    let one = eqb-true r s parts.0 in
    let other = eqb-true a b parts.1 in
    λ i. is_same_spot (one i, Reserved (other i)) z
same-on (r, OfVertex i) (s, OfVertex j) z is = vertex-on r s i j z (eqb-true i j is)
same-on (r, OfHeavyEdge i m) (s, OfHeavyEdge j n) z is =
    let parts = and_parts (i == j) (m == n) is in
    edge-on r s i m j n z (eqb-true i j parts.0) (eqb-true m n parts.1)
same-on (r, Reserved a) (s, OfVertex j) z is = never is
same-on (r, Reserved a) (s, OfHeavyEdge j n) z is = never is
same-on (r, OfVertex i) (s, Reserved b) z is = never is
same-on (r, OfVertex i) (s, OfHeavyEdge j n) z is = never is
same-on (r, OfHeavyEdge i m) (s, Reserved b) z is = never is
same-on (r, OfHeavyEdge i m) (s, OfVertex j) z is = never is

pub sameness : IsSameness is_same_spot
sameness = record { itself = same-itself; turned = same-turned; on = same-on }

-- ---- sums of which one item counts

sum-filter : {X : Type 0} (f : X → ℕ) (p : X → Bool) (xs : List X) → sum_by f (filter p xs) ≡ sum_by (λ x. if_so (p x) (f x)) xs
sum-filter f p [] = refl
sum-filter f p (x ∷ xs) =
    let later = sum-filter f p xs in
    elim (p x) as (λ b. p x ≡ b → sum_by f (cond b (x ∷ filter p xs) (filter p xs)) ≡ sum_by (λ y. if_so (p y) (f y)) (x ∷ xs)) [
      | true ↦ λ is. omega (arith, later, sum_by-cons f x (filter p xs), sum_by-cons (λ y. if_so (p y) (f y)) x xs, ap (λ b. if_so b (f x)) is)
      | false ↦ λ is. omega (arith, later, sum_by-cons (λ y. if_so (p y) (f y)) x xs, ap (λ b. if_so b (f x)) is)
    ] refl

swapped : (a b : Bool) (n : ℕ) → if_so a (if_so b n) ≡ if_so b (if_so a n)
swapped true b n = refl
swapped false true n = refl
swapped false false n = refl

none_left : {X : Type 0} (p : X → Bool) (f : X → ℕ) (xs : List X) → sum_by (λ x. if_so (p x) (f x)) (filter (λ x. not (p x)) xs) ≡ 0
none_left p f [] = refl
none_left p f (x ∷ xs) =
    elim (p x) as (λ b. p x ≡ b → sum_by (λ y. if_so (p y) (f y)) (cond (not b) (x ∷ filter (λ y. not (p y)) xs) (filter (λ y. not (p y)) xs)) ≡ 0) [
      | true ↦ λ _. none_left p f xs
      | false ↦ λ is. omega (arith, none_left p f xs, sum_by-cons (λ y. if_so (p y) (f y)) x (filter (λ y. not (p y)) xs), ap (λ b. if_so b (f x)) is)
    ] refl

module _ {K X : Type 0} (R : K → K → Ordering) (total : IsTotalOrder R) (same : IsAntisymmetric R) (k : K) (named : K × X → Bool) (agrees : (e : K × X) → is_eq (R k e.0) ≡ named e) (f : K × X → ℕ) where
  sum-one : (es : Map K X) → IsStrictlySortedBy R (keys_of es) → sum_by (λ e. if_so (named e) (f e)) es ≡ option_map_or (λ x. f (k, x)) (find R k es) 0
  sum-one es rises =
      let here : (x : X) → if_so (named (k, x)) (f (k, x)) ≡ f (k, x) = λ x. ap (λ b. if_so b (f (k, x))) (sym (agrees (k, x)) ∙ ap is_eq (tied_itself total k)) in
      let at : option_map_or (λ x. if_so (named (k, x)) (f (k, x))) (find R k es) 0 ≡ option_map_or (λ x. f (k, x)) (find R k es) 0 =
      elim (find R k es) as (λ o. option_map_or (λ x. if_so (named (k, x)) (f (k, x))) o 0 ≡ option_map_or (λ x. f (k, x)) o 0) [ None ↦ refl | Some x ↦ here x ] in
      omega (arith, sum-out R total same (λ e. if_so (named e) (f e)) k named agrees es rises, none_left named f es, at)

-- those of a range
range-none : (f : ℕ → ℕ) (a start n : ℕ) → a < start → sum_by (λ b. if_so (a == b) (f b)) (range_with_len start n) ≡ 0
range-none f a start zero below = refl
range-none f a start (suc n) below =
    let other : if_so (a == start) (f start) ≡ 0 = ap (λ b. if_so b (f start)) (apart a start below) in
    omega (arith, sum_by-cons (λ b. if_so (a == b) (f b)) start (range_with_len (start + 1) n), other, range-none f a (start + 1) n (omega arith))
  where
    apart : (a b : ℕ) → a < b → (a == b) ≡ false
    apart a b less = grind (arith, nat_tests)

range-one : (f : ℕ → ℕ) (a start n : ℕ) → start ≤ a → sum_by (λ b. if_so (a == b) (f b)) (range_with_len start n) ≡ if_so (nat_lt a (start + n)) (f a)
range-one f a start zero from = sym (ap (λ b. if_so b (f a)) (le-ltb a (start + 0) (omega arith)))
range-one f a start (suc n) from =
    let sum = sum_by-cons (λ b. if_so (a == b) (f b)) start (range_with_len (start + 1) n) in
    elim (a == start) as (λ b. (a == start) ≡ b → sum_by (λ b. if_so (a == b) (f b)) (range_with_len start (suc n)) ≡ if_so (nat_lt a (start + suc n)) (f a)) [
      | true ↦ λ is.
          let here = eqb-true a start is in
          let within : if_so (nat_lt a (start + suc n)) (f a) ≡ f a = ap (λ b. if_so b (f a)) (lt-ltb a (start + suc n) (omega (arith, here))) in
          omega (arith, sum, ap (λ b. if_so b (f start)) is, range-none f a (start + 1) n (omega (arith, here)), within, ap f here)
      | false ↦ λ is.
          let later = range-one f a (start + 1) n (omega (arith, from, differs is)) in
          let ends : start + 1 + n ≡ start + suc n = omega arith in
          omega (arith, sum, ap (λ b. if_so b (f start)) is, later, ap (λ m. if_so (nat_lt a m) (f a)) ends)
    ] refl
  where
    differs : (a == start) ≡ false → a ≡ start → ⊥
    differs is same = never (sym is ∙ ap (λ n. n == start) same ∙ eqb-self start)

-- ---- what an object weighs on a rank

module _ (shape : Shape) (g : Graph) (rank : ℕ) (w : Object → ℕ) (order : IsInOrder g) where
  abbrev counts : Spot → Object → ℕ
  counts u object = if_so (is_same_spot u (rank, object)) (w object)

  vertex_weighs : (id : ℕ) → sum_by (λ j. if_so (id == j) (w (OfVertex j))) (keys (vertices_on shape g rank)) ≡ if_so (home_of shape id == rank && is_vertex g id) (w (OfVertex id))
  vertex_weighs id =
      let here : ℕ × Vertex → Bool = λ e. home_of shape e.0 == rank in
      let f : ℕ × Vertex → ℕ = λ e. if_so (here e) (w (OfVertex e.0)) in
      sum_by-map (λ j. if_so (id == j) (w (OfVertex j))) (λ e. e.0) (vertices_on shape g rank)
      ∙ sum-filter (λ (e : ℕ × Vertex). if_so (id == e.0) (w (OfVertex e.0))) here g.vertices
      ∙ sum_by-same (λ e. if_so (here e) (if_so (id == e.0) (w (OfVertex e.0)))) (λ e. if_so (id == e.0) (f e)) (λ e. swapped (here e) (id == e.0) (w (OfVertex e.0))) g.vertices
      ∙ sum-one nat_cmp nat_cmp_total nat_cmp-IsAntisymmetric id (λ e. id == e.0) (λ e. is_eq-nat_cmp id e.0 ∙ eqb-turned e.0 id) f g.vertices order.vertices
      ∙ elim (home_of shape id == rank) as (λ b. option_map_or (λ x. if_so b (w (OfVertex id))) (vertex_at g id) 0 ≡ if_so (b && is_vertex g id) (w (OfVertex id))) [
        | true ↦ elim (vertex_at g id) as (λ o. option_map_or (λ x. w (OfVertex id)) o 0 ≡ if_so (is_some o) (w (OfVertex id))) [ None ↦ refl | Some v ↦ refl ]
        | false ↦ elim (vertex_at g id) as (λ o. ◌≡◌ {A = ℕ} (option_map_or (λ (x : Vertex). 0) o 0) 0) [ None ↦ refl | Some v ↦ refl ]
      ]

  edge_weighs : (source ordinal : ℕ) → sum_by (λ key. if_so (source == key.source && ordinal == key.ordinal) (w (edge_object key))) (keys (heavy_on shape g rank))
      ≡ if_so (home_of shape source == rank && is_heavy_at g source ordinal) (w (OfHeavyEdge source ordinal))
  edge_weighs source ordinal =
      let here : EdgeKey × Edge → Bool = λ e. is_heavy e.1 && home_of shape e.0.source == rank in
      let named : EdgeKey × Edge → Bool = λ e. source == e.0.source && ordinal == e.0.ordinal in
      let f : EdgeKey × Edge → ℕ = λ e. if_so (here e) (w (edge_object e.0)) in
      let key : EdgeKey = record { source = source; ordinal = ordinal } in
      sum_by-map (λ key. if_so (source == key.source && ordinal == key.ordinal) (w (edge_object key))) (λ e. e.0) (heavy_on shape g rank)
      ∙ sum-filter (λ (e : EdgeKey × Edge). if_so (named e) (w (edge_object e.0))) here g.edges
      ∙ sum_by-same (λ e. if_so (here e) (if_so (named e) (w (edge_object e.0)))) (λ e. if_so (named e) (f e)) (λ e. swapped (here e) (named e) (w (edge_object e.0))) g.edges
      ∙ sum-one edge_cmp edge_cmp_total edge_cmp_same key named (λ e. is_at-named key e ∙ (λ i. eqb-turned e.0.source source i && eqb-turned e.0.ordinal ordinal i)) f g.edges order.edges
      ∙ elim (edge_at g source ordinal) as (λ o. option_map_or (λ e. if_so (is_heavy e && home_of shape source == rank) (w (OfHeavyEdge source ordinal))) o 0 ≡ if_so (home_of shape source == rank && option_map_or is_heavy o false) (w (OfHeavyEdge source ordinal))) [
        | None ↦ sym (ap (λ b. if_so b (w (OfHeavyEdge source ordinal))) (and-false (home_of shape source == rank)))
        | Some e ↦ ap (λ b. if_so b (w (OfHeavyEdge source ordinal))) (and-turned (is_heavy e) (home_of shape source == rank))
      ]
    where
      and-false : (b : Bool) → (b && false) ≡ false
      and-false true = refl
      and-false false = refl

      and-turned : (a b : Bool) → (a && b) ≡ (b && a)
      and-turned true true = refl
      and-turned true false = refl
      and-turned false true = refl
      and-turned false false = refl

  reserved_weighs : (r block : ℕ) → sum_by (λ b. if_so (r == rank && block == b) (w (Reserved b))) (range_with_len 0 (reserved_blocks shape)) ≡ if_so (r == rank && nat_lt block (reserved_blocks shape)) (w (Reserved block))
  reserved_weighs r block =
      elim (r == rank) as (λ t. sum_by (λ b. if_so (t && block == b) (w (Reserved b))) (range_with_len 0 (reserved_blocks shape)) ≡ if_so (t && nat_lt block (reserved_blocks shape)) (w (Reserved block))) [
        | true ↦ range-one (λ b. w (Reserved b)) block 0 (reserved_blocks shape) (omega arith) ∙ ap (λ n. if_so (nat_lt block n) (w (Reserved block))) start
        | false ↦ sum_by-none (λ b. 0) (λ b. refl) (range_with_len 0 (reserved_blocks shape))
      ]
    where
      start : 0 + reserved_blocks shape ≡ reserved_blocks shape
      start = omega arith

  object_weighs : (u : Spot) → sum_by (counts u) (objects_on shape g rank) ≡ weight_on shape g rank w u
  object_weighs (r, Reserved block) =
      omega (
        arith,
        sum-objects shape g rank (counts (r, Reserved block)),
        reserved_weighs r block,
        sum_by-none (λ (id : ℕ). 0) (λ id. refl) (keys (vertices_on shape g rank)),
        sum_by-none (λ (key : EdgeKey). 0) (λ key. refl) (keys (heavy_on shape g rank)),
      )
  object_weighs (r, OfVertex id) =
      omega (
        arith,
        sum-objects shape g rank (counts (r, OfVertex id)),
        vertex_weighs id,
        sum_by-none (λ (b : ℕ). 0) (λ b. refl) (range_with_len 0 (reserved_blocks shape)),
        sum_by-none (λ (key : EdgeKey). 0) (λ key. refl) (keys (heavy_on shape g rank)),
      )
  object_weighs (r, OfHeavyEdge source ordinal) =
      omega (
        arith,
        sum-objects shape g rank (counts (r, OfHeavyEdge source ordinal)),
        edge_weighs source ordinal,
        sum_by-none (λ (b : ℕ). 0) (λ b. refl) (range_with_len 0 (reserved_blocks shape)),
        sum_by-none (λ (id : ℕ). 0) (λ id. refl) (keys (vertices_on shape g rank)),
      )

-- ---- the sums

module _ (shape : Shape) (rank : ℕ) where
  abbrev spots_on : Graph → List Spot
  spots_on g = map (λ object. (rank, object)) (objects_on shape g rank)

  abbrev at_object : (Object → ℕ) → Spot → ℕ
  at_object w spot = w spot.1

  spot_weighs : (g : Graph) (w : Object → ℕ) → IsInOrder g → (u : Spot) → weighed is_same_spot sameness (at_object w) u (spots_on g) ≡ weight_on shape g rank w u
  unfolding weighed
  spot_weighs g w order u = sum_by-map (λ spot. if_so (is_same_spot u spot) (w spot.1)) (λ object. (rank, object)) (objects_on shape g rank) ∙ object_weighs shape g rank w order u

  apart-of : (f h : Spot → ℕ) (spots : List Spot) → AreApart spots → Apart is_same_spot sameness f h spots
  apart-of f h [] apart = tt
  apart-of f h (spot ∷ spots) apart = (apart.0, apart-of f h spots apart.1)

  sums : (g h : Graph) (old new : Object → ℕ) (spots : List Spot) → IsInOrder g → IsInOrder h → AreApart spots
      → ((spot : Spot) → is_touched spots spot ≡ false → weight_on shape g rank old spot ≡ weight_on shape h rank new spot)
      → sum_by old (objects_on shape g rank) + weight_of shape h rank new spots ≡ sum_by new (objects_on shape h rank) + weight_of shape g rank old spots
  sums g h old new spots in_order still apart alike =
      let both = sums-differ is_same_spot sameness (at_object old) (at_object new) spots (spots_on g) (spots_on h) (apart-of (at_object old) (at_object new) spots apart)
      (λ u none. spot_weighs g old in_order u ∙ alike u none ∙ sym (spot_weighs h new still u)) in
      omega (
        arith,
        both,
        sum_by-map (at_object old) (λ object. (rank, object)) (objects_on shape g rank),
        sum_by-map (at_object new) (λ object. (rank, object)) (objects_on shape h rank),
        sum_by-same (λ u. weighed is_same_spot sameness (at_object new) u (spots_on h)) (weight_on shape h rank new) (spot_weighs h new still) spots,
        sum_by-same (λ u. weighed is_same_spot sameness (at_object old) u (spots_on g)) (weight_on shape g rank old) (spot_weighs g old in_order) spots,
      )

pub sums_differ_by_these : SumsDifferByThese
sums_differ_by_these shape rank g h old new spots in_order still apart alike = sums shape rank g h old new spots in_order still apart alike

-- blocks of what is the same
same_blocks : (shape : Shape) (rank : ℕ) (g h : Graph) (spot : Spot) → IsSameAt shape g h spot → weight_on shape g rank (blocks_of_object shape g rank) spot ≡ weight_on shape h rank (blocks_of_object shape h rank) spot
same_blocks shape rank g h (r, Reserved block) same = elim (r == rank) as (λ b. (r == rank) ≡ b → cond (b && nat_lt block (reserved_blocks shape)) (blocks_of_object shape g rank (Reserved block)) 0 ≡ cond (b && nat_lt block (reserved_blocks shape)) (blocks_of_object shape h rank (Reserved block)) 0) [
  | false ↦ λ _. refl
  | true ↦ λ is. ap (λ n. cond (nat_lt block (reserved_blocks shape)) n 0) (subst (λ q. blocks_of_object shape g q (Reserved block) ≡ blocks_of_object shape h q (Reserved block)) (eqb-true r rank is) (ap (blocks_of_words shape) (sym same.1)))
] refl
same_blocks shape rank g h (r, OfVertex id) same = λ i. cond (home_of shape id == rank && sym same.0 i) (blocks_of_words shape (sym same.1 i)) 0
same_blocks shape rank g h (r, OfHeavyEdge source ordinal) same = λ i. cond (home_of shape source == rank && sym same.0 i) (blocks_of_words shape (sym same.1 i)) 0

pub used_differs : UsedDiffersByTouched
used_differs shape rank g h spots in_order still apart same =
    sums shape rank g h (blocks_of_object shape g rank) (blocks_of_object shape h rank) spots in_order still apart (λ spot none. same_blocks shape rank g h spot (same spot none))
