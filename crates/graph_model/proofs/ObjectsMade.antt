-- A graph's objects on a rank, and how many of them a call makes.
use Rattle.std.proofs.Common.{◌≡◌, ℕ, ◌+◌, ◌≤◌, Bool, true, false, cond, not, ◌&&◌, List, [], ◌∷◌, ◌++◌, map, Option, Some, None, is_some, inl, inr, ◌⊎◌, refl, sym, ap, subst, ◌∙◌, arith, eq-eqb}
use Rattle.std.specs.Prelude.{◌==◌}
use Rattle.std.specs.List.{sum_by, count_by, filter, range_with_len, AllByRecursion}
use Rattle.std.specs.Option.{option_map_or, option_to_list}
use Rattle.std.specs.Ordering.{nat_cmp, is_eq, is_lt, eq_by_cmp, ordering_reverse}
use Rattle.std.specs.declared.cmp.Ordering.{Ordering}
use Rattle.std.specs.declared.cmp.Ordering.TheVariants.{Less, Equal, Greater}
use Rattle.std.specs.Cmp.{IsTotalOrder, nat_cmp_total, tied_itself}
use Rattle.std.specs.FinMap.{IsAntisymmetric, nat_cmp-IsAntisymmetric}
use Rattle.std.specs.FinMap.Entries.{find, find-where_key, below_all, is_sorted}
use Rattle.std.proofs.lemmas.Bool.{and_parts, and_from, cond-true, eqb-true, not-true, not_from_false}
use Rattle.std.proofs.lemmas.List.Sums.{sum_by-cons, sum_by-append}
use Rattle.gdi_kinds.specs.declared.call.Call.{Call}
use Rattle.gdi_kinds.specs.declared.call.Call.TheVariants as call
use Rattle.rma_layout.specs.Shape.{Shape, reserved_blocks}
use Rattle.rma_layout.specs.Placement.{home_of}
use Rattle.graph_model.specs.Maps.{Map, IsMap, keys}
use Rattle.graph_model.specs.Graph.{Graph, Vertex, Edge, EdgeKey, edge_cmp, vertex_at, is_vertex, is_heavy, is_heavy_at}
use Rattle.graph_model.specs.WellFormed.{IsWellFormed}
use Rattle.graph_model.specs.Calls.{graph_after_call}
use Rattle.graph_model.specs.Capacity.{Object, is_object, objects_on, object_to_make, rank_if_made, make_of}
use Rattle.graph_model.specs.Capacity.Object.{Reserved, OfVertex, OfHeavyEdge}
use Rattle.graph_model.proofs.Entries.{same_value, nothing, never, All-map, All-filter, IsMap-filter, edge_cmp_total, edge_cmp_same}
use Rattle.graph_model.proofs.Sums.{sum_by-map}
use Rattle.graph_model.proofs.Counting.{count_cases, count_by-le-each, key_once, keys_weigh}
use Rattle.graph_model.proofs.CallChanges.{Makes, call_changes}

-- ---- the objects of a rank, as keys of maps

abbrev pub vertices_on : Shape → Graph → ℕ → Map ℕ Vertex
vertices_on shape g rank = filter (λ entry. home_of shape entry.0 == rank) g.vertices

abbrev pub heavy_on : Shape → Graph → ℕ → Map EdgeKey Edge
heavy_on shape g rank = filter (λ entry. is_heavy entry.1 && home_of shape entry.0.source == rank) g.edges

abbrev pub edge_object : EdgeKey → Object
edge_object key = OfHeavyEdge key.source key.ordinal

filter-keys : {K X : Type 0} (p : K → Bool) (es : Map K X) → filter p (keys es) ≡ keys (filter (λ e. p e.0) es)
filter-keys p [] = refl
filter-keys p (e ∷ es) =
    elim (p e.0) as (λ b. cond b (e.0 ∷ filter p (keys es)) (filter p (keys es)) ≡ keys (cond b (e ∷ filter (λ x. p x.0) es) (filter (λ x. p x.0) es))) [
      | true ↦ ap (λ ks. e.0 ∷ ks) (filter-keys p es)
      | false ↦ filter-keys p es
    ]

sum_by-keys : {K X : Type 0} (f : K → ℕ) (es : Map K X) → sum_by f (keys es) ≡ sum_by (λ e. f e.0) es
sum_by-keys f es = sum_by-map f (λ e. e.0) es

-- a sum over them is the sum over reserved ones, vertices and heavy edges
pub sum-objects : (shape : Shape) (g : Graph) (rank : ℕ) (f : Object → ℕ)
    → sum_by f (objects_on shape g rank) ≡ sum_by (λ b. f (Reserved b)) (range_with_len 0 (reserved_blocks shape)) + sum_by (λ id. f (OfVertex id)) (keys (vertices_on shape g rank)) + sum_by (λ key. f (edge_object key)) (keys (heavy_on shape g rank))
sum-objects shape g rank f =
    let reserved = map Reserved (range_with_len 0 (reserved_blocks shape)) in
    let vertices = map OfVertex (filter (λ id. home_of shape id == rank) (keys g.vertices)) in
    let of_edge : EdgeKey × Edge → Object = λ entry. OfHeavyEdge entry.0.source entry.0.ordinal in
    let kept = ap (λ ks. sum_by (λ id. f (OfVertex id)) ks) (filter-keys (λ id. home_of shape id == rank) g.vertices) in
    omega (
      arith,
      sum_by-append f (reserved ++ vertices) (map of_edge (heavy_on shape g rank)),
      sum_by-append f reserved vertices,
      sum_by-map f Reserved (range_with_len 0 (reserved_blocks shape)),
      sum_by-map f OfVertex (filter (λ id. home_of shape id == rank) (keys g.vertices)),
      kept,
      sum_by-map f of_edge (heavy_on shape g rank),
      sum_by-keys (λ key. f (edge_object key)) (heavy_on shape g rank),
    )

-- ---- what is found in a map, and what is in it

found_behind : {K X : Type 0} (R : K → K → Ordering) (p : K × X → Bool) (k : K) (x : X) (e : K × X) (es : Map K X)
    → is_eq (R k e.0) ≡ false → find R k (filter p es) ≡ Some x → find R k (filter p (e ∷ es)) ≡ Some x
found_behind R p k x e es other rest =
    elim (p e) as (λ b. find R k (cond b (e ∷ filter p es) (filter p es)) ≡ Some x) [
      | true ↦ ap (λ b. cond b (Some e.1) (find R k (filter p es))) other ∙ rest
      | false ↦ rest
    ]

module _ {K X : Type 0} (R : K → K → Ordering) (total : IsTotalOrder R) (ties : IsAntisymmetric R) where
  -- what passes is found among those that pass
  pub find-passes : (p : K × X → Bool) (k : K) (x : X) (es : Map K X) → find R k es ≡ Some x → p (k, x) ≡ true → find R k (filter p es) ≡ Some x
  find-passes p k x [] there passes = nothing x there
  find-passes p k x (e ∷ es) there passes =
      let rest = λ (found : find R k es ≡ Some x). find-passes p k x es found passes in
      elim (R k e.0) as (λ r. R k e.0 ≡ r → cond (is_eq r) (Some e.1) (find R k es) ≡ Some x → find R k (filter p (e ∷ es)) ≡ Some x) [
        | Less ↦ λ is found. found_behind R p k x e es (ap is_eq is) (rest found)
        | Equal ↦ λ is found.
            let here : p e ≡ true = subst (λ q. p (q, e.1) ≡ true) (ties k e.0 is) (subst (λ y. p (k, y) ≡ true) (sym (same_value e.1 x found)) passes) in
            ap (λ b. find R k (cond b (e ∷ filter p es) (filter p es))) here ∙ ap (λ r. cond (is_eq r) (Some e.1) (find R k (filter p es))) is ∙ found
        | Greater ↦ λ is found. found_behind R p k x e es (ap is_eq is) (rest found)
      ] refl there

turned_greater : (r : Ordering) → is_lt r ≡ true → is_eq (ordering_reverse r) ≡ false
turned_greater Less is = refl
turned_greater Equal is = never is
turned_greater Greater is = never is

All-both : {X : Type 0} (P Q S : X → Type 0) → ((x : X) → P x → Q x → S x) → (xs : List X) → AllByRecursion P xs → AllByRecursion Q xs → AllByRecursion S xs
All-both P Q S both [] p q = tt
All-both P Q S both (x ∷ xs) p q = (both x p.0 q.0, All-both P Q S both xs p.1 q.1)

module _ {K X : Type 0} (R : K → K → Ordering) (total : IsTotalOrder R) where
  all_above : (k : K) (es : Map K X) → below_all R k es ≡ true → AllByRecursion (λ e. is_eq (R e.0 k) ≡ false) es
  all_above k [] below = tt
  all_above k (e ∷ es) below =
      let parts = and_parts (is_lt (R k e.0)) (below_all R k es) below in
      (ap is_eq (total.antisymm e.0 k) ∙ turned_greater (R k e.0) parts.0, all_above k es parts.1)

  -- each entry of a map is found at its key
  pub each_found : (es : Map K X) → IsMap R es → AllByRecursion (λ e. find R e.0 es ≡ Some e.1) es
  each_found [] sorted = tt
  each_found (e ∷ es) sorted =
      let parts = and_parts (below_all R e.0 es) (is_sorted R es) sorted in (
        ap (λ o. cond (is_eq o) (Some e.1) (find R e.0 es)) (tied_itself total e.0),
        All-both (λ x. is_eq (R x.0 e.0) ≡ false) (λ x. find R x.0 es ≡ Some x.1) (λ x. find R x.0 (e ∷ es) ≡ Some x.1)
            (λ x other found. ap (λ b. cond b (Some e.1) (find R x.0 es)) other ∙ found) es (all_above e.0 es parts.0) (each_found es parts.1),
      )

-- ---- the objects that a call makes

abbrev if_made : Bool → ℕ
if_made made = cond made 1 0

all_in : {K X : Type 0} (P : K → Type 0) (es : Map K X) → AllByRecursion (λ e. P e.0) es → AllByRecursion P (keys es)
all_in P [] all = tt
all_in P (e ∷ es) all = (all.0, all_in P es all.1)

-- where the object of a call would be
edge_made_at : (shape : Shape) (source ordinal r : ℕ) (object : Object) → ◌≡◌ {A = Option (ℕ × Object)} (Some (home_of shape source, OfHeavyEdge source ordinal)) (Some (r, object))
    → ((id : ℕ) → object ≡ OfVertex id → r ≡ home_of shape id) × ((key : EdgeKey) → object ≡ edge_object key → r ≡ home_of shape key.source)
edge_made_at shape source ordinal r object is =
    let both = same_value (home_of shape source, OfHeavyEdge source ordinal) (r, object) is in (
      λ id same. absurd (cc (ap (λ p. p.1) both, same)),
      λ key same. let this : source ≡ key.source = cc (ap (λ p. p.1) both, same) in sym (ap (λ p. p.0) both) ∙ ap (home_of shape) this,
    )

made_at : (shape : Shape) (c : Call) (r : ℕ) (object : Object) → object_to_make shape c ≡ Some (r, object)
    → ((id : ℕ) → object ≡ OfVertex id → r ≡ home_of shape id) × ((key : EdgeKey) → object ≡ edge_object key → r ≡ home_of shape key.source)
made_at shape (call.Vertex id) r object is =
    let both = same_value (home_of shape id, OfVertex id) (r, object) is in (
      λ j same. let this : id ≡ j = cc (ap (λ p. p.1) both, same) in sym (ap (λ p. p.0) both) ∙ ap (home_of shape) this,
      λ key same. absurd (cc (ap (λ p. p.1) both, same)),
    )
made_at shape (call.ETag source ordinal label) r object is = edge_made_at shape source ordinal r object is
made_at shape (call.ESet source ordinal prop value) r object is = edge_made_at shape source ordinal r object is
made_at shape (call.EAdd source ordinal prop value) r object is = edge_made_at shape source ordinal r object is
made_at shape other r object is = nothing (r, object) is

module _ (shape : Shape) (g : Graph) (c : Call) (rank : ℕ) (well : IsWellFormed g) where
  abbrev after : Graph
  after = graph_after_call shape g c

  -- whether the call makes an object on the rank
  abbrev pub made_here : ℕ
  made_here = count_by (λ r. r == rank) (option_to_list (make_of shape g c))

  is_made : (r : ℕ) (object : Object) → object_to_make shape c ≡ Some (r, object) → r ≡ rank → is_object g object ≡ false → is_object after object ≡ true → made_here ≡ 1
  is_made r object is at_rank absent there =
      let made : make_of shape g c ≡ Some r =
      ap (λ found. option_map_or (rank_if_made g after) found None) is ∙ cond-true (not (is_object g object) && is_object after object) (Some r) None (and_from _ _ (not_from_false _ absent) there) in
      let one = sum_by-cons (λ q. if_made (q == rank)) r [] in
      let passes : if_made (r == rank) ≡ 1 = ap if_made (eq-eqb r rank at_rank) in
      omega (arith, one, passes, ap (λ found. count_by (λ q. q == rank) (option_to_list found)) made)

  abbrev IsNew : Object → Type 0
  IsNew object = (is_object g object ≡ false) × (is_object after object ≡ true) × Makes shape c object

  new_object : (object : Object) → not (is_object g object) ≡ true → is_object after object ≡ true → IsNew object
  new_object object absent there =
      elim ((call_changes shape g c).arises well object there) [
        | inl before ↦ never (sym (not-true _ absent) ∙ before)
        | inr made ↦ (not-true _ absent, there, made)
      ]

  one_object : (one other : Object) → IsNew one → IsNew other → one ≡ other
  one_object one other a b = ap (λ p. p.1) (same_value (a.2.0, one) (b.2.0, other) (sym a.2.1 ∙ b.2.1))

  module _ (well_after : IsWellFormed after) where
    abbrev IsVertexHere : ℕ → Type 0
    IsVertexHere id = (home_of shape id ≡ rank) × (is_vertex after id ≡ true)

    abbrev IsEdgeHere : EdgeKey → Type 0
    IsEdgeHere key = (home_of shape key.source ≡ rank) × (is_heavy_at after key.source key.ordinal ≡ true)

    vertices_here : AllByRecursion IsVertexHere (keys (vertices_on shape after rank))
    vertices_here =
        all_in IsVertexHere (vertices_on shape after rank)
        (All-filter (λ e. find nat_cmp e.0 after.vertices ≡ Some e.1) (λ e. IsVertexHere e.0) (λ e. home_of shape e.0 == rank)
        (λ e here found. (eqb-true _ _ here, ap is_some found)) after.vertices (each_found nat_cmp nat_cmp_total after.vertices well_after.vertices))

    edges_here : AllByRecursion IsEdgeHere (keys (heavy_on shape after rank))
    edges_here =
        all_in IsEdgeHere (heavy_on shape after rank)
        (All-filter (λ e. find edge_cmp e.0 after.edges ≡ Some e.1) (λ e. IsEdgeHere e.0) (λ e. is_heavy e.1 && home_of shape e.0.source == rank)
        (λ e here found.
        let parts = and_parts (is_heavy e.1) (home_of shape e.0.source == rank) here in
        (eqb-true _ _ parts.1, ap (λ o. option_map_or is_heavy o false) found ∙ parts.0))
        after.edges (each_found edge_cmp edge_cmp_total after.edges well_after.edges))

    abbrev new_vertices : ℕ
    new_vertices = count_by (λ id. not (is_vertex g id)) (keys (vertices_on shape after rank))

    abbrev new_edges : ℕ
    new_edges = count_by (λ key. not (is_heavy_at g key.source key.ordinal)) (keys (heavy_on shape after rank))

    new_vertices-le : new_vertices ≤ made_here
    new_vertices-le =
        elim (count_cases (λ id. not (is_vertex g id)) (keys (vertices_on shape after rank)) vertices_here) [
          | inl none ↦ omega (arith, none)
          | inr one ↦
              let new = new_object (OfVertex one.0) one.1 one.2.1 in
              let made = is_made new.2.0 (OfVertex one.0) new.2.1 ((made_at shape c new.2.0 (OfVertex one.0) new.2.1).0 one.0 refl ∙ one.2.0) new.0 new.1 in
              let same = count_by-le-each (λ id. not (is_vertex g id)) (λ id. eq_by_cmp nat_cmp one.0 id) (keys (vertices_on shape after rank))
              (All-map IsVertexHere _ (λ id here absent.
              let objects = one_object (OfVertex one.0) (OfVertex id) new (new_object (OfVertex id) absent here.1) in
              let ids : one.0 ≡ id = cc objects in
              subst (λ k. eq_by_cmp nat_cmp one.0 k ≡ true) ids (ap is_eq (tied_itself nat_cmp_total one.0))) (keys (vertices_on shape after rank)) vertices_here) in
              let once = key_once nat_cmp nat_cmp_total nat_cmp-IsAntisymmetric one.0 (vertices_on shape after rank) (IsMap-filter nat_cmp _ after.vertices well_after.vertices) in
              omega (arith, made, same, once)
        ]

    new_edges-le : new_edges ≤ made_here
    new_edges-le =
        elim (count_cases (λ key. not (is_heavy_at g key.source key.ordinal)) (keys (heavy_on shape after rank)) edges_here) [
          | inl none ↦ omega (arith, none)
          | inr one ↦
              let new = new_object (edge_object one.0) one.1 one.2.1 in
              let made = is_made new.2.0 (edge_object one.0) new.2.1 ((made_at shape c new.2.0 (edge_object one.0) new.2.1).1 one.0 refl ∙ one.2.0) new.0 new.1 in
              let same = count_by-le-each (λ key. not (is_heavy_at g key.source key.ordinal)) (λ key. eq_by_cmp edge_cmp one.0 key) (keys (heavy_on shape after rank))
              (All-map IsEdgeHere _ (λ key here absent.
              let objects = one_object (edge_object one.0) (edge_object key) new (new_object (edge_object key) absent here.1) in
              let sources : one.0.source ≡ key.source = cc objects in
              let ordinals : one.0.ordinal ≡ key.ordinal = cc objects in
              let keys_same : one.0 ≡ key = λ i. record { source = sources i; ordinal = ordinals i } in
              subst (λ k. eq_by_cmp edge_cmp one.0 k ≡ true) keys_same (ap is_eq (tied_itself edge_cmp_total one.0))) (keys (heavy_on shape after rank)) edges_here) in
              let once = key_once edge_cmp edge_cmp_total edge_cmp_same one.0 (heavy_on shape after rank) (IsMap-filter edge_cmp _ after.edges well_after.edges) in
              omega (arith, made, same, once)
        ]

    -- a call makes one object at most
    not_both : (new_vertices ≡ 0) ⊎ (new_edges ≡ 0)
    not_both =
        elim (count_cases (λ id. not (is_vertex g id)) (keys (vertices_on shape after rank)) vertices_here) [
          | inl none ↦ inl none
          | inr vertex ↦ elim (count_cases (λ key. not (is_heavy_at g key.source key.ordinal)) (keys (heavy_on shape after rank)) edges_here) [
            | inl none ↦ inr none
            | inr edge ↦
                let objects = one_object (OfVertex vertex.0) (edge_object edge.0) (new_object (OfVertex vertex.0) vertex.1 vertex.2.1) (new_object (edge_object edge.0) edge.1 edge.2.1) in
                absurd (cc objects)
          ]
        ]

    known_vertices : AllByRecursion (λ id. is_vertex g id ≡ true → is_some (find nat_cmp id (vertices_on shape g rank)) ≡ true) (keys (vertices_on shape after rank))
    known_vertices =
        All-map IsVertexHere _ (λ id here there.
        let kept = find-where_key nat_cmp (λ k. home_of shape k == rank) id (λ x tied. ap (λ k. home_of shape k == rank) (sym (nat_cmp-IsAntisymmetric id x tied))) g.vertices in
        ap is_some (kept ∙ cond-true (home_of shape id == rank) (vertex_at g id) None (eq-eqb _ _ here.0)) ∙ there) (keys (vertices_on shape after rank)) vertices_here

    known_edges : AllByRecursion (λ key. is_heavy_at g key.source key.ordinal ≡ true → is_some (find edge_cmp key (heavy_on shape g rank)) ≡ true) (keys (heavy_on shape after rank))
    known_edges =
        All-map IsEdgeHere _ (λ key here heavy.
        elim (find edge_cmp key g.edges) as (λ found. find edge_cmp key g.edges ≡ found → option_map_or is_heavy found false ≡ true → is_some (find edge_cmp key (heavy_on shape g rank)) ≡ true) [
          | None ↦ λ _ no. never no
          | Some e ↦ λ found is. ap is_some (find-passes edge_cmp edge_cmp_total edge_cmp_same (λ entry. is_heavy entry.1 && home_of shape entry.0.source == rank) key e g.edges found
              (and_from (is_heavy e) (home_of shape key.source == rank) is (eq-eqb _ _ here.0)))
        ] refl heavy) (keys (heavy_on shape after rank)) edges_here

    -- objects that were there before weigh what they did, and one that is made weighs 1
    pub objects_weigh : (w : Object → ℕ) → sum_by (λ o. cond (is_object g o) (w o) 1) (objects_on shape after rank) ≤ sum_by w (objects_on shape g rank) + made_here
    objects_weigh w =
        let new = sum-objects shape after rank (λ o. cond (is_object g o) (w o) 1) in
        let old = sum-objects shape g rank w in
        let vertices = keys_weigh nat_cmp nat_cmp_total nat_cmp-IsAntisymmetric (λ id. w (OfVertex id)) (is_vertex g) (vertices_on shape g rank) (vertices_on shape after rank)
        (IsMap-filter nat_cmp _ after.vertices well_after.vertices) known_vertices in
        let edges = keys_weigh edge_cmp edge_cmp_total edge_cmp_same (λ key. w (edge_object key)) (λ key. is_heavy_at g key.source key.ordinal) (heavy_on shape g rank) (heavy_on shape after rank)
        (IsMap-filter edge_cmp _ after.edges well_after.edges) known_edges in
        elim not_both [
          | inl none ↦ omega (arith, new, old, vertices, edges, none, new_edges-le)
          | inr none ↦ omega (arith, new, old, vertices, edges, none, new_vertices-le)
        ]
