-- Two changes that touch vertices alone: a vertex that keeps its labels is changed, and a light edge is added.
use Rattle.std.proofs.Common.{◌≡◌, ◌≢◌, ◌∙◌, ℕ, ◌≤◌, Bool, true, false, cond, ◌&&◌, List, [], ◌∷◌, ◌++◌, map, length, Some, None, is_some, refl, sym, ap, subst, arith}
use Rattle.std.specs.Prelude.{◌==◌}
use Rattle.std.specs.Option.{option_map_or}
use Rattle.std.specs.List.{filter, flat_map, range_with_len}
use Rattle.std.specs.Ordering.{nat_cmp, is_eq, is_lt, eq_by_cmp}
use Rattle.std.specs.declared.cmp.Ordering.{Ordering}
use Rattle.std.specs.declared.cmp.Ordering.TheVariants.{Less, Equal, Greater}
use Rattle.std.specs.Cmp.{nat_cmp_total}
use Rattle.std.specs.FinMap.{nat_cmp-IsAntisymmetric}
use Rattle.std.specs.FinMap.Entries.{below_all, by_order, find, put, is_sorted, find-put}
use Rattle.std.proofs.lemmas.Bool.{and_parts}
use Rattle.std.proofs.lemmas.Bool.Decides.{nat_tests}
use Rattle.std.proofs.lemmas.List.Concat.{flat_map-cons}
use Rattle.rma_layout.specs.Shape.{Shape}
use Rattle.rma_layout.specs.Ranges.{IsInRange}
use Rattle.rma_layout.specs.Placement.{Place, home_of, same_place, slot_of}
use Rattle.object_words.specs.Contents.{Contents, content_of}
use Rattle.graph_model.specs.Maps.{Map, IsMap, at, with_at, keys, has}
use Rattle.graph_model.specs.Graph.{Graph, Vertex, Edge, edge_cmp, vertex_at, is_vertex, is_heavy, edges_from, edges_to}
use Rattle.graph_model.specs.Sizes.{most_words}
use Rattle.graph_model.specs.WellFormed.{IsWellFormed}
use Rattle.graph_model.specs.VertexCalls.{with_vertex}
use Rattle.graph_model.specs.EdgeCalls.{with_edge}
use Rattle.graph_model.specs.Capacity.{OfVertex}
use Rattle.graph_model.proofs.Entries.{All-find, same_value}
use Rattle.holder_codec.specs.Vertex.{vertex_words}
use Rattle.holder_codec.specs.Holders.{held_props, pair_words}
use Rattle.holder_codec.specs.Parts.{IsSameAt}
use Rattle.holder_codec.specs.Represents.{VertexObjects, EdgeObjects, object_of, holder_of, record_at_source, record_at_target, pairs_of_label, IsRepresented}
use Rattle.object_view.specs.View.{words_in, IsViewed}
use Rattle.holder_codec.proofs.Maps.{All-below}
use Rattle.object_view.proofs.Touched.{vertices_changed}

-- ---- maps

less_not_more : (a b : ℕ) → nat_cmp a b ≡ Less → is_lt (nat_cmp b a) ≡ true → ⊥
less_not_more a b less more = grind (arith, nat_tests, less, more)

-- what is made of the entries is as it was, where the new value makes what the old one made
map-with_at_there : {X Y : Type 0} (f : ℕ × X → Y) (k : ℕ) (x y : X) → f (k, x) ≡ f (k, y) → (es : Map ℕ X) → IsMap nat_cmp es → at es k ≡ Some y → map f (with_at es k x) ≡ map f es
map-with_at_there f k x y same [] sorted there = absurd cc
map-with_at_there {X} {Y} f k x y same (e ∷ es) sorted there =
    let parts = and_parts (below_all nat_cmp e.0 es) (is_sorted nat_cmp es) sorted in
    elim (nat_cmp k e.0) as (λ o. nat_cmp k e.0 ≡ o → cond (is_eq o) (Some e.1) (at es k) ≡ Some y → map f (by_order o ((k, x) ∷ e ∷ es) ((e.0, x) ∷ es) (e ∷ with_at es k x)) ≡ map f (e ∷ es)) [
      | Less ↦ λ less later. absurd (less_not_more k e.0 less (All-find nat_cmp nat_cmp-IsAntisymmetric (λ entry. is_lt (nat_cmp e.0 entry.0) ≡ true) k y es (All-below nat_cmp e.0 es parts.0) later))
      | Equal ↦ λ tied here.
          let one : f (e.0, x) ≡ f (e.0, y) = subst (λ (q : ℕ). f (q, x) ≡ f (q, y)) (nat_cmp-IsAntisymmetric k e.0 tied) same in
          let first : f (e.0, x) ≡ f e = one ∙ ap (λ (z : X). f (e.0, z)) (sym (same_value e.1 y here)) in
          ap (λ l. l ∷ map f es) first
      | Greater ↦ λ _ later. ap (λ l. f e ∷ l) (map-with_at_there f k x y same es parts.1 later)
    ] refl there

-- a new entry that fails a test leaves those that pass
filter_put_skip : {K X : Type 0} (R : K → K → Ordering) (p : K × X → Bool) (k : K) (x : X) (es : Map K X) → p (k, x) ≡ false → find R k es ≡ None → filter p (put R k x es) ≡ filter p es
filter_put_skip R p k x [] fails absent = ap (λ b. cond b ((k, x) ∷ []) []) fails
filter_put_skip R p k x (e ∷ es) fails absent =
    elim (R k e.0) as (λ o. cond (is_eq o) (Some e.1) (find R k es) ≡ None → filter p (by_order o ((k, x) ∷ e ∷ es) ((e.0, x) ∷ es) (e ∷ put R k x es)) ≡ filter p (e ∷ es)) [
      | Less ↦ λ _. ap (λ b. cond b ((k, x) ∷ filter p (e ∷ es)) (filter p (e ∷ es))) fails
      | Equal ↦ λ none. absurd cc
      | Greater ↦ λ none. ap (λ l. cond (p e) (e ∷ l) l) (filter_put_skip R p k x es fails none)
    ] absent

-- the index is told by the labels of the vertices
abbrev sets_of : Map ℕ Vertex → List (ℕ × List ℕ)
sets_of vertices = map (λ entry. (entry.0, entry.1.labels)) vertices

abbrev pairs_from : Shape → Place → ℕ → List (ℕ × List ℕ) → List ℕ
pairs_from shape place label sets = flat_map (λ entry. pair_words label entry.0) (filter (λ entry. has entry.1 label && same_place (slot_of shape label entry.0) place) sets)

pairs_by_sets : (shape : Shape) (place : Place) (label : ℕ) (vertices : Map ℕ Vertex) → pairs_of_label shape vertices place label ≡ pairs_from shape place label (sets_of vertices)
pairs_by_sets shape place label [] = refl
pairs_by_sets shape place label (e ∷ es) =
    let rest = pairs_by_sets shape place label es in
    let those : Map ℕ Vertex = filter (λ entry. has entry.1.labels label && same_place (slot_of shape label entry.0) place) es in
    let sets : List (ℕ × List ℕ) = filter (λ entry. has entry.1 label && same_place (slot_of shape label entry.0) place) (sets_of es) in
    elim (has e.1.labels label && same_place (slot_of shape label e.0) place) as (λ b. flat_map (λ (entry : ℕ × Vertex). pair_words label entry.0) (cond b (e ∷ those) those) ≡ flat_map (λ (entry : ℕ × List ℕ). pair_words label entry.0) (cond b ((e.0, e.1.labels) ∷ sets) sets)) [
      | true ↦ flat_map-cons (λ (entry : ℕ × Vertex). pair_words label entry.0) e those ∙ ap (λ l. pair_words label e.0 ++ l) rest ∙ sym (flat_map-cons (λ (entry : ℕ × List ℕ). pair_words label entry.0) (e.0, e.1.labels) sets)
      | false ↦ rest
    ]

index_by_sets : (shape : Shape) (place : Place) (n : ℕ) (us ws : Map ℕ Vertex) → sets_of us ≡ sets_of ws → flat_map (pairs_of_label shape us place) (range_with_len 0 n) ≡ flat_map (pairs_of_label shape ws place) (range_with_len 0 n)
index_by_sets shape place n us ws same =
    ap (λ f. flat_map f (range_with_len 0 n)) (λ i label. (pairs_by_sets shape place label us ∙ ap (pairs_from shape place label) same ∙ sym (pairs_by_sets shape place label ws)) i)

untied : (q id : ℕ) → (id == q) ≡ false → eq_by_cmp nat_cmp q id ≡ false
untied q id apart = grind (arith, nat_tests, apart)

elsewhere_same : (vertices : Map ℕ Vertex) (id q : ℕ) (after : Vertex) → (id == q) ≡ false → at (with_at vertices id after) q ≡ at vertices q
elsewhere_same vertices id q after apart = find-put nat_cmp nat_cmp_total q id after vertices ∙ ap (λ b. cond b (Some after) (at vertices q)) (untied q id apart)

-- ---- a vertex is changed, with the labels that it had

module _ (shape : Shape) (one other : Contents) (g : Graph) (well : IsWellFormed g) (vertices : VertexObjects) (edges : EdgeObjects) (ranges : IsInRange shape) (v : IsViewed shape one g vertices edges)
    (id : ℕ) (before after : Vertex) (there : vertex_at g id ≡ Some before) (labels : after.labels ≡ before.labels) (within : (other_place : Place) → length (content_of other other_place) ≤ most_words) where
  same_sets : sets_of (with_at g.vertices id after) ≡ sets_of g.vertices
  same_sets = map-with_at_there (λ entry. (entry.0, entry.1.labels)) id after before (λ i. (id, labels i)) g.vertices well.vertices there

  same_keys : keys (with_at g.vertices id after) ≡ keys g.vertices
  same_keys = map-with_at_there (λ entry. entry.0) id after before refl g.vertices well.vertices there

  spelled_at : (h : Graph) → vertex_at h id ≡ Some after → content_of other (object_of vertices id) ≡ vertex_words (holder_of h vertices edges id after)
      → content_of other (object_of vertices id) ≡ words_in shape h vertices edges (home_of shape id) (OfVertex id)
  spelled_at h found spelled = spelled ∙ sym (ap (λ o. option_map_or (λ vertex. vertex_words (holder_of h vertices edges id vertex)) o []) found)

  put_here : at (with_at g.vertices id after) id ≡ Some after
  put_here = find-put nat_cmp nat_cmp_total id id after g.vertices ∙ ap (λ b. cond b (Some after) (at g.vertices id)) (let tied : eq_by_cmp nat_cmp id id ≡ true = grind (arith, nat_tests) in tied)

  pub vertex_changed : IsWellFormed (with_vertex g id after)
      → content_of other (object_of vertices id) ≡ vertex_words (holder_of (with_vertex g id after) vertices edges id after)
      → ((place : Place) → object_of vertices id ≢ place → IsSameAt one other place)
      → IsRepresented shape other (with_vertex g id after) vertices edges
  vertex_changed well_after spelled same =
      vertices_changed shape one other g (with_vertex g id after) well well_after vertices edges ranges v (id ∷ []) []
      same_keys refl refl refl (λ place _. index_by_sets shape place (length g.labels) (with_at g.vertices id after) g.vertices same_sets) tt tt
      (ap is_some there, tt) (spelled_at (with_vertex g id after) put_here spelled, tt)
      (λ q none. ap (λ o. option_map_or (λ vertex. vertex_words (holder_of g vertices edges q vertex)) o []) (elsewhere_same g.vertices id q after none.0))
      (λ place off _. same place off.0) within

  -- ---- a light edge is added from it. The target may be the vertex itself: then the two say the same

  pub edge_added : (ordinal : ℕ) (edge : Edge) → is_heavy edge ≡ false → find edge_cmp (record { source = id; ordinal = ordinal }) g.edges ≡ None → is_vertex g edge.target ≡ true
      → IsWellFormed (with_edge (with_vertex g id after) id ordinal edge)
      → content_of other (object_of vertices id) ≡ words_in shape (with_edge (with_vertex g id after) id ordinal edge) vertices edges (home_of shape id) (OfVertex id)
      → content_of other (object_of vertices edge.target) ≡ words_in shape (with_edge (with_vertex g id after) id ordinal edge) vertices edges (home_of shape edge.target) (OfVertex edge.target)
      → ((place : Place) → object_of vertices id ≢ place → object_of vertices edge.target ≢ place → IsSameAt one other place)
      → IsRepresented shape other (with_edge (with_vertex g id after) id ordinal edge) vertices edges
  edge_added ordinal edge light absent target well_after at_source at_target same =
      vertices_changed shape one other g (with_edge (with_vertex g id after) id ordinal edge) well well_after vertices edges ranges v (id ∷ edge.target ∷ []) []
      same_keys (filter_put_skip edge_cmp (λ entry. is_heavy entry.1) (record { source = id; ordinal = ordinal }) edge g.edges light absent) refl refl
      (λ place _. index_by_sets shape place (length g.labels) (with_at g.vertices id after) g.vertices same_sets) tt tt
      (ap is_some there, (target, tt)) (at_source, (at_target, tt))
      (λ q none.
      let from : edges_from (with_edge (with_vertex g id after) id ordinal edge) q ≡ edges_from g q = filter_put_skip edge_cmp (λ entry. entry.0.source == q) (record { source = id; ordinal = ordinal }) edge g.edges none.0 absent in
      let to : edges_to (with_edge (with_vertex g id after) id ordinal edge) q ≡ edges_to g q = filter_put_skip edge_cmp (λ entry. entry.1.target == q) (record { source = id; ordinal = ordinal }) edge g.edges none.1.0 absent in
      let found = elsewhere_same g.vertices id q after none.0 in
      λ i. option_map_or (λ vertex. vertex_words (record { id = q; next = vertex.next; labels = vertex.labels; props = held_props g.types vertex.props; edges = map (λ entry. record_at_source vertices edges entry.0 entry.1) (from i) ++ map (λ entry. record_at_target vertices edges entry.0 entry.1) (to i) })) (found i) [])
      (λ place off _. same place off.0 off.1.0) within
