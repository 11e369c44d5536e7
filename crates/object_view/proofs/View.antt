-- What represents a graph, object by object.
use Rattle.std.proofs.Common.{◌≡◌, ◌≢◌, ◌∙◌, ℕ, ◌<◌, ◌≤◌, Bool, true, false, cond, List, [], ◌∷◌, ◌++◌, map, Option, Some, None, is_some, nat_lt, refl, sym, ap, subst, arith}
use Rattle.std.specs.Prelude.{◌==◌}
use Rattle.std.specs.Option.{unwrap_or, option_map_or}
use Rattle.std.specs.List.{AllByRecursion, filter}
use Rattle.std.specs.Ordering.{nat_cmp, is_lt, is_eq}
use Rattle.std.specs.declared.cmp.Ordering.{Ordering}
use Rattle.std.specs.declared.cmp.Ordering.TheVariants.{Less, Equal, Greater}
use Rattle.std.specs.Cmp.{nat_cmp_total}
use Rattle.std.specs.FinMap.{IsAntisymmetric, nat_cmp-IsAntisymmetric}
use Rattle.std.specs.FinMap.Entries.{find, below_all, is_sorted}
use Rattle.std.proofs.lemmas.Bool.{and_parts, eqb-true}
use Rattle.std.proofs.lemmas.Bool.Decides.{nat_tests}
use Rattle.rma_layout.specs.Shape.{Shape, reserved_blocks}
use Rattle.rma_layout.specs.Ranges.{IsInRange}
use Rattle.rma_layout.specs.Placement.{Place, IsReserved, home_of, metadata}
use Rattle.object_words.specs.Contents.{Contents, content_of}
use Rattle.object_words.proofs.Places.{same_places}
use Rattle.graph_model.specs.Maps.{Map, IsMap, keys}
use Rattle.graph_model.specs.Graph.{Graph, Vertex, Edge, EdgeKey, edge_cmp, vertex_at, edge_at, is_vertex, is_heavy, is_heavy_at}
use Rattle.graph_model.specs.WellFormed.{IsWellFormed}
use Rattle.graph_model.specs.Capacity.{Object, Reserved, OfVertex, OfHeavyEdge}
use Rattle.graph_model.proofs.Entries.{All-find, IsMap-filter, edge_cmp_same, edge_cmp_total, same_value}
use Rattle.holder_codec.specs.Bucket.{bucket_words}
use Rattle.holder_codec.specs.Vertex.{vertex_words}
use Rattle.holder_codec.specs.Holders.{edge_words, names_words}
use Rattle.holder_codec.specs.Represents.{VertexObjects, EdgeObjects, object_of, edge_object_of, IsUnreserved, entries_of, holder_of, VertexIsHeld, EdgeIsHeld, heavy_edges, AreApart, places_in, IsRepresented}
use Rattle.object_view.specs.View.{IsOn, place_in, index_words, reserved_words, ObjectIsHeld, IsViewed}
use Rattle.holder_codec.proofs.Maps.{some_of, All-over_map, All-append, All-unfilter, All-both, All-from_find, All-below, IsMap-by_keys, find-by_keys, found_of_filter}

-- ---- lists

pub All-of_map : {X Y : Type 0} (P : Y → Type 0) (f : X → Y) (xs : List X) → AllByRecursion P (map f xs) → AllByRecursion (λ x. P (f x)) xs
All-of_map P f [] all = tt
All-of_map P f (x ∷ xs) all = (all.0, All-of_map P f xs all.1)

pub All-split : {X : Type 0} (P : X → Type 0) (xs ys : List X) → AllByRecursion P (xs ++ ys) → AllByRecursion P xs × AllByRecursion P ys
All-split P [] ys all = (tt, all)
All-split P (x ∷ xs) ys all = let rest = All-split P xs ys all.1 in ((all.0, rest.0), rest.1)

apart_across : (xs ys : List Place) → AreApart (xs ++ ys) → AllByRecursion (λ place. AllByRecursion (λ other. other ≢ place) ys) xs
apart_across [] ys apart = tt
apart_across (x ∷ xs) ys apart = ((All-split (λ other. other ≢ x) xs ys apart.0).1, apart_across xs ys apart.1)

-- no element stands twice
abbrev pub AreDistinct : {X : Type 0} → List X → Type 0
AreDistinct [] = Unit {0}
AreDistinct (x ∷ xs) = AllByRecursion (λ other. other ≢ x) xs × AreDistinct xs

pub distinct-append : {X : Type 0} (xs ys : List X) → AreDistinct xs → AreDistinct ys → AllByRecursion (λ x. AllByRecursion (λ other. other ≢ x) ys) xs → AreDistinct (xs ++ ys)
distinct-append [] ys a b across = b
distinct-append (x ∷ xs) ys a b across = (All-append (λ other. other ≢ x) xs ys a.0 across.0, distinct-append xs ys a.1 b across.1)

-- what is made of a map's entries is distinct, where two keys make two of it
pub distinct_rising : {K X Y : Type 0} (R : K → K → Ordering) (P : K × X → Type 0) (f : K × X → Y)
    → ((a b : K × X) → P a → P b → is_lt (R a.0 b.0) ≡ true → f b ≢ f a)
    → (es : Map K X) → AllByRecursion P es → IsMap R es → AreDistinct (map f es)
distinct_rising R P f keeps [] all sorted = tt
distinct_rising R P f keeps (a ∷ es) all sorted =
    let parts = and_parts (below_all R a.0 es) (is_sorted R es) sorted in (
      All-over_map (λ y. y ≢ f a) f es (All-both P (λ b. is_lt (R a.0 b.0) ≡ true) (λ b. f b ≢ f a) (λ b here less. keeps a b all.0 here less) es all.1 (All-below R a.0 es parts.0)),
      distinct_rising R P f keeps es all.1 parts.1,
    )

pub distinct_apart : (xs : List Place) → AreDistinct xs → AreApart xs
distinct_apart [] distinct = tt
distinct_apart (x ∷ xs) distinct = (distinct.0, distinct_apart xs distinct.1)

-- what is found stays found among those that pass a test
pub found_in_filter : {K X : Type 0} (R : K → K → Ordering) → IsAntisymmetric R → (p : K × X → Bool) (es : Map K X) (k : K) (x : X) → find R k es ≡ Some x → p (k, x) ≡ true → find R k (filter p es) ≡ Some x
found_in_filter R ties p [] k x found passes = absurd cc
found_in_filter {K} {X} R ties p (e ∷ es) k x found passes =
    elim (R k e.0) as (λ o. R k e.0 ≡ o → cond (is_eq o) (Some e.1) (find R k es) ≡ Some x → find R k (cond (p e) (e ∷ filter p es) (filter p es)) ≡ Some x) [
      | Less ↦ λ is later. skip (p e) Less is refl (found_in_filter R ties p es k x later passes)
      | Equal ↦ λ tied here.
          let kept : p e ≡ true = subst (λ (q : K). p (q, e.1) ≡ true) (ties k e.0 tied) (subst (λ (v : X). p (k, v) ≡ true) (sym (same_value e.1 x here)) passes) in
          ap (λ b. find R k (cond b (e ∷ filter p es) (filter p es))) kept ∙ ap (λ o. cond (is_eq o) (Some e.1) (find R k (filter p es))) tied ∙ here
      | Greater ↦ λ is later. skip (p e) Greater is refl (found_in_filter R ties p es k x later passes)
    ] refl found
  where
    skip : (b : Bool) (o : Ordering) → R k e.0 ≡ o → is_eq o ≡ false → find R k (filter p es) ≡ Some x → find R k (cond b (e ∷ filter p es) (filter p es)) ≡ Some x
    skip true o is not later = ap (λ r. cond (is_eq r) (Some e.1) (find R k (filter p es))) is ∙ ap (λ b. cond b (Some e.1) (find R k (filter p es))) not ∙ later
    skip false o is not later = later

head_or : List ℕ → ℕ
head_or [] = 0
head_or (n ∷ ns) = n

second_or : List ℕ → ℕ
second_or [] = 0
second_or (n ∷ ns) = head_or ns

-- ---- what is looked up

-- a heavy edge
pub heavy_edge : (o : Option Edge) → option_map_or is_heavy o false ≡ true → (edge : Edge) × (o ≡ Some edge) × (is_heavy edge ≡ true)
heavy_edge (Some edge) heavy = (edge, refl, heavy)
heavy_edge None heavy = absurd cc

key_of : ℕ → ℕ → EdgeKey
key_of source ordinal = record { source = source; ordinal = ordinal }

module _ (shape : Shape) (g : Graph) (well : IsWellFormed g) (vertices : VertexObjects) (edges : EdgeObjects) (vertex_keys : keys vertices ≡ keys g.vertices) (edge_keys : keys edges ≡ keys (heavy_edges g.edges)) where
  pub heavy_rises : IsMap edge_cmp (heavy_edges g.edges)
  heavy_rises = IsMap-filter edge_cmp (λ entry. is_heavy entry.1) g.edges well.edges

  -- what holds of the object of each vertex and of each heavy edge holds of all places
  pub All-places : (P : Place → Type 0) → ((id : ℕ) → is_vertex g id ≡ true → P (object_of vertices id))
      → ((key : EdgeKey) → is_heavy_at g key.source key.ordinal ≡ true → P (edge_object_of edges key)) → AllByRecursion P (places_in vertices ++ places_in edges)
  All-places P of_vertex of_edge = All-append P (places_in vertices) (places_in edges)
      (All-over_map P (λ entry. entry.1) vertices (All-from_find nat_cmp nat_cmp_total nat_cmp-IsAntisymmetric (λ entry. P entry.1) vertices
      (IsMap-by_keys nat_cmp vertices g.vertices vertex_keys well.vertices) (λ id place found.
      let vertex = find-by_keys nat_cmp vertices g.vertices id place vertex_keys found in
      subst P (ap (λ o. unwrap_or o metadata) found) (of_vertex id (ap is_some vertex.1)))))
      (All-over_map P (λ entry. entry.1) edges (All-from_find edge_cmp edge_cmp_total edge_cmp_same (λ entry. P entry.1) edges
      (IsMap-by_keys edge_cmp edges (heavy_edges g.edges) edge_keys heavy_rises) (λ key place found.
      let edge = find-by_keys edge_cmp edges (heavy_edges g.edges) key place edge_keys found in
      let there = found_of_filter edge_cmp edge_cmp_total edge_cmp_same (λ entry. is_heavy entry.1) g.edges key edge.0 well.edges edge.1 in
      subst P (ap (λ o. unwrap_or o metadata) found) (of_edge key (ap (λ o. option_map_or is_heavy o false) there.0 ∙ there.1)))))

  -- and back
  pub at_vertex : (P : Place → Type 0) → AllByRecursion P (places_in vertices) → (id : ℕ) → is_vertex g id ≡ true → P (object_of vertices id)
  at_vertex P all id there =
      let vertex = some_of (vertex_at g id) there in
      let place = find-by_keys nat_cmp g.vertices vertices id vertex.0 (sym vertex_keys) vertex.1 in
      let of_vertices = All-of_map P (λ entry. entry.1) vertices all in
      subst P (sym (ap (λ o. unwrap_or o metadata) place.1)) (All-find nat_cmp nat_cmp-IsAntisymmetric (λ entry. P entry.1) id place.0 vertices of_vertices place.1)

  pub found_heavy : (key : EdgeKey) → is_heavy_at g key.source key.ordinal ≡ true → (edge : Edge) × (find edge_cmp key (heavy_edges g.edges) ≡ Some edge)
  found_heavy key heavy =
      let edge = heavy_edge (edge_at g key.source key.ordinal) heavy in
      (edge.0, found_in_filter edge_cmp edge_cmp_same (λ entry. is_heavy entry.1) g.edges key edge.0 edge.1 edge.2)

  pub at_edge : (P : Place → Type 0) → AllByRecursion P (places_in edges) → (key : EdgeKey) → is_heavy_at g key.source key.ordinal ≡ true → P (edge_object_of edges key)
  at_edge P all key heavy =
      let edge = found_heavy key heavy in
      let place = find-by_keys edge_cmp (heavy_edges g.edges) edges key edge.0 (sym edge_keys) edge.1 in
      subst P (sym (ap (λ o. unwrap_or o metadata) place.1)) (All-find edge_cmp edge_cmp_same (λ entry. P entry.1) key place.0 edges (All-of_map P (λ entry. entry.1) edges all) place.1)

-- ---- a store that represents a graph, object by object

module _ (shape : Shape) (store : Contents) (g : Graph) (well : IsWellFormed g) (vertices : VertexObjects) (edges : EdgeObjects) (ranges : IsInRange shape) (is : IsRepresented shape store g vertices edges) where
  vertex_is : (id : ℕ) → is_vertex g id ≡ true → (vertex : Vertex) × (vertex_at g id ≡ Some vertex) × VertexIsHeld shape store g vertices edges id vertex
  vertex_is id there =
      let vertex = some_of (vertex_at g id) there in
      (vertex.0, vertex.1, All-find nat_cmp nat_cmp-IsAntisymmetric (λ entry. VertexIsHeld shape store g vertices edges entry.0 entry.1) id vertex.0 g.vertices is.held_vertices vertex.1)

  edge_is : (key : EdgeKey) → is_heavy_at g key.source key.ordinal ≡ true → (edge : Edge) × (edge_at g key.source key.ordinal ≡ Some edge) × EdgeIsHeld shape store g.types edges key edge
  edge_is key heavy =
      let edge = heavy_edge (edge_at g key.source key.ordinal) heavy in (
        edge.0,
        edge.1,
        All-find edge_cmp edge_cmp_same (λ entry. is_heavy entry.1 ≡ true → EdgeIsHeld shape store g.types edges entry.0 entry.1) key edge.0 g.edges
            (All-unfilter (λ entry. is_heavy entry.1) (λ entry. EdgeIsHeld shape store g.types edges entry.0 entry.1) g.edges is.held_edges) edge.1 edge.2,
      )

  -- a reserved place is none of the others
  none_reserved : (place : Place) → IsReserved shape place.block → AllByRecursion (λ other. other ≢ place) (places_in vertices ++ places_in edges)
  none_reserved place reserved = All-places shape g well vertices edges is.vertex_keys is.edge_keys (λ other. other ≢ place)
      (λ id there here. (vertex_is id there).2.place.unreserved (subst (λ (p : Place). IsReserved shape p.block) (sym here) reserved))
      (λ key heavy here. (edge_is key heavy).2.place.unreserved (subst (λ (p : Place). IsReserved shape p.block) (sym here) reserved))

  reserved_is : (rank block : ℕ) → rank < shape.ranks → block < reserved_blocks shape → content_of store (record { rank = rank; block = block }) ≡ reserved_words shape g vertices rank block
  reserved_is rank block within reserved = cases (block == 0) (rank == 0) (nat_lt shape.buckets block) refl refl refl
    where
      place : Place
      place = record { rank = rank; block = block }

      cases : (z r s : Bool) → (block == 0) ≡ z → (rank == 0) ≡ r → nat_lt shape.buckets block ≡ s
          → content_of store (record { rank = rank; block = block }) ≡ cond z (cond r (names_words g.labels g.types) []) (cond s (index_words shape g (record { rank = rank; block = block })) (bucket_words (record { entries = entries_of shape vertices (record { rank = rank; block = block }) })))
      cases true true s zero_block zero_rank at = ap (content_of store) (same_places (record { rank = rank; block = block }) metadata (eqb-true rank 0 zero_rank) (eqb-true block 0 zero_block)) ∙ is.names
      cases true false s zero_block some_rank at =
          is.rest (record { rank = rank; block = block })
          (λ here. let same : rank ≡ 0 = ap (λ (p : Place). p.rank) here in grind (arith, nat_tests, same, some_rank))
          (λ bucket. let none : block ≡ 0 = eqb-true block 0 zero_block in omega (arith, none, bucket.block))
          (λ slot. let none : block ≡ 0 = eqb-true block 0 zero_block in omega (arith, none, slot.block))
          (none_reserved (record { rank = rank; block = block }) reserved)
      cases false r true some_block some_rank at = is.index (record { rank = rank; block = block }) (record { rank = within; block = ((let above : shape.buckets < block = grind (arith, nat_tests, at) in above), reserved) })
      cases false r false some_block some_rank at = is.buckets (record { rank = rank; block = block }) (record { rank = within; block = ((let some : 1 ≤ block = grind (arith, nat_tests, some_block) in some), (let below : block ≤ shape.buckets = grind (arith, nat_tests, at) in below)) })

  pub object_held : (rank : ℕ) (object : Object) → IsOn shape g rank object → ObjectIsHeld shape store g vertices edges rank object
  object_held rank (Reserved block) on = record { place = tt; words = reserved_is rank block on.0 on.1 }
  object_held rank (OfVertex id) on =
      let vertex = vertex_is id on.1 in
      record {
        place = subst (λ (r : ℕ). IsUnreserved shape r (object_of vertices id)) on.0 vertex.2.place;
        words = vertex.2.words ∙ sym (ap (λ o. option_map_or (λ v. vertex_words (holder_of g vertices edges id v)) o []) vertex.1);
      }
  object_held rank (OfHeavyEdge source ordinal) on =
      let edge = edge_is (record { source = source; ordinal = ordinal }) on.1 in
      record {
        place = subst (λ (r : ℕ). IsUnreserved shape r (edge_object_of edges (record { source = source; ordinal = ordinal }))) on.0 edge.2.place;
        words = edge.2.words ∙ sym (ap (λ o. option_map_or (edge_words g.types (record { source = source; ordinal = ordinal })) o []) edge.1);
      }

  -- the first words tell the vertices and the edges apart
  vertex_tells : (a b : ℕ) → is_vertex g a ≡ true → is_vertex g b ≡ true → object_of vertices a ≡ object_of vertices b → a ≡ b
  unfolding head_or
  vertex_tells a b at_a at_b same = ap head_or (sym (vertex_is a at_a).2.words ∙ ap (content_of store) same ∙ (vertex_is b at_b).2.words)

  edge_tells : (a b : EdgeKey) → is_heavy_at g a.source a.ordinal ≡ true → is_heavy_at g b.source b.ordinal ≡ true → edge_object_of edges a ≡ edge_object_of edges b → (a.source ≡ b.source) × (a.ordinal ≡ b.ordinal)
  unfolding head_or second_or
  edge_tells a b at_a at_b same =
      let words = sym (edge_is a at_a).2.words ∙ ap (content_of store) same ∙ (edge_is b at_b).2.words in
      (ap head_or words, ap second_or words)

  vertex_no_edge : (id : ℕ) (key : EdgeKey) → is_vertex g id ≡ true → is_heavy_at g key.source key.ordinal ≡ true → edge_object_of edges key ≢ object_of vertices id
  vertex_no_edge id key there heavy =
      let across = at_vertex shape g well vertices edges is.vertex_keys is.edge_keys (λ p. AllByRecursion (λ other. other ≢ p) (places_in edges)) (apart_across (places_in vertices) (places_in edges) is.apart) id there in
      at_edge shape g well vertices edges is.vertex_keys is.edge_keys (λ other. other ≢ object_of vertices id) across key heavy

  free_reserved : {A : Type 0} (rank block : ℕ) (place : Place) → block < reserved_blocks shape → IsUnreserved shape rank place → place ≡ record { rank = rank; block = block } → A
  free_reserved rank block place reserved free here = absurd (free.unreserved (subst (λ (p : Place). IsReserved shape p.block) (sym here) reserved))

  objects_apart : (rank : ℕ) (one other : Object) → IsOn shape g rank one → IsOn shape g rank other → place_in vertices edges rank one ≡ place_in vertices edges rank other → one ≡ other
  objects_apart rank (Reserved a) (Reserved b) on_a on_b same = ap (λ (p : Place). Reserved p.block) same
  objects_apart rank (Reserved a) (OfVertex b) on_a on_b same = free_reserved rank a (object_of vertices b) on_a.1 (object_held rank (OfVertex b) on_b).place (sym same)
  objects_apart rank (Reserved a) (OfHeavyEdge s o) on_a on_b same = free_reserved rank a (edge_object_of edges (record { source = s; ordinal = o })) on_a.1 (object_held rank (OfHeavyEdge s o) on_b).place (sym same)
  objects_apart rank (OfVertex a) (Reserved b) on_a on_b same = free_reserved rank b (object_of vertices a) on_b.1 (object_held rank (OfVertex a) on_a).place same
  objects_apart rank (OfVertex a) (OfVertex b) on_a on_b same = ap OfVertex (vertex_tells a b on_a.1 on_b.1 same)
  objects_apart rank (OfVertex a) (OfHeavyEdge s o) on_a on_b same = absurd (vertex_no_edge a (record { source = s; ordinal = o }) on_a.1 on_b.1 (sym same))
  objects_apart rank (OfHeavyEdge s o) (Reserved b) on_a on_b same = free_reserved rank b (edge_object_of edges (record { source = s; ordinal = o })) on_b.1 (object_held rank (OfHeavyEdge s o) on_a).place same
  objects_apart rank (OfHeavyEdge s o) (OfVertex b) on_a on_b same = absurd (vertex_no_edge b (record { source = s; ordinal = o }) on_b.1 on_a.1 same)
  objects_apart rank (OfHeavyEdge s o) (OfHeavyEdge t n) on_a on_b same =
      let told = edge_tells (record { source = s; ordinal = o }) (record { source = t; ordinal = n }) on_a.1 on_b.1 same in
      λ i. OfHeavyEdge (told.0 i) (told.1 i)

  pub viewed : IsViewed shape store g vertices edges
  viewed = record {
    vertex_keys = is.vertex_keys;
    edge_keys = is.edge_keys;
    each = object_held;
    apart = objects_apart;
    rest = λ place unheld. is.rest place
        (λ here. unheld 0 (Reserved 0) (omega (arith, ranges.ranks), omega arith) (sym here))
        (λ bucket. unheld place.rank (Reserved place.block) (bucket.rank, omega (arith, bucket.block)) refl)
        (λ slot. unheld place.rank (Reserved place.block) (slot.rank, slot.block.1) refl)
        (All-places shape g well vertices edges is.vertex_keys is.edge_keys (λ other. other ≢ place)
        (λ id there. unheld (home_of shape id) (OfVertex id) (refl, there))
        (λ key heavy. unheld (home_of shape key.source) (OfHeavyEdge key.source key.ordinal) (refl, heavy)));
    within = is.within;
  }
