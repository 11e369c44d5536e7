-- The objects of a rank as a list: their blocks are distinct, and a count over all blocks is a sum over them.
use Rattle.std.proofs.Common.{◌≡◌, ◌≢◌, ◌∙◌, ℕ, zero, suc, ◌+◌, ◌<◌, ◌≤◌, Bool, true, false, cond, ◌&&◌, List, [], ◌∷◌, ◌++◌, map, Option, Some, None, is_some, refl, sym, ap, subst, eq-eqb, arith}
use Rattle.std.specs.Prelude.{◌==◌, sum_by}
use Rattle.std.specs.Option.{option_map_or}
use Rattle.std.specs.List.{AllByRecursion, filter, range_with_len}
use Rattle.std.specs.Ordering.{nat_cmp}
use Rattle.std.specs.Cmp.{nat_cmp_total}
use Rattle.std.specs.FinMap.{nat_cmp-IsAntisymmetric}
use Rattle.std.proofs.lemmas.Bool.{and_parts, and_from, eqb-true}
use Rattle.std.proofs.lemmas.Bool.Decides.{nat_tests}
use Rattle.std.proofs.lemmas.List.Sums.{sum_by-cons}
use Rattle.rma_layout.specs.Shape.{Shape, reserved_blocks}
use Rattle.rma_layout.specs.Ranges.{IsInRange}
use Rattle.rma_layout.specs.Placement.{Place, home_of}
use Rattle.object_words.specs.Contents.{Contents, content_of}
use Rattle.object_words.specs.Blocks.{total_below, is_reserved, on_rank}
use Rattle.object_words.proofs.Places.{same_places}
use Rattle.graph_model.specs.Maps.{keys}
use Rattle.graph_model.specs.Graph.{Graph, Vertex, Edge, EdgeKey, edge_cmp, vertex_at, edge_at, is_vertex, is_heavy}
use Rattle.graph_model.specs.WellFormed.{IsWellFormed}
use Rattle.graph_model.specs.Capacity.{Object, Reserved, OfVertex, OfHeavyEdge, objects_on}
use Rattle.graph_model.proofs.Entries.{All-map, All-filter, All-find, IsMap-filter, edge_cmp_same, edge_cmp_total}
use Rattle.holder_codec.specs.Represents.{VertexObjects, EdgeObjects, object_of, edge_object_of}
use Rattle.object_view.specs.View.{IsOn, place_in, IsViewed}
use Rattle.holder_codec.proofs.Maps.{All-over_map, All-append, All-both, All-always, All-unfilter, All-from_find}
use Rattle.object_view.proofs.View.{All-of_map, All-split, AreDistinct, distinct-append, distinct_rising, heavy_edge}
use Rattle.object_view.proofs.Viewed.{less_apart}
use Rattle.object_view.proofs.Totals.{total_at}

-- ---- lists

range_from : (a n : ℕ) → AllByRecursion (λ m. a ≤ m) (range_with_len a n)
range_from a zero = tt
range_from a (suc n) = (omega arith, All-map (λ m. a + 1 ≤ m) (λ m. a ≤ m) (λ m above. omega arith) _ (range_from (a + 1) n))

range_below : (a n : ℕ) → AllByRecursion (λ m. m < a + n) (range_with_len a n)
range_below a zero = tt
range_below a (suc n) = (omega arith, All-map (λ m. m < (a + 1) + n) (λ m. m < a + suc n) (λ m below. omega arith) _ (range_below (a + 1) n))

-- what holds of a range holds of each number in it
pub range_at : (P : ℕ → Type 0) (a n k : ℕ) → AllByRecursion P (range_with_len a n) → a ≤ k → k < a + n → P k
range_at P a zero k all above below = absurd (omega arith)
range_at P a (suc n) k all above below = cases (λ more. range_at P (a + 1) n k all.1 more (omega arith)) (k == a) refl
  where
    cases : (a + 1 ≤ k → P k) → (t : Bool) → (k == a) ≡ t → P k
    cases later true is = subst P (sym (eqb-true k a is)) all.0
    cases later false is = later (let more : a + 1 ≤ k = grind (arith, nat_tests, is, above) in more)

distinct_range : (a n : ℕ) → AreDistinct (range_with_len a n)
distinct_range a zero = tt
distinct_range a (suc n) = (All-map (λ m. a + 1 ≤ m) (λ m. m ≢ a) (λ m above same. omega (arith, above, same)) _ (range_from (a + 1) n), distinct_range (a + 1) n)

distinct_filter : {X : Type 0} (p : X → Bool) (xs : List X) → AreDistinct xs → AreDistinct (filter p xs)
distinct_filter p [] distinct = tt
distinct_filter p (x ∷ xs) distinct =
    let rest = distinct_filter p xs distinct.1 in
    elim (p x) as (λ b. AreDistinct (cond b (x ∷ filter p xs) (filter p xs))) [ true ↦ (All-filter _ _ p (λ _ _ apart. apart) xs distinct.0, rest) | false ↦ rest ]

distinct_map : {X Y : Type 0} (P : X → Type 0) (f : X → Y) → ((a b : X) → P a → P b → f a ≡ f b → a ≡ b) → (xs : List X) → AllByRecursion P xs → AreDistinct xs → AreDistinct (map f xs)
distinct_map P f tells [] all distinct = tt
distinct_map P f tells (x ∷ xs) all distinct =
    (All-over_map (λ y. y ≢ f x) f xs (All-both P (λ b. b ≢ x) (λ b. f b ≢ f x) (λ b at_b apart same. apart (tells b x at_b all.0 same)) xs all.1 distinct.0), distinct_map P f tells xs all.1 distinct.1)

pub sum_of_map : {X Y : Type 0} (f : Y → ℕ) (h : X → Y) (xs : List X) → sum_by f (map h xs) ≡ sum_by (λ x. f (h x)) xs
sum_of_map f h [] = refl
sum_of_map f h (x ∷ xs) = sum_by-cons f (h x) (map h xs) ∙ ap (λ n. f (h x) + n) (sum_of_map f h xs) ∙ sym (sum_by-cons (λ z. f (h z)) x xs)

-- ---- the objects of a rank

module _ (shape : Shape) (g : Graph) (well : IsWellFormed g) (rank : ℕ) (within : rank < shape.ranks) where
  abbrev is_here : ℕ → Bool
  is_here id = home_of shape id == rank

  abbrev is_heavy_here : EdgeKey × Edge → Bool
  is_heavy_here entry = is_heavy entry.1 && home_of shape entry.0.source == rank

  abbrev of_edge : EdgeKey × Edge → Object
  of_edge entry = OfHeavyEdge entry.0.source entry.0.ordinal

  abbrev reserved_ones : List Object
  reserved_ones = map Reserved (range_with_len 0 (reserved_blocks shape))

  abbrev vertex_ones : List Object
  vertex_ones = map OfVertex (filter is_here (keys g.vertices))

  abbrev edge_ones : List Object
  edge_ones = map of_edge (filter is_heavy_here g.edges)

  each_reserved : AllByRecursion (IsOn shape g rank) reserved_ones
  each_reserved = All-over_map (IsOn shape g rank) Reserved (range_with_len 0 (reserved_blocks shape)) (All-map (λ m. m < 0 + reserved_blocks shape) (λ m. IsOn shape g rank (Reserved m)) (λ m below. (within, omega arith)) _ (range_below 0 (reserved_blocks shape)))

  each_vertex : AllByRecursion (IsOn shape g rank) vertex_ones
  each_vertex = All-over_map (IsOn shape g rank) OfVertex (filter is_here (keys g.vertices))
      (All-filter (λ id. is_vertex g id ≡ true) (λ id. IsOn shape g rank (OfVertex id)) is_here (λ id here there. (eqb-true _ _ here, there)) (keys g.vertices)
      (All-over_map (λ id. is_vertex g id ≡ true) (λ entry. entry.0) g.vertices (All-from_find nat_cmp nat_cmp_total nat_cmp-IsAntisymmetric (λ entry. is_vertex g entry.0 ≡ true) g.vertices well.vertices (λ id vertex found. ap is_some found))))

  each_edge : AllByRecursion (IsOn shape g rank) edge_ones
  each_edge = All-over_map (IsOn shape g rank) of_edge (filter is_heavy_here g.edges)
      (All-filter (λ entry. edge_at g entry.0.source entry.0.ordinal ≡ Some entry.1) (λ entry. IsOn shape g rank (of_edge entry)) is_heavy_here
      (λ entry passes found. let parts = and_parts (is_heavy entry.1) (home_of shape entry.0.source == rank) passes in (eqb-true _ _ parts.1, ap (λ o. option_map_or is_heavy o false) found ∙ parts.0)) g.edges
      (All-from_find edge_cmp edge_cmp_total edge_cmp_same (λ entry. edge_at g entry.0.source entry.0.ordinal ≡ Some entry.1) g.edges well.edges (λ key edge found. found)))

  pub each_on : AllByRecursion (IsOn shape g rank) (objects_on shape g rank)
  each_on = All-append (IsOn shape g rank) (reserved_ones ++ vertex_ones) edge_ones (All-append (IsOn shape g rank) reserved_ones vertex_ones each_reserved each_vertex) each_edge

  -- and they are all
  pub on_each : (P : Object → Type 0) → AllByRecursion P (objects_on shape g rank) → (object : Object) → IsOn shape g rank object → P object
  on_each P all (Reserved block) on =
      range_at (λ m. P (Reserved m)) 0 (reserved_blocks shape) block (All-of_map P Reserved _ (All-split P reserved_ones vertex_ones (All-split P (reserved_ones ++ vertex_ones) edge_ones all).0).0) (omega arith) (omega (arith, on.1))
  on_each P all (OfVertex id) on =
      let those = All-of_map P OfVertex _ (All-split P reserved_ones vertex_ones (All-split P (reserved_ones ++ vertex_ones) edge_ones all).0).1 in
      let each = All-of_map (λ q. is_here q ≡ true → P (OfVertex q)) (λ entry. entry.0) g.vertices (All-unfilter is_here (λ q. P (OfVertex q)) (keys g.vertices) those) in
      let vertex = some_vertex (vertex_at g id) on.1 in
      All-find nat_cmp nat_cmp-IsAntisymmetric (λ entry. is_here entry.0 ≡ true → P (OfVertex entry.0)) id vertex.0 g.vertices each vertex.1 (eq-eqb _ _ on.0)
    where
      some_vertex : (o : Option Vertex) → is_some o ≡ true → (vertex : Vertex) × (o ≡ Some vertex)
      some_vertex (Some vertex) there = (vertex, refl)
      some_vertex None there = absurd cc
  on_each P all (OfHeavyEdge source ordinal) on =
      let those = All-of_map P of_edge _ (All-split P (reserved_ones ++ vertex_ones) edge_ones all).1 in
      let each = All-unfilter is_heavy_here (λ entry. P (of_edge entry)) g.edges those in
      let edge = heavy_edge (edge_at g source ordinal) on.1 in
      All-find edge_cmp edge_cmp_same (λ entry. is_heavy_here entry ≡ true → P (of_edge entry)) (record { source = source; ordinal = ordinal }) edge.0 g.edges each edge.1
      (and_from (is_heavy edge.0) (home_of shape source == rank) edge.2 (eq-eqb _ _ on.0))

  distinct_objects : AreDistinct (objects_on shape g rank)
  distinct_objects = distinct-append (reserved_ones ++ vertex_ones) edge_ones
      (distinct-append reserved_ones vertex_ones
      (distinct_map (λ m. Unit {0}) Reserved (λ a b _ _ same. cc) (range_with_len 0 (reserved_blocks shape)) (All-always (λ _. tt) _) (distinct_range 0 (reserved_blocks shape)))
      (distinct_map (λ m. Unit {0}) OfVertex (λ a b _ _ same. cc) (filter is_here (keys g.vertices)) (All-always (λ _. tt) _)
      (distinct_filter is_here (keys g.vertices) (distinct_rising nat_cmp (λ _. Unit {0}) (λ entry. entry.0) (λ a b _ _ less same. less_apart nat_cmp nat_cmp_total a.0 b.0 less same) g.vertices (All-always (λ _. tt) _) well.vertices)))
      (All-over_map (λ x. AllByRecursion (λ other. other ≢ x) vertex_ones) Reserved (range_with_len 0 (reserved_blocks shape)) (All-always (λ block. All-over_map (λ other. other ≢ Reserved block) OfVertex (filter is_here (keys g.vertices)) (All-always (λ id same. absurd cc) _)) _)))
      (distinct_rising edge_cmp (λ _. Unit {0}) of_edge (λ a b _ _ less same. less_apart edge_cmp edge_cmp_total a.0 b.0 less (key_told b.0 a.0 same)) (filter is_heavy_here g.edges) (All-always (λ _. tt) _) (IsMap-filter edge_cmp is_heavy_here g.edges well.edges))
      (All-append (λ x. AllByRecursion (λ other. other ≢ x) edge_ones) reserved_ones vertex_ones
      (All-over_map (λ x. AllByRecursion (λ other. other ≢ x) edge_ones) Reserved (range_with_len 0 (reserved_blocks shape)) (All-always (λ block. All-over_map (λ other. other ≢ Reserved block) of_edge (filter is_heavy_here g.edges) (All-always (λ entry same. absurd cc) _)) _))
      (All-over_map (λ x. AllByRecursion (λ other. other ≢ x) edge_ones) OfVertex (filter is_here (keys g.vertices)) (All-always (λ id. All-over_map (λ other. other ≢ OfVertex id) of_edge (filter is_heavy_here g.edges) (All-always (λ entry same. absurd cc) _)) _)))
    where
      key_told : (a b : EdgeKey) → OfHeavyEdge a.source a.ordinal ≡ OfHeavyEdge b.source b.ordinal → a ≡ b
      key_told a b same =
          let sources : a.source ≡ b.source = cc in
          let ordinals : a.ordinal ≡ b.ordinal = cc in
          λ i. record { source = sources i; ordinal = ordinals i }

  module _ (store : Contents) (vertices : VertexObjects) (edges : EdgeObjects) (ranges : IsInRange shape) (v : IsViewed shape store g vertices edges) where
    abbrev pub block_in : Object → ℕ
    block_in object = (place_in vertices edges rank object).block

    pub is_on_rank : (r : ℕ) (object : Object) → IsOn shape g r object → place_in vertices edges r object ≡ on_rank r (place_in vertices edges r object).block
    is_on_rank r (Reserved block) on = refl
    is_on_rank r (OfVertex id) on = same_places (object_of vertices id) (on_rank r (object_of vertices id).block) (v.each r (OfVertex id) on).place.home refl
    is_on_rank r (OfHeavyEdge source ordinal) on = same_places (edge_object_of edges (record { source = source; ordinal = ordinal })) (on_rank r (edge_object_of edges (record { source = source; ordinal = ordinal })).block) (v.each r (OfHeavyEdge source ordinal) on).place.home refl

    is_block : (object : Object) → IsOn shape g rank object → block_in object < shape.blocks
    is_block (Reserved block) on = omega (arith, on.1, ranges.blocks)
    is_block (OfVertex id) on = (v.each rank (OfVertex id) on).place.block
    is_block (OfHeavyEdge source ordinal) on = (v.each rank (OfHeavyEdge source ordinal) on).place.block

    moved : (k : ℕ) → ((object : Object) → IsOn shape g rank object → block_in object ≢ k) → (r : ℕ) (object : Object) → r ≡ rank → IsOn shape g r object → (place_in vertices edges r object).block ≡ k → ⊥
    moved k apart r object same on here = apart object (subst (λ q. IsOn shape g q object) same on) (sym (ap (λ q. (place_in vertices edges q object).block) same) ∙ here)

    pub total_objects : (count : ℕ → ℕ) → ((block : ℕ) → is_reserved shape block ≡ false → content_of store (on_rank rank block) ≡ [] → count block ≡ 0)
        → total_below shape.blocks count ≡ sum_by (λ object. count (block_in object)) (objects_on shape g rank)
    total_objects count nothing =
        total_at shape.blocks count (map block_in (objects_on shape g rank))
        (distinct_map (IsOn shape g rank) block_in (λ a b on_a on_b same. v.apart rank a b on_a on_b (is_on_rank rank a on_a ∙ ap (on_rank rank) same ∙ sym (is_on_rank rank b on_b))) (objects_on shape g rank) each_on distinct_objects)
        (All-over_map (λ b. b < shape.blocks) block_in (objects_on shape g rank) (All-map (IsOn shape g rank) (λ o. block_in o < shape.blocks) is_block (objects_on shape g rank) each_on))
        (λ k apart. elsewhere k (on_each (λ o. block_in o ≢ k) (All-of_map (λ b. b ≢ k) block_in (objects_on shape g rank) apart)) (is_reserved shape k) refl)
        ∙ sum_of_map count block_in (objects_on shape g rank)
      where
        elsewhere : (k : ℕ) → ((object : Object) → IsOn shape g rank object → block_in object ≢ k) → (t : Bool) → is_reserved shape k ≡ t → count k ≡ 0
        elsewhere k apart true is = absurd (apart (Reserved k) (within, (let below : k < reserved_blocks shape = grind (arith, nat_tests, is) in below)) refl)
        elsewhere k apart false is = nothing k is (v.rest (on_rank rank k) (λ r object on here.
            let same : r ≡ rank = sym (ap (λ (p : Place). p.rank) (is_on_rank r object on)) ∙ ap (λ (p : Place). p.rank) here in
            moved k apart r object same on (ap (λ (p : Place). p.block) here)))
