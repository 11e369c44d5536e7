-- Where there is room: how many blocks bare graphs use and need at most.
use Rattle.std.proofs.Common.{◌≡◌, ℕ, suc, ◌+◌, ◌*◌, ◌-◌, ◌≤◌, Bool, true, false, cond, ◌||◌, not, List, [], ◌∷◌, ◌++◌, map, length, get_or, if◌then◌else◌, Option, Some, None, refl, ap, subst, ◌∙◌, arith, eqb, ltb}
use Rattle.std.specs.Prelude as prelude
use Rattle.std.specs.List.{AllByRecursion, count_by, sum_by, filter, range_with_len, list_all}
use Rattle.std.specs.Option.{option_map_or, option_to_list, option_or}
use Rattle.std.specs.Ordering.{nat_cmp, eq_by_cmp}
use Rattle.std.proofs.lemmas.Bool.{le-ltb}
use Rattle.std.proofs.lemmas.List.{length-append}
use Rattle.std.proofs.lemmas.List.Sums.{sum_by-cons, sum_by-append, sum_by-le, count_by-le-length}
use Rattle.std.proofs.lemmas.List.FromFn.{length-range_with_len}
use Rattle.gdi_kinds.specs.declared.call.Call.{Call}
use Rattle.gdi_kinds.specs.declared.call.Call.TheVariants as call
use Rattle.gdi_kinds.specs.declared.txn.Txn.{Txn}
use Rattle.rma_layout.specs.Shape.{Shape, standard_shape, reserved_blocks}
use Rattle.rma_layout.specs.Placement.{Place, home_of}
use Rattle.graph_model.specs.Maps.{keys}
use Rattle.graph_model.specs.Graph.{Graph, Vertex, new_vertex, vertex_at}
use Rattle.graph_model.specs.Sizes.{words_of_vertex, words_of_bucket, words_of_slot, words_of_names, blocks_of_words}
use Rattle.graph_model.specs.Calls.{graph_after_call}
use Rattle.gdi_kinds.specs.Calls.{is_writing}
use Rattle.graph_model.specs.Capacity.{Object, is_object, words_of_reserved, blocks_of_object, objects_on, blocks_used_on, growth_of, graphs_along, make_of, makes, blocks_needed_on, short_at_make, short_at_commit, full_rank}
use Rattle.graph_model.specs.Capacity.Object.{Reserved, OfVertex}
use Rattle.graph_model.specs.Bare.{bare_graph, IsBareCall, is_vertex_call}
use Rattle.graph_model.proofs.Sums.{sum_by-map}
use Rattle.graph_model.proofs.Sets.{length-filter-le}
use Rattle.graph_model.proofs.Bare.{ids_after_call, ids_after_calls, graph_after_call-bare, graph_after_calls-bare, length-after_calls, words_of_bucket-bare, is_in_bucket}

sum_by-bounded : {X : Type 0} (f : X → ℕ) (m : ℕ) (xs : List X) → ((x : X) → f x ≤ m) → sum_by f xs ≤ length xs * m
sum_by-bounded f m xs each = sum_by-le f m xs (λ k d within. each (get_or xs k d))

find-none : {X : Type 0} (p : X → Bool) (xs : List X) → ((x : X) → p x ≡ false) → prelude.find p xs ≡ None
find-none p [] none = refl
find-none p (x ∷ xs) none = rw (none x) (find-none p xs none)

-- a vertex of a bare graph is new
vertex_at-bare : (P : Option Vertex → Type 0) (ids : List ℕ) (id : ℕ) → P None → P (Some new_vertex) → P (vertex_at (bare_graph ids) id)
vertex_at-bare P [] id none some = none
vertex_at-bare P (x ∷ xs) id none some =
    elim (eq_by_cmp nat_cmp id x) as (λ same. P (cond same (Some new_vertex) (vertex_at (bare_graph xs) id))) [
      | true ↦ some
      | false ↦ vertex_at-bare P xs id none some
    ]

-- the words of its objects
words_of_slot-bare : (shape : Shape) (ids : List ℕ) (place : Place) → words_of_slot shape (bare_graph ids) place ≡ 0
words_of_slot-bare shape [] place = refl
words_of_slot-bare shape (x ∷ xs) place = words_of_slot-bare shape xs place

words_of_reserved-bare : (shape : Shape) (ids : List ℕ) (rank block : ℕ) → words_of_reserved shape (bare_graph ids) rank block ≤ 2 * length ids
words_of_reserved-bare shape ids rank block =
    elim (eqb block 0) as (λ first. (if first then (if eqb rank 0 then words_of_names g else 0) else (if ltb shape.buckets block then words_of_slot shape g place else words_of_bucket shape g place)) ≤ 2 * length ids) [
      | true ↦ elim (eqb rank 0) as (λ first. (if first then words_of_names g else 0) ≤ 2 * length ids) [ true ↦ omega arith | false ↦ omega arith ]
      | false ↦ elim (ltb shape.buckets block) as (λ slot. (if slot then words_of_slot shape g place else words_of_bucket shape g place) ≤ 2 * length ids) [
        | true ↦ omega (arith, words_of_slot-bare shape ids place)
        | false ↦ omega (arith, words_of_bucket-bare shape ids place, count_by-le-length (is_in_bucket shape place) ids)
      ]
    ]
  where
    g : Graph
    g = bare_graph ids

    place : Place
    place = record { rank = rank; block = block }

words_of_vertex-bare : (ids : List ℕ) (id : ℕ) → option_map_or (words_of_vertex (bare_graph ids) id) (vertex_at (bare_graph ids) id) 0 ≤ 5
words_of_vertex-bare ids id = vertex_at-bare (λ found. option_map_or (words_of_vertex (bare_graph ids) id) found 0 ≤ 5) ids id (omega arith) (omega arith)

length-keys-bare : (ids : List ℕ) → length (keys (bare_graph ids).vertices) ≡ length ids
length-keys-bare [] = refl
length-keys-bare (x ∷ xs) = ap suc (length-keys-bare xs)

-- a sum over the objects on a rank, where a reserved one gives at most so much and a vertex at most 1
sum_by-objects : (shape : Shape) (ids : List ℕ) (rank most : ℕ) (f : Object → ℕ) → ((block : ℕ) → f (Reserved block) ≤ most) → ((id : ℕ) → f (OfVertex id) ≤ 1)
    → sum_by f (objects_on shape (bare_graph ids) rank) ≤ reserved_blocks shape * most + length ids
sum_by-objects shape ids rank most f reserved light =
    let blocks = range_with_len 0 (reserved_blocks shape) in
    let here = filter (λ id. eqb (home_of shape id) rank) (keys (bare_graph ids).vertices) in
    let parts = sum_by-append f (map Reserved blocks ++ map OfVertex here) [] in
    let front = sum_by-append f (map Reserved blocks) (map OfVertex here) in
    let of_blocks : sum_by f (map Reserved blocks) ≤ reserved_blocks shape * most =
    rw (sum_by-map f Reserved blocks) (subst (λ n. sum_by (λ block. f (Reserved block)) blocks ≤ n * most) (length-range_with_len 0 (reserved_blocks shape)) (sum_by-bounded (λ block. f (Reserved block)) most blocks reserved)) in
    let of_vertices : sum_by f (map OfVertex here) ≤ length here * 1 =
    rw (sum_by-map f OfVertex here) (sum_by-bounded (λ id. f (OfVertex id)) 1 here light) in
    let few : length here ≤ length ids = omega (arith, length-filter-le (λ id. eqb (home_of shape id) rank) (keys (bare_graph ids).vertices), length-keys-bare ids) in
    omega arith

growth_of-le : (shape : Shape) (before after : Graph) (along : List Graph) (rank : ℕ) (object : Object) → growth_of shape before after along rank object ≤ blocks_of_object shape after rank object
growth_of-le shape before after along rank object =
    let blocks = blocks_of_object shape after rank object in
    elim (list_all (λ g. is_object g object) along) as (λ kept. (if kept then blocks - blocks_of_object shape before rank object else blocks - 1) ≤ blocks) [ true ↦ omega arith | false ↦ omega arith ]

-- a call makes one object at most, and only a call for a vertex makes one
length-option_to_list : (o : Option ℕ) → length (option_to_list o) ≤ 1
length-option_to_list None = omega arith
length-option_to_list (Some x) = omega arith

length-make_of : (shape : Shape) (g : Graph) (c : Call) → IsBareCall c → length (option_to_list (make_of shape g c)) ≤ cond (is_vertex_call c) 1 0
length-make_of shape g (call.Vertex id) bare = length-option_to_list (make_of shape g (call.Vertex id))
length-make_of shape g (call.Has id) bare = omega arith
length-make_of shape g (call.DropVertex id) bare = omega arith
length-make_of shape g other bare = absurd bare

length-makes : (shape : Shape) (ids : List ℕ) (cs : List Call) → AllByRecursion IsBareCall cs → length (makes shape (bare_graph ids) cs) ≤ count_by is_vertex_call cs
length-makes shape ids [] bare = omega arith
length-makes shape ids (c ∷ cs) bare =
    let later : length (makes shape (graph_after_call shape (bare_graph ids) c) cs) ≤ count_by is_vertex_call cs =
    rw (graph_after_call-bare shape ids c bare.0) (length-makes shape (ids_after_call shape ids c) cs bare.1) in
    omega (arith, later, length-make_of shape (bare_graph ids) c bare.0, sum_by-cons (λ z. cond (is_vertex_call z) 1 0) c cs, length-append (option_to_list (make_of shape (bare_graph ids) c)) (makes shape (graph_after_call shape (bare_graph ids) c) cs))

-- no make is short where the blocks are enough for all of them on any rank
short_at_make-none : (shape : Shape) (g : Graph) (used : ℕ) → ((rank : ℕ) → blocks_used_on shape g rank ≤ used) → (earlier ranks : List ℕ) → used + length earlier + length ranks ≤ shape.blocks → short_at_make shape g earlier ranks ≡ None
short_at_make-none shape g used each earlier [] room = refl
short_at_make-none shape g used each earlier (rank ∷ ranks) room =
    let now = blocks_used_on shape g rank + count_by (λ r. eqb r rank) earlier + 1 in
    let fits : now ≤ shape.blocks = omega (arith, each rank, count_by-le-length (λ r. eqb r rank) earlier) in
    ap (λ full. if full then Some rank else short_at_make shape g (rank ∷ earlier) ranks) (le-ltb shape.blocks now fits)
    ∙ short_at_make-none shape g used each (rank ∷ earlier) ranks (omega arith)

-- On the shape, a bare graph of at most `many` vertices takes at most `most` blocks for a reserved object and 1 for a
-- vertex, and there are blocks for all of them twice.
pub record HasRoomFor (shape : Shape) (many most : ℕ) : Type 0 where
  reserved : (words : ℕ) → words ≤ 2 * many → blocks_of_words shape words ≤ most
  light : (words : ℕ) → words ≤ 5 → blocks_of_words shape words ≤ 1
  enough : 2 * (reserved_blocks shape * most) + 3 * many ≤ shape.blocks

module _ (shape : Shape) (many most : ℕ) (room : HasRoomFor shape many most) where
  blocks_of_reserved-bare : (ids : List ℕ) (rank block : ℕ) → length ids ≤ many → blocks_of_object shape (bare_graph ids) rank (Reserved block) ≤ most
  blocks_of_reserved-bare ids rank block few = room.reserved _ (omega (arith, words_of_reserved-bare shape ids rank block))

  blocks_of_vertex-bare : (ids : List ℕ) (rank id : ℕ) → blocks_of_object shape (bare_graph ids) rank (OfVertex id) ≤ 1
  blocks_of_vertex-bare ids rank id = room.light _ (words_of_vertex-bare ids id)

  blocks_used_on-bare : (ids : List ℕ) (rank : ℕ) → length ids ≤ many → blocks_used_on shape (bare_graph ids) rank ≤ reserved_blocks shape * most + length ids
  blocks_used_on-bare ids rank few =
      sum_by-objects shape ids rank most (blocks_of_object shape (bare_graph ids) rank) (λ block. blocks_of_reserved-bare ids rank block few) (blocks_of_vertex-bare ids rank)

  growth-bare : (before : Graph) (along : List Graph) (ids : List ℕ) (rank : ℕ) → length ids ≤ many
      → sum_by (growth_of shape before (bare_graph ids) along rank) (objects_on shape (bare_graph ids) rank) ≤ reserved_blocks shape * most + length ids
  growth-bare before along ids rank few =
      let growth = growth_of shape before (bare_graph ids) along rank in
      let least = growth_of-le shape before (bare_graph ids) along rank in
      sum_by-objects shape ids rank most growth
      (λ block. omega (arith, least (Reserved block), blocks_of_reserved-bare ids rank block few))
      (λ id. omega (arith, least (OfVertex id), blocks_of_vertex-bare ids rank id))

  blocks_needed_on-bare : (ids : List ℕ) (cs : List Call) (rank : ℕ) → AllByRecursion IsBareCall cs → length ids + count_by is_vertex_call cs ≤ many
      → blocks_needed_on shape (bare_graph ids) cs rank ≤ count_by is_vertex_call cs + (reserved_blocks shape * most + many)
  blocks_needed_on-bare ids cs rank bare few =
      let g = bare_graph ids in
      let after = ids_after_calls shape ids cs in
      let along = graphs_along shape g cs in
      let made = count_by-le-length (λ r. eqb r rank) (makes shape g cs) in
      let grown = growth-bare g along after rank (omega (arith, length-after_calls shape ids cs)) in
      let grown_after = λ (h : Graph). sum_by (growth_of shape g h along rank) (objects_on shape h rank) in
      let same = ap grown_after (graph_after_calls-bare shape ids cs bare) in
      omega (arith, made, length-makes shape ids cs bare, grown, same, length-after_calls shape ids cs)

  short_at_commit-bare : (ids : List ℕ) (cs : List Call) → AllByRecursion IsBareCall cs → length ids + count_by is_vertex_call cs ≤ many → short_at_commit shape (bare_graph ids) cs ≡ None
  short_at_commit-bare ids cs bare few =
      let g = bare_graph ids in
      let fits : (rank : ℕ) → blocks_used_on shape g rank + blocks_needed_on shape g cs rank ≤ shape.blocks =
      λ rank. omega (arith, blocks_used_on-bare ids rank (omega arith), blocks_needed_on-bare ids cs rank bare few, room.enough) in
      find-none (λ rank. ltb shape.blocks (blocks_used_on shape g rank + blocks_needed_on shape g cs rank)) (range_with_len 0 shape.ranks) (λ rank. le-ltb _ _ (fits rank))

  short_at_make-bare : (ids : List ℕ) (cs : List Call) → AllByRecursion IsBareCall cs → length ids + count_by is_vertex_call cs ≤ many → short_at_make shape (bare_graph ids) [] (makes shape (bare_graph ids) cs) ≡ None
  short_at_make-bare ids cs bare few =
      let used : (rank : ℕ) → blocks_used_on shape (bare_graph ids) rank ≤ reserved_blocks shape * most + length ids = λ rank. blocks_used_on-bare ids rank (omega arith) in
      short_at_make-none shape (bare_graph ids) (reserved_blocks shape * most + length ids) used [] (makes shape (bare_graph ids) cs) (omega (arith, length-makes shape ids cs bare, room.enough))

  pub full_rank-bare : (ids : List ℕ) (txn : Txn) → AllByRecursion IsBareCall txn.calls → length ids + count_by is_vertex_call txn.calls ≤ many → full_rank shape (bare_graph ids) txn ≡ None
  unfolding full_rank
  full_rank-bare ids txn bare few =
      let at_make = short_at_make-bare ids txn.calls bare few in
      let at_commit = short_at_commit-bare ids txn.calls bare few in
      elim (txn.aborts || not (is_writing txn)) as (λ never. (if never then None else option_or (short_at_make shape (bare_graph ids) [] (makes shape (bare_graph ids) txn.calls)) (short_at_commit shape (bare_graph ids) txn.calls)) ≡ None) [
        | true ↦ refl
        | false ↦ rw (at_make, at_commit)
      ]

default_room : HasRoomFor standard_shape 500 67
default_room = record { reserved = λ words few. omega arith; light = λ words few. omega arith; enough = omega arith }

-- with at most 500 vertices, those that the calls may make included, no rank of the default shape is full
pub full_rank-default : (ids : List ℕ) (txn : Txn) → AllByRecursion IsBareCall txn.calls → length ids + count_by is_vertex_call txn.calls ≤ 500 → full_rank standard_shape (bare_graph ids) txn ≡ None
full_rank-default ids txn bare few = full_rank-bare standard_shape 500 67 default_room ids txn bare few
