-- The object view of a graph's store says that it represents the graph.
use Rattle.std.proofs.Common.{◌≡◌, ◌≢◌, ◌∙◌, ℕ, ◌<◌, ◌≤◌, Bool, true, false, cond, ◌&&◌, [], ◌++◌, is_some, nat_lt, refl, sym, ap, arith}
use Rattle.std.specs.Prelude.{◌==◌}
use Rattle.std.specs.Option.{unwrap_or, option_map_or}
use Rattle.std.specs.List.{AllByRecursion}
use Rattle.std.specs.Ordering.{nat_cmp, is_lt}
use Rattle.std.specs.declared.cmp.Ordering.{Ordering}
use Rattle.std.specs.Cmp.{IsTotalOrder, nat_cmp_total, tied_itself}
use Rattle.std.specs.FinMap.{nat_cmp-IsAntisymmetric}
use Rattle.std.proofs.lemmas.Bool.{and_parts, eqb-true, false≢true}
use Rattle.std.proofs.lemmas.Bool.Decides.{nat_tests}
use Rattle.rma_layout.specs.Shape.{Shape, reserved_blocks}
use Rattle.rma_layout.specs.Ranges.{IsInRange}
use Rattle.rma_layout.specs.Placement.{Place, home_of, metadata}
use Rattle.object_words.specs.Contents.{Contents, content_of}
use Rattle.object_words.proofs.Places.{same_places}
use Rattle.graph_model.specs.Maps.{IsMap}
use Rattle.graph_model.specs.Graph.{Graph, EdgeKey, edge_cmp, is_vertex, is_heavy, is_heavy_at}
use Rattle.graph_model.specs.WellFormed.{IsWellFormed}
use Rattle.graph_model.specs.Capacity.{Reserved, OfVertex, OfHeavyEdge}
use Rattle.graph_model.proofs.Entries.{All-map, edge_cmp_same, edge_cmp_total}
use Rattle.holder_codec.specs.Bucket.{bucket_words}
use Rattle.holder_codec.specs.Vertex.{vertex_words}
use Rattle.holder_codec.specs.Holders.{edge_words, names_words}
use Rattle.holder_codec.specs.Represents.{VertexObjects, EdgeObjects, object_of, edge_object_of, IsBucket, IsSlot, entries_of, holder_of, VertexIsHeld, EdgeIsHeld, heavy_edges, AreApart, places_in, IsRepresented}
use Rattle.object_view.specs.View.{index_words, reserved_words, IsUnheld, IsViewed}
use Rattle.holder_codec.proofs.Maps.{All-over_map, All-from_find, IsMap-by_keys, find-by_keys, found_of_filter}
use Rattle.object_view.proofs.View.{All-split, distinct-append, distinct_rising, distinct_apart, at_vertex, at_edge, heavy_rises}

pub less_apart : {K : Type 0} (R : K → K → Ordering) → IsTotalOrder R → (a b : K) → is_lt (R a b) ≡ true → b ≡ a → ⊥
less_apart R total a b less same = false≢true (sym (ap is_lt (tied_itself total a)) ∙ sym (ap (λ q. is_lt (R a q)) same) ∙ less)

module _ (shape : Shape) (store : Contents) (g : Graph) (well : IsWellFormed g) (vertices : VertexObjects) (edges : EdgeObjects) (ranges : IsInRange shape) (v : IsViewed shape store g vertices edges) where
  opened : (rank block : ℕ) (z r s : Bool) → (block == 0) ≡ z → (rank == 0) ≡ r → nat_lt shape.buckets block ≡ s
      → reserved_words shape g vertices rank block ≡ cond z (cond r (names_words g.labels g.types) []) (cond s (index_words shape g (record { rank = rank; block = block })) (bucket_words (record { entries = entries_of shape vertices (record { rank = rank; block = block }) })))
  opened rank block z r s is_z is_r is_s = λ i. cond (is_z i) (cond (is_r i) (names_words g.labels g.types) []) (cond (is_s i) (index_words shape g (record { rank = rank; block = block })) (bucket_words (record { entries = entries_of shape vertices (record { rank = rank; block = block }) })))

  same_vertex : (a b : ℕ) → is_vertex g a ≡ true → is_vertex g b ≡ true → object_of vertices a ≡ object_of vertices b → a ≡ b
  same_vertex a b at_a at_b same =
      let home : home_of shape a ≡ home_of shape b = sym (v.each (home_of shape a) (OfVertex a) (refl, at_a)).place.home ∙ ap (λ (p : Place). p.rank) same ∙ (v.each (home_of shape b) (OfVertex b) (refl, at_b)).place.home in
      let one : OfVertex a ≡ OfVertex b = v.apart (home_of shape b) (OfVertex a) (OfVertex b) (home, at_a) (refl, at_b) same in
      cc

  same_key : (a b : EdgeKey) → is_heavy_at g a.source a.ordinal ≡ true → is_heavy_at g b.source b.ordinal ≡ true → edge_object_of edges a ≡ edge_object_of edges b → a ≡ b
  same_key a b at_a at_b same =
      let home : home_of shape a.source ≡ home_of shape b.source = sym (v.each (home_of shape a.source) (OfHeavyEdge a.source a.ordinal) (refl, at_a)).place.home ∙ ap (λ (p : Place). p.rank) same ∙ (v.each (home_of shape b.source) (OfHeavyEdge b.source b.ordinal) (refl, at_b)).place.home in
      let one : OfHeavyEdge a.source a.ordinal ≡ OfHeavyEdge b.source b.ordinal = v.apart (home_of shape b.source) (OfHeavyEdge a.source a.ordinal) (OfHeavyEdge b.source b.ordinal) (home, at_a) (refl, at_b) same in
      let sources : a.source ≡ b.source = cc in
      let ordinals : a.ordinal ≡ b.ordinal = cc in
      λ i. record { source = sources i; ordinal = ordinals i }

  vertex_no_edge : (a : ℕ) (b : EdgeKey) → is_vertex g a ≡ true → is_heavy_at g b.source b.ordinal ≡ true → edge_object_of edges b ≡ object_of vertices a → ⊥
  vertex_no_edge a b at_a at_b same =
      let home : home_of shape b.source ≡ home_of shape a = sym (v.each (home_of shape b.source) (OfHeavyEdge b.source b.ordinal) (refl, at_b)).place.home ∙ ap (λ (p : Place). p.rank) same ∙ (v.each (home_of shape a) (OfVertex a) (refl, at_a)).place.home in
      let one : OfHeavyEdge b.source b.ordinal ≡ OfVertex a = v.apart (home_of shape a) (OfHeavyEdge b.source b.ordinal) (OfVertex a) (home, at_b) (refl, at_a) same in
      absurd cc

  abbrev IsVertexEntry : ℕ × Place → Type 0
  IsVertexEntry entry = (object_of vertices entry.0 ≡ entry.1) × (is_vertex g entry.0 ≡ true)

  abbrev IsEdgeEntry : EdgeKey × Place → Type 0
  IsEdgeEntry entry = (edge_object_of edges entry.0 ≡ entry.1) × (is_heavy_at g entry.0.source entry.0.ordinal ≡ true)

  vertices_rise : IsMap nat_cmp vertices
  vertices_rise = IsMap-by_keys nat_cmp vertices g.vertices v.vertex_keys well.vertices

  edges_rise : IsMap edge_cmp edges
  edges_rise = IsMap-by_keys edge_cmp edges (heavy_edges g.edges) v.edge_keys (heavy_rises shape g well vertices edges v.vertex_keys v.edge_keys)

  each_vertex_entry : AllByRecursion IsVertexEntry vertices
  each_vertex_entry = All-from_find nat_cmp nat_cmp_total nat_cmp-IsAntisymmetric IsVertexEntry vertices vertices_rise (λ id place found.
      (ap (λ o. unwrap_or o metadata) found, ap is_some (find-by_keys nat_cmp vertices g.vertices id place v.vertex_keys found).1))

  each_edge_entry : AllByRecursion IsEdgeEntry edges
  each_edge_entry = All-from_find edge_cmp edge_cmp_total edge_cmp_same IsEdgeEntry edges edges_rise (λ key place found.
      let edge = find-by_keys edge_cmp edges (heavy_edges g.edges) key place v.edge_keys found in
      let there = found_of_filter edge_cmp edge_cmp_total edge_cmp_same (λ entry. is_heavy entry.1) g.edges key edge.0 well.edges edge.1 in
      (ap (λ o. unwrap_or o metadata) found, ap (λ o. option_map_or is_heavy o false) there.0 ∙ there.1))

  all_apart : AreApart (places_in vertices ++ places_in edges)
  all_apart = distinct_apart _ (distinct-append (places_in vertices) (places_in edges)
      (distinct_rising nat_cmp IsVertexEntry (λ entry. entry.1) (λ a b at_a at_b less same. less_apart nat_cmp nat_cmp_total a.0 b.0 less (same_vertex b.0 a.0 at_b.1 at_a.1 (at_b.0 ∙ same ∙ sym at_a.0))) vertices each_vertex_entry vertices_rise)
      (distinct_rising edge_cmp IsEdgeEntry (λ entry. entry.1) (λ a b at_a at_b less same. less_apart edge_cmp edge_cmp_total a.0 b.0 less (same_key b.0 a.0 at_b.1 at_a.1 (at_b.0 ∙ same ∙ sym at_a.0))) edges each_edge_entry edges_rise)
      (All-over_map (λ place. AllByRecursion (λ other. other ≢ place) (places_in edges)) (λ entry. entry.1) vertices
      (All-map IsVertexEntry (λ a. AllByRecursion (λ other. other ≢ a.1) (places_in edges)) (λ a at_a.
      All-over_map (λ other. other ≢ a.1) (λ entry. entry.1) edges (All-map IsEdgeEntry (λ b. b.1 ≢ a.1) (λ b at_b same. vertex_no_edge a.0 b.0 at_a.1 at_b.1 (at_b.0 ∙ same ∙ sym at_a.0)) edges each_edge_entry))
      vertices each_vertex_entry)))

  nothing_else : (place : Place) → place ≢ metadata → (IsBucket shape place → ⊥) → (IsSlot shape place → ⊥) → AllByRecursion (λ other. other ≢ place) (places_in vertices ++ places_in edges) → content_of store place ≡ []
  nothing_else place not_metadata not_bucket not_slot not_held = cases (nat_lt place.rank shape.ranks && nat_lt place.block (reserved_blocks shape)) refl
    where
      reserved : place.rank < shape.ranks → place.block < reserved_blocks shape → (z r s : Bool) → (place.block == 0) ≡ z → (place.rank == 0) ≡ r → nat_lt shape.buckets place.block ≡ s → content_of store place ≡ []
      reserved within below true true s is_z is_r is_s = absurd (not_metadata (same_places place metadata (eqb-true place.rank 0 is_r) (eqb-true place.block 0 is_z)))
      reserved within below true false s is_z is_r is_s = (v.each place.rank (Reserved place.block) (within, below)).words ∙ opened place.rank place.block true false s is_z is_r is_s
      reserved within below false r true is_z is_r is_s = absurd (not_slot (record { rank = within; block = ((let above : shape.buckets < place.block = grind (arith, nat_tests, is_s) in above), below) }))
      reserved within below false r false is_z is_r is_s = absurd (not_bucket (record { rank = within; block = ((let some : 1 ≤ place.block = grind (arith, nat_tests, is_z) in some), (let below : place.block ≤ shape.buckets = grind (arith, nat_tests, is_s) in below)) }))

      unheld : (nat_lt place.rank shape.ranks && nat_lt place.block (reserved_blocks shape)) ≡ false → IsUnheld shape g vertices edges place
      unheld not_reserved rank (Reserved block) on here =
          let ranks : rank ≡ place.rank = ap (λ (p : Place). p.rank) here in
          let blocks : block ≡ place.block = ap (λ (p : Place). p.block) here in
          let within : place.rank < shape.ranks = omega (arith, on.0, ranks) in
          let below : place.block < reserved_blocks shape = omega (arith, on.1, blocks) in
          grind (arith, nat_tests, not_reserved, within, below)
      unheld not_reserved rank (OfVertex id) on here = at_vertex shape g well vertices edges v.vertex_keys v.edge_keys (λ other. other ≢ place) (All-split (λ other. other ≢ place) (places_in vertices) (places_in edges) not_held).0 id on.1 here
      unheld not_reserved rank (OfHeavyEdge source ordinal) on here = at_edge shape g well vertices edges v.vertex_keys v.edge_keys (λ other. other ≢ place) (All-split (λ other. other ≢ place) (places_in vertices) (places_in edges) not_held).1 (record { source = source; ordinal = ordinal }) on.1 here

      cases : (t : Bool) → (nat_lt place.rank shape.ranks && nat_lt place.block (reserved_blocks shape)) ≡ t → content_of store place ≡ []
      cases true is =
          let parts = and_parts (nat_lt place.rank shape.ranks) (nat_lt place.block (reserved_blocks shape)) is in
          let within : place.rank < shape.ranks = grind (arith, nat_tests, parts.0) in
          let below : place.block < reserved_blocks shape = grind (arith, nat_tests, parts.1) in
          reserved within below (place.block == 0) (place.rank == 0) (nat_lt shape.buckets place.block) refl refl refl
      cases false is = v.rest place (unheld is)

  pub represented : IsRepresented shape store g vertices edges
  represented = record {
    vertex_keys = v.vertex_keys;
    edge_keys = v.edge_keys;
    names = (v.each 0 (Reserved 0) (omega (arith, ranges.ranks), omega arith)).words;
    buckets = λ place bucket. (v.each place.rank (Reserved place.block) (bucket.rank, omega (arith, bucket.block))).words
        ∙ opened place.rank place.block false (place.rank == 0) false (let some : (place.block == 0) ≡ false = grind (arith, nat_tests, bucket.block.0) in some) refl (let below : nat_lt shape.buckets place.block ≡ false = grind (arith, nat_tests, bucket.block.1) in below);
    held_vertices = All-from_find nat_cmp nat_cmp_total nat_cmp-IsAntisymmetric (λ entry. VertexIsHeld shape store g vertices edges entry.0 entry.1) g.vertices well.vertices (λ id vertex found.
        let held = v.each (home_of shape id) (OfVertex id) (refl, ap is_some found) in
        record { place = held.place; words = held.words ∙ ap (λ o. option_map_or (λ x. vertex_words (holder_of g vertices edges id x)) o []) found });
    held_edges = All-from_find edge_cmp edge_cmp_total edge_cmp_same (λ entry. EdgeIsHeld shape store g.types edges entry.0 entry.1) (heavy_edges g.edges) (heavy_rises shape g well vertices edges v.vertex_keys v.edge_keys) (λ key edge found.
        let there = found_of_filter edge_cmp edge_cmp_total edge_cmp_same (λ entry. is_heavy entry.1) g.edges key edge well.edges found in
        let held = v.each (home_of shape key.source) (OfHeavyEdge key.source key.ordinal) (refl, ap (λ o. option_map_or is_heavy o false) there.0 ∙ there.1) in
        record { place = held.place; words = held.words ∙ ap (λ o. option_map_or (edge_words g.types key) o []) there.0 });
    index = λ place slot. (v.each place.rank (Reserved place.block) (slot.rank, slot.block.1)).words
        ∙ opened place.rank place.block false (place.rank == 0) true (let some : (place.block == 0) ≡ false = grind (arith, nat_tests, slot.block.0) in some) refl (let above : nat_lt shape.buckets place.block ≡ true = grind (arith, nat_tests, slot.block.0) in above);
    apart = all_apart;
    rest = nothing_else;
    within = v.within;
  }
