-- Where vertices and objects of the index alone are touched: no vertex, no heavy edge and no name comes or goes.
use Rattle.std.proofs.Common.{◌≡◌, ◌≢◌, ◌∙◌, ℕ, ◌≤◌, Bool, true, false, cond, ◌&&◌, List, [], ◌++◌, map, length, nat_lt, refl, sym, ap, eq-eqb, inl}
use Rattle.std.specs.Prelude.{◌==◌}
use Rattle.std.specs.Option.{option_map_or}
use Rattle.std.specs.List.{AllByRecursion, list_any}
use Rattle.std.specs.Ordering.{nat_cmp, is_eq}
use Rattle.std.specs.FinMap.Entries.{find, is_some-find}
use Rattle.std.proofs.lemmas.Bool.{and_from, eqb-true, false≢true}
use Rattle.rma_layout.specs.Shape.{Shape}
use Rattle.rma_layout.specs.Ranges.{IsInRange}
use Rattle.rma_layout.specs.Placement.{Place, home_of, same_place}
use Rattle.object_words.specs.Contents.{Contents, content_of}
use Rattle.graph_model.specs.Maps.{keys}
use Rattle.graph_model.specs.Graph.{Graph, EdgeKey, edge_cmp, edge_at, is_vertex, is_heavy, is_heavy_at}
use Rattle.graph_model.specs.Sizes.{most_words}
use Rattle.graph_model.specs.WellFormed.{IsWellFormed}
use Rattle.graph_model.specs.Capacity.{Object, Reserved, OfVertex, OfHeavyEdge}
use Rattle.graph_model.proofs.Entries.{All-map, edge_cmp_same, edge_cmp_total}
use Rattle.holder_codec.specs.Bucket.{bucket_words}
use Rattle.holder_codec.specs.Holders.{edge_words, names_words}
use Rattle.holder_codec.specs.Parts.{IsSameAt}
use Rattle.holder_codec.specs.Represents.{VertexObjects, EdgeObjects, object_of, entries_of, heavy_edges, IsRepresented}
use Rattle.object_view.specs.View.{IsOn, place_in, index_words, words_in, IsViewed}
use Rattle.object_view.specs.Change.{RankObject, same_object, IsNotAmong, IsTouched, IsChange}
use Rattle.holder_codec.proofs.Maps.{All-over_map, All-append, All-both, found_of_filter}
use Rattle.object_view.proofs.View.{All-of_map, All-split, heavy_edge, found_in_filter}
use Rattle.object_view.proofs.Viewed.{represented}
use Rattle.object_view.proofs.Change.{changed_view}

-- a heavy edge of one graph is the same edge of another with the same heavy edges
heavy_in_other : (a b : Graph) → IsWellFormed b → heavy_edges a.edges ≡ heavy_edges b.edges → (source ordinal : ℕ) → is_heavy_at a source ordinal ≡ true
    → (edge_at b source ordinal ≡ edge_at a source ordinal) × (is_heavy_at b source ordinal ≡ true)
heavy_in_other a b well same source ordinal heavy =
    let key : EdgeKey = record { source = source; ordinal = ordinal } in
    let edge = heavy_edge (edge_at a source ordinal) heavy in
    let here = found_in_filter edge_cmp edge_cmp_same (λ entry. is_heavy entry.1) a.edges key edge.0 edge.1 edge.2 in
    let there = found_of_filter edge_cmp edge_cmp_total edge_cmp_same (λ entry. is_heavy entry.1) b.edges key edge.0 well.edges (ap (find edge_cmp key) (sym same) ∙ here) in
    (there.0 ∙ sym edge.1, ap (λ o. option_map_or is_heavy o false) there.0 ∙ there.1)

abbrev as_object : Shape → ℕ → RankObject
as_object shape id = (home_of shape id, OfVertex id)

abbrev as_reserved : Place → RankObject
as_reserved place = (place.rank, Reserved place.block)

module _ (shape : Shape) (one other : Contents) (g h : Graph) (well : IsWellFormed g) (well_after : IsWellFormed h) (vertices : VertexObjects) (edges : EdgeObjects) (ranges : IsInRange shape)
    (v : IsViewed shape one g vertices edges) (ids : List ℕ) (slots : List Place)
    (same_keys : keys h.vertices ≡ keys g.vertices) (same_heavy : heavy_edges h.edges ≡ heavy_edges g.edges) (same_labels : h.labels ≡ g.labels) (same_types : h.types ≡ g.types)
    (same_index : (place : Place) → AllByRecursion (λ slot. same_place slot place ≡ false) slots → index_words shape h place ≡ index_words shape g place)
    (are_slots : AllByRecursion (λ slot. IsOn shape h slot.rank (Reserved slot.block)) slots)
    (spelled_slots : AllByRecursion (λ slot. content_of other slot ≡ words_in shape h vertices edges slot.rank (Reserved slot.block)) slots)
    (there : AllByRecursion (λ id. is_vertex g id ≡ true) ids)
    (spelled : AllByRecursion (λ id. content_of other (object_of vertices id) ≡ words_in shape h vertices edges (home_of shape id) (OfVertex id)) ids)
    (other_words : (id : ℕ) → AllByRecursion (λ q. (q == id) ≡ false) ids → words_in shape h vertices edges (home_of shape id) (OfVertex id) ≡ words_in shape g vertices edges (home_of shape id) (OfVertex id))
    (same : (place : Place) → AllByRecursion (λ id. object_of vertices id ≢ place) ids → AllByRecursion (λ slot. slot ≢ place) slots → IsSameAt one other place)
    (within : (place : Place) → length (content_of other place) ≤ most_words) where
  vertex_same : (id : ℕ) → is_vertex h id ≡ is_vertex g id
  vertex_same id = is_some-find nat_cmp id h.vertices ∙ ap (list_any (λ q. is_eq (nat_cmp id q))) same_keys ∙ sym (is_some-find nat_cmp id g.vertices)

  on_after : (rank : ℕ) (object : Object) → IsOn shape g rank object → IsOn shape h rank object
  on_after rank (Reserved block) on = on
  on_after rank (OfVertex id) on = (on.0, vertex_same id ∙ on.1)
  on_after rank (OfHeavyEdge source ordinal) on = (on.0, (heavy_in_other g h well_after (sym same_heavy) source ordinal on.1).1)

  on_before : (rank : ℕ) (object : Object) → IsOn shape h rank object → IsOn shape g rank object
  on_before rank (Reserved block) on = on
  on_before rank (OfVertex id) on = (on.0, sym (vertex_same id) ∙ on.1)
  on_before rank (OfHeavyEdge source ordinal) on = (on.0, (heavy_in_other h g well same_heavy source ordinal on.1).1)

  -- a vertex that isn't among the objects isn't among the identifiers
  not_among : (rank id : ℕ) → home_of shape id ≡ rank → (q : ℕ) → (home_of shape q == rank && q == id) ≡ false → (q == id) ≡ false
  not_among rank id home q off = cases (q == id) refl
    where
      cases : (t : Bool) → (q == id) ≡ t → t ≡ false
      cases true is = absurd (false≢true (sym off ∙ and_from (home_of shape q == rank) (q == id) (eq-eqb (home_of shape q) rank (ap (home_of shape) (eqb-true q id is) ∙ home)) is))
      cases false is = refl

  words_before : (rank : ℕ) (object : Object) → IsOn shape h rank object → IsNotAmong (map (as_object shape) ids ++ map as_reserved slots) rank object → words_in shape h vertices edges rank object ≡ words_in shape g vertices edges rank object
  words_before rank (Reserved block) on none = λ i.
      cond (block == 0) (cond (rank == 0) (names_words (same_labels i) (same_types i)) [])
      (cond (nat_lt shape.buckets block) (same_index (record { rank = rank; block = block }) (All-of_map (λ (t : RankObject). (t.0 == rank && same_object t.1 (Reserved block)) ≡ false) as_reserved slots (All-split _ (map (as_object shape) ids) (map as_reserved slots) none).1) i) (bucket_words (record { entries = entries_of shape vertices (record { rank = rank; block = block }) })))
  words_before rank (OfVertex id) on none = other_words id (All-map (λ q. (home_of shape q == rank && q == id) ≡ false) (λ q. (q == id) ≡ false) (not_among rank id on.0) ids (All-of_map (λ (t : RankObject). (t.0 == rank && same_object t.1 (OfVertex id)) ≡ false) (as_object shape) ids (All-split _ (map (as_object shape) ids) (map as_reserved slots) none).0))
  words_before rank (OfHeavyEdge source ordinal) on none =
      let found = sym (heavy_in_other h g well same_heavy source ordinal on.1).0 in
      λ i. option_map_or (edge_words (same_types i) (record { source = source; ordinal = ordinal })) (found i) []

  change : IsChange shape one other g vertices edges h vertices edges (map (as_object shape) ids ++ map as_reserved slots) []
  change = record {
    vertex_keys = v.vertex_keys ∙ sym same_keys;
    edge_keys = v.edge_keys ∙ ap (λ es. keys es) (sym same_heavy);
    kept = λ rank object on _. (on_after rank object on, refl);
    others = λ rank object on none. (on_before rank object on, words_before rank object on none);
    each_touched = All-append (λ t. IsOn shape h t.0 t.1 → IsTouched shape one other g h vertices edges t) (map (as_object shape) ids) (map as_reserved slots)
        (All-over_map _ (as_object shape) ids (All-both _ _ _ (λ id words is _. record { words = words; from = inl (refl, is) }) ids spelled there))
        (All-over_map _ as_reserved slots (All-map _ _ (λ slot words on. record { words = words; from = inl on }) slots spelled_slots));
    each_gone = tt;
    new_apart = λ rank a b on_a on_b not_a not_b _. absurd (not_a (on_before rank a on_a));
    same = λ place off _.
        let parts = All-split (λ t. IsOn shape h t.0 t.1 → place_in vertices edges t.0 t.1 ≢ place) (map (as_object shape) ids) (map as_reserved slots) off in
        same place (All-both _ _ _ (λ id apart is. apart (refl, vertex_same id ∙ is)) ids (All-of_map _ (as_object shape) ids parts.0) there)
        (All-both _ _ _ (λ slot apart on. apart on) slots (All-of_map _ as_reserved slots parts.1) are_slots);
    within = within;
  }

  pub vertices_changed : IsRepresented shape other h vertices edges
  vertices_changed = represented shape other h well_after vertices edges ranges (changed_view shape one other g well vertices edges ranges v h vertices edges (map (as_object shape) ids ++ map as_reserved slots) [] change)
