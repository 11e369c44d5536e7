-- How many blocks the objects of a rank use.
use Rattle.std.proofs.Common.{◌≡◌, ◌∙◌, ℕ, ◌<◌, Bool, true, false, not, cond, ◌&&◌, ◌-◌, List, [], length, Option, Some, None, is_some, refl, sym, ap, arith}
use Rattle.std.specs.Option.{option_map_or}
use Rattle.std.proofs.lemmas.Bool.Decides.{nat_tests}
use Rattle.rma_layout.specs.Shape.{Shape, reserved_blocks}
use Rattle.rma_layout.specs.Ranges.{IsInRange}
use Rattle.object_words.specs.Contents.{Contents, content_of, is_empty}
use Rattle.object_words.specs.Blocks as blocks
use Rattle.object_words.specs.Blocks.{is_reserved, on_rank}
use Rattle.graph_model.specs.Graph.{Graph, PropType, Vertex, Edge, vertex_at, edge_at, is_heavy}
use Rattle.graph_model.specs.WellFormed.{IsWellFormed}
use Rattle.graph_model.specs.Capacity as capacity
use Rattle.graph_model.specs.Capacity.{Object, Reserved, OfVertex, OfHeavyEdge, objects_on, words_of}
use Rattle.graph_model.proofs.Entries.{All-map}
use Rattle.holder_codec.specs.Vertex.{vertex_words}
use Rattle.holder_codec.specs.Holders.{edge_words}
use Rattle.holder_codec.specs.Represents.{VertexObjects, EdgeObjects, holder_of}
use Rattle.object_view.specs.View.{IsOn, place_in, IsViewed}
use Rattle.object_view.proofs.Objects.{is_on_rank, total_objects, each_on}
use Rattle.object_view.proofs.Counted.{words_counted, sum_same}

pub vertex_filled : (g : Graph) (vertices : VertexObjects) (edges : EdgeObjects) (id : ℕ) (o : Option Vertex) → is_some o ≡ true → is_empty (option_map_or (λ vertex. vertex_words (holder_of g vertices edges id vertex)) o []) ≡ false
vertex_filled g vertices edges id None there = absurd cc
vertex_filled g vertices edges id (Some vertex) there = refl

pub edge_filled : (types : List PropType) (source ordinal : ℕ) (o : Option Edge) → option_map_or is_heavy o false ≡ true → is_empty (option_map_or (edge_words types (record { source = source; ordinal = ordinal })) o []) ≡ false
edge_filled types source ordinal None there = absurd cc
edge_filled types source ordinal (Some edge) there = refl

not_reserved : (shape : Shape) (block : ℕ) → (block < reserved_blocks shape → ⊥) → is_reserved shape block ≡ false
not_reserved shape block free = grind (arith, nat_tests, free)

module _ (shape : Shape) (g : Graph) (well : IsWellFormed g) (rank : ℕ) (within : rank < shape.ranks) (store : Contents) (vertices : VertexObjects) (edges : EdgeObjects) (ranges : IsInRange shape) (v : IsViewed shape store g vertices edges) where
  abbrev block_at : Object → ℕ
  block_at object = (place_in vertices edges rank object).block

  abbrev content_at : Object → List ℕ
  content_at object = content_of store (on_rank rank (place_in vertices edges rank object).block)

  pub content_counted : (object : Object) → IsOn shape g rank object → length (content_at object) ≡ words_of shape g rank object
  content_counted object on =
      ap (λ p. length (content_of store p)) (sym (is_on_rank shape g well rank within store vertices edges ranges v rank object on))
      ∙ ap length (v.each rank object on).words ∙ words_counted shape g vertices edges rank object well v.vertex_keys

  pub vertex_stands : (id : ℕ) → IsOn shape g rank (OfVertex id) → (is_reserved shape (block_at (OfVertex id)) ≡ false) × (is_empty (content_at (OfVertex id)) ≡ false)
  vertex_stands id on =
      let held = v.each rank (OfVertex id) on in (
        not_reserved shape _ held.place.unreserved,
        ap (λ p. is_empty (content_of store p)) (sym (is_on_rank shape g well rank within store vertices edges ranges v rank (OfVertex id) on))
            ∙ ap is_empty held.words ∙ vertex_filled g vertices edges id (vertex_at g id) on.1,
      )

  pub edge_stands : (source ordinal : ℕ) → IsOn shape g rank (OfHeavyEdge source ordinal) → (is_reserved shape (block_at (OfHeavyEdge source ordinal)) ≡ false) × (is_empty (content_at (OfHeavyEdge source ordinal)) ≡ false)
  edge_stands source ordinal on =
      let held = v.each rank (OfHeavyEdge source ordinal) on in (
        not_reserved shape _ held.place.unreserved,
        ap (λ p. is_empty (content_of store p)) (sym (is_on_rank shape g well rank within store vertices edges ranges v rank (OfHeavyEdge source ordinal) on))
            ∙ ap is_empty held.words ∙ edge_filled g.types source ordinal (edge_at g source ordinal) on.1,
      )

  abbrev used_by : Bool → Bool → ℕ → ℕ
  used_by reserved empty words = cond (not reserved && empty) 0 (blocks.blocks_for words (shape.words - 1))

  used_at : ℕ → ℕ
  used_at block = used_by (is_reserved shape block) (is_empty (content_of store (on_rank rank block))) (length (content_of store (on_rank rank block)))

  each_used : (object : Object) → IsOn shape g rank object → used_at (block_at object) ≡ capacity.blocks_of_object shape g rank object
  unfolding used_at
  each_used (Reserved block) on =
      let reserved : is_reserved shape block ≡ true = let below = on.1 in grind (arith, nat_tests) in
      ap (λ r. used_by r (is_empty (content_at (Reserved block))) (length (content_at (Reserved block)))) reserved ∙ ap (λ n. blocks.blocks_for n (shape.words - 1)) (content_counted (Reserved block) on)
  each_used (OfVertex id) on =
      let stands = vertex_stands id on in
      (λ i. used_by (stands.0 i) (stands.1 i) (length (content_at (OfVertex id)))) ∙ ap (λ n. blocks.blocks_for n (shape.words - 1)) (content_counted (OfVertex id) on)
  each_used (OfHeavyEdge source ordinal) on =
      let stands = edge_stands source ordinal on in
      (λ i. used_by (stands.0 i) (stands.1 i) (length (content_at (OfHeavyEdge source ordinal)))) ∙ ap (λ n. blocks.blocks_for n (shape.words - 1)) (content_counted (OfHeavyEdge source ordinal) on)

  none_used : (block : ℕ) → is_reserved shape block ≡ false → content_of store (on_rank rank block) ≡ [] → used_at block ≡ 0
  unfolding used_at
  none_used block free empty = λ i. used_by (free i) (is_empty (empty i)) (length (empty i))

  -- the store uses the blocks that the graph uses
  pub used_same : blocks.contents_use shape store rank ≡ capacity.blocks_used_on shape g rank
  unfolding used_at
  used_same =
      total_objects shape g well rank within store vertices edges ranges v used_at none_used
      ∙ sum_same _ _ (objects_on shape g rank) (All-map (IsOn shape g rank) (λ object. used_at (block_at object) ≡ capacity.blocks_of_object shape g rank object) each_used (objects_on shape g rank) (each_on shape g well rank within))
