-- Two graphs that one store represents have the same names and vertices, and the same records of edges.
use Rattle.std.proofs.Common.{◌≡◌, ℕ, Option, Some, None, refl, sym, ap, ◌∙◌}
use Rattle.std.specs.Ordering.{nat_cmp}
use Rattle.std.specs.Cmp.{nat_cmp_total}
use Rattle.std.specs.FinMap.{nat_cmp-IsAntisymmetric}
use Rattle.std.specs.FinMap.Entries.{same_entries}
use Rattle.rma_layout.specs.Shape.{Shape}
use Rattle.rma_layout.specs.Ranges.{IsInRange}
use Rattle.object_words.specs.Contents.{Contents, content_of}
use Rattle.object_words.proofs.Places.{to_T}
use Rattle.graph_model.specs.Maps.{keys}
use Rattle.graph_model.specs.Graph.{Graph, Vertex, vertex_at}
use Rattle.holder_codec.specs.declared.vertex_holder.VertexHolder.{VertexHolder}
use Rattle.holder_codec.specs.Holders.{held_props}
use Rattle.holder_codec.specs.Represents.{VertexObjects, EdgeObjects, object_of, records_of, holder_of, Represents}
use Rattle.holder_codec.proofs.Lengths.{vertex_same}
use Rattle.holder_codec.proofs.Maps.{find-by_keys, none-by_keys}
use Rattle.holder_codec.proofs.Leading.{buckets_fix_objects, vertex_fits, vertex_held, represents_leads}
use Rattle.holder_codec.proofs.Grouped.{AreGrouped, props_same, are_grouped}
use Rattle.holder_codec.proofs.Telling.{AreNames-each, AreNames-types, names_told}
use Rattle.holder_codec.proofs.Fitting.{holder_fits}

-- what a vertex's holder says of the vertex
vertex_from_holder : (g h : Graph) (v w : VertexObjects) (e f : EdgeObjects) (id : ℕ) (one other : Vertex) → g.types ≡ h.types → AreGrouped one.props → AreGrouped other.props
    → holder_of g v e id one ≡ holder_of h w f id other → one ≡ other
vertex_from_holder g h v w e f id one other types a b same =
    let held = ap (λ (holder : VertexHolder). holder.props) same ∙ ap (λ ts. held_props ts other.props) (sym types) in
    let props = props_same g.types one.props other.props a b held in
    λ i. record { next = (same i).next; labels = (same i).labels; props = props i }

module _ (shape : Shape) (store : Contents) (g h : Graph) (r : Represents shape store g) (s : Represents shape store h) (ranges : IsInRange shape) where
  pub same_names : (g.labels ≡ h.labels) × (g.types ≡ h.types)
  same_names =
      let a = r.well_formed in
      let b = s.well_formed in
      names_told g.labels h.labels g.types h.types (AreNames-each g.labels a.labels) (AreNames-each h.labels b.labels) (AreNames-types g.types a.types) (AreNames-types h.types b.types)
      (sym r.represented.names ∙ s.represented.names)

  pub same_objects : r.vertices ≡ s.vertices
  same_objects = buckets_fix_objects shape store r.vertices s.vertices ranges (represents_leads shape store g r ranges) (represents_leads shape store h s ranges)

  same_holders : (id : ℕ) (one other : Vertex) → vertex_at g id ≡ Some one → vertex_at h id ≡ Some other → holder_of g r.vertices r.edges id one ≡ holder_of h s.vertices s.edges id other
  same_holders id one other at_one at_other =
      let held_one = vertex_held shape store g r id one at_one in
      let held_other = vertex_held shape store h s id other at_other in
      vertex_same (holder_of g r.vertices r.edges id one) (holder_of h s.vertices s.edges id other) (holder_fits shape store g r ranges id one at_one) (holder_fits shape store h s ranges id other at_other)
      (sym held_one.words ∙ ap (λ vertices. content_of store (object_of vertices id)) same_objects ∙ held_other.words)

  pub same_records : (id : ℕ) (one other : Vertex) → vertex_at g id ≡ Some one → vertex_at h id ≡ Some other → records_of g r.vertices r.edges id ≡ records_of h s.vertices s.edges id
  same_records id one other at_one at_other = ap (λ (holder : VertexHolder). holder.edges) (same_holders id one other at_one at_other)

  same_keys : keys g.vertices ≡ keys h.vertices
  same_keys = sym r.represented.vertex_keys ∙ ap (λ vertices. keys vertices) same_objects ∙ s.represented.vertex_keys

  -- a vertex of the one is a vertex of the other
  pub vertex_in_other : (id : ℕ) (one : Vertex) → vertex_at g id ≡ Some one → (other : Vertex) × (vertex_at h id ≡ Some other)
  vertex_in_other id one at_one = find-by_keys nat_cmp g.vertices h.vertices id one same_keys at_one

  same_vertex_at : (id : ℕ) (o : Option Vertex) → vertex_at g id ≡ o → vertex_at g id ≡ vertex_at h id
  same_vertex_at id None none = none ∙ sym (none-by_keys nat_cmp g.vertices h.vertices id same_keys none)
  same_vertex_at id (Some one) at_one =
      let other = vertex_in_other id one at_one in
      let props = are_grouped g one.props (vertex_fits shape store g r id one at_one).props in
      let props' = are_grouped h other.0.props (vertex_fits shape store h s id other.0 other.1).props in
      let same = vertex_from_holder g h r.vertices s.vertices r.edges s.edges id one other.0 same_names.1 props props' (same_holders id one other.0 at_one other.1) in
      at_one ∙ ap (λ (vertex : Vertex). Some vertex) same ∙ sym other.1

  pub same_vertices : g.vertices ≡ h.vertices
  same_vertices =
      same_entries nat_cmp nat_cmp_total nat_cmp-IsAntisymmetric g.vertices h.vertices (to_T _ r.well_formed.vertices) (to_T _ s.well_formed.vertices) (λ id. same_vertex_at id (vertex_at g id) refl)
