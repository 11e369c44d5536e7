-- What a graph's store holds at all edges of a vertex.
use Rattle.std.proofs.Common.{◌≡◌, ◌≢◌, ℕ, map, Some, IsSome, refl, sym, ap, subst}
use Rattle.std.specs.Prelude.{◌==◌, is_some}
use Rattle.std.specs.List.{AllByRecursion, Contains}
use Rattle.std.proofs.lemmas.List.Elements.{All-contains, All-from_recursion}
use Rattle.rma_layout.specs.Shape.{Shape}
use Rattle.rma_layout.specs.Ranges.{IsInRange}
use Rattle.rma_layout.specs.Placement.{IsBlock, Place}
use Rattle.object_words.specs.Contents.{Contents}
use Rattle.graph_model.specs.Graph.{Edge, EdgeKey, Graph, Vertex, edge_at, edge_cmp, edges_from, edges_to, vertex_at}
use Rattle.graph_model.specs.WellFormed.{EdgeFits}
use Rattle.graph_model.proofs.Entries.{All-filter, All-find, edge_cmp_same, edge_cmp_total}
use Rattle.holder_codec.specs.declared.edge_form.EdgeForm.TheVariants.{Heavy}
use Rattle.holder_codec.specs.declared.edge_record.EdgeRecord.{EdgeRecord}
use Rattle.holder_codec.specs.EdgeObject.{IsEdgeHolder, edge_object_words}
use Rattle.holder_codec.specs.Represents.{Represents, form_of_edge, object_of, records_of}
use Rattle.holder_codec.proofs.Leading.{vertex_held}
use Rattle.holder_codec.proofs.Maps.{All-append, All-from_find, All-over_map, some_and, some_of}
use Rattle.held_objects.specs.Held.{IsSpelled}
use Rattle.vertex_ops.specs.Vertices.{HoldsVertex}
use Rattle.edge_ops.specs.CuttingAll.{HoldsAround, HoldsFar}
use Rattle.edge_ops.specs.OfGraph.{around_of_graph, edge_of_graph, vertex_of_graph}
use Rattle.edge_ops.proofs.EdgesFound.{heavy_is}
use Rattle.edge_ops.proofs.EdgesOfGraph.{from_record, holds_own, holds_vertex, is_block, object_apart, own_there, to_record}

module _ (shape : Shape) (store : Contents) (g : Graph) (r : Represents shape store g) (ranges : IsInRange shape) where
  -- the object of a heavy edge is no vertex'
  record OwnStands (own : Place) : Type 0 where
    block : IsBlock shape own
    spelled : IsSpelled IsEdgeHolder edge_object_words own shape store
    apart : (id : ℕ) (vertex : Vertex) → vertex_at g id ≡ Some vertex → own ≢ object_of r.vertices id

  -- a record leads to a vertex of the graph
  record Leads (edge : EdgeRecord) : Type 0 where
    other : IsSome (vertex_at g edge.other)
    object : edge.other_at ≡ object_of r.vertices edge.other
    own : (own : Place) → edge.form ≡ Heavy own → OwnStands own

  own_stands : (key : EdgeKey) (edge : Edge) → edge_at g key.source key.ordinal ≡ Some edge → (vertex : Vertex) → vertex_at g key.source ≡ Some vertex
      → (own : Place) → form_of_edge r.edges key edge ≡ Heavy own → OwnStands own
  own_stands key edge found vertex here own is =
      let heavy = heavy_is (edge_of_graph g r.vertices r.edges key.source key.ordinal edge) own is in
      let holds = holds_own shape store g r ranges key.source key.ordinal vertex here edge found heavy.0 in
      let there = own_there shape store g r ranges key.source key.ordinal vertex here edge found heavy.0 in
      subst OwnStands heavy.1 (record {
        block = holds.block;
        spelled = record { held = _; is = holds.own.holder; words = holds.own.words };
        apart = λ id other is_there. object_apart shape store g r ranges key _ there id other is_there;
      })

  both_lead : (key : EdgeKey) (edge : Edge) → edge_at g key.source key.ordinal ≡ Some edge
      → Leads (from_record shape store g r ranges (key, edge)) × Leads (to_record shape store g r ranges (key, edge))
  both_lead key edge found =
      let fits = All-find edge_cmp edge_cmp_same (λ entry. EdgeFits g entry.0 entry.1) key edge g.edges r.well_formed.each_edge found in
      let source = some_and _ (vertex_at g key.source) fits.source in
      let own = own_stands key edge found source.0 source.1 in
      (record { other = fits.target; object = refl; own = own }, record { other = ap is_some source.1; object = refl; own = own })

  records_lead : (id : ℕ) → AllByRecursion Leads (records_of g r.vertices r.edges id)
  records_lead id =
      let each = All-from_find edge_cmp edge_cmp_total edge_cmp_same (λ entry. Leads (from_record shape store g r ranges entry) × Leads (to_record shape store g r ranges entry)) g.edges r.well_formed.edges both_lead in
      let from = All-filter _ (λ entry. Leads (from_record shape store g r ranges entry)) (λ entry. entry.0.source == id) (λ _ _ both. both.0) g.edges each in
      let to = All-filter _ (λ entry. Leads (to_record shape store g r ranges entry)) (λ entry. entry.1.target == id) (λ _ _ both. both.1) g.edges each in
      All-append Leads (map (from_record shape store g r ranges) (edges_from g id)) (map (to_record shape store g r ranges) (edges_to g id))
      (All-over_map Leads (from_record shape store g r ranges) (edges_from g id) from) (All-over_map Leads (to_record shape store g r ranges) (edges_to g id) to)

  leads : (id : ℕ) (edge : EdgeRecord) → Contains (records_of g r.vertices r.edges id) edge → Leads edge
  leads id edge is = All-contains Leads (records_of g r.vertices r.edges id) edge (All-from_recursion Leads (records_of g r.vertices r.edges id) (records_lead id)) is

  -- a vertex with all its edges
  pub holds_around : (id : ℕ) → IsSome (vertex_at g id) → HoldsAround shape (object_of r.vertices id) store (around_of_graph g r.vertices r.edges id)
  holds_around id there =
      let vertex = some_of (vertex_at g id) there in
      record { here = holds_vertex shape store g r ranges id vertex.0 vertex.1; each = each vertex.0 vertex.1 }
    where
      each : (vertex : Vertex) → vertex_at g id ≡ Some vertex → (edge : EdgeRecord) → Contains (records_of g r.vertices r.edges id) edge
          → HoldsFar shape (object_of r.vertices id) store (around_of_graph g r.vertices r.edges id) edge
      each vertex here edge is =
          let lead = leads id edge is in
          let far = some_of (vertex_at g edge.other) lead.other in
          record {
            block = subst (IsBlock shape) (sym lead.object) (is_block shape store g r ranges edge.other _ (vertex_held shape store g r edge.other far.0 far.1).place);
            object = lead.object;
            far = subst (λ at. HoldsVertex at store (vertex_of_graph g r.vertices r.edges edge.other)) (sym lead.object) (holds_vertex shape store g r ranges edge.other far.0 far.1);
            own = λ own heavy.
                let stands = lead.own own heavy in
                record {
                  block = stands.block;
                  spelled = stands.spelled;
                  not_here = stands.apart id vertex here;
                  not_far = λ other among.
                      let one = leads id other among in
                      let end = some_of (vertex_at g other.other) one.other in
                      subst (λ at. own ≢ at) (sym one.object) (stands.apart other.other end.0 end.1);
                };
          }
