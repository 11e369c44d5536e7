-- What a graph's store holds of a vertex, of an edge from it, and of all its edges.
use Rattle.std.specs.Prelude.{ℕ}
use Rattle.std.specs.Option.{option_map, unwrap_or}
use Rattle.graph_model.specs.Graph.{Edge, Graph, edge_at, new_vertex, vertex_at}
use Rattle.holder_codec.specs.Represents.{EdgeObjects, VertexObjects, edge_object_of, object_of, records_of}
use Rattle.vertex_ops.specs.Vertices.{HeldVertex}
use Rattle.edge_ops.specs.CuttingAll.{HeldAround}
use Rattle.edge_ops.specs.HeldEdges.{HeldEdge, HeldOut}

abbrev pub vertex_of_graph : Graph → VertexObjects → EdgeObjects → ℕ → HeldVertex
vertex_of_graph g vertices objects id =
    record { types = g.types; id = id; vertex = unwrap_or (vertex_at g id) new_vertex; edges = records_of g vertices objects id }

abbrev pub edge_of_graph : Graph → VertexObjects → EdgeObjects → ℕ → ℕ → Edge → HeldEdge
edge_of_graph g vertices objects id ordinal edge = record {
  edge = edge;
  target = vertex_of_graph g vertices objects edge.target;
  target_at = object_of vertices edge.target;
  own_at = edge_object_of objects (record { source = id; ordinal = ordinal });
}

abbrev pub out_of_graph : Graph → VertexObjects → EdgeObjects → ℕ → ℕ → HeldOut
out_of_graph g vertices objects id ordinal =
    record { source = vertex_of_graph g vertices objects id; found = option_map (edge_of_graph g vertices objects id ordinal) (edge_at g id ordinal) }

abbrev pub around_of_graph : Graph → VertexObjects → EdgeObjects → ℕ → HeldAround
around_of_graph g vertices objects id =
    record { vertex = vertex_of_graph g vertices objects id; others = vertex_of_graph g vertices objects; object_of = object_of vertices }
