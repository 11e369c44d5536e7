-- Graphs of vertices alone: no labels, no types, no edges.
use Rattle.std.specs.Prelude.{ℕ, Bool, true, false, List, [], map}
use Rattle.gdi_kinds.specs.declared.call.Call.{Call}
use Rattle.gdi_kinds.specs.declared.call.Call.TheVariants.{Vertex as MakeVertex, Has, DropVertex}
use Rattle.graph_model.specs.Maps.{Map}
use Rattle.graph_model.specs.Graph.{Graph, Vertex, new_vertex}

abbrev pub graph_of_vertices : Map ℕ Vertex → Graph
graph_of_vertices vertices = record { labels = []; types = []; vertices = vertices; edges = [] }

-- a bare graph: nothing stands at its vertices
abbrev pub bare_graph : List ℕ → Graph
bare_graph ids = graph_of_vertices (map (λ id. (id, new_vertex)) ids)

-- the calls that make such vertices, drop them, and ask for them: they leave a bare graph bare
abbrev pub IsBareCall : Call → Type 0
IsBareCall (MakeVertex id) = Unit {0}
IsBareCall (Has id) = Unit {0}
IsBareCall (DropVertex id) = Unit {0}
IsBareCall call = ⊥

-- the call that makes one
abbrev pub is_vertex_call : Call → Bool
is_vertex_call (MakeVertex id) = true
is_vertex_call call = false
