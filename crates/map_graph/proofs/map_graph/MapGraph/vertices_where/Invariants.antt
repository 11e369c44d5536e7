use Rattle.std.proofs.Common.{◌≡◌, ◌++◌}
use Rattle.std.specs.List.{AllByRecursion, filter}
use Rattle.std.specs.Option.{option_to_list}
use Rattle.graph_model.specs.Maps.{keys}
use Rattle.graph_model.specs.WellFormed.{VertexFits}
use Rattle.map_graph.specs.Lines.{is_found}
use Rattle.map_graph.proofs.map_graph.MapGraph.vertices_where.Given as goal

-- the vertices so far, and those to come
abbrev pub invariant-loop-id : goal.invariant-loop-id
invariant-loop-id l = record {
  so_far : l.ids ++ keys (filter (is_found l.self.graph (option_to_list l.label) l.test) l.id-iterator) ≡ keys (filter (is_found l.self.graph (option_to_list l.label) l.test) l.self.graph.vertices);
  fits : AllByRecursion (λ entry. VertexFits l.self.graph entry.0 entry.1) l.id-iterator;
}
