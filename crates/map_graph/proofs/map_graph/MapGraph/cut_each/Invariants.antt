use Rattle.std.proofs.Common.{◌≡◌, not, drop}
use Rattle.std.specs.List.{filter}
use Rattle.map_graph.specs.Plain.{is_among}
use Rattle.map_graph.proofs.map_graph.MapGraph.cut_each.Given as goal

-- with those that are still to be cut, the graph comes to what it has to
abbrev pub invariant-loop-key : goal.invariant-loop-key
invariant-loop-key l = record {
  shape : l.self.shape ≡ l.fn.self.shape;
  labels : l.self.graph.labels ≡ l.fn.self.graph.labels;
  types : l.self.graph.types ≡ l.fn.self.graph.types;
  vertices : l.self.graph.vertices ≡ l.fn.self.graph.vertices;
  edges : filter (λ entry. not (is_among (drop l.key-index l.keys) entry.0)) l.self.graph.edges ≡ filter (λ entry. not (is_among l.keys entry.0)) l.fn.self.graph.edges;
}
