use Rattle.plain_graph.specs.Counted.{Blocks, CountsAlso, vertex_objects}
use Rattle.plain_graph.proofs.counting.count_vertices.Given as goal

-- what counts those to come as well counts all
abbrev pub invariant-loop-id : goal.invariant-loop-id
invariant-loop-id l =
    (after : Blocks) → CountsAlso l.map.shape l.map.graph (vertex_objects l.map.shape l.id-iterator) l.count after
    → CountsAlso l.map.shape l.map.graph (vertex_objects l.map.shape l.map.graph.vertices) l.fn.count after
