use Rattle.plain_graph.specs.Counted.{Blocks, CountsAlso, edge_objects}
use Rattle.plain_graph.proofs.counting.count_edges.Given as goal

-- what counts those to come as well counts all
abbrev pub invariant-loop-key : goal.invariant-loop-key
invariant-loop-key l =
    (after : Blocks) → CountsAlso l.map.shape l.map.graph (edge_objects l.map.shape l.key-iterator) l.count after
    → CountsAlso l.map.shape l.map.graph (edge_objects l.map.shape l.map.graph.edges) l.fn.count after
