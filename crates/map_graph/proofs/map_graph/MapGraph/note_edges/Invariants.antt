use Rattle.std.proofs.Common.{◌≡◌, ◌++◌}
use Rattle.graph_undo.specs.Undo.{as_edges}
use Rattle.map_graph.specs.Lines.{entries_at}
use Rattle.map_graph.proofs.map_graph.MapGraph.note_edges.Given as goal

-- the steps so far, and those to come
abbrev pub invariant-loop-key : goal.invariant-loop-key
invariant-loop-key l =
    l.journal ++ as_edges (entries_at l.self.graph.edges l.key-iterator) ≡ l.fn.journal ++ as_edges (entries_at l.self.graph.edges l.fn.keys)
