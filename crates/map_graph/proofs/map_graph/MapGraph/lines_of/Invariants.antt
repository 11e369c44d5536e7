use Rattle.std.proofs.Common.{◌≡◌, ◌++◌, map}
use Rattle.std.specs.List.{filter}
use Rattle.map_graph.specs.Lines.{entries_at, is_listed, line_at}
use Rattle.map_graph.proofs.map_graph.MapGraph.lines_of.Given as goal

-- the lines so far, and those to come
abbrev pub invariant-loop-key : goal.invariant-loop-key
invariant-loop-key l =
    l.lines ++ map (line_at l.at_source) (filter (is_listed l.self.graph l.wanted l.test) (entries_at l.self.graph.edges l.key-iterator))
    ≡ map (line_at l.at_source) (filter (is_listed l.self.graph l.wanted l.test) (entries_at l.self.graph.edges l.fn.keys))
