-- Edges in a plain list, and the steps that they allow.
use Rattle.std.specs.Prelude.{ℕ, List, [], ◌∷◌, IsTrue, if◌then◌else◌}
use Rattle.graph_model.specs.Graph.{Edge, EdgeKey}
use Rattle.graph_model.specs.Maps.{has}
use Rattle.graph_model.specs.Walks.{both_ways}
use Rattle.traversals.specs.declared.flat_edge.FlatEdge.{FlatEdge}

-- an edge of a graph as it stands in such a list
abbrev pub line_of : EdgeKey × Edge → FlatEdge
line_of entry = record { source = entry.0.source; target = entry.1.target; undirected = entry.1.undirected }

-- both ends are among some vertices
abbrev pub IsBetween : List ℕ → FlatEdge → Type 0
IsBetween ids edge = IsTrue (has ids edge.source) × IsTrue (has ids edge.target)

-- the steps that an edge allows, and those that it does with directions ignored
abbrev pub steps_by : FlatEdge → List (ℕ × ℕ)
steps_by edge = if edge.undirected then both_ways edge.source edge.target else (edge.source, edge.target) ∷ []

abbrev pub both_by : FlatEdge → List (ℕ × ℕ)
both_by edge = both_ways edge.source edge.target
