-- Lines of edges, by the names of the edges at a vertex.
use Rattle.std.specs.Prelude.{ℕ, Bool, true, not, ◌&&◌, List, Option, if◌then◌else◌}
use Rattle.std.specs.List.{flat_map, list_all}
use Rattle.std.specs.Option.{option_map, option_to_list}
use Rattle.std.specs.FinMap.{find}
use Rattle.gdi_kinds.specs.declared.edge_line.EdgeLine.{EdgeLine}
use Rattle.gdi_kinds.specs.declared.constraint.Atom.{Atom}
use Rattle.graph_model.specs.Maps.{Map, has}
use Rattle.graph_model.specs.Graph.{Graph, Vertex, Edge, EdgeKey, edge_cmp}
use Rattle.graph_model.specs.ListCalls.{passes_test}
use Rattle.graph_model.specs.Lookups.{line_at_source, line_at_target}
use Rattle.map_graph.specs.declared.edge_lines.Wanted.{Wanted}
use Rattle.map_graph.specs.declared.edge_lines.Wanted.TheVariants.{Directed, Undirected, Any}

-- an edge that may be there, with its name
abbrev pub entry_of : EdgeKey → Option Edge → List (EdgeKey × Edge)
entry_of key found = option_to_list (option_map (λ edge. (key, edge)) found)

-- the edges with these names
abbrev pub entries_at : Map EdgeKey Edge → List EdgeKey → List (EdgeKey × Edge)
entries_at edges keys = flat_map (λ key. entry_of key (find edge_cmp key edges)) keys

abbrev pub is_wanted : Wanted → Bool → Bool
is_wanted Directed undirected = not undirected
is_wanted Undirected undirected = undirected
is_wanted Any undirected = true

-- an edge as its source has it, or as its target does
abbrev pub line_at : Bool → EdgeKey × Edge → EdgeLine
line_at at_source entry = if at_source then line_at_source entry else line_at_target entry

-- an edge that is wanted and passes
abbrev pub is_listed : Graph → Wanted → Option (List (List Atom)) → EdgeKey × Edge → Bool
is_listed g wanted test entry = is_wanted wanted entry.1.undirected && passes_test g test entry.1.labels entry.1.props

-- a vertex that has the label, where one is given, and passes
abbrev pub is_found : Graph → List ℕ → Option (List (List Atom)) → ℕ × Vertex → Bool
is_found g labels test entry = list_all (has entry.1.labels) labels && passes_test g test entry.1.labels entry.1.props
