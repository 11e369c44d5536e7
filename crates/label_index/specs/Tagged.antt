-- The entries of the index of a graph.
use Rattle.std.specs.Prelude.{ℕ, List, map, length}
use Rattle.std.specs.List.{filter, flat_map, range_with_len}
use Rattle.graph_model.specs.Maps.{Map, has}
use Rattle.graph_model.specs.Graph.{Graph, Vertex}
use Rattle.holder_codec.specs.declared.index_entry.IndexEntry.{IndexEntry}

abbrev pub tagged_with : Map ℕ Vertex → ℕ → List IndexEntry
tagged_with vertices label = map (λ entry. record { label = label; id = entry.0 }) (filter (λ entry. has entry.1.labels label) vertices)

-- each label of each vertex, by label and then by vertex
abbrev pub tagged : Graph → List IndexEntry
tagged g = flat_map (tagged_with g.vertices) (range_with_len 0 (length g.labels))
