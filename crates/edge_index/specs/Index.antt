-- Which edges each vertex has, and when an index tells so.
use Rattle.std.specs.Prelude.{◌≡◌, ℕ, List, [], ◌==◌}
use Rattle.std.specs.List.{filter}
use Rattle.std.specs.Option.{unwrap_or}
use Rattle.graph_model.specs.Maps.{Map, at, keys}
use Rattle.graph_model.specs.Graph.{Edge, EdgeKey}

-- the edges of a vertex, none where it is absent
abbrev pub keys_at : Map ℕ (List EdgeKey) → ℕ → List EdgeKey
keys_at index id = unwrap_or (at index id) []

-- the two ends of an edge
abbrev pub source_of : EdgeKey × Edge → ℕ
source_of entry = entry.0.source

abbrev pub target_of : EdgeKey × Edge → ℕ
target_of entry = entry.1.target

-- an index has the edges at each vertex by one of their ends
abbrev pub Indexes : (EdgeKey × Edge → ℕ) → Map EdgeKey Edge → Map ℕ (List EdgeKey) → Type 0
Indexes end edges index = (id : ℕ) → keys_at index id ≡ keys (filter (λ entry. end entry == id) edges)
