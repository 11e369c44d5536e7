-- The object view of what represents a graph: each object of the graph has a place and words, the places are apart, and
-- all else is empty.
use Rattle.std.specs.Prelude.{◌≡◌, ◌≢◌, ℕ, ◌<◌, ◌≤◌, true, List, [], length, nat_lt, if◌then◌else◌, ◌==◌}
use Rattle.std.specs.Option.{option_map_or}
use Rattle.std.specs.List.{flat_map, range_with_len}
use Rattle.rma_layout.specs.Shape.{Shape, reserved_blocks}
use Rattle.rma_layout.specs.Placement.{Place, home_of}
use Rattle.object_words.specs.Contents.{Contents, content_of}
use Rattle.graph_model.specs.Maps.{keys}
use Rattle.graph_model.specs.Graph.{Graph, vertex_at, edge_at, is_vertex, is_heavy_at}
use Rattle.graph_model.specs.Sizes.{most_words}
use Rattle.graph_model.specs.Capacity.{Object, Reserved, OfVertex, OfHeavyEdge}
use Rattle.holder_codec.specs.Bucket.{bucket_words}
use Rattle.holder_codec.specs.Vertex.{vertex_words}
use Rattle.holder_codec.specs.Holders.{edge_words, names_words}
use Rattle.holder_codec.specs.Represents.{VertexObjects, EdgeObjects, object_of, edge_object_of, IsUnreserved, entries_of, holder_of, heavy_edges, pairs_of_label}

-- the objects of a graph on a rank
abbrev pub IsOn : Shape → Graph → ℕ → Object → Type 0
IsOn shape g rank (Reserved block) = (rank < shape.ranks) × (block < reserved_blocks shape)
IsOn shape g rank (OfVertex id) = (home_of shape id ≡ rank) × (is_vertex g id ≡ true)
IsOn shape g rank (OfHeavyEdge source ordinal) = (home_of shape source ≡ rank) × (is_heavy_at g source ordinal ≡ true)

-- where an object of a rank is
abbrev pub place_in : VertexObjects → EdgeObjects → ℕ → Object → Place
place_in vertices edges rank (Reserved block) = record { rank = rank; block = block }
place_in vertices edges rank (OfVertex id) = object_of vertices id
place_in vertices edges rank (OfHeavyEdge source ordinal) = edge_object_of edges (record { source = source; ordinal = ordinal })

-- a vertex and a heavy edge are in a block of this rank that isn't reserved
abbrev pub IsAllowed : Shape → ℕ → Object → Place → Type 0
IsAllowed shape rank (Reserved block) place = Unit {0}
IsAllowed shape rank (OfVertex id) place = IsUnreserved shape rank place
IsAllowed shape rank (OfHeavyEdge source ordinal) place = IsUnreserved shape rank place

-- what an object has
abbrev pub index_words : Shape → Graph → Place → List ℕ
index_words shape g place = flat_map (pairs_of_label shape g.vertices place) (range_with_len 0 (length g.labels))

abbrev pub reserved_words : Shape → Graph → VertexObjects → ℕ → ℕ → List ℕ
reserved_words shape g vertices rank block =
    if block == 0 then (if rank == 0 then names_words g.labels g.types else [])
    else (if nat_lt shape.buckets block then index_words shape g (record { rank = rank; block = block })
    else bucket_words (record { entries = entries_of shape vertices (record { rank = rank; block = block }) }))

abbrev pub words_in : Shape → Graph → VertexObjects → EdgeObjects → ℕ → Object → List ℕ
words_in shape g vertices edges rank (Reserved block) = reserved_words shape g vertices rank block
words_in shape g vertices edges rank (OfVertex id) =
    option_map_or (λ vertex. vertex_words (holder_of g vertices edges id vertex)) (vertex_at g id) []
words_in shape g vertices edges rank (OfHeavyEdge source ordinal) =
    option_map_or (edge_words g.types (record { source = source; ordinal = ordinal })) (edge_at g source ordinal) []

pub record ObjectIsHeld (shape : Shape) (store : Contents) (g : Graph) (vertices : VertexObjects) (edges : EdgeObjects) (rank : ℕ) (object : Object) : Type 0 where
  pub place : IsAllowed shape rank object (place_in vertices edges rank object)
  pub words : content_of store (place_in vertices edges rank object) ≡ words_in shape g vertices edges rank object

-- no object of the graph is here
abbrev pub IsUnheld : Shape → Graph → VertexObjects → EdgeObjects → Place → Type 0
IsUnheld shape g vertices edges place = (rank : ℕ) (object : Object) → IsOn shape g rank object → place_in vertices edges rank object ≢ place

pub record IsViewed (shape : Shape) (store : Contents) (g : Graph) (vertices : VertexObjects) (edges : EdgeObjects) : Type 0 where
  pub vertex_keys : keys vertices ≡ keys g.vertices
  pub edge_keys : keys edges ≡ keys (heavy_edges g.edges)
  pub each : (rank : ℕ) (object : Object) → IsOn shape g rank object → ObjectIsHeld shape store g vertices edges rank object
  pub apart : (rank : ℕ) (one other : Object) → IsOn shape g rank one → IsOn shape g rank other
      → place_in vertices edges rank one ≡ place_in vertices edges rank other → one ≡ other
  pub rest : (place : Place) → IsUnheld shape g vertices edges place → content_of store place ≡ []
  pub within : (place : Place) → length (content_of store place) ≤ most_words
