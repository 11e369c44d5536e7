-- Blocks of all objects of a graph, and which transactions surely have room between two graphs.
use Rattle.std.specs.Prelude.{◌≡◌, ℕ, ◌+◌, ◌-◌, ◌<◌, Bool, false, ◌&&◌, List, map, slice_index, sum_by, count_by, ◌==◌}
use Rattle.std.specs.List.{filter, range_with_len}
use Rattle.std.specs.Option.{option_map_or}
use Rattle.gdi_kinds.specs.declared.call.Call.{Call}
use Rattle.rma_layout.specs.Shape.{Shape, reserved_blocks}
use Rattle.rma_layout.specs.Placement.{home_of}
use Rattle.graph_model.specs.Maps.{Map, keys}
use Rattle.graph_model.specs.Graph.{Graph, Vertex, Edge, EdgeKey, is_heavy}
use Rattle.graph_model.specs.Capacity.{Object, objects_on, blocks_of_object, blocks_used_on, object_to_make}
use Rattle.graph_model.specs.Capacity.Object.{Reserved, OfVertex, OfHeavyEdge}

-- blocks by rank: all, and those that objects have besides their first
pub record Blocks : Type 0 where
  pub used : List ℕ
  pub more : List ℕ

abbrev pub used_on : Blocks → ℕ → ℕ
used_on blocks rank = slice_index blocks.used rank

abbrev pub more_on : Blocks → ℕ → ℕ
more_on blocks rank = slice_index blocks.more rank

abbrev pub more_blocks_on : Shape → Graph → ℕ → ℕ
more_blocks_on shape g rank = sum_by (λ object. blocks_of_object shape g rank object - 1) (objects_on shape g rank)

-- they are a graph's
pub record IsCountOf (shape : Shape) (g : Graph) (blocks : Blocks) : Type 0 where
  pub used : (rank : ℕ) → rank < shape.ranks → used_on blocks rank ≡ blocks_used_on shape g rank
  pub more : (rank : ℕ) → rank < shape.ranks → more_on blocks rank ≡ more_blocks_on shape g rank

-- whether a call may make an object on a rank, and how many of these may
abbrev pub may_make_on : Shape → ℕ → Call → Bool
may_make_on shape rank call = option_map_or (λ made. made.0 == rank) (object_to_make shape call) false

abbrev pub makers_on : Shape → List Call → ℕ → ℕ
makers_on shape calls rank = count_by (may_make_on shape rank) calls

-- the objects of a rank: reserved ones, those of vertices and those of heavy edges
abbrev pub reserved_objects : Shape → ℕ → List Object
reserved_objects shape rank = map Reserved (range_with_len 0 (reserved_blocks shape))

abbrev pub vertex_objects : Shape → Map ℕ Vertex → ℕ → List Object
vertex_objects shape vertices rank = map OfVertex (filter (λ id. home_of shape id == rank) (keys vertices))

abbrev pub edge_objects : Shape → Map EdgeKey Edge → ℕ → List Object
edge_objects shape edges rank =
    map (λ entry. OfHeavyEdge entry.0.source entry.0.ordinal) (filter (λ entry. is_heavy entry.1 && home_of shape entry.0.source == rank) edges)

-- those of these objects are counted as well
pub record CountsAlso (shape : Shape) (g : Graph) (objects : ℕ → List Object) (before after : Blocks) : Type 0 where
  pub used : (rank : ℕ) → rank < shape.ranks → used_on after rank ≡ used_on before rank + sum_by (blocks_of_object shape g rank) (objects rank)
  pub more : (rank : ℕ) → rank < shape.ranks → more_on after rank ≡ more_on before rank + sum_by (λ object. blocks_of_object shape g rank object - 1) (objects rank)
