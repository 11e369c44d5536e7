-- Objects by their names.
use Rattle.std.specs.Prelude.{ℕ, ◌<◌, ◌^◌}
use Rattle.rma_layout.specs.Shape.{Shape}
use Rattle.rma_layout.specs.Placement.{home_of}
use Rattle.graph_model.specs.Capacity.{Object}
use Rattle.graph_model.specs.Capacity.Object.{Reserved as OfReserved, OfVertex, OfHeavyEdge}
use Rattle.map_graph.specs.declared.object_name.ObjectName.{ObjectName}
use Rattle.map_graph.specs.declared.object_name.ObjectName.TheVariants.{Reserved, Vertex, HeavyEdge}

abbrev pub object_of : ObjectName → Object
object_of (Reserved rank block) = OfReserved block
object_of (Vertex id) = OfVertex id
object_of (HeavyEdge source ordinal) = OfHeavyEdge source ordinal

-- the rank on which it stands
abbrev pub rank_in : Shape → ObjectName → ℕ
rank_in shape (Reserved rank block) = rank
rank_in shape (Vertex id) = home_of shape id
rank_in shape (HeavyEdge source ordinal) = home_of shape source

-- a reserved block has a number of 48 bits
abbrev pub IsName : ObjectName → Type 0
IsName (Reserved rank block) = block < 2 ^ 48
IsName other = Unit {0}
