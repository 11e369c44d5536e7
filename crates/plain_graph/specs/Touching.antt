-- Objects by their names, with what steps tell of them.
use Rattle.std.specs.Prelude.{◌≡◌, Bool, true, false, ◌&&◌, ◌||◌, List, Option, is_some, ◌==◌}
use Rattle.std.specs.Map.{lookup}
use Rattle.std.specs.Option.{unwrap_or}
use Rattle.rma_layout.specs.Shape.{Shape}
use Rattle.touched_objects.specs.Touched.{Spot, is_touched}
use Rattle.map_graph.specs.declared.object_name.ObjectName.{ObjectName}
use Rattle.map_graph.specs.declared.object_name.ObjectName.TheVariants.{Reserved, Vertex, HeavyEdge}
use Rattle.map_graph.specs.Named.{object_of, rank_in}

-- an object by its name, on its rank
abbrev pub spot_named : Shape → ObjectName → Spot
spot_named shape name = (rank_in shape name, object_of name)

abbrev pub is_same_name : ObjectName → ObjectName → Bool
is_same_name (Reserved r a) (Reserved s b) = r == s && a == b
is_same_name (Vertex i) (Vertex j) = i == j
is_same_name (HeavyEdge i m) (HeavyEdge j n) = i == j && m == n
is_same_name one other = false

-- objects, each with whether every step that tells of it had it
abbrev pub Marks : Type 0
Marks = List (ObjectName × Bool)

-- the mark of an object, if it has one
abbrev pub mark_of : Marks → ObjectName → Option Bool
mark_of marks name = lookup (λ other. is_same_name other name) marks

-- these are marked as well, and an object that steps didn't have is marked so
pub record AreTold (shape : Shape) (before after : Marks) (spots : List Spot) (had_by : ObjectName → Bool) : Type 0 where
  pub touched : (name : ObjectName) → is_some (mark_of after name) ≡ (is_touched spots (spot_named shape name) || is_some (mark_of before name))
  pub had : (name : ObjectName) → unwrap_or (mark_of after name) true ≡ (unwrap_or (mark_of before name) true && had_by name)
