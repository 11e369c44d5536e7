-- Which objects a view has detached, to write them.
use Rattle.std.specs.Prelude.{List, [], ◌∷◌, Option, Some, None, if◌then◌else◌}
use Rattle.rma_layout.specs.Placement.{Place, same_place}
use Rattle.window_rule.specs.View.{Dirt}

-- what the view has of the object, if it has detached it
abbrev pub dirt_of : List Dirt → Place → Option Dirt
dirt_of [] object = None
dirt_of (one ∷ more) object = if same_place one.object object then Some one else dirt_of more object
