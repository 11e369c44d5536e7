use Rattle.std.proofs.Common.{◌≡◌, [], map, take}
use Rattle.std.specs.Option.{option_map_or}
use Rattle.graph_model.specs.Maps.{item_at}
use Rattle.graph_vertices.proofs.shown.lines_of.Given as goal

abbrev pub invariant-loop-place : goal.invariant-loop-place
invariant-loop-place l =
    l.lines ≡ map (λ prop. record { name = option_map_or (λ type. type.name) (item_at l.types prop.number) []; value = prop.value }) (take l.place l.props)
