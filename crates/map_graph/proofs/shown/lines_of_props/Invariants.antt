use Rattle.std.proofs.Common.{◌≡◌, [], take}
use Rattle.std.specs.List.{flat_map}
use Rattle.std.specs.Option.{option_map_or}
use Rattle.graph_model.specs.Maps.{item_at}
use Rattle.graph_model.specs.Lookups.{lines_of_values}
use Rattle.map_graph.proofs.shown.lines_of_props.Given as goal

-- the lines of the types so far
abbrev pub invariant-loop-ty : goal.invariant-loop-ty
invariant-loop-ty l = l.lines ≡ flat_map (λ entry. lines_of_values (option_map_or (λ ty. ty.name) (item_at l.types entry.0) []) entry.1) (take l.ty-index l.ty-items)
