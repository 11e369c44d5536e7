use Rattle.std.proofs.Common.{◌≡◌, [], map, take}
use Rattle.std.specs.Option.{unwrap_or}
use Rattle.graph_model.specs.Maps.{item_at}
use Rattle.graph_vertices.proofs.shown.names_of.Given as goal

abbrev pub invariant-loop-place : goal.invariant-loop-place
invariant-loop-place l = l.shown ≡ map (λ n. unwrap_or (item_at l.names n) []) (take l.place l.labels)
