use Rattle.std.proofs.Common.{◌≡◌, ◌==◌, map, take}
use Rattle.std.specs.List.{filter}
use Rattle.graph_vertices.proofs.got.values_with.Given as goal

abbrev pub invariant-loop-place : goal.invariant-loop-place
invariant-loop-place l = l.values ≡ map (λ prop. prop.value) (filter (λ prop. prop.number == l.number) (take l.place l.props))
