use Rattle.std.proofs.Common.{◌≡◌, ◌∷◌, false, flat_map}
use Rattle.std.specs.List.{range_with_len}
use Rattle.gdi_kinds.specs.declared.call.Call.TheVariants.{NewLabel, NewType}
use Rattle.gdi_kinds.specs.declared.value.Kind.TheVariants as kind
use Rattle.drill.specs.Drill.{node, number, vertex_calls}
use Rattle.drill.proofs.load.all_vertices.Given as goal

abbrev pub invariant-loop-id : goal.invariant-loop-id
invariant-loop-id l =
    l.calls ≡ NewLabel node ∷ NewType number kind.Int false ∷ flat_map vertex_calls (range_with_len 0 l.id)
