use Rattle.std.proofs.Common.{◌≡◌, ◌++◌, drop}
use Rattle.bulk_load.specs.Loads.{new_types}
use Rattle.bulk_load.proofs.loader.new_types.Given as goal

abbrev pub invariant-loop-column : goal.invariant-loop-column
invariant-loop-column l = l.calls ++ new_types l.fn.graph.graph (drop l.column-index l.column-items) ≡ new_types l.fn.graph.graph l.column-items
