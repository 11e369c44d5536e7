use Rattle.std.proofs.Common.{◌≡◌, ◌++◌, drop}
use Rattle.bulk_load.specs.Rows.{new_labels}
use Rattle.bulk_load.proofs.row.push_new_labels.Given as goal

abbrev pub invariant-loop-name : goal.invariant-loop-name
invariant-loop-name l = l.calls ++ new_labels l.fn.graph.graph (drop l.name-index l.names) ≡ l.fn.calls ++ new_labels l.fn.graph.graph l.names
