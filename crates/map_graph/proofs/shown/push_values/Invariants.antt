use Rattle.std.proofs.Common.{◌≡◌, ◌++◌, drop}
use Rattle.graph_model.specs.Lookups.{lines_of_values}
use Rattle.map_graph.proofs.shown.push_values.Given as goal

abbrev pub invariant-loop-value : goal.invariant-loop-value
invariant-loop-value l = l.lines ++ lines_of_values l.name (drop l.value-index l.value-items) ≡ l.fn.lines ++ lines_of_values l.name l.values
