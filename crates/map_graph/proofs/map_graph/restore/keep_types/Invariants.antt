use Rattle.std.proofs.Common.{◌≡◌, ◌+◌, ◌≤◌, length, take}
use Rattle.map_graph.specs.Plain.{words_of_types}
use Rattle.map_graph.proofs.map_graph.restore.keep_types.Given as goal

abbrev pub invariant-loop-types : goal.invariant-loop-types
invariant-loop-types l = record {
  items : take l.count l.types.items ≡ take l.count l.fn.types.items;
  words : l.left + words_of_types l.fn.types.items ≡ l.words + words_of_types l.types.items;
  some : words_of_types l.types.items ≤ l.left;
}

abbrev pub decreases-loop-types : goal.decreases-loop-types
decreases-loop-types l = length l.types.items
