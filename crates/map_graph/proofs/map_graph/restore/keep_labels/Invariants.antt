use Rattle.std.proofs.Common.{◌≡◌, ◌+◌, ◌≤◌, length, take}
use Rattle.map_graph.specs.Plain.{words_of_labels}
use Rattle.map_graph.proofs.map_graph.restore.keep_labels.Given as goal

abbrev pub invariant-loop-labels : goal.invariant-loop-labels
invariant-loop-labels l = record {
  items : take l.count l.labels.items ≡ take l.count l.fn.labels.items;
  words : l.left + words_of_labels l.fn.labels.items ≡ l.words + words_of_labels l.labels.items;
  some : words_of_labels l.labels.items ≤ l.left;
}

abbrev pub decreases-loop-labels : goal.decreases-loop-labels
decreases-loop-labels l = length l.labels.items
