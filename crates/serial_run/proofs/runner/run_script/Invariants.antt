use Rattle.std.proofs.Common.{◌≡◌, ◌+◌, ◌≤◌, ◌++◌, drop, length, sum_by}
use Rattle.graph_model.specs.Placed.{sections_from, transactions_of}
use Rattle.serial_run.specs.Serial.{serial_graph, serial_lines, serial_writes}
use Rattle.serial_run.proofs.runner.run_script.Given as goal

-- what is printed so far and what the rest of the script prints is what all of it prints
abbrev pub invariant-loop-index : goal.invariant-loop-index
invariant-loop-index l = record {
  shape : l.run.graph.shape ≡ l.fn.graph.shape;
  lines : l.run.lines ++ serial_lines l.fn.graph.shape l.run.graph.graph l.run.writes (sections_from (l.index + 1) (drop l.index l.section-items))
      ≡ serial_lines l.fn.graph.shape l.fn.graph.graph l.fn.entries (transactions_of l.section-items);
  writes : serial_writes l.fn.graph.shape l.run.graph.graph l.run.writes (sections_from (l.index + 1) (drop l.index l.section-items))
      ≡ serial_writes l.fn.graph.shape l.fn.graph.graph l.fn.entries (transactions_of l.section-items);
  graph : serial_graph l.fn.graph.shape l.run.graph.graph (sections_from (l.index + 1) (drop l.index l.section-items))
      ≡ serial_graph l.fn.graph.shape l.fn.graph.graph (transactions_of l.section-items);
  room : l.run.writes + sum_by length (drop l.index l.section-items) ≤ l.fn.entries + sum_by length l.section-items;
}
