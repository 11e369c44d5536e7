use Rattle.std.proofs.Common.{◌≡◌, ◌+◌, ◌≤◌, List, ◌++◌, drop}
use Rattle.graph_model.specs.Placed.{Placed, placed_from}
use Rattle.serial_run.specs.Serial.{serial_graph, serial_lines, serial_writes}
use Rattle.serial_run.proofs.runner.run_section.Given as goal

-- what is printed so far and what the rest of the section prints is what all of it prints
abbrev pub invariant-loop-index : goal.invariant-loop-index
invariant-loop-index l = record {
  shape : l.run.graph.shape ≡ l.fn.run.graph.shape;
  lines : (rest : List Placed) → l.run.lines ++ serial_lines l.fn.run.graph.shape l.run.graph.graph l.run.writes (placed_from l.number (l.index + 1) (drop l.index l.section) ++ rest)
      ≡ l.fn.run.lines ++ serial_lines l.fn.run.graph.shape l.fn.run.graph.graph l.fn.run.writes (placed_from l.number 1 l.section ++ rest);
  writes : (rest : List Placed) → serial_writes l.fn.run.graph.shape l.run.graph.graph l.run.writes (placed_from l.number (l.index + 1) (drop l.index l.section) ++ rest)
      ≡ serial_writes l.fn.run.graph.shape l.fn.run.graph.graph l.fn.run.writes (placed_from l.number 1 l.section ++ rest);
  graph : (rest : List Placed) → serial_graph l.fn.run.graph.shape l.run.graph.graph (placed_from l.number (l.index + 1) (drop l.index l.section) ++ rest)
      ≡ serial_graph l.fn.run.graph.shape l.fn.run.graph.graph (placed_from l.number 1 l.section ++ rest);
  room : l.run.writes ≤ l.fn.run.writes + l.index;
}
