use Rattle.std.proofs.Common.{◌+◌, List, ◌++◌, drop}
use Rattle.graph_model.specs.Placed.{Placed, placed_from}
use Rattle.graph_model.specs.LegalRun.{FitsScript}
use Rattle.run_check.specs.declared.place.Place.{Place}
use Rattle.run_check.specs.Fitting.{FirstMisfit}
use Rattle.run_check.proofs.fitting.behind_section.Given as goal

-- what is so of the lines that are left is so of all
abbrev pub invariant-loop-index : goal.invariant-loop-index
invariant-loop-index l = record {
  fits : (more : List Placed) → FitsScript (placed_from l.number (l.index + 1) (drop l.index l.section) ++ more) l.rest
      → FitsScript (placed_from l.number 1 l.section ++ more) l.fn.lines;
  misfit : (more : List Placed) (place : Place) → FirstMisfit (placed_from l.number (l.index + 1) (drop l.index l.section) ++ more) l.rest place
      → FirstMisfit (placed_from l.number 1 l.section ++ more) l.fn.lines place;
}
