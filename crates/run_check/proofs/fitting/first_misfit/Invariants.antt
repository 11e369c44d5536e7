use Rattle.std.proofs.Common.{◌+◌, drop}
use Rattle.graph_model.specs.Placed.{sections_from, transactions_of}
use Rattle.graph_model.specs.LegalRun.{FitsScript}
use Rattle.run_check.specs.declared.place.Place.{Place}
use Rattle.run_check.specs.Fitting.{FirstMisfit}
use Rattle.run_check.proofs.fitting.first_misfit.Given as goal

-- what is so of the lines that are left is so of all
abbrev pub invariant-loop-index : goal.invariant-loop-index
invariant-loop-index l = record {
  fits : FitsScript (sections_from (l.index + 1) (drop l.index l.section-items)) l.rest → FitsScript (transactions_of l.section-items) l.fn.lines;
  misfit : (place : Place) → FirstMisfit (sections_from (l.index + 1) (drop l.index l.section-items)) l.rest place
      → FirstMisfit (transactions_of l.section-items) l.fn.lines place;
}
