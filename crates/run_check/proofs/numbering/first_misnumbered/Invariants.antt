use Rattle.std.proofs.Common.{[], take, drop}
use Rattle.graph_model.specs.LegalRun.{numbers_of}
use Rattle.run_check.specs.declared.place.Place.{Place}
use Rattle.run_check.specs.Places.{NoneFails, FirstFails}
use Rattle.run_check.specs.Numbering.{HasSeen, Misnumbered}
use Rattle.run_check.proofs.numbering.first_misnumbered.Given as goal

-- what is so of the lines that are left is so of all
abbrev pub invariant-loop-line : goal.invariant-loop-line
invariant-loop-line l = record {
  seen : HasSeen l.seen.keys (numbers_of (take l.line-index l.line-items));
  none : NoneFails (Misnumbered l.load l.run.writes) (take l.line-index l.line-items) (drop l.line-index l.line-items)
      → NoneFails (Misnumbered l.load l.run.writes) [] l.line-items;
  first : (place : Place) → FirstFails (Misnumbered l.load l.run.writes) (take l.line-index l.line-items) (drop l.line-index l.line-items) place
      → FirstFails (Misnumbered l.load l.run.writes) [] l.line-items place;
}
