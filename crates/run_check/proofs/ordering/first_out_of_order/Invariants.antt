use Rattle.std.proofs.Common.{◌≤◌, ◌^◌, [], take, drop}
use Rattle.run_check.specs.declared.place.Place.{Place}
use Rattle.run_check.specs.Places.{NoneFails, FirstFails}
use Rattle.run_check.specs.Ordering.{HasCome, TooEarly}
use Rattle.run_check.proofs.Orders.{Left}
use Rattle.run_check.proofs.ordering.first_out_of_order.Given as goal

-- what is so of the lines that are left is so of all
abbrev pub invariant-loop-line : goal.invariant-loop-line
invariant-loop-line l = record {
  small : l.reached.least ≤ 2 ^ 64;
  come : HasCome (take l.line-index l.lines) l.reached.section l.reached.least;
  left : Left (drop l.line-index l.lines) l.reached.section;
  none : NoneFails TooEarly (take l.line-index l.lines) (drop l.line-index l.lines) → NoneFails TooEarly [] l.lines;
  first : (place : Place) → FirstFails TooEarly (take l.line-index l.lines) (drop l.line-index l.lines) place → FirstFails TooEarly [] l.lines place;
}
