use Rattle.std.proofs.Common.{◌≡◌}
use Rattle.window_rule.specs.Pairs.{IsAtRest}
use Rattle.window_tests.proofs.steps.read_often.Given as goal

abbrev pub invariant-loop : goal.invariant-loop
invariant-loop l = (l.rank.window ≡ l.window) × IsAtRest l.rank.view
