use Rattle.std.proofs.Common.{◌≡◌, ◌≤◌, ◌+◌}
use Rattle.window_rule.specs.Pairs.{IsAtRest}
use Rattle.window_tests.proofs.steps.write_often.Given as goal

abbrev pub invariant-loop-k : goal.invariant-loop-k
invariant-loop-k l =
    (l.rank.window ≡ l.window) × IsAtRest l.rank.view × (l.times ≤ l.rank.view.allowance + l.k) × (l.written ≤ l.k)
