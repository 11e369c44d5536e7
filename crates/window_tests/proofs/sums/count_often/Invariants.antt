use Rattle.std.proofs.Common.{◌≡◌, ◌+◌, ◌*◌, ◌≤◌}
use Rattle.window_rule.specs.Pairs.{IsAtRest}
use Rattle.window_tests.proofs.sums.count_often.Given as goal

abbrev pub invariant-loop : goal.invariant-loop
invariant-loop l = record {
  window : l.rank.window ≡ l.fn.rank.window;
  rest : IsAtRest l.rank.view;
  allowed : l.fn.rank.view.allowance ≤ l.rank.view.allowance + 2 * l.counter;
  few : l.done ≤ 2 * l.counter;
}
