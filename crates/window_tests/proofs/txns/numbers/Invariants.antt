use Rattle.std.proofs.Common.{◌≡◌, length}
use Rattle.window_tests.proofs.txns.numbers.Given as goal

abbrev pub invariant-loop-number : goal.invariant-loop-number
invariant-loop-number l = length l.words ≡ l.number
