use Rattle.std.proofs.Common.{◌≡◌, ◌<◌, ◌≤◌, ℕ, get_or}
use Rattle.fabric.specs.Joins.{one_or}
use Rattle.fabric.proofs.rank.joins.put_before.Given as goal

abbrev pub invariant-loop-home : goal.invariant-loop-home
invariant-loop-home l = record {
  done : (k : ℕ) → k < l.home
      → get_or l.numbers k 0 ≡ one_or (get_or l.others k 0) (get_or l.fn.numbers k 0);
  left : (k : ℕ) → l.home ≤ k → get_or l.numbers k 0 ≡ get_or l.fn.numbers k 0;
}
