use Rattle.std.proofs.Common.{ℕ, ◌-◌, ◌<◌, ◌≤◌, length, get_or}
use Rattle.graph_walks.proofs.places.halved.Given as goal

-- those before are below the identifier, and those behind aren't
abbrev pub invariant-loop-low : goal.invariant-loop-low
invariant-loop-low l = record {
  order : l.low ≤ l.high;
  high : l.high ≤ length l.ids;
  before : (k : ℕ) → k < l.low → get_or l.ids k 0 < l.id;
  behind : (k : ℕ) → l.high ≤ k → k < length l.ids → l.id ≤ get_or l.ids k 0;
}

abbrev pub decreases-loop-low : goal.decreases-loop-low
decreases-loop-low l = l.high - l.low
