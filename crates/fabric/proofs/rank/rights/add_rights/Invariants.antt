use Rattle.std.proofs.Common.{◌≡◌, ◌<◌, ◌≤◌, ℕ, false, get_or}
use Rattle.fabric.specs.Window.{any}
use Rattle.fabric.proofs.rank.rights.add_rights.Given as goal

abbrev pub invariant-loop-rank : goal.invariant-loop-rank
invariant-loop-rank l = record {
  done : (k : ℕ) → k < l.rank
      → get_or l.held k false ≡ any (get_or l.fn.held k false) (get_or l.others k false);
  left : (k : ℕ) → l.rank ≤ k → get_or l.held k false ≡ get_or l.fn.held k false;
}
