use Rattle.std.proofs.Common.{◌≡◌, ℕ, suc, length}
use Rattle.graph_walks.specs.Marks.{mark_at}
use Rattle.graph_walks.proofs.Fronts.{AreLevels, IsFront}
use Rattle.graph_walks.proofs.levels.levels_at.Given as goal

-- the levels below this one are marked, and the front has the last of them
abbrev pub invariant-loop-level : goal.invariant-loop-level
invariant-loop-level l = record {
  len : length l.levels ≡ length l.steps.ids;
  marks : AreLevels l.steps.hops l.from l.level (mark_at l.levels);
  front : (k : ℕ) → l.level ≡ suc k → IsFront l.steps.hops l.from k l.front.items;
}
