use Rattle.std.proofs.Common.{◌≡◌, ℕ, ◌-◌, drop}
use Rattle.plain_graph.specs.Rooms.{taken_on}
use Rattle.plain_graph.specs.Used.{HaveRanks, amount_on}
use Rattle.plain_graph.proofs.capacity.give_before.Given as goal

abbrev pub invariant-loop-growth : goal.invariant-loop-growth
invariant-loop-growth l = record {
  ranks : HaveRanks l.geometry (drop l.growth-index l.touched);
  left : (rank : ℕ) → taken_on l.used rank - amount_on rank (λ growth. growth.before) (drop l.growth-index l.touched) ≡ taken_on l.fn.used rank - amount_on rank (λ growth. growth.before) l.touched;
}
