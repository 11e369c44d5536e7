use Rattle.std.proofs.Common.{◌≡◌, ◌-◌}
use Rattle.std.specs.Prelude.{nat_lt, find}
use Rattle.std.specs.List.{range_with_len}
use Rattle.plain_graph.specs.Rooms.{taken_on}
use Rattle.plain_graph.proofs.capacity.first_short.Given as goal

abbrev pub invariant-loop-rank : goal.invariant-loop-rank
invariant-loop-rank l = record {
  end : l.rank-end ≡ l.geometry.ranks;
  left : find (λ rank. nat_lt l.geometry.blocks (taken_on l.taken rank)) (range_with_len 0 l.geometry.ranks)
      ≡ find (λ rank. nat_lt l.geometry.blocks (taken_on l.taken rank)) (range_with_len l.rank (l.geometry.ranks - l.rank));
}
