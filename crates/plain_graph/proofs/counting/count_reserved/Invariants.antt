use Rattle.std.proofs.Common.{◌≡◌, [], if◌then◌else◌}
use Rattle.std.specs.Prelude.{nat_lt}
use Rattle.plain_graph.specs.Counted.{Blocks, CountsAlso, reserved_objects}
use Rattle.plain_graph.proofs.counting.count_reserved.Given as goal

-- what counts those of the ranks to come as well counts all
abbrev pub invariant-loop-rank : goal.invariant-loop-rank
invariant-loop-rank l = record {
  end : l.rank-end ≡ l.map.shape.ranks;
  left : (after : Blocks)
      → CountsAlso l.map.shape l.map.graph (λ r. if nat_lt r l.rank then [] else reserved_objects l.map.shape r) l.count after
      → CountsAlso l.map.shape l.map.graph (reserved_objects l.map.shape) l.fn.count after;
}
