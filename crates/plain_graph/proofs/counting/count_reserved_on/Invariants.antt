use Rattle.std.proofs.Common.{◌≡◌, ◌-◌, [], map, if◌then◌else◌}
use Rattle.std.specs.Prelude.{◌==◌}
use Rattle.std.specs.List.{range_with_len}
use Rattle.rma_layout.specs.Shape.{reserved_blocks}
use Rattle.graph_model.specs.Capacity.Object.{Reserved}
use Rattle.plain_graph.specs.Counted.{Blocks, CountsAlso, reserved_objects}
use Rattle.plain_graph.proofs.counting.count_reserved_on.Given as goal

-- what counts those to come as well counts all
abbrev pub invariant-loop-block : goal.invariant-loop-block
invariant-loop-block l = record {
  end : l.block-end ≡ reserved_blocks l.map.shape;
  left : (after : Blocks)
      → CountsAlso l.map.shape l.map.graph (λ r. if l.rank == r then map Reserved (range_with_len l.block (reserved_blocks l.map.shape - l.block)) else []) l.count after
      → CountsAlso l.map.shape l.map.graph (λ r. if l.rank == r then reserved_objects l.map.shape r else []) l.fn.count after;
}
