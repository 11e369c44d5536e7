use Rattle.std.proofs.Common.{◌+◌, [], if◌then◌else◌}
use Rattle.std.specs.Prelude.{◌==◌, nat_lt}
use Rattle.plain_graph.specs.Counted.{reserved_objects}
use Rattle.plain_graph.proofs.Counts.{one_also, one_rank}
use Rattle.plain_graph.proofs.counting.count_reserved.Goals as goal

pub loop-rank-preserved : goal.loop-rank-preserved
loop-rank-preserved c =
    let shape = c.args.map.now.shape in
    let g = c.args.map.now.graph in
    let rank = c.loop-rank.rank in
    record {
      end = c.loop-rank.invariant.end;
      left = λ after told.
          one_also shape g (λ r. if nat_lt r rank then [] else reserved_objects shape r) (λ r. if rank == r then reserved_objects shape r else [])
          (λ r. if nat_lt r (rank + 1) then [] else reserved_objects shape r) (reserved_objects shape)
          c.args.count.now c.loop-rank.count c.count_reserved_on.new.count after
          (λ r _. one_rank shape rank r) (c.loop-rank.invariant.left after) c.in_ok-count_reserved_on.ensures told;
    }
