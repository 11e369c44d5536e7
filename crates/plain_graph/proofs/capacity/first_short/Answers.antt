use Rattle.std.proofs.Common.{arith}
use Rattle.std.specs.Prelude.{nat_lt}
use Rattle.std.proofs.lemmas.Bool.{le-ltb}
use Rattle.plain_graph.specs.Rooms.{taken_on}
use Rattle.plain_graph.proofs.Finding.{past_rank}
use Rattle.plain_graph.proofs.capacity.first_short.Goals as goal

pub loop-rank-preserved : goal.loop-rank-preserved
loop-rank-preserved c = record {
  end = c.loop-rank.invariant.end;
  left = past_rank (λ rank. nat_lt c.args.geometry.now.blocks (taken_on c.args.taken.now rank)) c.loop-rank.rank c.args.geometry.now.ranks _
      (omega (arith, c.loop-rank-test.true, c.loop-rank.invariant.end)) (le-ltb c.args.geometry.now.blocks (taken_on c.args.taken.now c.loop-rank.rank) (omega (arith, c.if-taken-blocks.false, c.taken.ensures, c.blocks-blocks.ensures.value))) c.loop-rank.invariant.left;
}
