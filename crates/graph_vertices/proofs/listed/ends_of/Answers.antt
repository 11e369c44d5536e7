use Rattle.std.proofs.Common.{arith}
use Rattle.graph_vertices.proofs.Listing.{ends_more}
use Rattle.graph_vertices.proofs.listed.ends_of.Goals as goal

pub loop-left-preserved-in_ok-insert : goal.loop-left-preserved-in_ok-insert
loop-left-preserved-in_ok-insert c = record {
  within = omega (arith, c.loop-left.invariant.within);
  ends = ends_more c.args.dir c.args.edges.now c.loop-left.left c.index-edges-left.result c.loop-left-test.true c.loop-left.invariant.within c.index-edges-left.is c.if-is_listed.ensures c.loop-left.invariant.ends c.in_ok-insert.ensures.keys;
}
