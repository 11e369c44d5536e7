use Rattle.held_objects.specs.Changes.{any}
use Rattle.edge_ops.proofs.EdgesFound.{out_any}
use Rattle.store_tests.proofs.edges.join.Goals as goal

pub make-requires-3-clause-source_vertex : goal.make-requires-3-clause-source_vertex
make-requires-3-clause-source_vertex g c = c.in_ok-to.ensures.made.others c.in_ok-from.from any c.in_ok-from.ensures.made.known

pub returns-clause-edge : goal.returns-clause-edge
returns-clause-edge g c = out_any (c.in_ok-ordinal.ensures.made.out_known _ c.in-EdgeIs.ordinal c.in-EdgeIs.is)
