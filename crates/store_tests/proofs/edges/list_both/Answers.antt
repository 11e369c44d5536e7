use Rattle.held_objects.proofs.Knows.{still}
use Rattle.store_tests.proofs.edges.list_both.Goals as goal

pub lines-requires-2-clause-vertex : goal.lines-requires-2-clause-vertex
lines-requires-2-clause-vertex g c = still c.in_ok-from.ensures.listed.looks c.requires.to_vertex

pub returns-clause-edge : goal.returns-clause-edge
returns-clause-edge g c = still c.in_ok-to.ensures.listed.looks (still c.in_ok-from.ensures.listed.looks c.requires.edge)
