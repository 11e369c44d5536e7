use Rattle.object_store.proofs.Works.{read_looks}
use Rattle.held_objects.proofs.Knows.{still}
use Rattle.vertex_ops.proofs.Knows.{vertex_of_single}
use Rattle.store_tests.proofs.vertices.set_and_clear_prop.Goals as goal

pub set_prop-requires-clause-vertex : goal.set_prop-requires-clause-vertex
set_prop-requires-clause-vertex g c = c.in_ok-at.ensures.made.single c.args.prop

pub clear_prop-requires-clause-vertex : goal.clear_prop-requires-clause-vertex
clear_prop-requires-clause-vertex g c = vertex_of_single (still (read_looks c.in_ok-words.ensures.done) c.in_ok-set_again.ensures.valued.known)
