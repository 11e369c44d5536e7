use Rattle.held_objects.proofs.Knows.{still}
use Rattle.vertex_ops.proofs.Knows.{vertex_of_single, single_of_vertex}
use Rattle.vertex_ops.proofs.laws.vertices_are_known.Goals as goal

pub returns : goal.returns
returns g c = record {
  vertex = λ number object passes state. vertex_of_single;
  single = λ number object state. single_of_vertex;
  looks = λ object passes old new. still;
}
