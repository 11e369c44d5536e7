use Rattle.held_objects.proofs.Changes.{tells, spelled_part}
use Rattle.holder_codec.proofs.Lengths.{vertex_same}
use Rattle.vertex_ops.specs.Vertices.{holder_for, IsOrderly}
use Rattle.vertex_ops.proofs.calls.load.load.Goals as goal

pub look-requires-clause-spelled : goal.look-requires-clause-spelled
look-requires-clause-spelled g c = spelled_part c.requires.vertex

pub returns-clause-found : goal.returns-clause-found
returns-clause-found g c = tells holder_for IsOrderly vertex_same c.in_ok-holder.ensures.found c.requires.vertex (λ held _ same. same)
