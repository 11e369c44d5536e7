use Rattle.std.proofs.Common.{◌∙◌, ap}
use Rattle.object_store.proofs.Works.{went-gave_up}
use Rattle.holder_codec.specs.declared.vertex_holder.VertexHolder.{VertexHolder}
use Rattle.holder_codec.proofs.Lengths.{vertex_same}
use Rattle.held_objects.proofs.Changes.{tells, spelled_part}
use Rattle.vertex_ops.specs.Vertices.{holder_for, IsOrderly}
use Rattle.edge_ops.specs.Lines.{lines_of}
use Rattle.edge_ops.proofs.calls.lines.lines.Goals as goal

pub look-requires-clause-spelled : goal.look-requires-clause-spelled
look-requires-clause-spelled g c = spelled_part c.requires.vertex

pub returns-in-Ok-clause-listed : goal.returns-in-Ok-clause-listed
returns-in-Ok-clause-listed g c =
    tells holder_for IsOrderly vertex_same c.in_ok-holder.ensures.found c.requires.vertex (λ held _ same. c.in-Ok.ensures ∙ ap (λ (h : VertexHolder). lines_of h.id c.args.dir h.edges) same)

pub returns-clause-works : goal.returns-clause-works
returns-clause-works g c = record { went = tt; fell = went-gave_up c.in_ok-holder.ensures.works.went c.give_up.ensures }
