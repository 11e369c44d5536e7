use Rattle.std.proofs.Common.{ap, ◌∙◌}
use Rattle.graph_model.specs.Maps.{add}
use Rattle.graph_model.specs.Graph.{Vertex}
use Rattle.graph_parts.proofs.OrderedMaps.{added}
use Rattle.graph_parts.proofs.held_vertex.HeldVertex.add_label.Goals as goal

pub returns : goal.returns
returns c =
    ap (λ labels. record { next = c.self.inside.next; labels = labels; props = c.self.inside.props }) (added c.args.label c.self.inside.labels.keys c.insert.new.self.keys c.in_ok-insert.ensures.keys)
    ∙ ap (λ (v : Vertex). record v { labels = add c.args.label v.labels }) c.self.view_is
