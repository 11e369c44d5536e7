use Rattle.std.proofs.Common.{ap, ◌∙◌}
use Rattle.graph_model.specs.Maps.{take_out}
use Rattle.graph_model.specs.Graph.{Vertex}
use Rattle.graph_parts.proofs.OrderedMaps.{taken_out, taken-labels}
use Rattle.graph_parts.proofs.held_vertex.HeldVertex.remove_label.Goals as goal

pub returns-clause-changed : goal.returns-clause-changed
returns-clause-changed c =
    ap (λ labels. record { next = c.self.inside.next; labels = labels; props = c.self.inside.props }) (taken_out c.args.label c.self.inside.labels.keys c.remove.new.self.keys c.remove.ensures.keys c.remove.ensures.updates.1)
    ∙ ap (λ (v : Vertex). record v { labels = take_out c.args.label v.labels }) c.self.view_is

pub returns-clause-count : goal.returns-clause-count
returns-clause-count c = λ p there.
    taken-labels p c.args.label c.self.inside.labels.keys c.args.self.now.labels c.remove.new.self.keys (ap (λ (v : Vertex). v.labels) c.self.view_is) c.remove.ensures.keys there
