use Rattle.std.proofs.Common.{ap, ◌∙◌}
use Rattle.graph_model.specs.Maps.{take_out}
use Rattle.graph_model.specs.Graph.{Edge}
use Rattle.graph_parts.proofs.OrderedMaps.{taken_out}
use Rattle.graph_parts.proofs.held_edge.HeldEdge.remove_label.Goals as goal

pub returns : goal.returns
returns c =
    ap (λ labels. record { target = c.self.inside.target; undirected = c.self.inside.undirected; labels = labels; props = c.self.inside.props })
    (taken_out c.args.label c.self.inside.labels.keys c.remove.new.self.keys c.remove.ensures.keys c.remove.ensures.updates.1)
    ∙ ap (λ (e : Edge). record e { labels = take_out c.args.label e.labels }) c.self.view_is
