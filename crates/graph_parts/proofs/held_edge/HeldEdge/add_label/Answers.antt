use Rattle.std.proofs.Common.{ap, ◌∙◌}
use Rattle.graph_model.specs.Maps.{add}
use Rattle.graph_model.specs.Graph.{Edge}
use Rattle.graph_parts.proofs.OrderedMaps.{added}
use Rattle.graph_parts.proofs.held_edge.HeldEdge.add_label.Goals as goal

pub returns-clause-changed : goal.returns-clause-changed
returns-clause-changed c =
    ap (λ labels. record { target = c.self.inside.target; undirected = c.self.inside.undirected; labels = labels; props = c.self.inside.props })
    (added c.args.label c.self.inside.labels.keys c.insert.new.self.keys c.in_ok-insert.ensures.keys)
    ∙ ap (λ (e : Edge). record e { labels = add c.args.label e.labels }) c.self.view_is
