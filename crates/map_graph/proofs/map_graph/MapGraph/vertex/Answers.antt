use Rattle.std.proofs.Common.{ap, ◌∙◌}
use Rattle.graph_model.specs.Graph.{vertex_at}
use Rattle.map_graph.specs.Plain.{Plain}
use Rattle.graph_parts.proofs.OrderedMaps.{lookup-at}
use Rattle.map_graph.proofs.map_graph.MapGraph.vertex.Goals as goal

pub returns : goal.returns
returns c = c.get.ensures.value ∙ lookup-at c.args.id c.self.inside.vertices.entries ∙ ap (λ (p : Plain). vertex_at p.graph c.args.id) c.self.view_is
