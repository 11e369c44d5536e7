use Rattle.std.proofs.Common.{ap, ◌∙◌}
use Rattle.std.specs.FinMap.Entries.{find}
use Rattle.graph_model.specs.Graph.{EdgeKey, edge_cmp, edge_at}
use Rattle.map_graph.specs.Plain.{Plain}
use Rattle.edge_index.proofs.OrderedEntries.{lookup-find}
use Rattle.map_graph.proofs.map_graph.MapGraph.edge.Goals as goal

pub returns : goal.returns
returns c =
    c.get.ensures.value ∙ lookup-find edge_cmp c.new.result c.self.inside.edges.entries ∙ ap (λ (key : EdgeKey). find edge_cmp key c.self.inside.edges.entries) c.new.ensures
    ∙ ap (λ (p : Plain). edge_at p.graph c.args.source c.args.ordinal) c.self.view_is
