use Rattle.std.proofs.Common.{true, false, ap, sym, ◌∙◌}
use Rattle.std.specs.FinMap.Entries.{find}
use Rattle.graph_model.specs.Graph.{vertex_at, edge_cmp}
use Rattle.map_graph.specs.Plain.{Plain}
use Rattle.map_graph.proofs.Ends.{next_is_free}
use Rattle.map_graph.proofs.EdgeWrites.{edge_room}
use Rattle.map_graph.proofs.map_graph.MapGraph.is_full_with_edge.Goals as goal

pub returns-then-source_is_full : goal.returns-then-source_is_full
returns-then-source_is_full c = λ vertex undirected labels there.
    let here = ap (λ (p : Plain). vertex_at p.graph c.args.source) c.self.view_is ∙ there in
    let free = sym (ap (λ (p : Plain). find edge_cmp (record { source = c.args.source; ordinal = vertex.next }) p.graph.edges) c.self.view_is)
    ∙ next_is_free c.self.inside.vertices.entries c.args.source vertex c.self.inside.edges.entries (c.self.invariant.ends c.if-self.false) here in
    c.if-source_is_full.true ∙ edge_room c.args.self.now.graph c.args.source c.args.target vertex undirected labels there free c.ends_at_most-ends.result c.ends_at_most-ends.ensures.value true c.in_ok-target_is_full.target_is_full
    (sym c.if-source_is_full.true ∙ c.in_ok-source_is_full.ensures) c.in_ok-target_is_full.ensures

pub returns-else-source_is_full : goal.returns-else-source_is_full
returns-else-source_is_full c = λ vertex undirected labels there.
    let here = ap (λ (p : Plain). vertex_at p.graph c.args.source) c.self.view_is ∙ there in
    let free = sym (ap (λ (p : Plain). find edge_cmp (record { source = c.args.source; ordinal = vertex.next }) p.graph.edges) c.self.view_is)
    ∙ next_is_free c.self.inside.vertices.entries c.args.source vertex c.self.inside.edges.entries (c.self.invariant.ends c.if-self.false) here in
    edge_room c.args.self.now.graph c.args.source c.args.target vertex undirected labels there free c.ends_at_most-ends.result c.ends_at_most-ends.ensures.value false c.in_ok-target_is_full.target_is_full
    (sym c.if-source_is_full.false ∙ c.in_ok-source_is_full.ensures) c.in_ok-target_is_full.ensures
