use Rattle.std.proofs.Common.{◌<◌, ap, sym, subst, ◌∙◌}
use Rattle.std.specs.Prelude.{IsSome, IsSomeAnd}
use Rattle.std.specs.List.Sorted.{IsStrictlySortedBy}
use Rattle.std.specs.Map.{keys_of}
use Rattle.graph_model.specs.Graph.{Graph, edge_cmp, vertex_at, edge_at}
use Rattle.graph_model.specs.EdgeCalls.{with_edge}
use Rattle.map_graph.specs.Plain.{Plain}
use Rattle.map_graph.proofs.PutBack.{ends-found, put-after_out, absent-after_out}
use Rattle.map_graph.proofs.map_graph.MapGraph.put_edge_back.Goals as goal

pub insert_edge-requires-clause-absent : goal.insert_edge-requires-clause-absent
insert_edge-requires-clause-absent c =
    ap (λ (g : Graph). edge_at g c.args.key.source c.args.key.ordinal) c.in_ok-take_edge.ensures.graph ∙ absent-after_out c.args.key c.args.self.now.graph.edges

pub insert_edge-requires-clause-source : goal.insert_edge-requires-clause-source
insert_edge-requires-clause-source c =
    subst (λ (g : Graph). IsSomeAnd (vertex_at g c.args.key.source) (λ vertex. c.args.key.ordinal < vertex.next)) (sym c.in_ok-take_edge.ensures.graph) (ends-found c.args.self.now.graph c.args.key c.args.edge c.requires).source

pub insert_edge-requires-clause-target : goal.insert_edge-requires-clause-target
insert_edge-requires-clause-target c =
    subst (λ (g : Graph). IsSome (vertex_at g c.args.edge.target)) (sym c.in_ok-take_edge.ensures.graph) (ends-found c.args.self.now.graph c.args.key c.args.edge c.requires).target

pub returns-clause-graph : goal.returns-clause-graph
returns-clause-graph c =
    let rises = subst (λ (p : Plain). IsStrictlySortedBy edge_cmp (keys_of p.graph.edges)) c.self.view_is c.len-count.ensures.ordered in
    c.in_ok-insert_edge.ensures.graph
    ∙ ap (λ (g : Graph). with_edge g c.args.key.source c.args.key.ordinal c.args.edge) c.in_ok-take_edge.ensures.graph
    ∙ ap (λ es. record c.args.self.now.graph { edges = es }) (put-after_out c.args.key c.args.edge c.args.self.now.graph.edges rises)
