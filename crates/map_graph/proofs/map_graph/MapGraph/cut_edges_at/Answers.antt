use Rattle.std.proofs.Common.{not, ap, subst, ◌∙◌}
use Rattle.std.specs.Prelude.{◌==◌}
use Rattle.std.specs.List.{filter}
use Rattle.std.specs.List.Sorted.{IsStrictlySortedBy}
use Rattle.std.specs.Map.{keys_of}
use Rattle.graph_model.specs.Graph.{Graph, edge_cmp}
use Rattle.map_graph.specs.Plain.{Plain, is_among}
use Rattle.map_graph.proofs.Cuts.{cut_both}
use Rattle.map_graph.proofs.map_graph.MapGraph.cut_edges_at.Goals as goal

pub returns-clause-graph : goal.returns-clause-graph
returns-clause-graph c =
    let rises = subst (λ (p : Plain). IsStrictlySortedBy edge_cmp (keys_of p.graph.edges)) c.self.view_is c.len-count.ensures.ordered in
    let outs = c.as_slice.ensures.value ∙ c.in_ok-outward.ensures ∙ c.self.invariant.outgoing c.if-self.false c.args.id ∙ ap (λ (p : Plain). keys_of (filter (λ entry. entry.0.source == c.args.id) p.graph.edges)) c.self.view_is in
    let ins = c.as_slice-2.ensures.value ∙ c.in_ok-inward.ensures ∙ c.self.invariant.incoming c.if-self.false c.args.id ∙ ap (λ (p : Plain). keys_of (filter (λ entry. entry.1.target == c.args.id) p.graph.edges)) c.self.view_is in
    c.in_ok-cut_each-2.ensures.graph
    ∙ ap (λ (g : Graph). record g { edges = filter (λ entry. not (is_among c.as_slice-2.result.now entry.0)) g.edges }) c.in_ok-cut_each.ensures.graph
    ∙ ap (λ es. record c.args.self.now.graph { edges = es })
    (cut_both (λ entry. entry.0.source == c.args.id) (λ entry. entry.1.target == c.args.id) c.as_slice.result.now c.as_slice-2.result.now c.args.self.now.graph.edges rises outs ins)
