use Rattle.std.proofs.Common.{◌+◌, not, drop, ap, sym, ◌∙◌, arith}
use Rattle.std.specs.List.{filter}
use Rattle.graph_model.specs.Graph.{Graph}
use Rattle.map_graph.specs.Plain.{is_among}
use Rattle.map_graph.proofs.Cuts.{cut_next, cut_last}
use Rattle.map_graph.proofs.map_graph.MapGraph.cut_each.Goals as goal

pub loop-key-preserved : goal.loop-key-preserved
loop-key-preserved c = record {
  shape = c.take_edge.ensures.shape ∙ c.loop-key.invariant.shape;
  labels = ap (λ (g : Graph). g.labels) c.in_ok-take_edge.ensures.graph ∙ c.loop-key.invariant.labels;
  types = ap (λ (g : Graph). g.types) c.in_ok-take_edge.ensures.graph ∙ c.loop-key.invariant.types;
  vertices = ap (λ (g : Graph). g.vertices) c.in_ok-take_edge.ensures.graph ∙ c.loop-key.invariant.vertices;
  edges = ap (λ (g : Graph). filter (λ entry. not (is_among (drop (c.loop-key.key-index + 1) c.args.keys.now) entry.0)) g.edges) c.in_ok-take_edge.ensures.graph
      ∙ cut_next c.args.keys.now c.loop-key.key-index c.key-item.result c.loop-key.self.graph.edges (omega (arith, c.loop-key-test.true)) c.key-item.is ∙ c.loop-key.invariant.edges;
}

pub returns-clause-graph : goal.returns-clause-graph
returns-clause-graph c = λ i. record {
  labels = c.loop-key.invariant.labels i;
  types = c.loop-key.invariant.types i;
  vertices = c.loop-key.invariant.vertices i;
  edges = (sym (cut_last c.args.keys.now c.loop-key.key-index c.loop-key.self.graph.edges (omega (arith, c.loop-key-test.false))) ∙ c.loop-key.invariant.edges) i;
}
