use Rattle.std.proofs.Common.{◌≡◌, ℕ, not, cond, eqb, sym, ap, subst, ◌∙◌}
use Rattle.std.specs.List.{filter}
use Rattle.std.specs.BTreeMap.{is_at}
use Rattle.std.specs.Set.{remove_key}
use Rattle.graph_model.specs.Graph.{edge_cmp}
use Rattle.edge_index.specs.Index.{keys_at, source_of, target_of}
use Rattle.edge_index.proofs.EdgeMaps.{is_named, edge_removed, edge_missing, index-removed}
use Rattle.map_graph.specs.Plain.{Plain, graph_of}
use Rattle.map_graph.proofs.EdgeWrites.{ends-cut}
use Rattle.map_graph.proofs.map_graph.MapGraph.take_edge.Goals as goal

pub returns-in_default-clause-graph : goal.returns-in_default-clause-graph
returns-in_default-clause-graph c =
    ap (λ es. graph_of c.self.inside.labels c.self.inside.types c.self.inside.vertices.entries es) (c.in_default.ensures.unchanged ∙ edge_missing c.args.key c.self.inside.edges.entries (sym c.in_default.ensures.value))
    ∙ ap (λ (p : Plain). record p.graph { edges = filter (λ entry. not (is_named c.args.key entry)) p.graph.edges }) c.self.view_is

pub invariant_of-self-2 : goal.invariant_of-self-2
invariant_of-self-2 c = record {
  names = c.self.invariant.names;
  buckets = c.self.invariant.buckets;
  slots = c.self.invariant.slots;
  outgoing = λ _. index-removed source_of c.self.inside.edges.entries c.self.inside.outgoing (c.self.invariant.outgoing c.if-self.false) c.args.key c.in-Some.edge c.remove.new.self.entries c.take_out.new.self
      c.in-Some.ensures.value c.remove.ensures.entries
      (subst (λ s. (q : ℕ) → keys_at c.take_out.new.self q ≡ cond (eqb s q) (remove_key (is_at (edge_cmp c.args.key)) (keys_at c.self.inside.outgoing s)) (keys_at c.self.inside.outgoing q)) c.source.ensures c.take_out.ensures);
  incoming = λ _. index-removed target_of c.self.inside.edges.entries c.self.inside.incoming (c.self.invariant.incoming c.if-self.false) c.args.key c.in-Some.edge c.remove.new.self.entries c.take_out-2.new.self
      c.in-Some.ensures.value c.remove.ensures.entries
      (subst (λ s. (q : ℕ) → keys_at c.take_out-2.new.self q ≡ cond (eqb s q) (remove_key (is_at (edge_cmp c.args.key)) (keys_at c.self.inside.incoming s)) (keys_at c.self.inside.incoming q)) c.target.ensures c.take_out-2.ensures);
  ends = λ _. ends-cut c.self.inside.vertices.entries c.args.key c.self.inside.edges.entries c.remove.new.self.entries c.remove.ensures.entries c.remove.ensures.updates.1 (c.self.invariant.ends c.if-self.false);
}

pub returns-clause-graph : goal.returns-clause-graph
returns-clause-graph c =
    ap (λ es. graph_of c.self.inside.labels c.self.inside.types c.self.inside.vertices.entries es) (edge_removed c.args.key c.self.inside.edges.entries c.remove.new.self.entries c.remove.ensures.entries c.remove.ensures.updates.1)
    ∙ ap (λ (p : Plain). record p.graph { edges = filter (λ entry. not (is_named c.args.key entry)) p.graph.edges }) c.self.view_is
