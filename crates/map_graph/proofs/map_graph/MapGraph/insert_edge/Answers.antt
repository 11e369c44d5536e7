use Rattle.std.proofs.Common.{◌≡◌, ℕ, cond, eqb, sym, ap, subst, ◌∙◌}
use Rattle.std.specs.List.{AllByRecursion}
use Rattle.std.specs.BTreeSet.{insert_key}
use Rattle.graph_model.specs.Graph.{edge_cmp, edge_at}
use Rattle.graph_model.specs.EdgeCalls.{with_edge}
use Rattle.edge_index.specs.Index.{keys_at, source_of, target_of}
use Rattle.edge_index.proofs.EdgeMaps.{index-inserted}
use Rattle.edge_index.proofs.OrderedEntries.{lookup-find, insert_entry-put}
use Rattle.map_graph.specs.Plain.{Plain, graph_of, IsBetween}
use Rattle.map_graph.proofs.Ends.{ends-put}
use Rattle.map_graph.proofs.PutBack.{between-seen}
use Rattle.map_graph.proofs.map_graph.MapGraph.insert_edge.Goals as goal

pub invariant_of-self-2 : goal.invariant_of-self-2
invariant_of-self-2 c =
    let edges = c.self.inside.edges.entries in
    let free = lookup-find edge_cmp c.args.key edges ∙ ap (λ (p : Plain). edge_at p.graph c.args.key.source c.args.key.ordinal) c.self.view_is ∙ c.requires.absent in
    record {
      names = c.self.invariant.names;
      buckets = λ _. c.self.invariant.buckets c.if-self.false;
      slots = λ _. c.self.invariant.slots c.if-self.false;
      outgoing = λ _. index-inserted source_of edges c.self.inside.outgoing (c.self.invariant.outgoing c.if-self.false) c.args.key c.args.edge c.insert.new.self.entries c.add.new.self
          c.in_ok-insert.ensures.was_ordered free c.in_ok-insert.ensures.entries
          (subst (λ s. (q : ℕ) → keys_at c.add.new.self q ≡ cond (eqb s q) (insert_key edge_cmp (keys_at c.self.inside.outgoing s) c.args.key) (keys_at c.self.inside.outgoing q)) c.source-source.ensures c.in_ok-add.ensures);
      incoming = λ _. index-inserted target_of edges c.self.inside.incoming (c.self.invariant.incoming c.if-self.false) c.args.key c.args.edge c.insert.new.self.entries c.add-2.new.self
          c.in_ok-insert.ensures.was_ordered free c.in_ok-insert.ensures.entries
          (subst (λ s. (q : ℕ) → keys_at c.add-2.new.self q ≡ cond (eqb s q) (insert_key edge_cmp (keys_at c.self.inside.incoming s) c.args.key) (keys_at c.self.inside.incoming q)) c.target-target.ensures c.in_ok-add-2.ensures);
      ends = λ _. subst (λ es. AllByRecursion (IsBetween c.self.inside.vertices.entries) es) (sym (c.in_ok-insert.ensures.entries ∙ insert_entry-put edge_cmp c.args.key c.args.edge edges))
          (ends-put c.self.inside.vertices.entries c.args.key c.args.edge edges
          (between-seen c.self.inside.geometry c.self.inside.labels c.self.inside.types c.self.inside.vertices.entries edges c.args.self.now c.self.view_is c.args.key c.args.edge c.requires.source c.requires.target) (c.self.invariant.ends c.if-self.false));
    }

pub returns-clause-graph : goal.returns-clause-graph
returns-clause-graph c =
    ap (λ es. graph_of c.self.inside.labels c.self.inside.types c.self.inside.vertices.entries es) (c.in_ok-insert.ensures.entries ∙ insert_entry-put edge_cmp c.args.key c.args.edge c.self.inside.edges.entries)
    ∙ ap (λ (p : Plain). with_edge p.graph c.args.key.source c.args.key.ordinal c.args.edge) c.self.view_is
