use Rattle.std.proofs.Common.{◌≡◌, ℕ, Some, cond, eqb, sym, ap, subst, ◌∙◌, arith}
use Rattle.std.specs.Prelude.{IsSome, IsSomeAnd}
use Rattle.std.specs.BTreeSet.{insert_key}
use Rattle.graph_model.specs.Graph.{Vertex, edge_cmp, vertex_at}
use Rattle.edge_index.specs.Index.{keys_at, source_of, target_of}
use Rattle.edge_index.proofs.EdgeMaps.{index-inserted}
use Rattle.map_graph.specs.Plain.{Plain}
use Rattle.map_graph.proofs.Writes.{vertex-seen, vertex-missing, buckets-still, slots-still}
use Rattle.map_graph.proofs.EdgeWrites.{some-of, at-some, edge_free, ends-more, put-graph}
use Rattle.map_graph.proofs.map_graph.MapGraph.put_edge.Goals as goal

pub unreachable-requires : goal.unreachable-requires
unreachable-requires c =
    vertex-missing c.self.inside.geometry c.self.inside.labels c.self.inside.types c.self.inside.vertices.entries c.self.inside.edges.entries c.args.self.now c.self.view_is c.source-source.result c.in_default.ensures.value
    (some-of _ _ (subst (λ s. IsSomeAnd (vertex_at c.args.self.now.graph s) (λ vertex. c.args.key.ordinal ≡ vertex.next)) (sym c.source-source.ensures) c.requires.source))

pub raise_next-requires : goal.raise_next-requires
raise_next-requires c =
    let seen = vertex-seen c.self.inside.geometry c.self.inside.labels c.self.inside.types c.self.inside.vertices.entries c.self.inside.edges.entries c.args.self.now c.self.view_is c.source-source.result (Some c.in-Some.vertex.now) c.in-Some.ensures.value in
    let next = at-some (vertex_at c.args.self.now.graph c.args.key.source) c.in-Some.vertex.now (λ vertex. c.args.key.ordinal ≡ vertex.next) (ap (λ s. vertex_at c.args.self.now.graph s) (sym c.source-source.ensures) ∙ seen) c.requires.source in
    omega (arith, next, c.requires.ordinal)

pub invariant_of-self-2 : goal.invariant_of-self-2
invariant_of-self-2 c =
    let seen = vertex-seen c.self.inside.geometry c.self.inside.labels c.self.inside.types c.self.inside.vertices.entries c.self.inside.edges.entries c.args.self.now c.self.view_is c.source-source.result (Some c.in-Some.vertex.now) c.in-Some.ensures.value in
    let next = at-some (vertex_at c.args.self.now.graph c.args.key.source) c.in-Some.vertex.now (λ vertex. c.args.key.ordinal ≡ vertex.next) (ap (λ s. vertex_at c.args.self.now.graph s) (sym c.source-source.ensures) ∙ seen) c.requires.source in
    let free = edge_free c.self.inside.vertices.entries c.self.inside.edges.entries c.args.key c.source-source.result c.in-Some.vertex.now c.source-source.ensures (c.self.invariant.ends c.if-self.false) c.in-Some.ensures.value next in
    let labels = ap (λ (v : Vertex). v.labels) c.raise_next.ensures in
    let target = subst (λ (p : Plain). IsSome (vertex_at p.graph c.args.target)) (sym c.self.view_is) c.requires.target in
    record {
      names = c.self.invariant.names;
      buckets = λ _. buckets-still c.self.inside.geometry c.self.inside.labels c.self.inside.types c.self.inside.vertices.entries c.self.inside.edges.entries c.self.inside.name_words c.self.inside.torn c.self.inside.bucket_counts c.self.inside.slot_counts c.self.inside.outgoing c.self.inside.incoming c.self.invariant c.source-source.result c.raise_next.new.self (c.get_mut.follows.lender c.raise_next.new.self).entries (c.get_mut.follows.holds c.raise_next.new.self).0 c.if-self.false;
      slots = λ _. slots-still c.self.inside.geometry c.self.inside.labels c.self.inside.types c.self.inside.vertices.entries c.self.inside.edges.entries c.self.inside.name_words c.self.inside.torn c.self.inside.bucket_counts c.self.inside.slot_counts c.self.inside.outgoing c.self.inside.incoming c.self.invariant c.source-source.result c.in-Some.vertex.now c.raise_next.new.self (c.get_mut.follows.lender c.raise_next.new.self).entries c.in-Some.ensures.ordered c.in-Some.ensures.value
          (c.get_mut.follows.holds c.raise_next.new.self).0 labels c.if-self.false;
      outgoing = λ _. index-inserted source_of c.self.inside.edges.entries c.self.inside.outgoing (c.self.invariant.outgoing c.if-self.false) c.args.key c.in_ok-edge.edge c.insert.new.self.entries c.add.new.self
          c.in_ok-insert.ensures.was_ordered free c.in_ok-insert.ensures.entries
          (subst (λ s. (q : ℕ) → keys_at c.add.new.self q ≡ cond (eqb s q) (insert_key edge_cmp (keys_at c.self.inside.outgoing s) c.args.key) (keys_at c.self.inside.outgoing q)) c.source-source.ensures c.in_ok-add.ensures);
      incoming = λ _. index-inserted target_of c.self.inside.edges.entries c.self.inside.incoming (c.self.invariant.incoming c.if-self.false) c.args.key c.in_ok-edge.edge c.insert.new.self.entries c.add-2.new.self
          c.in_ok-insert.ensures.was_ordered free c.in_ok-insert.ensures.entries
          (subst (λ s. (q : ℕ) → keys_at c.add-2.new.self q ≡ cond (eqb s q) (insert_key edge_cmp (keys_at c.self.inside.incoming s) c.args.key) (keys_at c.self.inside.incoming q)) (sym (ap (λ e. target_of (c.args.key, e)) c.in_ok-edge.ensures)) c.in_ok-add-2.ensures);
      ends = λ _. ends-more c.self.inside.vertices.entries c.self.inside.edges.entries c.args.key c.in_ok-edge.edge c.source-source.result c.in-Some.vertex.now c.raise_next.new.self c.source-source.ensures (c.self.invariant.ends c.if-self.false)
          c.in-Some.ensures.ordered c.in-Some.ensures.value next c.raise_next.ensures (subst (λ t. IsSome (vertex_at (record { labels = c.self.inside.labels; types = c.self.inside.types; vertices = c.self.inside.vertices.entries; edges = c.self.inside.edges.entries }) t)) (sym (ap (λ e. target_of (c.args.key, e)) c.in_ok-edge.ensures)) target)
          (c.get_mut.follows.lender c.raise_next.new.self).entries (c.get_mut.follows.holds c.raise_next.new.self).0 c.insert.new.self.entries c.in_ok-insert.ensures.entries;
    }

pub returns-clause-graph : goal.returns-clause-graph
returns-clause-graph c = λ vertex at.
    put-graph c.self.inside.geometry c.self.inside.labels c.self.inside.types c.self.inside.vertices.entries c.self.inside.edges.entries c.args.self.now c.self.view_is c.args.key c.source-source.result c.in-Some.vertex.now c.raise_next.new.self vertex c.source-source.ensures c.in-Some.ensures.ordered c.in-Some.ensures.value c.raise_next.ensures
    (c.get_mut.follows.lender c.raise_next.new.self).entries (c.get_mut.follows.holds c.raise_next.new.self).0 at c.in_ok-edge.edge _ c.in_ok-edge.ensures c.insert.new.self.entries c.in_ok-insert.ensures.entries
