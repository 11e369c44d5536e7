use Rattle.std.proofs.Common.{◌≡◌, ℕ, ◌+◌, cond, eqb, subst, Some, ap, ◌∙◌}
use Rattle.graph_model.specs.Maps.{add}
use Rattle.graph_model.specs.Graph.{Vertex}
use Rattle.map_graph.proofs.Writes.{vertex-seen, vertex-missing, written, buckets-still, ends-still}
use Rattle.map_graph.proofs.Slots.{slots-tagged}
use Rattle.graph_parts.specs.Counts.{count_of}
use Rattle.rma_layout.specs.Placement.{raw_of}
use Rattle.map_graph.proofs.map_graph.MapGraph.add_label.Goals as goal

pub unreachable-requires : goal.unreachable-requires
unreachable-requires c =
    vertex-missing c.self.inside.geometry c.self.inside.labels c.self.inside.types c.self.inside.vertices.entries c.self.inside.edges.entries c.args.self.now c.self.view_is c.args.id c.in_default.ensures.value c.requires.there

pub returns-clause-graph : goal.returns-clause-graph
returns-clause-graph c = λ vertex at.
    written c.self.inside.geometry c.self.inside.labels c.self.inside.types c.self.inside.vertices.entries c.self.inside.edges.entries c.args.self.now c.self.view_is c.args.id
    (λ (v : Vertex). record v { labels = add c.args.label v.labels }) c.in-Some.vertex.now c.add_label.new.self vertex
    (c.get_mut.follows.lender c.add_label.new.self).entries c.in-Some.ensures.ordered c.in-Some.ensures.value (c.get_mut.follows.holds c.add_label.new.self).0 c.in_ok-add_label.ensures at

pub invariant_of-self-2 : goal.invariant_of-self-2
invariant_of-self-2 c =
    let raised = subst (λ raw. (q : ℕ) → count_of c.raise.new.self q ≡ count_of c.self.inside.slot_counts q + cond (eqb raw q) 1 0) (c.raw-slot.ensures.value ∙ ap raw_of c.slot.ensures.value) c.in_ok-raise.ensures in
    let seen = vertex-seen c.self.inside.geometry c.self.inside.labels c.self.inside.types c.self.inside.vertices.entries c.self.inside.edges.entries c.args.self.now c.self.view_is c.args.id (Some c.in-Some.vertex.now) c.in-Some.ensures.value in
    record {
      names = c.self.invariant.names;
      buckets = λ _. buckets-still c.self.inside.geometry c.self.inside.labels c.self.inside.types c.self.inside.vertices.entries c.self.inside.edges.entries c.self.inside.name_words c.self.inside.torn c.self.inside.bucket_counts c.self.inside.slot_counts c.self.inside.outgoing c.self.inside.incoming c.self.invariant
          c.args.id c.add_label.new.self (c.get_mut.follows.lender c.add_label.new.self).entries (c.get_mut.follows.holds c.add_label.new.self).0 c.if-self.false;
      slots = λ _. slots-tagged c.self.inside.geometry c.self.inside.vertices.entries c.args.id c.args.label c.in-Some.vertex.now c.add_label.new.self (c.get_mut.follows.lender c.add_label.new.self).entries
          c.in-Some.ensures.ordered c.in-Some.ensures.value (c.get_mut.follows.holds c.add_label.new.self).0 c.self.inside.slot_counts c.raise.new.self (c.self.invariant.slots c.if-self.false)
          (ap (λ (v : Vertex). v.labels) c.in_ok-add_label.ensures) (c.requires.lacks c.in-Some.vertex.now seen) raised;
      outgoing = λ _. c.self.invariant.outgoing c.if-self.false;
      incoming = λ _. c.self.invariant.incoming c.if-self.false;
      ends = λ _. ends-still c.self.inside.geometry c.self.inside.labels c.self.inside.types c.self.inside.vertices.entries c.self.inside.edges.entries c.self.inside.name_words c.self.inside.torn c.self.inside.bucket_counts c.self.inside.slot_counts c.self.inside.outgoing c.self.inside.incoming c.self.invariant
          c.args.id c.in-Some.vertex.now c.add_label.new.self (c.get_mut.follows.lender c.add_label.new.self).entries c.in-Some.ensures.ordered c.in-Some.ensures.value (c.get_mut.follows.holds c.add_label.new.self).0 (ap (λ (v : Vertex). v.next) c.in_ok-add_label.ensures) c.if-self.false;
    }
