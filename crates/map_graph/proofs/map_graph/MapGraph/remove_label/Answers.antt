use Rattle.std.proofs.Common.{◌≡◌, ℕ, ◌+◌, ◌≤◌, cond, eqb, subst, sym, Some, ap, ◌∙◌}
use Rattle.graph_model.specs.Maps.{take_out}
use Rattle.graph_model.specs.Graph.{Vertex}
use Rattle.map_graph.proofs.Writes.{vertex-seen, vertex-missing, written, buckets-still, ends-still}
use Rattle.map_graph.proofs.Slots.{slots-untagged, slot-counted}
use Rattle.graph_parts.specs.Counts.{count_of}
use Rattle.rma_layout.specs.Placement.{raw_of}
use Rattle.map_graph.proofs.map_graph.MapGraph.remove_label.Goals as goal

pub unreachable-requires : goal.unreachable-requires
unreachable-requires c =
    vertex-missing c.self.inside.geometry c.self.inside.labels c.self.inside.types c.self.inside.vertices.entries c.self.inside.edges.entries c.args.self.now c.self.view_is c.args.id c.in_default.ensures.value c.requires.there

pub returns-clause-graph : goal.returns-clause-graph
returns-clause-graph c = λ vertex at.
    written c.self.inside.geometry c.self.inside.labels c.self.inside.types c.self.inside.vertices.entries c.self.inside.edges.entries c.args.self.now c.self.view_is c.args.id
    (λ (v : Vertex). record v { labels = take_out c.args.label v.labels }) c.in-Some.vertex.now c.remove_label.new.self vertex
    (c.get_mut.follows.lender c.remove_label.new.self).entries c.in-Some.ensures.ordered c.in-Some.ensures.value (c.get_mut.follows.holds c.remove_label.new.self).0 c.remove_label.ensures.changed at

pub lower-requires : goal.lower-requires
lower-requires c =
    let seen = vertex-seen c.self.inside.geometry c.self.inside.labels c.self.inside.types c.self.inside.vertices.entries c.self.inside.edges.entries c.args.self.now c.self.view_is c.args.id (Some c.in-Some.vertex.now) c.in-Some.ensures.value in
    subst (λ raw. 1 ≤ count_of c.self.inside.slot_counts raw) (sym (c.raw-slot.ensures.value ∙ ap raw_of c.slot.ensures.value))
    (slot-counted c.self.inside.geometry c.self.inside.vertices.entries c.args.id c.args.label c.in-Some.vertex.now c.remove_label.new.self (c.get_mut.follows.lender c.remove_label.new.self).entries
    c.in-Some.ensures.ordered c.in-Some.ensures.value (c.get_mut.follows.holds c.remove_label.new.self).0 c.self.inside.slot_counts c.self.inside.slot_counts (c.self.invariant.slots c.if-self.false)
    (λ p. c.remove_label.ensures.count p (c.requires.has c.in-Some.vertex.now seen)))

pub invariant_of-self-2 : goal.invariant_of-self-2
invariant_of-self-2 c =
    let lowered = subst (λ raw. (q : ℕ) → count_of c.lower.new.self q + cond (eqb raw q) 1 0 ≡ count_of c.self.inside.slot_counts q) (c.raw-slot.ensures.value ∙ ap raw_of c.slot.ensures.value) c.in_ok-lower.ensures in
    let seen = vertex-seen c.self.inside.geometry c.self.inside.labels c.self.inside.types c.self.inside.vertices.entries c.self.inside.edges.entries c.args.self.now c.self.view_is c.args.id (Some c.in-Some.vertex.now) c.in-Some.ensures.value in
    record {
      names = c.self.invariant.names;
      buckets = λ _. buckets-still c.self.inside.geometry c.self.inside.labels c.self.inside.types c.self.inside.vertices.entries c.self.inside.edges.entries c.self.inside.name_words c.self.inside.torn c.self.inside.bucket_counts c.self.inside.slot_counts c.self.inside.outgoing c.self.inside.incoming c.self.invariant
          c.args.id c.remove_label.new.self (c.get_mut.follows.lender c.remove_label.new.self).entries (c.get_mut.follows.holds c.remove_label.new.self).0 c.if-self.false;
      slots = λ _. slots-untagged c.self.inside.geometry c.self.inside.vertices.entries c.args.id c.args.label c.in-Some.vertex.now c.remove_label.new.self (c.get_mut.follows.lender c.remove_label.new.self).entries
          c.in-Some.ensures.ordered c.in-Some.ensures.value (c.get_mut.follows.holds c.remove_label.new.self).0 c.self.inside.slot_counts c.lower.new.self (c.self.invariant.slots c.if-self.false)
          (λ p. c.remove_label.ensures.count p (c.requires.has c.in-Some.vertex.now seen)) lowered;
      outgoing = λ _. c.self.invariant.outgoing c.if-self.false;
      incoming = λ _. c.self.invariant.incoming c.if-self.false;
      ends = λ _. ends-still c.self.inside.geometry c.self.inside.labels c.self.inside.types c.self.inside.vertices.entries c.self.inside.edges.entries c.self.inside.name_words c.self.inside.torn c.self.inside.bucket_counts c.self.inside.slot_counts c.self.inside.outgoing c.self.inside.incoming c.self.invariant
          c.args.id c.in-Some.vertex.now c.remove_label.new.self (c.get_mut.follows.lender c.remove_label.new.self).entries c.in-Some.ensures.ordered c.in-Some.ensures.value (c.get_mut.follows.holds c.remove_label.new.self).0 (ap (λ (v : Vertex). v.next) c.remove_label.ensures.changed) c.if-self.false;
    }
