use Rattle.std.proofs.Common.{[], ◌∷◌, Some}
use Rattle.graph_model.specs.Maps.{with_at}
use Rattle.graph_model.specs.Graph.{Vertex}
use Rattle.map_graph.proofs.Writes.{vertex-seen, vertex-missing, written, still-counted}
use Rattle.map_graph.proofs.map_graph.MapGraph.set_value.Goals as goal

pub unreachable-requires : goal.unreachable-requires
unreachable-requires c =
    vertex-missing c.self.inside.geometry c.self.inside.labels c.self.inside.types c.self.inside.vertices.entries c.self.inside.edges.entries c.args.self.now c.self.view_is c.args.id c.in_default.ensures.value c.requires.there

pub set_value-requires : goal.set_value-requires
set_value-requires c =
    c.requires.words c.in-Some.vertex.now
    (vertex-seen c.self.inside.geometry c.self.inside.labels c.self.inside.types c.self.inside.vertices.entries c.self.inside.edges.entries c.args.self.now c.self.view_is c.args.id (Some c.in-Some.vertex.now) c.in-Some.ensures.value)

pub invariant_of-self : goal.invariant_of-self
invariant_of-self c =
    still-counted c.self.inside.geometry c.self.inside.labels c.self.inside.types c.self.inside.vertices.entries c.self.inside.edges.entries c.self.inside.name_words c.self.inside.torn c.self.inside.bucket_counts c.self.inside.slot_counts c.self.inside.outgoing c.self.inside.incoming c.self.invariant
    c.args.id c.in-Some.vertex.now c.set_value.new.self (c.get_mut.follows.lender c.set_value.new.self).entries c.in-Some.ensures.ordered c.in-Some.ensures.value (c.get_mut.follows.holds c.set_value.new.self).0 c.set_value.ensures.labels c.set_value.ensures.next

pub invariant_of-self-2 : goal.invariant_of-self-2
invariant_of-self-2 c =
    still-counted c.self.inside.geometry c.self.inside.labels c.self.inside.types c.self.inside.vertices.entries c.self.inside.edges.entries c.self.inside.name_words c.self.inside.torn c.self.inside.bucket_counts c.self.inside.slot_counts c.self.inside.outgoing c.self.inside.incoming c.self.invariant
    c.args.id c.in-Some.vertex.now c.set_value.new.self (c.get_mut.follows.lender c.set_value.new.self).entries c.in-Some.ensures.ordered c.in-Some.ensures.value (c.get_mut.follows.holds c.set_value.new.self).0 c.set_value.ensures.labels c.set_value.ensures.next

pub returns-clause-graph : goal.returns-clause-graph
returns-clause-graph c = λ vertex at.
    written c.self.inside.geometry c.self.inside.labels c.self.inside.types c.self.inside.vertices.entries c.self.inside.edges.entries c.args.self.now c.self.view_is c.args.id
    (λ (v : Vertex). record v { props = with_at v.props c.args.ty (c.args.value ∷ []) }) c.in-Some.vertex.now c.set_value.new.self vertex
    (c.get_mut.follows.lender c.set_value.new.self).entries c.in-Some.ensures.ordered c.in-Some.ensures.value (c.get_mut.follows.holds c.set_value.new.self).0 c.in_ok-set_value.ensures.changed at
