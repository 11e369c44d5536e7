use Rattle.std.proofs.Common.{[], ◌∷◌, Some}
use Rattle.graph_model.specs.Maps.{with_at}
use Rattle.graph_model.specs.Graph.{Edge}
use Rattle.map_graph.proofs.EdgeWrites.{edge-seen, edge-missing, edge-written, edge-counted}
use Rattle.map_graph.proofs.map_graph.MapGraph.set_edge_value.Goals as goal

pub unreachable-requires : goal.unreachable-requires
unreachable-requires c = edge-missing c.self.inside.geometry c.self.inside.labels c.self.inside.types c.self.inside.vertices.entries c.self.inside.edges.entries c.args.self.now c.self.view_is c.args.key c.in_default.ensures.value c.requires.there

pub set_value-requires : goal.set_value-requires
set_value-requires c = c.requires.words c.in-Some.edge.now (edge-seen c.self.inside.geometry c.self.inside.labels c.self.inside.types c.self.inside.vertices.entries c.self.inside.edges.entries c.args.self.now c.self.view_is c.args.key (Some c.in-Some.edge.now) c.in-Some.ensures.value)

pub invariant_of-self : goal.invariant_of-self
invariant_of-self c = edge-counted c.self.inside.geometry c.self.inside.labels c.self.inside.types c.self.inside.vertices.entries c.self.inside.edges.entries c.self.inside.name_words c.self.inside.torn c.self.inside.bucket_counts c.self.inside.slot_counts c.self.inside.outgoing c.self.inside.incoming c.self.invariant c.args.key c.in-Some.edge.now c.set_value.new.self (c.get_mut.follows.lender c.set_value.new.self).entries c.in-Some.ensures.ordered c.in-Some.ensures.value (c.get_mut.follows.holds c.set_value.new.self).0 c.set_value.ensures.target

pub invariant_of-self-2 : goal.invariant_of-self-2
invariant_of-self-2 c = edge-counted c.self.inside.geometry c.self.inside.labels c.self.inside.types c.self.inside.vertices.entries c.self.inside.edges.entries c.self.inside.name_words c.self.inside.torn c.self.inside.bucket_counts c.self.inside.slot_counts c.self.inside.outgoing c.self.inside.incoming c.self.invariant c.args.key c.in-Some.edge.now c.set_value.new.self (c.get_mut.follows.lender c.set_value.new.self).entries c.in-Some.ensures.ordered c.in-Some.ensures.value (c.get_mut.follows.holds c.set_value.new.self).0 c.set_value.ensures.target

pub returns-clause-graph : goal.returns-clause-graph
returns-clause-graph c = λ edge at.
    edge-written c.self.inside.geometry c.self.inside.labels c.self.inside.types c.self.inside.vertices.entries c.self.inside.edges.entries c.args.self.now c.self.view_is c.args.key (λ (e : Edge). record e { props = with_at e.props c.args.ty (c.args.value ∷ []) }) c.in-Some.edge.now c.set_value.new.self edge (c.get_mut.follows.lender c.set_value.new.self).entries c.in-Some.ensures.ordered c.in-Some.ensures.value (c.get_mut.follows.holds c.set_value.new.self).0 c.in_ok-set_value.ensures.changed at
