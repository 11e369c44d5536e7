use Rattle.std.proofs.Common.{ap}
use Rattle.graph_model.specs.Maps.{take_out}
use Rattle.graph_model.specs.Graph.{Edge}
use Rattle.map_graph.proofs.EdgeWrites.{edge-missing, edge-written, edge-counted}
use Rattle.map_graph.proofs.map_graph.MapGraph.remove_edge_label.Goals as goal

pub unreachable-requires : goal.unreachable-requires
unreachable-requires c = edge-missing c.self.inside.geometry c.self.inside.labels c.self.inside.types c.self.inside.vertices.entries c.self.inside.edges.entries c.args.self.now c.self.view_is c.args.key c.in_default.ensures.value c.requires

pub invariant_of-self : goal.invariant_of-self
invariant_of-self c = edge-counted c.self.inside.geometry c.self.inside.labels c.self.inside.types c.self.inside.vertices.entries c.self.inside.edges.entries c.self.inside.name_words c.self.inside.torn c.self.inside.bucket_counts c.self.inside.slot_counts c.self.inside.outgoing c.self.inside.incoming c.self.invariant c.args.key c.in-Some.edge.now c.remove_label.new.self (c.get_mut.follows.lender c.remove_label.new.self).entries c.in-Some.ensures.ordered c.in-Some.ensures.value (c.get_mut.follows.holds c.remove_label.new.self).0 (ap (λ (e : Edge). e.target) c.remove_label.ensures)

pub returns-clause-graph : goal.returns-clause-graph
returns-clause-graph c = λ edge at.
    edge-written c.self.inside.geometry c.self.inside.labels c.self.inside.types c.self.inside.vertices.entries c.self.inside.edges.entries c.args.self.now c.self.view_is c.args.key (λ (e : Edge). record e { labels = take_out c.args.label e.labels }) c.in-Some.edge.now c.remove_label.new.self edge (c.get_mut.follows.lender c.remove_label.new.self).entries c.in-Some.ensures.ordered c.in-Some.ensures.value (c.get_mut.follows.holds c.remove_label.new.self).0 c.remove_label.ensures at
