use Rattle.std.proofs.Common.{ap}
use Rattle.graph_model.specs.Maps.{without}
use Rattle.graph_model.specs.Graph.{Vertex}
use Rattle.map_graph.proofs.Writes.{vertex-missing, written, still-counted}
use Rattle.map_graph.proofs.map_graph.MapGraph.remove_values.Goals as goal

pub unreachable-requires : goal.unreachable-requires
unreachable-requires c =
    vertex-missing c.self.inside.geometry c.self.inside.labels c.self.inside.types c.self.inside.vertices.entries c.self.inside.edges.entries c.args.self.now c.self.view_is c.args.id c.in_default.ensures.value c.requires

pub invariant_of-self : goal.invariant_of-self
invariant_of-self c =
    still-counted c.self.inside.geometry c.self.inside.labels c.self.inside.types c.self.inside.vertices.entries c.self.inside.edges.entries c.self.inside.name_words c.self.inside.torn c.self.inside.bucket_counts c.self.inside.slot_counts c.self.inside.outgoing c.self.inside.incoming c.self.invariant
    c.args.id c.in-Some.vertex.now c.remove_values.new.self (c.get_mut.follows.lender c.remove_values.new.self).entries c.in-Some.ensures.ordered c.in-Some.ensures.value (c.get_mut.follows.holds c.remove_values.new.self).0 (ap (λ (v : Vertex). v.labels) c.remove_values.ensures) (ap (λ (v : Vertex). v.next) c.remove_values.ensures)

pub returns-clause-graph : goal.returns-clause-graph
returns-clause-graph c = λ vertex at.
    written c.self.inside.geometry c.self.inside.labels c.self.inside.types c.self.inside.vertices.entries c.self.inside.edges.entries c.args.self.now c.self.view_is c.args.id
    (λ (v : Vertex). record v { props = without v.props c.args.ty }) c.in-Some.vertex.now c.remove_values.new.self vertex
    (c.get_mut.follows.lender c.remove_values.new.self).entries c.in-Some.ensures.ordered c.in-Some.ensures.value (c.get_mut.follows.holds c.remove_values.new.self).0 c.remove_values.ensures at
