use Rattle.std.proofs.Common.{is_some, ap, sym, subst, ◌∙◌}
use Rattle.std.specs.List.{AllByRecursion}
use Rattle.gdi_kinds.specs.declared.reply.Reply.TheVariants.{Done}
use Rattle.graph_model.specs.Maps.{without}
use Rattle.graph_model.specs.Graph.{Graph, vertex_at}
use Rattle.map_graph.specs.Plain.{IsApart}
use Rattle.map_graph.proofs.CallAnswers.{drop-done}
use Rattle.map_graph.proofs.Ends.{cut_apart}
use Rattle.map_graph.proofs.map_graph.MapGraph.drop_vertex.Goals as goal

pub take_vertex-requires-clause-there : goal.take_vertex-requires-clause-there
take_vertex-requires-clause-there c = ap (λ (g : Graph). is_some (vertex_at g c.args.id)) c.in_ok-cut_edges_at.ensures.graph ∙ ap is_some (sym c.in-Some.ensures)

pub take_vertex-requires-clause-alone : goal.take_vertex-requires-clause-alone
take_vertex-requires-clause-alone c = subst (λ (g : Graph). AllByRecursion (IsApart c.args.id) g.edges) (sym c.in_ok-cut_edges_at.ensures.graph) (cut_apart c.args.id c.args.self.now.graph.edges)

pub returns-clause-answer : goal.returns-clause-answer
returns-clause-answer c =
    drop-done c.args.self.now.shape c.args.self.now.graph c.args.id (ap is_some (sym c.in-Some.ensures))
    ∙ ap (λ g. record { graph = g; reply = Done }) (sym (c.in_ok-take_vertex.ensures.graph ∙ ap (λ (g : Graph). record g { vertices = without g.vertices c.args.id }) c.in_ok-cut_edges_at.ensures.graph))
