use Rattle.std.proofs.Common.{◌≡◌, not, ◌&&◌, ap, sym, subst, ◌∙◌}
use Rattle.std.specs.Prelude.{◌==◌}
use Rattle.std.specs.List.{filter}
use Rattle.gdi_kinds.specs.declared.reply.Reply.TheVariants.{Done}
use Rattle.graph_model.specs.Graph.{EdgeKey}
use Rattle.map_graph.proofs.EdgeAnswers.{cut-done}
use Rattle.map_graph.proofs.map_graph.MapGraph.cut.Goals as goal

pub returns-clause-answer : goal.returns-clause-answer
returns-clause-answer c =
    let left = subst (λ (key : EdgeKey). c.take_edge.new.self.graph ≡ (record c.args.self.now.graph { edges = filter (λ entry. not (entry.0.source == key.source && entry.0.ordinal == key.ordinal)) c.args.self.now.graph.edges }))
    c.new.ensures c.in_ok-take_edge.ensures.graph in
    cut-done c.args.self.now.shape c.args.self.now.graph c.args.source c.args.ordinal c.in_default.field-0.now c.in_default.ensures.steps ∙ ap (λ g. record { graph = g; reply = Done }) (sym left)
