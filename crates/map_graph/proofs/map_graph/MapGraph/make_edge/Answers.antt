use Rattle.std.proofs.Common.{◌≡◌, ◌+◌, [], Some, is_some, ap, sym, subst, ◌∙◌}
use Rattle.std.specs.Option.{option_to_list}
use Rattle.gdi_kinds.specs.declared.reply.Reply.TheVariants.{EdgeIs}
use Rattle.graph_model.specs.Graph.{Vertex, EdgeKey, vertex_at}
use Rattle.graph_model.specs.VertexCalls.{with_vertex}
use Rattle.graph_model.specs.EdgeCalls.{with_edge}
use Rattle.map_graph.proofs.EdgeAnswers.{make-too_large, make-done}
use Rattle.map_graph.proofs.EdgeWrites.{not_last}
use Rattle.map_graph.proofs.map_graph.MapGraph.make_edge.Goals as goal

pub returns-then-branch-clause-answer : goal.returns-then-branch-clause-answer
returns-then-branch-clause-answer c =
    let labels = option_to_list c.in-Ok.label in
    let from = c.in-Some.from.now in
    let full = not_last from.next _ _ c.in_ok-is_full_with_edge.field-0 (λ last. c.if-ordinal.false (c.next-ordinal.ensures ∙ last)) (c.in_ok-is_full_with_edge.ensures from c.args.undirected labels (sym c.in-Some.ensures)) in
    make-too_large c.args.undirected c.args.self.now.graph c.args.source c.args.target c.args.label.now labels c.in-Ok.ensures from c.in-Some.ensures (ap is_some (sym c.in-Some-vertex.ensures)) (full ∙ c.if-branch.true)

pub returns-clause-answer : goal.returns-clause-answer
returns-clause-answer c =
    let labels = option_to_list c.in-Ok.label in
    let from = c.in-Some.from.now in
    let full = not_last from.next _ _ c.in_ok-is_full_with_edge.field-0 (λ last. c.if-ordinal.false (c.next-ordinal.ensures ∙ last)) (c.in_ok-is_full_with_edge.ensures from c.args.undirected labels (sym c.in-Some.ensures)) in
    let put = subst (λ (key : EdgeKey). (vertex : Vertex) → vertex_at c.args.self.now.graph key.source ≡ Some vertex → c.put_edge.new.self.graph
    ≡ with_edge (with_vertex c.args.self.now.graph key.source (record vertex { next = vertex.next + 1 })) key.source key.ordinal (record { target = c.args.target; undirected = c.args.undirected; labels = labels; props = [] }))
    c.new.ensures c.in_ok-put_edge.ensures.graph from (sym c.in-Some.ensures) in
    make-done c.args.undirected c.args.self.now.graph c.args.source c.args.target c.args.label.now labels c.in-Ok.ensures from c.in-Some.ensures (ap is_some (sym c.in-Some-vertex.ensures)) (full ∙ c.if-branch.false)
    ∙ ap (λ n. record {
      graph = with_edge (with_vertex c.args.self.now.graph c.args.source (record from { next = from.next + 1 })) c.args.source n (record { target = c.args.target; undirected = c.args.undirected; labels = labels; props = [] });
      reply = EdgeIs c.args.source n;
    }) (sym c.next-ordinal.ensures)
    ∙ ap (λ g. record { graph = g; reply = EdgeIs c.args.source c.next-ordinal.result }) (sym put)
