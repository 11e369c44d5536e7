use Rattle.std.proofs.Common.{[], ◌∷◌, subst, sym, ◌∙◌}
use Rattle.graph_model.specs.Graph.{Edge, EdgeKey}
use Rattle.plain_graph.specs.Counted.{CountsAlso, edge_objects}
use Rattle.plain_graph.proofs.Counts.{nothing_also, one_also, one_edge}
use Rattle.plain_graph.proofs.counting.count_edges.Goals as goal

pub loop-key-init : goal.loop-key-init
loop-key-init c = λ after told.
    let shape = c.args.map.now.shape in
    let g = c.args.map.now.graph in
    let given = c.into_iter-key-iterator.ensures.into_iter_gives.0 ∙ c.held_edges-key-items.ensures in
    subst (λ es. CountsAlso shape g (edge_objects shape es) c.args.count.now after) given told

pub loop-key-preserved : goal.loop-key-preserved
loop-key-preserved c = λ after told.
    let shape = c.args.map.now.shape in
    let g = c.args.map.now.graph in
    let entry : EdgeKey × Edge = (c.in-Some.key.now, c.in-Some.edge.now) in
    one_also shape g (edge_objects shape c.loop-key.key-iterator) (edge_objects shape (entry ∷ [])) (edge_objects shape c.next.new.self) (edge_objects shape g.edges)
    c.args.count.now c.loop-key.count c.count_edge.new.count after
    (λ rank below. one_edge shape c.loop-key.key-iterator c.next.new.self entry rank c.in-Some.ensures.steps) (c.loop-key.invariant after) c.in_ok-count_edge.ensures told

pub returns : goal.returns
returns c =
    let shape = c.args.map.now.shape in
    let g = c.args.map.now.graph in
    c.loop-key.invariant c.loop-key.count (subst (λ es. CountsAlso shape g (edge_objects shape es) c.loop-key.count c.loop-key.count) (sym c.in-None.ensures.steps.0) (nothing_also shape g c.loop-key.count))
