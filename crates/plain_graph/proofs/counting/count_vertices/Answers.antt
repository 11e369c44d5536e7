use Rattle.std.proofs.Common.{[], ◌∷◌, if◌then◌else◌, subst, sym, ◌∙◌}
use Rattle.std.specs.Prelude.{◌==◌}
use Rattle.rma_layout.specs.Placement.{home_of}
use Rattle.graph_model.specs.Capacity.Object.{OfVertex}
use Rattle.plain_graph.specs.Counted.{CountsAlso, vertex_objects}
use Rattle.plain_graph.proofs.Counts.{nothing_also, one_also, one_vertex}
use Rattle.plain_graph.proofs.counting.count_vertices.Goals as goal

pub loop-id-init : goal.loop-id-init
loop-id-init c = λ after told.
    let shape = c.args.map.now.shape in
    let g = c.args.map.now.graph in
    let given = c.into_iter-id-iterator.ensures.into_iter_gives.0 ∙ c.held_vertices-id-items.ensures in
    subst (λ es. CountsAlso shape g (vertex_objects shape es) c.args.count.now after) given told

pub loop-id-preserved : goal.loop-id-preserved
loop-id-preserved c = λ after told.
    let shape = c.args.map.now.shape in
    let g = c.args.map.now.graph in
    let id = c.in-Some.id.now in
    one_also shape g (vertex_objects shape c.loop-id.id-iterator) (λ rank. if home_of shape id == rank then OfVertex id ∷ [] else []) (vertex_objects shape c.next.new.self) (vertex_objects shape g.vertices)
    c.args.count.now c.loop-id.count c.count_object.new.count after
    (λ rank below. one_vertex shape c.loop-id.id-iterator c.next.new.self _ rank c.in-Some.ensures.steps) (c.loop-id.invariant after) c.in_ok-count_object.ensures told

pub returns : goal.returns
returns c =
    let shape = c.args.map.now.shape in
    let g = c.args.map.now.graph in
    c.loop-id.invariant c.loop-id.count (subst (λ es. CountsAlso shape g (vertex_objects shape es) c.loop-id.count c.loop-id.count) (sym c.in-None.ensures.steps.0) (nothing_also shape g c.loop-id.count))
