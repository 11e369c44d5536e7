use Rattle.std.proofs.Common.{◌≡◌, nat_le, ap, subst, ◌∙◌}
use Rattle.rma_layout.specs.Placement.{raw_of, slot_of}
use Rattle.graph_model.specs.Maps.{add}
use Rattle.graph_model.specs.Graph.{vertex_at}
use Rattle.graph_model.specs.Sizes.{is_too_large, words_of_slot}
use Rattle.graph_model.specs.VertexCalls.{with_vertex}
use Rattle.map_graph.specs.Plain.{Plain}
use Rattle.map_graph.proofs.Slots.{slot_is_full}
use Rattle.map_graph.proofs.map_graph.MapGraph.is_slot_full.Goals as goal

pub returns : goal.returns
returns c = λ vertex at lacks.
    let there = ap (λ (p : Plain). vertex_at p.graph c.args.id) c.self.view_is ∙ at in
    subst (λ (p : Plain). nat_le 524288 c.count-kept.result ≡ is_too_large (words_of_slot p.shape (with_vertex p.graph c.args.id (record vertex { labels = add c.args.label vertex.labels })) (slot_of p.shape c.args.label c.args.id))) c.self.view_is
    (slot_is_full c.self.inside.geometry c.self.inside.vertices.entries c.args.id c.args.label c.raw-slot.result c.count-kept.result vertex c.keeps_ranges.ensures c.len-count.ensures.ordered there lacks
    (c.raw-slot.ensures.value ∙ ap raw_of c.slot.ensures.value) (c.count-kept.ensures ∙ c.self.invariant.slots c.if-self.false c.raw-slot.result))
