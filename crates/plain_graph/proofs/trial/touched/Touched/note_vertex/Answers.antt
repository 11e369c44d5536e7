use Rattle.std.proofs.Common.{true, not, ◌||◌, ◌&&◌, ◌++◌, [], ◌∷◌, is_some, subst}
use Rattle.rma_layout.specs.Shape.{Shape}
use Rattle.rma_layout.specs.Placement.{Place, bucket_of}
use Rattle.graph_model.specs.Graph.{vertex_at}
use Rattle.graph_undo.specs.Undo.{AtVertex}
use Rattle.touched_objects.specs.FromSteps.{had}
use Rattle.touched_objects.specs.Touched.{vertex_spot, reserved_spot, label_spots, touched_by}
use Rattle.map_graph.specs.declared.object_name.ObjectName.{ObjectName}
use Rattle.map_graph.specs.declared.object_name.ObjectName.TheVariants.{Vertex}
use Rattle.map_graph.specs.Named.{object_of}
use Rattle.plain_graph.specs.Touching.{AreTold, is_same_name}
use Rattle.plain_graph.proofs.Marking.{told_as, told_more}
use Rattle.plain_graph.proofs.Trying.{vertex_had}
use Rattle.plain_graph.proofs.trial.touched.Touched.note_vertex.Goals as goal

pub returns : goal.returns
returns c =
    let g = c.args.map.now.graph in
    let id = c.args.id in
    let named : ObjectName = Vertex id in
    let there = is_some c.args.before.now in
    let whole = λ (shape : Shape). AreTold shape c.args.self.now c.note_labels-2.new.self (touched_by shape g (AtVertex id c.args.before.now)) (λ name. had (object_of name) (AtVertex id c.args.before.now)) in
    let shape : Shape = c.args.geometry.now in
    let now = label_spots shape id (vertex_at g id) in
    let then = label_spots shape id c.args.before.now in
    let bucket = reserved_spot (bucket_of shape id) in
    let one : AreTold shape c.args.self.now c.note.new.self (vertex_spot shape id ∷ []) (λ name. not (is_same_name named name) || there) =
    subst (λ b. AreTold shape c.args.self.now c.note.new.self (vertex_spot shape id ∷ []) (λ name. not (is_same_name named name) || b)) c.is_some.ensures (c.in_ok-note.ensures shape) in
    let two : AreTold shape c.note.new.self c.note_block.new.self (bucket ∷ []) (λ _. true) =
    subst (λ (place : Place). AreTold shape c.note.new.self c.note_block.new.self (reserved_spot place ∷ []) (λ _. true)) c.bucket.ensures.value (c.in_ok-note_block.ensures shape) in
    let three : AreTold shape c.note_block.new.self c.note_labels.new.self now (λ _. true) =
    subst (λ o. AreTold shape c.note_block.new.self c.note_labels.new.self (label_spots shape id o) (λ _. true)) c.vertex.ensures c.in_ok-note_labels.ensures in
    let four : AreTold shape c.note_labels.new.self c.note_labels-2.new.self then (λ _. true) =
    subst (λ o. AreTold shape c.note_labels.new.self c.note_labels-2.new.self (label_spots shape id o) (λ _. true)) c.as_ref.ensures.value c.in_ok-note_labels-2.ensures in
    subst whole c.requires
    (told_as shape c.args.self.now c.note_labels-2.new.self (touched_by shape g (AtVertex id c.args.before.now)) (λ name. (not (is_same_name named name) || there) && (true && (true && true))) (λ name. had (object_of name) (AtVertex id c.args.before.now)) (vertex_had id c.args.before.now)
    (told_more shape c.args.self.now c.note.new.self c.note_labels-2.new.self (vertex_spot shape id ∷ []) (bucket ∷ (now ++ then)) (λ name. not (is_same_name named name) || there) (λ _. true && (true && true)) one
    (told_more shape c.note.new.self c.note_block.new.self c.note_labels-2.new.self (bucket ∷ []) (now ++ then) (λ _. true) (λ _. true && true) two
    (told_more shape c.note_block.new.self c.note_labels.new.self c.note_labels-2.new.self now then (λ _. true) (λ _. true) three four))))
