use Rattle.std.proofs.Common.{true, not, ◌||◌, [], ◌∷◌, sym, subst}
use Rattle.std.specs.Option.{option_copied}
use Rattle.graph_model.specs.Graph.{EdgeKey}
use Rattle.touched_objects.specs.Touched.{vertex_spot, end_spots}
use Rattle.map_graph.specs.declared.object_name.ObjectName.TheVariants.{Vertex}
use Rattle.plain_graph.specs.Touching.{AreTold, is_same_name}
use Rattle.plain_graph.proofs.Marking.{told_as, told_more}
use Rattle.plain_graph.proofs.Trying.{none_lacks}
use Rattle.plain_graph.proofs.trial.touched.Touched.note_ends.Goals as goal

pub returns : goal.returns
returns c = λ shape ordinal.
    let key : EdgeKey = record { source = c.args.source; ordinal = ordinal } in
    let target = c.in-Some.edge.now.target in
    let one : AreTold shape c.args.self.now c.note.new.self (vertex_spot shape c.args.source ∷ []) (λ _. true) =
    told_as shape c.args.self.now c.note.new.self (vertex_spot shape c.args.source ∷ []) (λ name. not (is_same_name (Vertex c.args.source) name) || true) (λ _. true) (none_lacks (Vertex c.args.source)) (c.in_ok-note.ensures shape) in
    let other : AreTold shape c.note.new.self c.note-2.new.self (vertex_spot shape target ∷ []) (λ _. true) =
    subst (λ id. AreTold shape c.note.new.self c.note-2.new.self (vertex_spot shape id ∷ []) (λ _. true)) c.target.ensures
    (told_as shape c.note.new.self c.note-2.new.self (vertex_spot shape c.target.result ∷ []) (λ name. not (is_same_name (Vertex c.target.result) name) || true) (λ _. true) (none_lacks (Vertex c.target.result)) (c.in_ok-note-2.ensures shape)) in
    subst (λ o. AreTold shape c.args.self.now c.note-2.new.self (end_spots shape key (option_copied o)) (λ _. true)) (sym c.in-Some.is)
    (told_more shape c.args.self.now c.note.new.self c.note-2.new.self (vertex_spot shape c.args.source ∷ []) (vertex_spot shape target ∷ []) (λ _. true) (λ _. true) one other)
