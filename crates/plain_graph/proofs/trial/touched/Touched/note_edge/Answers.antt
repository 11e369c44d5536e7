use Rattle.std.proofs.Common.{false, true, not, ◌||◌, ◌&&◌, ◌++◌, [], ◌∷◌, subst}
use Rattle.std.specs.Option.{option_map_or}
use Rattle.graph_model.specs.Graph.{EdgeKey, is_heavy, edge_at}
use Rattle.graph_undo.specs.Undo.{AtEdge}
use Rattle.touched_objects.specs.FromSteps.{had}
use Rattle.touched_objects.specs.Touched.{edge_spot, end_spots, touched_by}
use Rattle.map_graph.specs.declared.object_name.ObjectName.{ObjectName}
use Rattle.map_graph.specs.declared.object_name.ObjectName.TheVariants.{HeavyEdge}
use Rattle.map_graph.specs.Named.{object_of}
use Rattle.plain_graph.specs.Touching.{AreTold, is_same_name}
use Rattle.plain_graph.proofs.Marking.{told_as, told_more}
use Rattle.plain_graph.proofs.Trying.{edge_had}
use Rattle.plain_graph.proofs.trial.touched.Touched.note_edge.Goals as goal

pub returns : goal.returns
returns c =
    let shape = c.args.map.now.shape in
    let g = c.args.map.now.graph in
    let key : EdgeKey = record { source = c.args.source; ordinal = c.args.ordinal } in
    let named : ObjectName = HeavyEdge c.args.source c.args.ordinal in
    let heavy = option_map_or is_heavy c.args.before.now false in
    let now = end_spots shape key (edge_at g c.args.source c.args.ordinal) in
    let then = end_spots shape key c.args.before.now in
    let one : AreTold shape c.args.self.now c.note.new.self (edge_spot shape key ∷ []) (λ name. not (is_same_name named name) || heavy) =
    subst (λ b. AreTold shape c.args.self.now c.note.new.self (edge_spot shape key ∷ []) (λ name. not (is_same_name named name) || b)) c.is_heavy.ensures (c.in_ok-note.ensures shape) in
    let two : AreTold shape c.note.new.self c.note_ends.new.self now (λ _. true) =
    subst (λ o. AreTold shape c.note.new.self c.note_ends.new.self (end_spots shape key o) (λ _. true)) c.edge.ensures (c.in_ok-note_ends.ensures shape c.args.ordinal) in
    let three : AreTold shape c.note_ends.new.self c.note_ends-2.new.self then (λ _. true) =
    subst (λ o. AreTold shape c.note_ends.new.self c.note_ends-2.new.self (end_spots shape key o) (λ _. true)) c.as_ref.ensures.value (c.in_ok-note_ends-2.ensures shape c.args.ordinal) in
    told_as shape c.args.self.now c.note_ends-2.new.self (touched_by shape g (AtEdge key c.args.before.now)) (λ name. (not (is_same_name named name) || heavy) && (true && true)) (λ name. had (object_of name) (AtEdge key c.args.before.now)) (edge_had key c.args.before.now)
    (told_more shape c.args.self.now c.note.new.self c.note_ends-2.new.self (edge_spot shape key ∷ []) (now ++ then) (λ name. not (is_same_name named name) || heavy) (λ _. true && true) one
    (told_more shape c.note.new.self c.note_ends.new.self c.note_ends-2.new.self now then (λ _. true) (λ _. true) two three))
