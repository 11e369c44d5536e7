use Rattle.std.proofs.Common.{true, not, ◌||◌, [], ◌∷◌}
use Rattle.graph_undo.specs.Undo.{Names}
use Rattle.touched_objects.specs.FromSteps.{had}
use Rattle.map_graph.specs.declared.object_name.ObjectName.TheVariants.{Reserved}
use Rattle.map_graph.specs.Named.{object_of}
use Rattle.plain_graph.specs.Touching.{is_same_name, spot_named}
use Rattle.plain_graph.proofs.Marking.{told_as}
use Rattle.plain_graph.proofs.Trying.{names_had}
use Rattle.plain_graph.proofs.trial.touched.Touched.note_names.Goals as goal

pub returns : goal.returns
returns c = λ shape g labels types.
    told_as shape c.args.self.now c.note.new.self (spot_named shape (Reserved 0 0) ∷ []) (λ name. not (is_same_name (Reserved 0 0) name) || true) (λ name. had (object_of name) (Names labels types)) (names_had labels types)
    (c.in_ok-note.ensures shape)
