use Rattle.std.proofs.Common.{true, not, ◌||◌, [], ◌∷◌, subst}
use Rattle.touched_objects.specs.Touched.{Spot}
use Rattle.graph_model.specs.Capacity.Object.{Reserved as OfReserved}
use Rattle.map_graph.specs.declared.object_name.ObjectName.{ObjectName}
use Rattle.map_graph.specs.declared.object_name.ObjectName.TheVariants.{Reserved}
use Rattle.plain_graph.specs.Touching.{AreTold, is_same_name, spot_named}
use Rattle.plain_graph.proofs.Marking.{told_as}
use Rattle.plain_graph.proofs.Trying.{none_lacks}
use Rattle.plain_graph.proofs.trial.touched.Touched.note_block.Goals as goal

pub returns : goal.returns
returns c = λ shape.
    let at : ObjectName = Reserved c.rank.result c.block.result in
    subst (λ (spot : Spot). AreTold shape c.args.self.now c.note.new.self (spot ∷ []) (λ _. true)) (λ i. (c.rank.ensures i, OfReserved (c.block.ensures.value i)))
    (told_as shape c.args.self.now c.note.new.self (spot_named shape at ∷ []) (λ name. not (is_same_name at name) || true) (λ _. true) (none_lacks at) (c.in_ok-note.ensures shape))
