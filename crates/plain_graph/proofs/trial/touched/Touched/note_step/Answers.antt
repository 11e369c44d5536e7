use Rattle.std.proofs.Common.{sym, subst}
use Rattle.std.specs.Prelude.{OnOk}
use Rattle.touched_objects.specs.FromSteps.{had}
use Rattle.touched_objects.specs.Touched.{touched_by}
use Rattle.map_graph.specs.declared.undo.Undo.{Undo}
use Rattle.map_graph.specs.Named.{object_of}
use Rattle.map_graph.specs.Noted.{undo_of}
use Rattle.plain_graph.specs.Touching.{AreTold}
use Rattle.plain_graph.proofs.trial.touched.Touched.note_step.Goals as goal

pub returns-in-Names : goal.returns-in-Names
returns-in-Names c =
    let shape = c.args.map.now.shape in
    let g = c.args.map.now.graph in
    subst (λ (step : Undo). OnOk c.note_names.result (AreTold shape c.args.self.now c.note_names.new.self (touched_by shape g (undo_of step)) (λ name. had (object_of name) (undo_of step)))) (sym c.in-Names.is)
    (c.note_names.ensures shape g c.in-Names.field-0 c.in-Names.field-1)
