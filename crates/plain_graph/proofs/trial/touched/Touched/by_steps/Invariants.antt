use Rattle.std.proofs.Common.{[], map, drop}
use Rattle.std.specs.List.{list_all}
use Rattle.touched_objects.specs.FromSteps.{touched_by_each, had}
use Rattle.map_graph.specs.Named.{object_of}
use Rattle.map_graph.specs.Noted.{undo_of}
use Rattle.plain_graph.specs.Touching.{Marks, AreTold}
use Rattle.plain_graph.proofs.trial.touched.Touched.by_steps.Given as goal

-- what is told by the steps to come is told by all
abbrev pub invariant-loop-step : goal.invariant-loop-step
invariant-loop-step l =
    (after : Marks)
    → AreTold l.map.shape l.touched after (touched_by_each l.map.shape (map undo_of (drop l.step-index l.steps)) l.map.graph) (λ name. list_all (had (object_of name)) (map undo_of (drop l.step-index l.steps)))
    → AreTold l.map.shape [] after (touched_by_each l.map.shape l.journal l.map.graph) (λ name. list_all (had (object_of name)) l.journal)
