use Rattle.std.proofs.Common.{ℕ, List, sym, ap, subst, ◌∙◌}
use Rattle.graph_walks.specs.Reached.{AreNames, parts_by}
use Rattle.graph_walks.specs.Steps.{steps_of}
use Rattle.traversals.proofs.Telling.{parts-done}
use Rattle.traversals.proofs.flat_graph.FlatGraph.parts.Goals as goal

pub returns : goal.returns
returns c =
    parts-done c.args.self.now c.in_ok-parts.parts (λ name are.
    let by_steps = subst (λ (steps : List (ℕ × ℕ)). AreNames steps c.args.self.now.ids name) (sym c.joining.ensures.steps) are in
    c.in_ok-parts.ensures name (subst (λ (ids : List ℕ). AreNames (steps_of c.joining.result.now) ids name) (sym c.joining.ensures.ids) by_steps)
    ∙ ap (parts_by name) c.joining.ensures.ids)
