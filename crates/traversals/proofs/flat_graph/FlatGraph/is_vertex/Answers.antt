use Rattle.std.proofs.Common.{List, ℕ, ap, ◌∙◌}
use Rattle.graph_model.specs.Maps.{has}
use Rattle.traversals.proofs.Telling.{place-tells}
use Rattle.traversals.proofs.flat_graph.FlatGraph.is_vertex.Goals as goal

pub returns : goal.returns
returns c =
    c.is_some.ensures ∙ place-tells c.places.result.now c.args.id c.place.result c.place.ensures
    ∙ ap (λ (ids : List ℕ). has ids c.args.id) (c.places.ensures ∙ c.steps.ensures.ids)
