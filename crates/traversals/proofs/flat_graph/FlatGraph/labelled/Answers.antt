use Rattle.std.proofs.Common.{ℕ, List, length, get_or, map, ap, ◌∙◌}
use Rattle.std.specs.List.{filter, range_with_len}
use Rattle.graph_model.specs.Maps.{has}
use Rattle.traversals.specs.Rows.{row_of}
use Rattle.traversals.proofs.ByLabel.{labelled-done}
use Rattle.traversals.proofs.flat_graph.FlatGraph.labelled.Goals as goal

pub returns : goal.returns
returns c =
    labelled-done c.args.self.now c.args.label c.in_ok-found.found
    (c.in_ok-found.ensures
    ∙ ap (λ (ids : List ℕ). map (λ p. get_or ids p 0) (filter (λ p. has (row_of c.labels.result.now p) c.args.label) (range_with_len 0 (length ids)))) (c.ids.ensures ∙ c.places.ensures ∙ c.steps.ensures.ids)
    ∙ ap (λ (rows : List (List ℕ)). map (λ p. get_or c.args.self.now.ids p 0) (filter (λ p. has (row_of rows p) c.args.label) (range_with_len 0 (length c.args.self.now.ids)))) c.labels.ensures.value)
