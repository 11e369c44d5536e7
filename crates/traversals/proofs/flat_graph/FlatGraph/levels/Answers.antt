use Rattle.std.proofs.Common.{ℕ, List, length, sym, ap, ◌∙◌}
use Rattle.std.specs.List.{filter_map}
use Rattle.graph_walks.specs.Reached.{level_by, pair_if}
use Rattle.traversals.proofs.Telling.{levels-no_vertex, levels-done}
use Rattle.traversals.proofs.flat_graph.FlatGraph.levels.Goals as goal

pub returns-then-not-is_vertex : goal.returns-then-not-is_vertex
returns-then-not-is_vertex c = levels-no_vertex c.args.self.now c.args.id (sym c.is_vertex.ensures ∙ c.if-not-is_vertex.true)

pub returns : goal.returns
returns c =
    levels-done c.args.self.now c.args.id c.in_ok-levels.levels (sym c.is_vertex.ensures ∙ c.if-not-is_vertex.false)
    (c.in_ok-levels.ensures
    ∙ ap (λ (steps : List (ℕ × ℕ)). filter_map (λ j. pair_if j (level_by steps (length c.steps.result.now.ids) c.args.id j)) c.steps.result.now.ids) c.steps.ensures.steps
    ∙ ap (λ (ids : List ℕ). filter_map (λ j. pair_if j (level_by c.args.self.now.steps (length ids) c.args.id j)) ids) c.steps.ensures.ids)
