use Rattle.std.proofs.Common.{ℕ, List, length, sym, ap, ◌∙◌}
use Rattle.std.specs.List.{filter}
use Rattle.graph_walks.specs.Reached.{level_by, is_within}
use Rattle.traversals.proofs.Telling.{hood-no_vertex, hood-done}
use Rattle.traversals.proofs.flat_graph.FlatGraph.hood.Goals as goal

pub returns-then-not-is_vertex : goal.returns-then-not-is_vertex
returns-then-not-is_vertex c = hood-no_vertex c.args.self.now c.args.id c.args.depth (sym c.is_vertex.ensures ∙ c.if-not-is_vertex.true)

pub returns : goal.returns
returns c =
    hood-done c.args.self.now c.args.id c.args.depth c.in_ok-hood.hood (sym c.is_vertex.ensures ∙ c.if-not-is_vertex.false)
    (c.in_ok-hood.ensures
    ∙ ap (λ (steps : List (ℕ × ℕ)). filter (λ j. is_within c.args.depth (level_by steps (length c.steps.result.now.ids) c.args.id j)) c.steps.result.now.ids) c.steps.ensures.steps
    ∙ ap (λ (ids : List ℕ). filter (λ j. is_within c.args.depth (level_by c.args.self.now.steps (length ids) c.args.id j)) ids) c.steps.ensures.ids)
