use Rattle.std.proofs.Common.{ℕ, List, length, get_or, map, ap, ◌∙◌, arith}
use Rattle.std.specs.List.{filter, range_with_len}
use Rattle.graph_model.specs.Walks.{is_walk_by}
use Rattle.graph_walks.specs.Marks.{mark_at}
use Rattle.graph_walks.specs.Reached.{is_within, level_by}
use Rattle.graph_walks.specs.Steps.{steps_of}
use Rattle.graph_walks.proofs.Answering.{ids-by-place, within_depth, some_bound}
use Rattle.graph_walks.proofs.answers.hood_of.Goals as goal

pub levels_from-requires : goal.levels_from-requires
levels_from-requires c = some_bound c.args.depth c.len-count.result c.bound_of.result (omega (arith, c.if-count-eq0.false)) c.bound_of.ensures

pub returns : goal.returns
returns c =
    let ids = c.ids.ensures ∙ c.places.ensures in
    let level = λ (bound j : ℕ). level_by (steps_of c.args.steps.now) bound c.args.from j in
    c.in_ok-hood.ensures
    ∙ ap (λ (js : List ℕ). map (λ p. get_or js p 0) (filter (λ p. is_within c.args.depth (mark_at c.in_ok-levels.levels p)) (range_with_len 0 (length js)))) ids
    ∙ ids-by-place c.args.steps.now.ids (λ p. is_within c.args.depth (mark_at c.in_ok-levels.levels p)) (λ j. is_within c.args.depth (level (length c.args.steps.now.ids) j))
    (λ p below.
    ap (is_within c.args.depth) (c.in_ok-levels.ensures.levels p below ∙ ap (λ bound. level bound (get_or c.args.steps.now.ids p 0)) c.bound_of.ensures)
    ∙ within_depth (λ n. is_walk_by (steps_of c.args.steps.now) n c.args.from (get_or c.args.steps.now.ids p 0)) c.args.depth c.len-count.result
    ∙ ap (λ bound. is_within c.args.depth (level bound (get_or c.args.steps.now.ids p 0))) c.len-count.ensures.value)
