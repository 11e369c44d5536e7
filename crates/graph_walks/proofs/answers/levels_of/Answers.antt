use Rattle.std.proofs.Common.{ℕ, List, length, get_or, ap, ◌∙◌}
use Rattle.std.specs.List.{filter_map, range_with_len}
use Rattle.graph_walks.specs.Marks.{mark_at}
use Rattle.graph_walks.specs.Reached.{pair_if, level_by}
use Rattle.graph_walks.specs.Steps.{steps_of}
use Rattle.graph_walks.proofs.Answering.{pairs-by-place}
use Rattle.graph_walks.proofs.answers.levels_of.Goals as goal

pub returns : goal.returns
returns c =
    let ids = c.ids.ensures ∙ c.places.ensures in
    c.in_ok-pairs.ensures
    ∙ ap (λ (js : List ℕ). filter_map (λ p. pair_if (get_or js p 0) (mark_at c.in_ok-levels.levels p)) (range_with_len 0 (length js))) ids
    ∙ pairs-by-place c.args.steps.now.ids (λ p. pair_if (get_or c.args.steps.now.ids p 0) (mark_at c.in_ok-levels.levels p))
    (λ j. pair_if j (level_by (steps_of c.args.steps.now) (length c.args.steps.now.ids) c.args.from j))
    (λ p below. ap (pair_if (get_or c.args.steps.now.ids p 0)) (c.in_ok-levels.ensures.levels p below ∙ ap (λ bound. level_by (steps_of c.args.steps.now) bound c.args.from (get_or c.args.steps.now.ids p 0)) c.len-count.ensures.value))
