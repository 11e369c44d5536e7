use Rattle.std.proofs.Common.{ℕ, List, sym, ap, ◌∙◌}
use Rattle.std.specs.List.{slice_get}
use Rattle.graph_model.specs.Maps.{has}
use Rattle.graph_walks.proofs.Finding.{got}
use Rattle.graph_walks.proofs.Renaming.{same_least, no_level}
use Rattle.graph_walks.proofs.levels.levels_from.Goals as goal

pub levels_at-requires-clause-from : goal.levels_at-requires-clause-from
levels_at-requires-clause-from c = (got c.args.steps.now.ids c.in-Some.place c.args.from (sym (ap (λ (ids : List ℕ). slice_get ids c.in-Some.place) c.places.ensures) ∙ c.in-Some.ensures)).0

pub returns-clause-levels : goal.returns-clause-levels
returns-clause-levels c = λ place inside.
    let at = got c.args.steps.now.ids c.in-Some.place c.args.from (sym (ap (λ (ids : List ℕ). slice_get ids c.in-Some.place) c.places.ensures) ∙ c.in-Some.ensures) in
    c.in_ok-levels.ensures.levels place ∙ same_least c.args.steps.now c.len-count.ensures.places.rises c.len-count.ensures.within c.in-Some.place place c.args.from c.args.bound at.0 inside at.1

pub returns-in_default-clause-levels : goal.returns-in_default-clause-levels
returns-in_default-clause-levels c = λ place inside.
    c.in_ok-unmarked.ensures.none place
    ∙ no_level c.args.steps.now c.len-count.ensures.places.rises c.len-count.ensures.within c.args.from (sym (ap (λ (ids : List ℕ). has ids c.args.from) c.places.ensures) ∙ c.in_default.ensures) c.args.bound place inside
