use Rattle.std.proofs.Common.{ℕ, ◌++◌, ◌∷◌, [], Bool, get_or, map, if◌then◌else◌, ap, sym, ◌∙◌}
use Rattle.std.specs.List.{filter, range_with_len}
use Rattle.graph_walks.specs.Marks.{mark_at}
use Rattle.graph_walks.specs.Reached.{is_within}
use Rattle.graph_walks.proofs.Answering.{passing-more}
use Rattle.graph_walks.proofs.answers.those_within.Goals as goal

pub loop-place-preserved : goal.loop-place-preserved
loop-place-preserved c =
    let g : ℕ → ℕ = λ p. get_or c.args.ids.now p 0 in
    let p : ℕ → Bool = λ k. is_within c.args.most (mark_at c.args.marks.now k) in
    c.in_ok-push_if.ensures
    ∙ ap (λ ids. ids ++ (if c.has_within.result then g c.loop-place.place ∷ [] else [])) c.loop-place.invariant
    ∙ ap (λ b. map g (filter p (range_with_len 0 c.loop-place.place)) ++ (if b then g c.loop-place.place ∷ [] else [])) (c.has_within.ensures ∙ ap (is_within c.args.most) c.get.ensures)
    ∙ sym (passing-more g p c.loop-place.place)
