use Rattle.std.proofs.Common.{ℕ, ◌++◌, ◌∷◌, [], Bool, get_or, map, if◌then◌else◌, ap, sym, ◌∙◌}
use Rattle.std.specs.List.{filter, range_with_len}
use Rattle.gdi_kinds.specs.declared.pair.Pair.{Pair}
use Rattle.graph_walks.specs.Marks.{mark_at}
use Rattle.graph_walks.specs.Reached.{is_this}
use Rattle.graph_walks.proofs.Answering.{passing-more}
use Rattle.graph_walks.proofs.answers.own_of.Goals as goal

pub loop-place-preserved : goal.loop-place-preserved
loop-place-preserved c =
    let g : ℕ → Pair = λ p. record { id = get_or c.args.ids.now p 0; number = get_or c.args.numbers.now p 0 } in
    let p : ℕ → Bool = λ k. is_this k (mark_at c.args.marks.now k) in
    c.in_ok-push_pair_if.ensures
    ∙ ap (λ pairs. pairs ++ (if c.is_own.result then g c.loop-place.place ∷ [] else [])) c.loop-place.invariant
    ∙ ap (λ b. map g (filter p (range_with_len 0 c.loop-place.place)) ++ (if b then g c.loop-place.place ∷ [] else [])) (c.is_own.ensures ∙ ap (is_this c.loop-place.place) c.get.ensures)
    ∙ sym (passing-more g p c.loop-place.place)
