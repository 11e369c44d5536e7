use Rattle.std.proofs.Common.{ℕ, ◌++◌, ◌∷◌, [], Bool, List, get_or, map, if◌then◌else◌, ap, sym, ◌∙◌}
use Rattle.std.specs.List.{filter, range_with_len}
use Rattle.std.proofs.lemmas.Option.{get_or_from_slice_get}
use Rattle.graph_model.specs.Maps.{has}
use Rattle.graph_walks.proofs.Answering.{passing-more}
use Rattle.traversals.specs.Rows.{row_of}
use Rattle.traversals.proofs.labelled.labelled_among.Goals as goal

pub loop-place-preserved : goal.loop-place-preserved
loop-place-preserved c =
    let g : ℕ → ℕ = λ p. get_or c.args.ids.now p 0 in
    let p : ℕ → Bool = λ k. has (row_of c.args.rows.now k) c.args.label in
    c.in_ok-push_if.ensures
    ∙ ap (λ ids. ids ++ (if c.has_label.result then g c.loop-place.place ∷ [] else [])) c.loop-place.invariant
    ∙ ap (λ b. map g (filter p (range_with_len 0 c.loop-place.place)) ++ (if b then g c.loop-place.place ∷ [] else []))
    (c.has_label.ensures ∙ ap (λ (row : List ℕ). has row c.args.label) (sym (get_or_from_slice_get c.args.rows.now c.loop-place.place c.row.result.now [] c.row.ensures)))
    ∙ sym (passing-more g p c.loop-place.place)
