use Rattle.std.proofs.Common.{ℕ, ◌++◌, Option, get_or, ap, sym, ◌∙◌}
use Rattle.std.specs.List.{filter_map, range_with_len}
use Rattle.std.specs.Option.{option_to_list}
use Rattle.gdi_kinds.specs.declared.pair.Pair.{Pair}
use Rattle.graph_walks.specs.Marks.{mark_at}
use Rattle.graph_walks.specs.Reached.{pair_if}
use Rattle.graph_walks.proofs.Answering.{pairs-more}
use Rattle.graph_walks.proofs.answers.pairs_of.Goals as goal

pub loop-place-preserved : goal.loop-place-preserved
loop-place-preserved c =
    let f : ℕ → Option Pair = λ p. pair_if (get_or c.args.ids.now p 0) (mark_at c.args.marks.now p) in
    c.in_ok-push_pair.ensures
    ∙ ap (λ ps. ps ++ option_to_list (pair_if (get_or c.args.ids.now c.loop-place.place 0) c.get.result)) c.loop-place.invariant
    ∙ ap (λ m. filter_map f (range_with_len 0 c.loop-place.place) ++ option_to_list (pair_if (get_or c.args.ids.now c.loop-place.place 0) m)) c.get.ensures
    ∙ sym (pairs-more f c.loop-place.place)
