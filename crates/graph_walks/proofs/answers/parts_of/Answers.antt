use Rattle.std.proofs.Common.{ℕ, List, length, get_or, map, ap, ◌∙◌, arith}
use Rattle.std.specs.Prelude.{◌==◌, count_by}
use Rattle.std.specs.List.{filter, range_with_len}
use Rattle.gdi_kinds.specs.declared.pair.Pair.{Pair}
use Rattle.graph_walks.specs.Marks.{mark_at}
use Rattle.graph_walks.specs.Reached.{is_this, part_by}
use Rattle.graph_walks.proofs.Renaming.{hops_back}
use Rattle.graph_walks.proofs.Answering.{marked-within, parts-by-place, count-by-place, same_name}
use Rattle.graph_walks.proofs.answers.parts_of.Goals as goal

pub sizes_of-requires : goal.sizes_of-requires
sizes_of-requires c = marked-within (length c.args.steps.now.ids) c.args.steps.now.hops c.in_ok-names.names c.in_ok-names.ensures.len c.in_ok-names.ensures.names

pub components-requires : goal.components-requires
components-requires c = hops_back c.args.steps.now c.len-count.ensures.places.rises c.len-count.ensures.within c.requires

pub returns : goal.returns
returns c = λ name are.
    let ids = c.ids.ensures ∙ c.places.ensures in
    let named = same_name c.args.steps.now c.len-count.ensures.places.rises c.len-count.ensures.within c.in_ok-names.names c.in_ok-names.ensures.names name are in
    let pair = λ (js ns : List ℕ) (p : ℕ). let it : Pair = record { id = get_or js p 0; number = get_or ns p 0 } in it in
    let own = λ (p : ℕ). is_this p (mark_at c.in_ok-names.names p) in
    c.in_ok-parts.ensures
    ∙ ap (λ (js : List ℕ). map (pair js c.as_slice.result.now) (filter own (range_with_len 0 (length js)))) ids
    ∙ ap (λ (ns : List ℕ). map (pair c.args.steps.now.ids ns) (filter own (range_with_len 0 (length c.args.steps.now.ids)))) c.as_slice.ensures.value
    ∙ parts-by-place c.args.steps.now.ids (pair c.args.steps.now.ids c.in_ok-sizes.sizes.items) (part_by name c.args.steps.now.ids) own (λ j. name j == j) (λ p below. named p p below below)
    (λ p below. ap (λ (n : ℕ). let it : Pair = record { id = get_or c.args.steps.now.ids p 0; number = n } in it)
    (c.in_ok-sizes.ensures.each p (omega (arith, below, c.in_ok-names.ensures.len))
    ∙ ap (λ n. count_by (λ q. is_this p (mark_at c.in_ok-names.names q)) (range_with_len 0 n)) c.in_ok-names.ensures.len
    ∙ count-by-place c.args.steps.now.ids (λ q. is_this p (mark_at c.in_ok-names.names q)) (λ j. name j == get_or c.args.steps.now.ids p 0) (λ q inside. named q p inside below)))
