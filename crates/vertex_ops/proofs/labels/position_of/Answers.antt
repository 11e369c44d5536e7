use Rattle.std.proofs.Common.{rules}
use Rattle.std.specs.Prelude.{nat_lt}
use Rattle.std.proofs.lemmas.List.Sorted.{answers_always}
use Rattle.std.specs.Cmp.{nat_cmp_total}
use Rattle.std.specs.FinMap.{nat_cmp-IsAntisymmetric}
use Rattle.rising_lists.proofs.Rising.{from_search, lt_by_nat_cmp}
use Rattle.vertex_ops.proofs.LabelSets.{itself, from_items}
use Rattle.vertex_ops.proofs.labels.position_of.Goals as goal

pub returns : goal.returns
returns c =
    let facts = c.binary_search_by_key.ensures in
    let by_label = facts.position (λ label. label) (answers_always _ _ _ (λ f a r g called. search rules)) in
    from_items c.args.labels.now c.args.label _ (from_search itself nat_cmp_total nat_cmp-IsAntisymmetric nat_lt (λ x y. lt_by_nat_cmp x y) 0 c.args.labels.now c.args.label _ c.requires facts.bound by_label)
