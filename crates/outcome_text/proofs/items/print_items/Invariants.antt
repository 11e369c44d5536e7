use Rattle.std.proofs.Common.{◌≡◌, ◌++◌, drop, map}
use Rattle.std.specs.List.{AllByRecursion}
use Rattle.outcome_text.specs.Outputs.{items_text}
use Rattle.outcome_text.proofs.items.print_items.Given as goal

-- the items so far and those of the rest are all, and all fit if the rest do
abbrev pub invariant-loop-item : goal.invariant-loop-item
invariant-loop-item g l =
    (l.out.items ++ items_text (map g.T.Item.text (drop l.item-index l.items)) ≡ l.fn.out.items ++ items_text (map g.T.Item.text l.items))
    × (AllByRecursion (λ item. g.T.Item.Told item → g.T.Item.Fits item) (drop l.item-index l.items) → AllByRecursion (λ item. g.T.Item.Told item → g.T.Item.Fits item) l.items)
