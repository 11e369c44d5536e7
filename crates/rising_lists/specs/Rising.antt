-- Lists of items that rise by their keys, in a total order of the keys.
use Rattle.std.specs.Prelude.{Bool, true, ◌&&◌, List, [], ◌∷◌, map, Option}
use Rattle.std.specs.declared.cmp.Ordering.{Ordering}
use Rattle.std.specs.FinMap.{find}
use Rattle.std.specs.FinMap.Entries.{by_order}

-- each stands before the next
abbrev pub is_rising : {E : Type 0} → (E → E → Bool) → List E → Bool
is_rising before [] = true
is_rising before (x ∷ []) = true
is_rising before (x ∷ y ∷ ys) = before x y && is_rising before (y ∷ ys)

module _ {E K : Type 0} (key : E → K) where
  -- the items with their keys, as a map has them
  abbrev pub by_key : List E → List (K × E)
  by_key items = map (λ item. (key item, item)) items

  module _ (R : K → K → Ordering) where
    -- the item of a key
    abbrev pub item_of : List E → K → Option E
    item_of items k = find R k (by_key items)

    -- with an item, in its place by rising key
    abbrev pub with_item : E → List E → List E
    with_item item [] = item ∷ []
    with_item item (other ∷ others) =
        by_order (R (key item) (key other)) (item ∷ other ∷ others) (item ∷ others) (other ∷ with_item item others)
