-- A list of items that rise by their keys: it is a map in order, so what std knows of maps holds of it; where a key
-- stands, and the list with one item more or less.
use Rattle.std.proofs.Common.{◌≡◌, ℕ, zero, suc, ◌+◌, ◌<◌, ◌≤◌, Bool, true, false, cond, eqb, ◌&&◌, List, [], ◌∷◌, map, length, get_or, slice_get, Some, None, Result, Ok, Err, MatchResult, refl, sym, ap, subst, ◌∙◌, arith}
use Rattle.std.specs.List.{AllByRecursion, filter, insert}
use Rattle.std.specs.List.Sorted.{IsSearchInRange, IsBinarySearchResult, IsSortedBy}
use Rattle.std.specs.Prelude.{nat_lt}
use Rattle.std.specs.Ordering.{is_eq, is_lt, eq_by_cmp, nat_cmp, ordering_reverse}
use Rattle.std.specs.Cmp.{IsTotalOrder, tied_itself}
use Rattle.std.specs.declared.cmp.Ordering.{Ordering}
use Rattle.std.specs.declared.cmp.Ordering.TheVariants.{Less, Equal, Greater}
use Rattle.std.specs.FinMap.{IsAntisymmetric, find, is_sorted, put}
use Rattle.std.specs.FinMap.Entries.{by_order, below_all, find-put, find-where_key, same_entries, is_sorted-put, is_sorted-where_key, where_key}
use lib.Dec.{T}
use Rattle.std.proofs.lemmas.Bool.{and_parts, and_from}
use Rattle.std.proofs.lemmas.List.Sorted.{searchable_from_sorted}
use Rattle.std.proofs.lemmas.Option.{slice_get-get_or}
use Rattle.rising_lists.specs.Rising.{is_rising, by_key, item_of, with_item}

pub to_T : (b : Bool) → b ≡ true → T b
to_T b e = subst T (sym e) tt

pub of_T : (b : Bool) → T b → b ≡ true
of_T true h = refl
of_T false h = absurd h

less_is : (o : Ordering) → is_lt o ≡ true → o ≡ Less
less_is Less is = refl
less_is Equal is = absurd (cc is)
less_is Greater is = absurd (cc is)

same_value : {X : Type 0} (x y : X) → Some x ≡ Some y → x ≡ y
same_value x y is = cc is

nothing : {X Y : Type 0} (x : X) → None ≡ Some x → Y
nothing x is = absurd (cc is)

module _ {K : Type 0} {R : K → K → Ordering} (total : IsTotalOrder R) where
  turned : (a b : K) (o : Ordering) → R a b ≡ o → R b a ≡ ordering_reverse o
  turned a b o is = total.antisymm b a ∙ ap ordering_reverse is

  below_lower : {X : Type 0} (a b : K) (es : List (K × X)) → R a b ≡ Less → below_all R b es ≡ true → below_all R a es ≡ true
  below_lower a b [] below all = refl
  below_lower a b (e ∷ es) below all =
      let parts = and_parts (is_lt (R b e.0)) (below_all R b es) all in
      and_from (is_lt (R a e.0)) (below_all R a es) (ap is_lt (total.trans a b e.0 below (less_is (R b e.0) parts.0))) (below_lower a b es below parts.1)

pub All-with_item : {E K : Type 0} (key : E → K) (R : K → K → Ordering) (P : E → Type 0) (item : E) (es : List E) → P item → AllByRecursion P es → AllByRecursion P (with_item key R item es)
All-with_item key R P item [] here all = (here, tt)
All-with_item key R P item (e ∷ es) here all =
    elim (R (key item) (key e)) as (λ order. AllByRecursion P (by_order order (item ∷ e ∷ es) (item ∷ es) (e ∷ with_item key R item es))) [
      | Less ↦ (here, all)
      | Equal ↦ (here, all.1)
      | Greater ↦ (all.0, All-with_item key R P item es here all.1)
    ]

pub length-with_item : {E K : Type 0} (key : E → K) (R : K → K → Ordering) (item : E) (es : List E) → length (with_item key R item es) ≤ length es + 1
length-with_item key R item [] = omega arith
length-with_item key R item (e ∷ es) =
    let rest = length-with_item key R item es in
    elim (R (key item) (key e)) as (λ order. length (by_order order (item ∷ e ∷ es) (item ∷ es) (e ∷ with_item key R item es)) ≤ length (e ∷ es) + 1) [
      | Less ↦ omega arith
      | Equal ↦ omega arith
      | Greater ↦ omega (arith, rest)
    ]

from_by_key : {E K : Type 0} (key : E → K) (es fs : List E) → by_key key es ≡ by_key key fs → es ≡ fs
from_by_key {E} {K} key es fs same = sym (items es) ∙ (ap (map (λ entry. entry.1)) same ∙ items fs)
  where
    items : (xs : List E) → map (λ entry. entry.1) (by_key key xs) ≡ xs
    items [] = refl
    items (x ∷ xs) = ap (λ others. x ∷ others) (items xs)

module _ {E K : Type 0} (key : E → K) {R : K → K → Ordering} (total : IsTotalOrder R) (same : IsAntisymmetric R) where
  -- ---- the list as a map

  pub by_key-with_item : (item : E) (es : List E) → by_key key (with_item key R item es) ≡ put R (key item) item (by_key key es)
  by_key-with_item item [] = refl
  by_key-with_item item (e ∷ es) =
      elim (R (key item) (key e)) as (λ o. R (key item) (key e) ≡ o → by_key key (by_order o (item ∷ e ∷ es) (item ∷ es) (e ∷ with_item key R item es))
      ≡ by_order o ((key item, item) ∷ by_key key (e ∷ es)) ((key e, item) ∷ by_key key es) ((key e, e) ∷ put R (key item) item (by_key key es))) [
        | Less ↦ λ _. refl
        | Equal ↦ λ tied. ap (λ k. (k, item) ∷ by_key key es) (same (key item) (key e) tied)
        | Greater ↦ λ _. ap (λ rest. (key e, e) ∷ rest) (by_key-with_item item es)
      ] refl

  pub by_key-where : (p : K → Bool) (es : List E) → by_key key (filter (λ e. p (key e)) es) ≡ where_key R p (by_key key es)
  by_key-where p [] = refl
  by_key-where p (e ∷ es) =
      let rest = by_key-where p es in
      elim (p (key e)) as (λ b. by_key key (cond b (e ∷ filter (λ f. p (key f)) es) (filter (λ f. p (key f)) es)) ≡ cond b ((key e, e) ∷ where_key R p (by_key key es)) (where_key R p (by_key key es))) [
        | true ↦ ap (λ others. (key e, e) ∷ others) rest
        | false ↦ rest
      ]

  pub item_of-with_item : (item : E) (es : List E) (k : K) → item_of key R (with_item key R item es) k ≡ cond (eq_by_cmp R k (key item)) (Some item) (item_of key R es k)
  item_of-with_item item es k = ap (find R k) (by_key-with_item item es) ∙ find-put R total k (key item) item (by_key key es)

  pub item_of-where : (p : K → Bool) (es : List E) (k : K) → item_of key R (filter (λ e. p (key e)) es) k ≡ cond (p k) (item_of key R es k) None
  item_of-where p es k = ap (find R k) (by_key-where p es) ∙ find-where_key R p k (λ other is. ap p (sym (same k other is))) (by_key key es)

  -- two lists that rise and have the same items are one
  pub same_items : (es fs : List E) → is_sorted R (by_key key es) ≡ true → is_sorted R (by_key key fs) ≡ true → ((k : K) → item_of key R es k ≡ item_of key R fs k) → es ≡ fs
  same_items es fs a b alike = from_by_key key es fs (same_entries R total same (by_key key es) (by_key key fs) (to_T _ a) (to_T _ b) alike)

  pub is_sorted-with_item : (item : E) (es : List E) → is_sorted R (by_key key es) ≡ true → is_sorted R (by_key key (with_item key R item es)) ≡ true
  is_sorted-with_item item es rise = ap (is_sorted R) (by_key-with_item item es) ∙ of_T _ (is_sorted-put R total (key item) item (by_key key es) (to_T _ rise))

  pub is_sorted-where : (p : K → Bool) (es : List E) → is_sorted R (by_key key es) ≡ true → is_sorted R (by_key key (filter (λ e. p (key e)) es)) ≡ true
  is_sorted-where p es rise = ap (is_sorted R) (by_key-where p es) ∙ of_T _ (is_sorted-where_key R p (by_key key es) (to_T _ rise))

  -- ---- each before the next, and each before all that follow

  module _ (before : E → E → Bool) (alike : (x y : E) → before x y ≡ is_lt (R (key x) (key y))) where
    pub sorted : (es : List E) → is_rising before es ≡ true → is_sorted R (by_key key es) ≡ true
    sorted [] rising = refl
    sorted (e ∷ []) rising = refl
    sorted (e ∷ f ∷ es) rising =
        let parts = and_parts (before e f) (is_rising before (f ∷ es)) rising in
        let rest = sorted (f ∷ es) parts.1 in
        let first = sym (alike e f) ∙ parts.0 in
        let later = (and_parts (below_all R (key f) (by_key key es)) (is_sorted R (by_key key es)) rest).0 in
        and_from (is_lt (R (key e) (key f)) && below_all R (key e) (by_key key es)) (is_sorted R (by_key key (f ∷ es)))
        (and_from (is_lt (R (key e) (key f))) (below_all R (key e) (by_key key es)) first (below_lower total (key e) (key f) (by_key key es) (less_is (R (key e) (key f)) first) later)) rest

    pub is_rising-from : (es : List E) → is_sorted R (by_key key es) ≡ true → is_rising before es ≡ true
    is_rising-from [] rise = refl
    is_rising-from (e ∷ []) rise = refl
    is_rising-from (e ∷ f ∷ es) rise =
        let parts = and_parts (is_lt (R (key e) (key f)) && below_all R (key e) (by_key key es)) (is_sorted R (by_key key (f ∷ es))) rise in
        and_from (before e f) (is_rising before (f ∷ es)) (alike e f ∙ (and_parts (is_lt (R (key e) (key f))) (below_all R (key e) (by_key key es)) parts.0).0) (is_rising-from (f ∷ es) parts.1)

    pub is_rising-with_item : (item : E) (es : List E) → is_rising before es ≡ true → is_rising before (with_item key R item es) ≡ true
    is_rising-with_item item es rising =
        is_rising-from (with_item key R item es) (is_sorted-with_item item es (sorted es rising))

    pub is_rising-where : (p : K → Bool) (es : List E) → is_rising before es ≡ true → is_rising before (filter (λ e. p (key e)) es) ≡ true
    is_rising-where p es rising =
        is_rising-from (filter (λ e. p (key e)) es) (is_sorted-where p es (sorted es rising))

  -- ---- where a key stands

  below_at : (k : K) (es : List E) (i : ℕ) (found : E) → below_all R k (by_key key es) ≡ true → slice_get es i ≡ Some found → R k (key found) ≡ Less
  below_at k [] i found all is = nothing found is
  below_at k (e ∷ es) zero found all is = ap (λ (item : E). R k (key item)) (sym (same_value e found is)) ∙ less_is (R k (key e)) (and_parts (is_lt (R k (key e))) (below_all R k (by_key key es)) all).0
  below_at k (e ∷ es) (suc i) found all is = below_at k es i found (and_parts (is_lt (R k (key e))) (below_all R k (by_key key es)) all).1 is

  item_of_later : (e : E) (es : List E) (k : K) (o : Ordering) → R k (key e) ≡ o → is_eq o ≡ false → item_of key R (e ∷ es) k ≡ item_of key R es k
  item_of_later e es k o is apart = ap (λ b. cond b (Some e) (item_of key R es k)) (ap is_eq is ∙ apart)

  -- in a list that rises the item at a place is that of its key
  item_of_at : (es : List E) (i : ℕ) (found : E) → is_sorted R (by_key key es) ≡ true → slice_get es i ≡ Some found → item_of key R es (key found) ≡ Some found
  item_of_at [] i found rise is = nothing found is
  item_of_at (e ∷ es) zero found rise is =
      let here = same_value e found is in
      ap (λ b. cond b (Some e) (item_of key R es (key found))) (ap (λ (item : E). eq_by_cmp R (key item) (key e)) (sym here) ∙ ap is_eq (tied_itself total (key e))) ∙ is
  item_of_at (e ∷ es) (suc i) found rise is =
      let parts = and_parts (below_all R (key e) (by_key key es)) (is_sorted R (by_key key es)) rise in
      item_of_later e es (key found) Greater (turned total (key e) (key found) Less (below_at (key e) es i found parts.0 is)) refl ∙ item_of_at es i found parts.1 is

  -- i is the place at which a key would stand
  record IsGapFor (es : List E) (k : K) (i : ℕ) : Type 0 where
    within : i ≤ length es
    below : (j : ℕ) (d : E) → j < i → R (key (get_or es j d)) k ≡ Less
    above : (j : ℕ) (d : E) → i ≤ j → j < length es → R (key (get_or es j d)) k ≡ Greater

  gap_behind : (e : E) (es : List E) (k : K) (i : ℕ) → IsGapFor (e ∷ es) k (suc i) → IsGapFor es k i
  gap_behind e es k i gap = record {
    within = omega (arith, gap.within);
    below = λ j d lt. gap.below (suc j) d (omega arith);
    above = λ j d le lt. gap.above (suc j) d (omega arith) (omega arith);
  }

  none_above : (es : List E) (k : K) → ((j : ℕ) (d : E) → j < length es → R (key (get_or es j d)) k ≡ Greater) → item_of key R es k ≡ None
  none_above [] k above = refl
  none_above (e ∷ es) k above =
      item_of_later e es k Less (turned total (key e) k Greater (above 0 e (omega arith))) refl ∙ none_above es k (λ j d lt. above (suc j) d (omega arith))

  none_at_gap : (es : List E) (k : K) (i : ℕ) → IsGapFor es k i → item_of key R es k ≡ None
  none_at_gap es k zero gap = none_above es k (λ j d lt. gap.above j d (omega arith) lt)
  none_at_gap [] k (suc i) gap = refl
  none_at_gap (e ∷ es) k (suc i) gap =
      item_of_later e es k Greater (turned total (key e) k Less (gap.below 0 e (omega arith))) refl ∙ none_at_gap es k i (gap_behind e es k i gap)

  with_item-by : (item e : E) (es : List E) (order : Ordering) → R (key item) (key e) ≡ order → by_order order (item ∷ e ∷ es) (item ∷ es) (e ∷ with_item key R item es) ≡ with_item key R item (e ∷ es)
  with_item-by item e es order is = ap (λ o. by_order o (item ∷ e ∷ es) (item ∷ es) (e ∷ with_item key R item es)) (sym is)

  -- an insert there is what `with_item` gives
  insert_at_gap : (item : E) (es : List E) (i : ℕ) → IsGapFor es (key item) i → insert es i item ≡ with_item key R item es
  insert_at_gap item [] zero gap = refl
  insert_at_gap item [] (suc i) gap = absurd (omega (arith, gap.within))
  insert_at_gap item (e ∷ es) zero gap = with_item-by item e es Less (turned total (key e) (key item) Greater (gap.above 0 e (omega arith) (omega arith)))
  insert_at_gap item (e ∷ es) (suc i) gap =
      ap (λ others. e ∷ others) (insert_at_gap item es i (gap_behind e es (key item) i gap)) ∙ with_item-by item e es Greater (turned total (key e) (key item) Less (gap.below 0 e (omega arith)))

  -- ---- what a binary search tells

  rises_next : (es : List E) (j : ℕ) (d : E) → is_sorted R (by_key key es) ≡ true → suc j < length es → R (key (get_or es j d)) (key (get_or es (suc j) d)) ≡ Less
  rises_next [] j d rise within = absurd (omega arith)
  rises_next (e ∷ es) zero d rise within =
      below_at (key e) es 0 (get_or es 0 d) (and_parts (below_all R (key e) (by_key key es)) (is_sorted R (by_key key es)) rise).0 (slice_get-get_or es 0 d (omega arith))
  rises_next (e ∷ es) (suc j) d rise within = rises_next es j d (and_parts (below_all R (key e) (by_key key es)) (is_sorted R (by_key key es)) rise).1 (omega arith)

  sorted_by_key : (es : List E) → is_sorted R (by_key key es) ≡ true → IsSortedBy (λ a b. is_lt (R (key a) (key b))) es
  sorted_by_key es rise j d _ within =
      let next : suc j ≡ j + 1 = omega arith in
      subst (λ i. is_lt (R (key (get_or es i d)) (key (get_or es j d))) ≡ false) next
      (ap is_lt (turned total (key (get_or es j d)) (key (get_or es (suc j) d)) Less (rises_next es j d rise (omega arith))))

  -- the item of the key, or the place at which an insert adds one
  pub from_search : (before : E → E → Bool) → ((x y : E) → before x y ≡ is_lt (R (key x) (key y))) → (d : E) (es : List E) (k : K) (r : Result ℕ ℕ)
      → is_rising before es ≡ true → IsSearchInRange r (length es) → IsBinarySearchResult (λ item. R (key item) k) es r
      → MatchResult r (λ i. (found : E) × (slice_get es i ≡ Some found) × (item_of key R es k ≡ Some found))
      (λ i. (i ≤ length es) × (item_of key R es k ≡ None) × ((item : E) → key item ≡ k → insert es i item ≡ with_item key R item es))
  from_search before alike d es k (Ok i) rising within found =
      let item = get_or es i d in
      let here = slice_get-get_or es i d within in
      (item, here, subst (λ k'. item_of key R es k' ≡ Some item) (same (key item) k (found d)) (item_of_at es i item (sorted before alike es rising) here))
  from_search before alike d es k (Err i) rising within searching =
      let parted = searching (searchable_from_sorted total key es k (sorted_by_key es (sorted before alike es rising))) in
      let gap : IsGapFor es k i = record {
        within = within;
        below = λ j d lt. parted.0 j d (omega arith) lt;
        above = λ j d le lt. parted.1 j d le lt;
      } in
      (within, none_at_gap es k i gap, λ item is. insert_at_gap item es i (subst (λ k'. IsGapFor es k' i) (sym is) gap))

-- ---- keys that are numbers

pub lt_by_nat_cmp : (a b : ℕ) → nat_lt a b ≡ is_lt (nat_cmp a b)
lt_by_nat_cmp a b =
    elim (nat_lt a b) as (λ below. below ≡ is_lt (cond below Less (cond (eqb a b) Equal Greater))) [
      | true ↦ refl
      | false ↦ elim (eqb a b) as (λ tie. false ≡ is_lt (cond tie Equal Greater)) [ true ↦ refl | false ↦ refl ]
    ]
