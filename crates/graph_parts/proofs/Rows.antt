-- Entries in order, in a vector: where a binary search finds a key, and what is written there.
use Rattle.std.proofs.Common.{◌≡◌, ℕ, is_some, zero, suc, ◌<◌, ◌≤◌, Bool, true, false, cond, eqb, not, ◌&&◌, List, [], ◌∷◌, length, slice_get, Some, None, Result, Ok, Err, MatchResult, refl, sym, ap, subst, ◌∙◌, arith}
use Rattle.std.specs.Option.{option_map}
use Rattle.std.specs.List.{AllByRecursion, insert, slice_index_or, slice_set}
use Rattle.std.specs.List.Sorted.{IsSearchInRange, IsBinarySearchResult, IsStrictlySortedBy}
use Rattle.std.specs.Prelude.{nat_lt}
use Rattle.std.specs.Ordering.{is_eq, is_lt, nat_cmp, ordering_reverse}
use Rattle.std.specs.Cmp.{nat_cmp_total, tied_itself}
use Rattle.std.specs.declared.cmp.Ordering.{Ordering}
use Rattle.std.specs.declared.cmp.Ordering.TheVariants.{Less, Equal, Greater}
use Rattle.std.specs.Map.{keys_of, remove_entry}
use Rattle.std.specs.BTreeMap.{is_at}
use Rattle.std.specs.FinMap.{nat_cmp-IsAntisymmetric, is_sorted}
use Rattle.std.specs.FinMap.Entries.{by_order, below_all, is_sorted-put}
use Rattle.std.proofs.lemmas.Bool.{and_parts, and_from}
use Rattle.std.proofs.lemmas.Option.{slice_get-get_or}
use Rattle.std.proofs.lemmas.Bool.Decides.{nat_tests}
use Rattle.graph_model.proofs.VertexSteps.{without-absent}
use Rattle.graph_model.specs.Maps.{Map, IsMap, at, is_there, with_at, without}
use Rattle.rising_lists.specs.Rising.{by_key, item_of, is_rising, with_item}
use Rattle.rising_lists.proofs.Rising.{from_search, is_rising-from, lt_by_nat_cmp, of_T, to_T}
use Rattle.graph_parts.specs.Rows.{IsAt, IsGap}

less_is : (o : Ordering) → is_lt o ≡ true → o ≡ Less
less_is Less is = refl
less_is Equal is = absurd (cc is)
less_is Greater is = absurd (cc is)

module _ {X : Type 0} where
  abbrev key : ℕ × X → ℕ
  key entry = entry.0

  -- ---- the keys rise

  all_below : (k : ℕ) (es : Map ℕ X) → below_all nat_cmp k es ≡ true → AllByRecursion (λ q. nat_cmp k q ≡ Less) (keys_of es)
  all_below k [] below = tt
  all_below k (e ∷ es) below =
      let parts = and_parts (is_lt (nat_cmp k e.0)) (below_all nat_cmp k es) below in
      (less_is (nat_cmp k e.0) parts.0, all_below k es parts.1)

  pub rises : (es : Map ℕ X) → IsMap nat_cmp es → IsStrictlySortedBy nat_cmp (keys_of es)
  unfolding IsStrictlySortedBy
  rises [] is = tt
  rises (e ∷ es) is =
      let parts = and_parts (below_all nat_cmp e.0 es) (is_sorted nat_cmp es) is in
      (all_below e.0 es parts.0, rises es parts.1)

  -- ---- a list of entries is a list that rises by key

  at-item : (es : Map ℕ X) (k : ℕ) → at es k ≡ option_map (λ e. e.1) (item_of key nat_cmp es k)
  at-item [] k = refl
  at-item (e ∷ es) k = elim (is_eq (nat_cmp k e.0)) as (λ b. cond b (Some e.1) (at es k) ≡ option_map (λ e. e.1) (cond b (Some e) (item_of key nat_cmp es k))) [
    | true ↦ refl
    | false ↦ at-item es k
  ]

  with_item-with_at : (k : ℕ) (x : X) (es : Map ℕ X) → with_item key nat_cmp (k, x) es ≡ with_at es k x
  with_item-with_at k x [] = refl
  with_item-with_at k x (e ∷ es) =
      elim (nat_cmp k e.0) as (λ o. nat_cmp k e.0 ≡ o → by_order o ((k, x) ∷ e ∷ es) ((k, x) ∷ es) (e ∷ with_item key nat_cmp (k, x) es) ≡ by_order o ((k, x) ∷ e ∷ es) ((e.0, x) ∷ es) (e ∷ with_at es k x)) [
        | Less ↦ λ _. refl
        | Equal ↦ λ tied. ap (λ q. (q, x) ∷ es) (nat_cmp-IsAntisymmetric k e.0 tied)
        | Greater ↦ λ _. ap (λ rest. e ∷ rest) (with_item-with_at k x es)
      ] refl

  below_by_key : (k : ℕ) (es : Map ℕ X) → below_all nat_cmp k (by_key key es) ≡ below_all nat_cmp k es
  below_by_key k [] = refl
  below_by_key k (e ∷ es) = ap (λ b. is_lt (nat_cmp k e.0) && b) (below_by_key k es)

  sorted_by_key : (es : Map ℕ X) → is_sorted nat_cmp (by_key key es) ≡ is_sorted nat_cmp es
  sorted_by_key [] = refl
  sorted_by_key (e ∷ es) = ap (λ b. b && is_sorted nat_cmp (by_key key es)) (below_by_key e.0 es) ∙ ap (λ b. below_all nat_cmp e.0 es && b) (sorted_by_key es)

  same_entry : (x y : ℕ × X) → Some x ≡ Some y → y ≡ x
  same_entry x y both = cc both

  -- the entry that is found has the key
  key_found : (es : Map ℕ X) (k : ℕ) (found : ℕ × X) → item_of key nat_cmp es k ≡ Some found → found.0 ≡ k
  key_found [] k found is = absurd (cc is)
  key_found (e ∷ es) k found is = cases (nat_cmp k e.0) refl is (key_found es k found)
    where
      cases : (o : Ordering) → nat_cmp k e.0 ≡ o → cond (is_eq o) (Some e) (item_of key nat_cmp es k) ≡ Some found → (item_of key nat_cmp es k ≡ Some found → found.0 ≡ k) → found.0 ≡ k
      cases Equal tied here later = sym (nat_cmp-IsAntisymmetric k found.0 (ap (λ (one : ℕ × X). nat_cmp k one.0) (same_entry e found here) ∙ tied))
      cases Less _ there later = later there
      cases Greater _ there later = later there

  abbrev before : ℕ × X → ℕ × X → Bool
  before one other = nat_lt one.0 other.0

  -- what a binary search for a key answers
  pub searched : (d : X) (es : Map ℕ X) (k : ℕ) (r : Result ℕ ℕ) → IsMap nat_cmp es → IsSearchInRange r (length es) → IsBinarySearchResult (λ e. nat_cmp e.0 k) es r
      → MatchResult r (IsAt es k) (IsGap es k)
  searched d es k r rise within found =
      tell r (from_search key nat_cmp_total nat_cmp-IsAntisymmetric before (λ x y. lt_by_nat_cmp x.0 y.0) (k, d) es k r
      (is_rising-from key nat_cmp_total nat_cmp-IsAntisymmetric before (λ x y. lt_by_nat_cmp x.0 y.0) es (sorted_by_key es ∙ rise)) within found)
    where
      tell : (r : Result ℕ ℕ) → MatchResult r (λ i. (found : ℕ × X) × (slice_get es i ≡ Some found) × (item_of key nat_cmp es k ≡ Some found))
          (λ i. (i ≤ length es) × (item_of key nat_cmp es k ≡ None) × ((item : ℕ × X) → item.0 ≡ k → insert es i item ≡ with_item key nat_cmp item es)) → MatchResult r (IsAt es k) (IsGap es k)
      tell (Ok i) is = record {
        value = is.0.1;
        here = is.1 ∙ ap (λ q. Some (q, is.0.1)) (key_found es k is.0 is.2);
        found = at-item es k ∙ ap (option_map (λ e. e.1)) is.2;
      }
      tell (Err i) is = record {
        none = at-item es k ∙ ap (option_map (λ e. e.1)) is.1;
        gap = λ value. is.2 (k, value) refl ∙ with_item-with_at k value es;
      }

  -- ---- a value written at the place of a key

  below_here : (k : ℕ) (es : Map ℕ X) (i q : ℕ) (x : X) → below_all nat_cmp k es ≡ true → slice_get es i ≡ Some (q, x) → nat_cmp k q ≡ Less
  below_here k [] i q x below is = absurd (cc is)
  below_here k (e ∷ es) zero q x below is = ap (λ (one : ℕ × X). nat_cmp k one.0) (same_entry e (q, x) is) ∙ less_is (nat_cmp k e.0) (and_parts (is_lt (nat_cmp k e.0)) (below_all nat_cmp k es) below).0
  below_here k (e ∷ es) (suc i) q x below is = below_here k es i q x (and_parts (is_lt (nat_cmp k e.0)) (below_all nat_cmp k es) below).1 is

  pub set_here : (k : ℕ) (x w : X) (es : Map ℕ X) (i : ℕ) → IsMap nat_cmp es → slice_get es i ≡ Some (k, x) → slice_set es i (k, w) ≡ with_at es k w
  set_here k x w [] i rise is = absurd (cc is)
  set_here k x w (e ∷ es) zero rise is =
      let here : k ≡ e.0 = ap (λ (one : ℕ × X). one.0) (same_entry e (k, x) is) in
      sym (ap (λ o. by_order o ((k, w) ∷ e ∷ es) ((e.0, w) ∷ es) (e ∷ with_at es k w)) (ap (nat_cmp k) (sym here) ∙ tied_itself nat_cmp_total k) ∙ ap (λ q. (q, w) ∷ es) (sym here))
  set_here k x w (e ∷ es) (suc i) rise is =
      let parts = and_parts (below_all nat_cmp e.0 es) (is_sorted nat_cmp es) rise in
      let turned : nat_cmp k e.0 ≡ Greater = nat_cmp_total.antisymm k e.0 ∙ ap ordering_reverse (below_here e.0 es i k x parts.0 is) in
      ap (λ rest. e ∷ rest) (set_here k x w es i parts.1 is) ∙ sym (ap (λ o. by_order o ((k, w) ∷ e ∷ es) ((e.0, w) ∷ es) (e ∷ with_at es k w)) turned)

  pub rising-with_at : (k : ℕ) (x : X) (es : Map ℕ X) → IsMap nat_cmp es → IsMap nat_cmp (with_at es k x)
  rising-with_at k x es rise = of_T _ (is_sorted-put nat_cmp nat_cmp_total k x es (to_T _ rise))

  below-without : (q k : ℕ) (es : Map ℕ X) → below_all nat_cmp q es ≡ true → below_all nat_cmp q (without es k) ≡ true
  below-without q k [] below = refl
  below-without q k (e ∷ es) below =
      let parts = and_parts (is_lt (nat_cmp q e.0)) (below_all nat_cmp q es) below in
      elim (not (eqb e.0 k)) as (λ b. below_all nat_cmp q (cond b (e ∷ without es k) (without es k)) ≡ true) [
        | true ↦ and_from (is_lt (nat_cmp q e.0)) (below_all nat_cmp q (without es k)) parts.0 (below-without q k es parts.1)
        | false ↦ below-without q k es parts.1
      ]

  pub rising-without : (k : ℕ) (es : Map ℕ X) → IsMap nat_cmp es → IsMap nat_cmp (without es k)
  rising-without k [] rise = refl
  rising-without k (e ∷ es) rise =
      let parts = and_parts (below_all nat_cmp e.0 es) (is_sorted nat_cmp es) rise in
      elim (not (eqb e.0 k)) as (λ b. IsMap nat_cmp (cond b (e ∷ without es k) (without es k))) [
        | true ↦ and_from (below_all nat_cmp e.0 (without es k)) (is_sorted nat_cmp (without es k)) (below-without e.0 k es parts.0) (rising-without k es parts.1)
        | false ↦ rising-without k es parts.1
      ]

-- an entry that is taken out is the only one of its key
absent_behind : {X : Type 0} (k : ℕ) (es : Map ℕ X) → below_all nat_cmp k es ≡ true → is_there es k ≡ false
absent_behind k [] below = refl
absent_behind k (e ∷ es) below =
    let parts = and_parts (is_lt (nat_cmp k e.0)) (below_all nat_cmp k es) below in
    ap (λ o. is_some (cond (is_eq o) (Some e.1) (at es k))) (less_is (nat_cmp k e.0) parts.0) ∙ absent_behind k es parts.1

pub taken_out-without : {X : Type 0} (k : ℕ) (es : Map ℕ X) → IsMap nat_cmp es → remove_entry (is_at (nat_cmp k)) es ≡ without es k
taken_out-without k [] rise = refl
taken_out-without k (e ∷ es) rise =
    let parts = and_parts (below_all nat_cmp e.0 es) (is_sorted nat_cmp es) rise in
    let behind = λ (here : k ≡ e.0). without-absent k es (subst (λ q. is_there es q ≡ false) (sym here) (absent_behind e.0 es parts.0)) in
    grind (arith, nat_tests, behind, taken_out-without k es parts.1)

pub within_at : {X : Type 0} (es : Map ℕ X) (i k : ℕ) (x : X) → slice_get es i ≡ Some (k, x) → i < length es
within_at [] i k x is = absurd (cc is)
within_at (e ∷ es) zero k x is = omega arith
within_at (e ∷ es) (suc i) k x is = omega (arith, within_at es i k x is)

module _ {X : Type 0} (es : Map ℕ X) (k i : ℕ) (lent : ℕ × X) (is : IsAt es k i) (here : lent ≡ slice_index_or es i lent) where
  -- what stands at the place of a key
  pub lent_is : lent ≡ (k, is.value)
  lent_is = here ∙ some_is (slice_index_or es i lent) (k, is.value) (sym (slice_get-get_or es i lent (within_at es i k is.value is.here)) ∙ is.here)
    where
      some_is : (x y : ℕ × X) → Some x ≡ Some y → x ≡ y
      some_is x y both = cc both

  -- a value that is written there
  pub written : (w : X) → IsMap nat_cmp es → slice_set es i (lent.0, w) ≡ with_at es k w
  written w rise = ap (λ (one : ℕ × X). slice_set es i (one.0, w)) lent_is ∙ set_here k is.value w es i rise is.here
