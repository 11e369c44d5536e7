-- The entries of a map whose keys pass a test, where the map changes at a key; and items made of a map's entries.
use Rattle.std.proofs.Common.{◌≡◌, Bool, true, false, cond, List, [], ◌∷◌, map, Some, None, refl, sym, ap, ◌∙◌, arith}
use Rattle.std.specs.Option.{option_map}
use Rattle.std.specs.List.{filter}
use Rattle.std.specs.Ordering.{is_eq, eq_by_cmp}
use Rattle.std.specs.Cmp.{IsTotalOrder}
use Rattle.std.specs.declared.cmp.Ordering.{Ordering}
use Rattle.std.specs.declared.cmp.Ordering.TheVariants.{Less, Equal, Greater}
use Rattle.std.specs.FinMap.{IsAntisymmetric, find, is_sorted, put}
use Rattle.std.specs.FinMap.Entries.{by_order, find-put, find-where_key, is_sorted-put, is_sorted-where_key, same_entries, where_key}
use lib.Dec.{T}
use Rattle.rising_lists.specs.Rising.{by_key, item_of, with_item}
use Rattle.rising_lists.proofs.Rising.{same_items, is_sorted-with_item, is_sorted-where, item_of-where, item_of-with_item}

equal_is : (o : Ordering) → is_eq o ≡ true → o ≡ Equal
equal_is Less is = absurd (cc is)
equal_is Equal is = refl
equal_is Greater is = absurd (cc is)

tied : {K : Type 0} {R : K → K → Ordering} → IsAntisymmetric R → (a b : K) → eq_by_cmp R a b ≡ true → a ≡ b
tied {K} {R} same a b is = same a b (equal_is (R a b) is)

module _ {K X : Type 0} {R : K → K → Ordering} (total : IsTotalOrder R) (same : IsAntisymmetric R) (p : K → Bool) where
  find-chosen : (q : K) (es : List (K × X)) → find R q (where_key R p es) ≡ cond (p q) (find R q es) None
  find-chosen q es = find-where_key R p q (λ other is. ap p (sym (same q other is))) es

  same_chosen : (es fs : List (K × X)) → T (is_sorted R es) → T (is_sorted R fs) → ((q : K) → cond (p q) (find R q es) None ≡ cond (p q) (find R q fs) None)
      → where_key R p es ≡ where_key R p fs
  same_chosen es fs a b alike =
      same_entries R total same _ _ (is_sorted-where_key R p es a) (is_sorted-where_key R p fs b) (λ q. find-chosen q es ∙ (alike q ∙ sym (find-chosen q fs)))

  -- a key that passes comes to those that pass
  pub chosen-put : (k : K) (x : X) (es : List (K × X)) → T (is_sorted R es) → p k ≡ true → where_key R p (put R k x es) ≡ put R k x (where_key R p es)
  chosen-put k x es rising kept =
      same_entries R total same _ _ (is_sorted-where_key R p _ (is_sorted-put R total k x es rising)) (is_sorted-put R total k x _ (is_sorted-where_key R p es rising)) (λ q.
      find-chosen q (put R k x es) ∙ (ap (λ o. cond (p q) o None) (find-put R total q k x es) ∙ (cases q (eq_by_cmp R q k) refl
      ∙ (ap (cond (eq_by_cmp R q k) (Some x)) (sym (find-chosen q es)) ∙ sym (find-put R total q k x (where_key R p es))))))
    where
      cases : (q : K) (tie : Bool) → eq_by_cmp R q k ≡ tie → cond (p q) (cond tie (Some x) (find R q es)) None ≡ cond tie (Some x) (cond (p q) (find R q es) None)
      cases q true tie = ap (λ b. cond b (Some x) None) (ap p (tied same q k tie) ∙ kept)
      cases q false tie = refl

  -- a key that fails the test changes nothing of what passes
  pub chosen-put_other : (k : K) (x : X) (es : List (K × X)) → T (is_sorted R es) → p k ≡ false → where_key R p (put R k x es) ≡ where_key R p es
  chosen-put_other k x es rising dropped =
      same_chosen _ _ (is_sorted-put R total k x es rising) rising (λ q. ap (λ o. cond (p q) o None) (find-put R total q k x es) ∙ cases q (eq_by_cmp R q k) refl)
    where
      cases : (q : K) (tie : Bool) → eq_by_cmp R q k ≡ tie → cond (p q) (cond tie (Some x) (find R q es)) None ≡ cond (p q) (find R q es) None
      cases q true tie = let no = ap p (tied same q k tie) ∙ dropped in ap (λ b. cond b (Some x) None) no ∙ sym (ap (λ b. cond b (find R q es) None) no)
      cases q false tie = refl

-- nor does a second test that each passes
pub chosen-chosen : {X : Type 0} (p q : X → Bool) → ((x : X) → p x ≡ true → q x ≡ true) → (xs : List X) → filter p (filter q xs) ≡ filter p xs
chosen-chosen p q passes [] = refl
chosen-chosen p q passes (x ∷ xs) =
    let rest = chosen-chosen p q passes xs in
    elim (q x) as (λ b. q x ≡ b → filter p (cond b (x ∷ filter q xs) (filter q xs)) ≡ filter p (x ∷ xs)) [
      | true ↦ λ _. ap (λ others. cond (p x) (x ∷ others) others) rest
      | false ↦ λ out. rest ∙ sym (ap (λ b. cond b (x ∷ filter p xs) (filter p xs)) (fails out (p x) refl))
    ] refl
  where
    fails : q x ≡ false → (b : Bool) → p x ≡ b → b ≡ false
    fails out true is = absurd (cc (passes x is, out))
    fails out false is = refl

-- two tests in either order
pub chosen-swap : {X : Type 0} (p q : X → Bool) (xs : List X) → filter p (filter q xs) ≡ filter q (filter p xs)
chosen-swap p q [] = refl
chosen-swap p q (x ∷ xs) = grind (arith, chosen-swap p q xs)

-- ---- items made of a map's entries

module _ {E K X : Type 0} (key : E → K) {R : K → K → Ordering} (same : IsAntisymmetric R) (made : K × X → E) (key_is : (e : K × X) → key (made e) ≡ e.0) where
  pub item_of-made : (value : E → X) → ((e : K × X) → value (made e) ≡ e.1) → (k : K) (es : List (K × X)) → option_map value (item_of key R (map made es) k) ≡ find R k es
  item_of-made value value_is k [] = refl
  item_of-made value value_is k (e ∷ es) =
      ap (λ k'. option_map value (cond (eq_by_cmp R k k') (Some (made e)) (item_of key R (map made es) k))) (key_is e)
      ∙ elim (eq_by_cmp R k e.0) as (λ b. option_map value (cond b (Some (made e)) (item_of key R (map made es) k)) ≡ cond b (Some e.1) (find R k es)) [
        | true ↦ ap Some (value_is e)
        | false ↦ item_of-made value value_is k es
      ]

  pub with_item-made : (k : K) (x : X) (es : List (K × X)) → map made (put R k x es) ≡ with_item key R (made (k, x)) (map made es)
  with_item-made k x [] = refl
  with_item-made k x (e ∷ es) =
      elim (R k e.0) as (λ o. R k e.0 ≡ o → map made (by_order o ((k, x) ∷ e ∷ es) ((e.0, x) ∷ es) (e ∷ put R k x es))
      ≡ by_order o (made (k, x) ∷ made e ∷ map made es) (made (k, x) ∷ map made es) (made e ∷ with_item key R (made (k, x)) (map made es))) [
        | Less ↦ λ _. refl
        | Equal ↦ λ tied. ap (λ k'. made (k', x) ∷ map made es) (sym (same k e.0 tied))
        | Greater ↦ λ _. ap (λ others. made e ∷ others) (with_item-made k x es)
      ] refl
      ∙ ap (λ o. by_order o (made (k, x) ∷ made e ∷ map made es) (made (k, x) ∷ map made es) (made e ∷ with_item key R (made (k, x)) (map made es)))
      (ap (λ k'. R k' e.0) (sym (key_is (k, x))) ∙ ap (R (key (made (k, x)))) (sym (key_is e)))

  -- items whose keys pass a test
  pub chosen-made : (p : K → Bool) (es : List (K × X)) → map made (where_key R p es) ≡ filter (λ item. p (key item)) (map made es)
  chosen-made p [] = refl
  chosen-made p (e ∷ es) =
      let rest = chosen-made p es in
      elim (p e.0) as (λ b. map made (cond b (e ∷ where_key R p es) (where_key R p es)) ≡ cond b (made e ∷ filter (λ item. p (key item)) (map made es)) (filter (λ item. p (key item)) (map made es))) [
        | true ↦ ap (λ others. made e ∷ others) rest
        | false ↦ rest
      ] ∙ ap (λ k. cond (p k) (made e ∷ filter (λ item. p (key item)) (map made es)) (filter (λ item. p (key item)) (map made es))) (sym (key_is e))

-- ---- items whose keys pass a test, where one more item comes

module _ {E K : Type 0} (key : E → K) {R : K → K → Ordering} (total : IsTotalOrder R) (same : IsAntisymmetric R) (p : K → Bool) (item : E) (es : List E) (rise : is_sorted R (by_key key es) ≡ true) where
  abbrev chosen : List E → List E
  chosen xs = filter (λ e. p (key e)) xs

  chosen_sorted : (xs : List E) → is_sorted R (by_key key xs) ≡ true → is_sorted R (by_key key (chosen xs)) ≡ true
  chosen_sorted xs = is_sorted-where key total same p xs

  more_sorted : is_sorted R (by_key key (with_item key R item es)) ≡ true
  more_sorted = is_sorted-with_item key total same item es rise

  pub chosen-with_item : p (key item) ≡ true → chosen (with_item key R item es) ≡ with_item key R item (chosen es)
  chosen-with_item kept =
      same_items key total same _ _ (chosen_sorted _ more_sorted) (is_sorted-with_item key total same item (chosen es) (chosen_sorted es rise)) (λ k.
      item_of-where key total same p (with_item key R item es) k ∙ (ap (λ o. cond (p k) o None) (item_of-with_item key total same item es k) ∙ (cases k (eq_by_cmp R k (key item)) refl
      ∙ (ap (cond (eq_by_cmp R k (key item)) (Some item)) (sym (item_of-where key total same p es k)) ∙ sym (item_of-with_item key total same item (chosen es) k)))))
    where
      cases : (k : K) (tie : Bool) → eq_by_cmp R k (key item) ≡ tie → cond (p k) (cond tie (Some item) (item_of key R es k)) None ≡ cond tie (Some item) (cond (p k) (item_of key R es k) None)
      cases k true tie = ap (λ b. cond b (Some item) None) (ap p (tied same k (key item) tie) ∙ kept)
      cases k false tie = refl

  pub chosen-with_item_other : p (key item) ≡ false → chosen (with_item key R item es) ≡ chosen es
  chosen-with_item_other dropped =
      same_items key total same _ _ (chosen_sorted _ more_sorted) (chosen_sorted es rise) (λ k.
      item_of-where key total same p (with_item key R item es) k ∙ (ap (λ o. cond (p k) o None) (item_of-with_item key total same item es k) ∙ (cases k (eq_by_cmp R k (key item)) refl
      ∙ sym (item_of-where key total same p es k))))
    where
      cases : (k : K) (tie : Bool) → eq_by_cmp R k (key item) ≡ tie → cond (p k) (cond tie (Some item) (item_of key R es k)) None ≡ cond (p k) (item_of key R es k) None
      cases k true tie = let no = ap p (tied same k (key item) tie) ∙ dropped in ap (λ b. cond b (Some item) None) no ∙ sym (ap (λ b. cond b (item_of key R es k) None) no)
      cases k false tie = refl
