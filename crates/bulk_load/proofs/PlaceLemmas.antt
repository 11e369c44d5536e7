-- Places of items in lists, and sets of numbers that grow.
use Rattle.std.proofs.Common.{◌≡◌, ℕ, zero, suc, Bool, true, false, ◌||◌, if◌then◌else◌, List, [], ◌∷◌, ◌++◌, length, Option, Some, None, is_some, refl, sym, ap, subst, ◌∙◌, inl, inr}
use Rattle.std.specs.Prelude.{◌==◌}
use Rattle.std.specs.Option.{option_map}
use Rattle.std.specs.Ordering.{nat_cmp}
use Rattle.std.specs.declared.cmp.Ordering.TheVariants.{Less, Equal, Greater}
use Rattle.std.specs.FinMap.Entries.{by_order}
use Rattle.std.specs.Str.{bytes_eq}
use Rattle.std.proofs.lemmas.Bool.{cases_Bool, eqb-true}
use Rattle.std.proofs.lemmas.Slice.Eq.{bytes_eq-Decides}
use Rattle.graph_model.specs.Maps.{has, add, place_where, item_at}
use Rattle.graph_model.proofs.Entries.{same_value, nothing, never}
use Rattle.bulk_load.specs.Records.{Fields}

there_map : (o : Option ℕ) → is_some (option_map suc o) ≡ is_some o
there_map None = refl
there_map (Some n) = refl

module _ {X : Type 0} (p : X → Bool) where
  -- whether an item is among items and one more
  pub place_pushed : (xs : List X) (y : X) → is_some (place_where p (xs ++ y ∷ [])) ≡ (is_some (place_where p xs) || p y)
  place_pushed [] y = elim (p y) as (λ b. is_some (if b then Some 0 else option_map suc None) ≡ b) [ true ↦ refl | false ↦ refl ]
  place_pushed (x ∷ xs) y =
      elim (p x) as (λ b. is_some (if b then Some 0 else option_map suc (place_where p (xs ++ y ∷ []))) ≡ (is_some (if b then Some 0 else option_map suc (place_where p xs)) || p y)) [
        | true ↦ refl
        | false ↦ there_map (place_where p (xs ++ y ∷ [])) ∙ place_pushed xs y ∙ ap (λ (b : Bool). b || p y) (sym (there_map (place_where p xs)))
      ]

  pub place_stays : (xs ys : List X) (n : ℕ) → place_where p xs ≡ Some n → place_where p (xs ++ ys) ≡ Some n
  place_stays [] ys n is = nothing n is
  place_stays (x ∷ xs) ys n is =
      elim (p x) as (λ b. (if b then Some 0 else option_map suc (place_where p xs)) ≡ Some n → (if b then Some 0 else option_map suc (place_where p (xs ++ ys))) ≡ Some n) [
        | true ↦ λ found. found
        | false ↦ elim (place_where p xs) as (λ o. place_where p xs ≡ o → option_map suc o ≡ Some n → option_map suc (place_where p (xs ++ ys)) ≡ Some n) [
          | None ↦ λ _ found. nothing n found
          | Some m ↦ λ later found. ap (option_map suc) (place_stays xs ys m later) ∙ found
        ] refl
      ] is

  pub place_last : (xs : List X) (y : X) → is_some (place_where p xs) ≡ false → p y ≡ true → place_where p (xs ++ y ∷ []) ≡ Some (length xs)
  place_last [] y none is = rw is refl
  place_last (x ∷ xs) y none is =
      elim (p x) as (λ b. is_some (if b then Some 0 else option_map suc (place_where p xs)) ≡ false → (if b then Some 0 else option_map suc (place_where p (xs ++ y ∷ []))) ≡ Some (suc (length xs))) [
        | true ↦ λ there. never (sym there)
        | false ↦ λ later. ap (option_map suc) (place_last xs y (sym (there_map (place_where p xs)) ∙ later) is)
      ] none

  -- the item at the place of the first that passes
  pub place_item : (xs : List X) (n : ℕ) → place_where p xs ≡ Some n → (x : X) × (item_at xs n ≡ Some x) × (p x ≡ true)
  place_item [] n is = nothing n is
  place_item (x ∷ xs) n is =
      elim (p x) as (λ b. p x ≡ b → (if b then Some 0 else option_map suc (place_where p xs)) ≡ Some n → (y : X) × (item_at (x ∷ xs) n ≡ Some y) × (p y ≡ true)) [
        | true ↦ λ passes found. subst (λ (k : ℕ). (y : X) × (item_at (x ∷ xs) k ≡ Some y) × (p y ≡ true)) (same_value 0 n found) (x, refl, passes)
        | false ↦ λ _. elim (place_where p xs) as (λ o. place_where p xs ≡ o → option_map suc o ≡ Some n → (y : X) × (item_at (x ∷ xs) n ≡ Some y) × (p y ≡ true)) [
          | None ↦ λ _ found. nothing n found
          | Some m ↦ λ later found. subst (λ (k : ℕ). (y : X) × (item_at (x ∷ xs) k ≡ Some y) × (p y ≡ true)) (same_value (suc m) n found) (place_item xs m later)
        ] refl
      ] refl is

pub item_stays : {X : Type 0} (xs ys : List X) (n : ℕ) (x : X) → item_at xs n ≡ Some x → item_at (xs ++ ys) n ≡ Some x
item_stays [] ys n x is = nothing x is
item_stays (y ∷ xs) ys zero x is = is
item_stays (y ∷ xs) ys (suc n) x is = item_stays xs ys n x is

pub item_last : {X : Type 0} (xs : List X) (y : X) → item_at (xs ++ y ∷ []) (length xs) ≡ Some y
item_last [] y = refl
item_last (x ∷ xs) y = item_last xs y

pub same_name : (name : List ℕ) → bytes_eq name name ≡ true
same_name name = (bytes_eq-Decides name name).1 refl

-- different names have different numbers
pub numbers_differ : (a b : List ℕ) (names : Fields) (n m : ℕ) → bytes_eq a b ≡ false → place_where (bytes_eq a) names ≡ Some n → place_where (bytes_eq b) names ≡ Some m → (n == m) ≡ false
numbers_differ a b names n m differ at_n at_m =
    elim (cases_Bool (n == m)) [
      | inl same ↦
          let one = place_item (bytes_eq a) names n at_n in
          let two = place_item (bytes_eq b) names m at_m in
          let item : one.0 ≡ two.0 = same_value one.0 two.0 (sym one.1 ∙ ap (item_at names) (eqb-true n m same) ∙ two.1) in
          let alike : a ≡ b = (bytes_eq-Decides a one.0).0 one.2 ∙ item ∙ sym ((bytes_eq-Decides b two.0).0 two.2) in
          never (sym differ ∙ (bytes_eq-Decides a b).1 alike)
      | inr other ↦ other
    ]

pub has_add : (n m : ℕ) (ls : List ℕ) → (n == m) ≡ false → has (add n ls) m ≡ has ls m
has_add n m [] other = rw other refl
has_add n m (l ∷ ls) other =
    elim (nat_cmp n l) as (λ o. has (by_order o (n ∷ l ∷ ls) (l ∷ ls) (l ∷ add n ls)) m ≡ has (l ∷ ls) m) [
      | Less ↦ ap (λ (b : Bool). b || has (l ∷ ls) m) other
      | Equal ↦ refl
      | Greater ↦ ap (λ (b : Bool). (l == m) || b) (has_add n m ls other)
    ]

pub or_true : (b : Bool) → (b || true) ≡ true
or_true true = refl
or_true false = refl

pub or_false : (b : Bool) → (b || false) ≡ b
or_false true = refl
or_false false = refl

pub is_there : {X : Type 0} (o : Option X) → is_some o ≡ true → (x : X) × (o ≡ Some x)
is_there None there = never there
is_there (Some x) there = (x, refl)
