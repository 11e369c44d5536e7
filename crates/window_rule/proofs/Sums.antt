-- Sums over all views, before and after one of them has changed.
use Rattle.std.proofs.Common.{◌≡◌, ◌≢◌, ℕ, zero, suc, ◌+◌, ◌<◌, ◌≤◌, List, [], ◌∷◌, map, set, refl, sym, ap, ◌∙◌, arith, inl, inr}
use Rattle.std.specs.List.{sum_by}
use Rattle.window_rule.specs.RoomHolds.{sum_below}
use Rattle.std.proofs.lemmas.List.Sums.{sum_by-cons}
use Rattle.std.proofs.lemmas.Bool.{cases_eq}
use mathlib.Core.Option.{some, some-injective, some-ne-none}
use lib.ListN.{get_elem?}
use lib.Seq.{map-set}
use Rattle.atomic_table.proofs.Lists.{at_map, set_again}

-- what is the same of a view before and after, is the same list over all views
pub map-set_same : {V A : Type 0} (part : V → A) (views : List V) (id : ℕ) (before after : V)
    → get_elem? views id ≡ some before → part after ≡ part before
    → map part (set views id after) ≡ map part views
map-set_same part views id before after there same =
    map-set part views id after
    ∙ (ap (set (map part views) id) same
    ∙ set_again (map part views) id (part before) (at_map part views id before there))

module _ {X : Type 0} (f : X → ℕ) where
  pub sum_by-set_at : (xs : List X) (i : ℕ) (x y : X) → get_elem? xs i ≡ some x
      → sum_by f (set xs i y) + f x ≡ sum_by f xs + f y
  sum_by-set_at [] i x y e = absurd (some-ne-none x (sym e))
  sum_by-set_at (z ∷ zs) zero x y e = let same : f z ≡ f x = ap f (some-injective z x e) in omega
      (arith, sum_by-cons f z zs, sum_by-cons f y zs)
  sum_by-set_at (z ∷ zs) (suc i) x y e =
      omega (arith, sum_by-set_at zs i x y e, sum_by-cons f z zs, sum_by-cons f z (set zs i y))

  pub one_in_sum : (xs : List X) (i : ℕ) (x : X) → get_elem? xs i ≡ some x → f x ≤ sum_by f xs
  one_in_sum [] i x e = absurd (some-ne-none x (sym e))
  one_in_sum (z ∷ zs) zero x e = let same : f z ≡ f x = ap f (some-injective z x e) in omega
      (arith, sum_by-cons f z zs)
  one_in_sum (z ∷ zs) (suc i) x e = omega (arith, one_in_sum zs i x e, sum_by-cons f z zs)

  pub two_in_sum : (xs : List X) (i j : ℕ) (x y : X) → j ≢ i → get_elem? xs i ≡ some x
      → get_elem? xs j ≡ some y → f x + f y ≤ sum_by f xs
  two_in_sum [] i j x y ne e d = absurd (some-ne-none x (sym e))
  two_in_sum (z ∷ zs) zero zero x y ne e d = absurd (ne refl)
  two_in_sum (z ∷ zs) zero (suc j) x y ne e d =
      let same : f z ≡ f x = ap f (some-injective z x e) in omega
      (arith, one_in_sum zs j y d, sum_by-cons f z zs)
  two_in_sum (z ∷ zs) (suc i) zero x y ne e d =
      let same : f z ≡ f y = ap f (some-injective z y d) in omega
      (arith, one_in_sum zs i x e, sum_by-cons f z zs)
  two_in_sum (z ∷ zs) (suc i) (suc j) x y ne e d =
      omega (arith, two_in_sum zs i j x y (λ same. ne (ap suc same)) e d, sum_by-cons f z zs)

  pub sum_of_none : (xs : List X) → ((j : ℕ) (y : X) → get_elem? xs j ≡ some y → f y ≡ 0)
      → sum_by f xs ≡ 0
  sum_of_none [] h = refl
  sum_of_none (z ∷ zs) h = omega
      (arith, h 0 z refl, sum_of_none zs (λ j. h (suc j)), sum_by-cons f z zs)

  -- the sum is that of one alone where all others count 0
  pub sum_of_one : (xs : List X) (i : ℕ) (x : X) → get_elem? xs i ≡ some x
      → ((j : ℕ) (y : X) → j ≢ i → get_elem? xs j ≡ some y → f y ≡ 0) → sum_by f xs ≡ f x
  sum_of_one [] i x e h = absurd (some-ne-none x (sym e))
  sum_of_one (z ∷ zs) zero x e h =
      let same : f z ≡ f x = ap f (some-injective z x e) in
      omega (arith, sum_of_none zs (λ j y. h (suc j) y (λ ne. omega arith)), sum_by-cons f z zs)
  sum_of_one (z ∷ zs) (suc i) x e h =
      omega (
        arith,
        h 0 z (λ ne. omega arith) refl,
        sum_of_one zs i x e (λ j y ne. h (suc j) y (λ same. ne (omega arith))),
        sum_by-cons f z zs,
      )

pub sum_by-mono : {X : Type 0} (f g : X → ℕ) (xs : List X)
    → ((j : ℕ) (y : X) → get_elem? xs j ≡ some y → f y ≤ g y) → sum_by f xs ≤ sum_by g xs
sum_by-mono f g [] h = omega arith
sum_by-mono f g (z ∷ zs) h = omega
    (arith, h 0 z refl, sum_by-mono f g zs (λ j. h (suc j)), sum_by-cons f z zs, sum_by-cons g z zs)

pub sum_by-of_map : {V X : Type 0} (part : V → X) (f : X → ℕ) (views : List V)
    → sum_by f (map part views) ≡ sum_by (λ v. f (part v)) views
sum_by-of_map part f [] = refl
sum_by-of_map part f (v ∷ vs) =
    omega (
      arith,
      sum_by-of_map part f vs,
      sum_by-cons f (part v) (map part vs),
      sum_by-cons (λ x. f (part x)) v vs,
    )

pub sum_below-zero : (n : ℕ) → sum_below n (λ _. 0) ≡ 0
sum_below-zero zero = refl
sum_below-zero (suc n) = omega (arith, sum_below-zero n)

pub sum_below-ones : (n : ℕ) (f : ℕ → ℕ) → ((k : ℕ) → k < n → f k ≡ 1) → sum_below n f ≡ n
sum_below-ones zero f h = refl
sum_below-ones (suc n) f h = omega
    (arith, sum_below-ones n f (λ k below. h k (omega arith)), h n (omega arith))

pub sum_below-add : (n : ℕ) (f g h : ℕ → ℕ) → ((k : ℕ) → h k ≡ f k + g k)
    → sum_below n h ≡ sum_below n f + sum_below n g
sum_below-add zero f g h e = refl
sum_below-add (suc n) f g h e = omega (arith, sum_below-add n f g h e, e n)

-- no term below has
pub sum_below-before : (n : ℕ) (f g : ℕ → ℕ) (i : ℕ) → ((k : ℕ) → k < n → g k ≡ f k) → n ≤ i
    → sum_below n g ≡ sum_below n f
sum_below-before zero f g i h below = refl
sum_below-before (suc n) f g i h below = omega
    (arith, sum_below-before n f g i (λ k less. h k (omega arith)) (omega arith), h n (omega arith))

-- one term has changed
pub sum_below-except : (n : ℕ) (f g : ℕ → ℕ) (i : ℕ) → ((k : ℕ) → k ≢ i → g k ≡ f k) → i < n
    → sum_below n g + f i ≡ sum_below n f + g i
sum_below-except zero f g i h below = absurd (omega arith)
sum_below-except (suc n) f g i h below =
    elim (cases_eq i n) [
      | inl e ↦ let same = sum_below-before n f g i (λ k less. h k (λ s. omega arith)) in
          let a : f i ≡ f n = ap f e in let b : g i ≡ g n = ap g e in omega
          (arith, same (omega arith))
      | inr ne ↦ omega (arith, sum_below-except n f g i h (omega arith), h n (λ e. ne (sym e)))
    ]
