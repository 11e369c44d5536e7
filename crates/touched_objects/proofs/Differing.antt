-- Sums over two lists of which all but some items weigh the same.
use Rattle.std.proofs.Common.{◌≡◌, ℕ, zero, suc, ◌+◌, ◌≤◌, Bool, true, false, cond, not, ◌||◌, List, [], ◌∷◌, length, refl, sym, ap, ◌∙◌, arith}
use Rattle.std.specs.List.{sum_by, filter, list_any}
use Rattle.std.proofs.lemmas.Bool.{or_parts}
use Rattle.std.proofs.lemmas.List.Sums.{sum_by-cons}
use Rattle.graph_model.proofs.Sets.{length-filter-le}

-- a number where a test passes
abbrev pub if_so : Bool → ℕ → ℕ
if_so test n = cond test n 0

-- which items are the same
pub record IsSameness {X : Type 0} (same : X → X → Bool) : Type 0 where
  pub itself : (x : X) → same x x ≡ true
  pub turned : (x y : X) → same x y ≡ same y x
  pub on : (x y z : X) → same x y ≡ true → same x z ≡ same y z

module _ {X : Type 0} (same : X → X → Bool) (is : IsSameness same) where
  -- what those weigh that are the same as an item
  unfoldable pub weighed : (X → ℕ) → X → List X → ℕ
  weighed f t xs = sum_by (λ x. if_so (same t x) (f x)) xs

  abbrev others : X → List X → List X
  others t xs = filter (λ x. not (same t x)) xs

  split : (f : X → ℕ) (t : X) (xs : List X) → sum_by f xs ≡ weighed f t xs + sum_by f (others t xs)
  unfolding weighed
  split f t [] = refl
  split f t (x ∷ xs) =
      let later = split f t xs in
      elim (same t x) as (λ b. same t x ≡ b → sum_by f (x ∷ xs) ≡ sum_by (λ y. if_so (same t y) (f y)) (x ∷ xs) + sum_by f (cond (not b) (x ∷ others t xs) (others t xs))) [
        | true ↦ λ at. omega (arith, later, sum_by-cons f x xs, sum_by-cons (λ y. if_so (same t y) (f y)) x xs, ap (λ b. if_so b (f x)) at)
        | false ↦ λ at. omega (arith, later, sum_by-cons f x xs, sum_by-cons (λ y. if_so (same t y) (f y)) x xs, ap (λ b. if_so b (f x)) at, sum_by-cons f x (others t xs))
      ] refl

  weighed-others : (f : X → ℕ) (t u : X) (xs : List X) → weighed f u (others t xs) ≡ if_so (not (same t u)) (weighed f u xs)
  unfolding weighed
  weighed-others f t u [] = elim (same t u) as (λ b. 0 ≡ if_so (not b) 0) [ true ↦ refl | false ↦ refl ]
  weighed-others f t u (x ∷ xs) =
      let later = weighed-others f t u xs in
      let w : X → ℕ = λ y. if_so (same u y) (f y) in
      let whole = sum_by-cons w x xs in
      let left = sum_by-cons w x (others t xs) in
      elim (same t u) as (λ b. same t u ≡ b → sum_by w (others t xs) ≡ if_so (not b) (sum_by w xs) → sum_by w (others t (x ∷ xs)) ≡ if_so (not b) (sum_by w (x ∷ xs))) [
        | true ↦ λ one none. elim (same t x) as (λ c. same t x ≡ c → sum_by w (cond (not c) (x ∷ others t xs) (others t xs)) ≡ 0) [
          | true ↦ λ _. none
          | false ↦ λ apart. omega (arith, left, none, ap (λ c. if_so c (f x)) (sym (is.on t u x one) ∙ apart))
        ] refl
        | false ↦ λ one rest. elim (same t x) as (λ c. same t x ≡ c → sum_by w (cond (not c) (x ∷ others t xs) (others t xs)) ≡ sum_by w (x ∷ xs)) [
          | true ↦ λ at. omega (arith, whole, rest, ap (λ c. if_so c (f x)) (is.turned u x ∙ sym (is.on t x u at) ∙ one))
          | false ↦ λ _. omega (arith, whole, left, rest)
        ] refl
      ] refl later

  shorter : (t : X) (xs : List X) → length (others t (t ∷ xs)) ≤ length xs
  shorter t xs =
      let gone : length (others t (t ∷ xs)) ≡ length (others t xs) = ap (λ b. length (cond (not b) (t ∷ others t xs) (others t xs))) (is.itself t) in
      omega (arith, gone, length-filter-le (λ x. not (same t x)) xs)

  module _ (f h : X → ℕ) where
    abbrev Alike : List X → List X → Type 0
    Alike xs ys = (u : X) → weighed f u xs ≡ weighed h u ys

    alike-others : (t : X) (xs ys : List X) → Alike xs ys → Alike (others t xs) (others t ys)
    alike-others t xs ys alike u = weighed-others f t u xs ∙ ap (λ n. if_so (not (same t u)) n) (alike u) ∙ sym (weighed-others h t u ys)

    -- where every item weighs the same
    same_sums : (n : ℕ) (xs ys : List X) → length xs + length ys ≤ n → Alike xs ys → sum_by f xs ≡ sum_by h ys
    same_sums n [] [] few alike = refl
    same_sums zero (x ∷ xs) ys few alike = absurd (omega arith)
    same_sums zero [] (y ∷ ys) few alike = absurd (omega arith)
    same_sums (suc n) (x ∷ xs) ys few alike =
        let later = same_sums n (others x (x ∷ xs)) (others x ys) (omega (arith, shorter x xs, length-filter-le (λ y. not (same x y)) ys)) (alike-others x (x ∷ xs) ys alike) in
        omega (arith, split f x (x ∷ xs), split h x ys, alike x, later)
    same_sums (suc n) [] (y ∷ ys) few alike =
        let later = same_sums n (others y []) (others y (y ∷ ys)) (omega (arith, shorter y ys)) (alike-others y [] (y ∷ ys) alike) in
        omega (arith, split f y [], split h y (y ∷ ys), alike y, later)

    abbrev among : List X → X → Bool
    among ts u = list_any (λ t. same t u) ts

    abbrev pub Apart : List X → Type 0
    Apart [] = Unit {0}
    Apart (t ∷ ts) = (among ts t ≡ false) × Apart ts

    sums-others : (k : X → ℕ) (t : X) (ts xs : List X) → among ts t ≡ false → sum_by (λ u. weighed k u (others t xs)) ts ≡ sum_by (λ u. weighed k u xs) ts
    sums-others k t [] xs none = refl
    sums-others k t (u ∷ us) xs none =
        let parts = or_parts (same u t) (among us t) none in
        let one : weighed k u (others t xs) ≡ weighed k u xs = weighed-others k t u xs ∙ ap (λ b. if_so (not b) (weighed k u xs)) (is.turned t u ∙ parts.0) in
        omega (arith, one, sums-others k t us xs parts.1, sum_by-cons (λ v. weighed k v (others t xs)) u us, sum_by-cons (λ v. weighed k v xs) u us)

    -- where all but some do
    pub sums-differ : (ts xs ys : List X) → Apart ts → ((u : X) → among ts u ≡ false → weighed f u xs ≡ weighed h u ys)
        → sum_by f xs + sum_by (λ u. weighed h u ys) ts ≡ sum_by h ys + sum_by (λ u. weighed f u xs) ts
    sums-differ [] xs ys apart alike = omega (arith, same_sums (length xs + length ys) xs ys (omega arith) (λ u. alike u refl))
    sums-differ (t ∷ ts) xs ys apart alike =
        let left : (u : X) → among ts u ≡ false → weighed f u (others t xs) ≡ weighed h u (others t ys) = λ u none.
        weighed-others f t u xs
        ∙ elim (same t u) as (λ b. same t u ≡ b → if_so (not b) (weighed f u xs) ≡ if_so (not b) (weighed h u ys)) [
          | true ↦ λ _. refl
          | false ↦ λ other. alike u (ap (λ b. b || among ts u) other ∙ none)
        ] refl
        ∙ sym (weighed-others h t u ys) in
        let later = sums-differ ts (others t xs) (others t ys) apart.1 left in
        omega (arith, later, split f t xs, split h t ys, sums-others f t ts xs apart.0, sums-others h t ts ys apart.0, sum_by-cons (λ u. weighed f u xs) t ts, sum_by-cons (λ u. weighed h u ys) t ts)
