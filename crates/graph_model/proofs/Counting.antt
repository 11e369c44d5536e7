-- Sums over the keys of two maps: those of the one that are keys of the other too, and those that are new.
use Rattle.std.proofs.Common.{◌≡◌, ℕ, ◌+◌, ◌≤◌, Bool, true, false, cond, not, List, [], ◌∷◌, is_some, inl, inr, ◌⊎◌, refl, sym, ap, subst, ◌∙◌, arith}
use Rattle.std.specs.List.{sum_by, count_by, list_any, AllByRecursion}
use Rattle.std.specs.Ordering.{is_eq, eq_by_cmp, ordering_reverse}
use Rattle.std.specs.declared.cmp.Ordering.{Ordering}
use Rattle.std.specs.declared.cmp.Ordering.TheVariants.{Less, Equal, Greater}
use Rattle.std.specs.Cmp.{IsTotalOrder}
use Rattle.std.specs.FinMap.{IsAntisymmetric}
use Rattle.std.specs.FinMap.Entries.{find, is_some-find}
use Rattle.std.proofs.lemmas.Bool.{or_cases}
use Rattle.std.proofs.lemmas.List.Sums.{sum_by-cons}
use Rattle.graph_model.specs.Maps.{Map, IsMap, keys}
use Rattle.graph_model.proofs.Entries.{never}
use Rattle.graph_model.proofs.Sums.{sum_by-same, sum_by-plus, sum_by-none, count_by-map}
use Rattle.graph_model.proofs.MapSums.{count-key-le}

pub sum_by-le-each : {X : Type 0} (f g : X → ℕ) (xs : List X) → AllByRecursion (λ x. f x ≤ g x) xs → sum_by f xs ≤ sum_by g xs
sum_by-le-each f g [] all = omega arith
sum_by-le-each f g (x ∷ xs) all = omega (arith, sum_by-cons f x xs, sum_by-cons g x xs, all.0, sum_by-le-each f g xs all.1)

pub All-each : {X : Type 0} {P : X → Type 0} → ((x : X) → P x) → (xs : List X) → AllByRecursion P xs
All-each f [] = tt
All-each f (x ∷ xs) = (f x, All-each f xs)

sum_by-swap : {X Y : Type 0} (f : X → Y → ℕ) (xs : List X) (ys : List Y) → sum_by (λ x. sum_by (f x) ys) xs ≡ sum_by (λ y. sum_by (λ x. f x y) xs) ys
sum_by-swap f [] ys = sym (sum_by-none (λ _. 0) (λ _. refl) ys)
sum_by-swap f (x ∷ xs) ys =
    sum_by-cons (λ z. sum_by (f z) ys) x xs
    ∙ ap (λ n. sum_by (f x) ys + n) (sum_by-swap f xs ys)
    ∙ sym (sum_by-plus (f x) (λ y. sum_by (λ z. f z y) xs) ys)
    ∙ sum_by-same (λ y. f x y + sum_by (λ z. f z y) xs) (λ y. sum_by (λ z. f z y) (x ∷ xs)) (λ y. sym (sum_by-cons (λ z. f z y) x xs)) ys

-- a number counted where a test passes, which it does once at most
abbrev pub if_so : Bool → ℕ → ℕ
if_so test n = cond test n 0

never_passes : {X : Type 0} (p : X → Bool) (n : ℕ) (xs : List X) → count_by p xs ≡ 0 → sum_by (λ x. if_so (p x) n) xs ≡ 0
never_passes p n [] none = refl
never_passes p n (x ∷ xs) none =
    let split = sum_by-cons (λ z. if_so (p z) 1) x xs in
    elim (p x) as (λ b. p x ≡ b → sum_by (λ z. if_so (p z) n) (x ∷ xs) ≡ 0) [
      | true ↦ λ is. let one : if_so (p x) 1 ≡ 1 = ap (λ b. if_so b 1) is in absurd (omega (arith, split, one, none))
      | false ↦ λ is.
          let this : if_so (p x) n ≡ 0 = ap (λ b. if_so b n) is in
          omega (arith, sum_by-cons (λ z. if_so (p z) n) x xs, this, never_passes p n xs (omega (arith, split, none)))
    ] refl

once_at_most : {X : Type 0} (p : X → Bool) (n : ℕ) (xs : List X) → count_by p xs ≤ 1 → sum_by (λ x. if_so (p x) n) xs ≤ n
once_at_most p n [] once = omega arith
once_at_most p n (x ∷ xs) once =
    let split = sum_by-cons (λ z. if_so (p z) 1) x xs in
    let sum = sum_by-cons (λ z. if_so (p z) n) x xs in
    elim (p x) as (λ b. p x ≡ b → sum_by (λ z. if_so (p z) n) (x ∷ xs) ≤ n) [
      | true ↦ λ is.
          let one : if_so (p x) 1 ≡ 1 = ap (λ b. if_so b 1) is in
          let this : if_so (p x) n ≡ n = ap (λ b. if_so b n) is in
          omega (arith, sum, this, never_passes p n xs (omega (arith, split, one, once)))
      | false ↦ λ is.
          let none : if_so (p x) 1 ≡ 0 = ap (λ b. if_so b 1) is in
          let this : if_so (p x) n ≡ 0 = ap (λ b. if_so b n) is in
          omega (arith, sum, this, once_at_most p n xs (omega (arith, split, none, once)))
    ] refl

-- what a test of a list finds
pub count_cases : {X : Type 0} {P : X → Type 0} (p : X → Bool) (xs : List X) → AllByRecursion P xs → (count_by p xs ≡ 0) ⊎ ((x : X) × (p x ≡ true) × P x)
count_cases p [] all = inl refl
count_cases {X} {P} p (x ∷ xs) all =
    let split = sum_by-cons (λ z. if_so (p z) 1) x xs in
    elim (p x) as (λ b. p x ≡ b → (count_by p (x ∷ xs) ≡ 0) ⊎ ((z : X) × (p z ≡ true) × P z)) [
      | true ↦ λ is. inr (x, is, all.0)
      | false ↦ λ is.
          let none : if_so (p x) 1 ≡ 0 = ap (λ b. if_so b 1) is in
          elim (count_cases p xs all.1) [ inl later ↦ inl (omega (arith, split, none, later)) | inr one ↦ inr one ]
    ] refl

pub count_by-le-each : {X : Type 0} (p q : X → Bool) (xs : List X) → AllByRecursion (λ x. p x ≡ true → q x ≡ true) xs → count_by p xs ≤ count_by q xs
count_by-le-each p q [] all = omega arith
count_by-le-each p q (x ∷ xs) all =
    let one = sum_by-cons (λ z. if_so (p z) 1) x xs in
    let other = sum_by-cons (λ z. if_so (q z) 1) x xs in
    let rest = count_by-le-each p q xs all.1 in
    elim (p x) as (λ b. p x ≡ b → count_by p (x ∷ xs) ≤ count_by q (x ∷ xs)) [
      | true ↦ λ is.
          let this : if_so (p x) 1 ≡ 1 = ap (λ b. if_so b 1) is in
          let that : if_so (q x) 1 ≡ 1 = ap (λ b. if_so b 1) (all.0 is) in
          omega (arith, one, other, this, that, rest)
      | false ↦ λ is.
          let this : if_so (p x) 1 ≡ 0 = ap (λ b. if_so b 1) is in
          omega (arith, one, other, this, rest)
    ] refl

module _ {K : Type 0} (R : K → K → Ordering) (total : IsTotalOrder R) (ties : IsAntisymmetric R) where
  eq_turned : (a b : K) → eq_by_cmp R a b ≡ eq_by_cmp R b a
  eq_turned a b =
      ap is_eq (total.antisymm a b)
      ∙ elim (R b a) as (λ r. is_eq (ordering_reverse r) ≡ is_eq r) [ Less ↦ refl | Equal ↦ refl | Greater ↦ refl ]

  tie_of : (a b : K) → eq_by_cmp R a b ≡ true → a ≡ b
  tie_of a b is =
      elim (R a b) as (λ r. R a b ≡ r → is_eq r ≡ true → a ≡ b) [
        | Less ↦ λ _ no. never no
        | Equal ↦ λ tied _. ties a b tied
        | Greater ↦ λ _ no. never no
      ] refl is

  picked : (w : K → ℕ) (a : K) (bs : List K) → list_any (eq_by_cmp R a) bs ≡ true → w a ≤ sum_by (λ b. if_so (eq_by_cmp R a b) (w b)) bs
  picked w a [] some = never some
  picked w a (b ∷ bs) some =
      let split = sum_by-cons (λ z. if_so (eq_by_cmp R a z) (w z)) b bs in
      elim (or_cases (eq_by_cmp R a b) (list_any (eq_by_cmp R a) bs) some) [
        | inl here ↦
            let this : if_so (eq_by_cmp R a b) (w b) ≡ w a = ap (λ t. if_so t (w b)) here ∙ ap w (sym (tie_of a b here)) in
            omega (arith, split, this)
        | inr later ↦ omega (arith, split, picked w a bs later)
      ]

  module _ {V : Type 0} where
    pub key_once : (b : K) (es : Map K V) → IsMap R es → count_by (λ a. eq_by_cmp R b a) (keys es) ≤ 1
    key_once b es sorted = subst (λ n. n ≤ 1) (sym (count_by-map (λ a. eq_by_cmp R b a) (λ e. e.0) es)) (count-key-le R total b es sorted)

    key_once_turned : (b : K) (es : Map K V) → IsMap R es → count_by (λ a. eq_by_cmp R a b) (keys es) ≤ 1
    key_once_turned b es sorted =
        subst (λ n. n ≤ 1) (sum_by-same (λ a. if_so (eq_by_cmp R b a) 1) (λ a. if_so (eq_by_cmp R a b) 1) (λ a. ap (λ t. if_so t 1) (eq_turned b a)) (keys es)) (key_once b es sorted)

    -- keys that were there before weigh what they did, and a new one weighs 1
    pub keys_weigh : (w : K → ℕ) (there : K → Bool) (old new : Map K V) → IsMap R new → AllByRecursion (λ k. there k ≡ true → is_some (find R k old) ≡ true) (keys new)
        → sum_by (λ k. cond (there k) (w k) 1) (keys new) ≤ sum_by w (keys old) + count_by (λ k. not (there k)) (keys new)
    keys_weigh w there old new sorted known =
        let over = λ (k : K). sum_by (λ b. if_so (eq_by_cmp R k b) (w b)) (keys old) in
        let each = sum_by-le-each (λ k. cond (there k) (w k) 1) (λ k. over k + if_so (not (there k)) 1) (keys new) (each_weighs (keys new) known) in
        let parts = sum_by-plus over (λ k. if_so (not (there k)) 1) (keys new) in
        let swapped = sum_by-swap (λ k b. if_so (eq_by_cmp R k b) (w b)) (keys new) (keys old) in
        let columns = sum_by-le-each (λ b. sum_by (λ k. if_so (eq_by_cmp R k b) (w b)) (keys new)) w (keys old)
        (All-each (λ b. once_at_most (λ k. eq_by_cmp R k b) (w b) (keys new) (key_once_turned b new sorted)) (keys old)) in
        omega (arith, each, parts, swapped, columns)
      where
        each_weighs : (ks : List K) → AllByRecursion (λ k. there k ≡ true → is_some (find R k old) ≡ true) ks
            → AllByRecursion (λ k. cond (there k) (w k) 1 ≤ sum_by (λ b. if_so (eq_by_cmp R k b) (w b)) (keys old) + if_so (not (there k)) 1) ks
        each_weighs [] all = tt
        each_weighs (k ∷ ks) all = (
          elim (there k) as (λ b. (b ≡ true → is_some (find R k old) ≡ true) → cond b (w k) 1 ≤ sum_by (λ c. if_so (eq_by_cmp R k c) (w c)) (keys old) + if_so (not b) 1) [
            | true ↦ λ found. omega (arith, picked w k (keys old) (sym (is_some-find R k old) ∙ found refl))
            | false ↦ λ _. omega arith
          ] all.0,
          each_weighs ks all.1,
        )
