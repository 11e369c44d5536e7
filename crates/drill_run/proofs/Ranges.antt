-- Numbers from one on, and the same numbers gone round in sections.
use Rattle.std.proofs.Common.{◌≡◌, ℕ, zero, suc, ◌+◌, ◌<◌, ◌≤◌, ◌%◌, Bool, true, false, cond, ◌||◌, List, [], ◌∷◌, ◌++◌, length, sum_by, refl, sym, ap, ◌∙◌, arith, eqb, if◌then◌else◌}
use Rattle.std.specs.Prelude.{◌==◌, nat_lt}
use Rattle.std.specs.List.{AllByRecursion, flat_map, filter, list_any, range_with_len}
use Rattle.std.proofs.lemmas.Bool.{eqb-true, eqb-false, ne_eqb, lt-ltb}
use Rattle.std.proofs.lemmas.List.Sums.{sum_by-cons}
use Rattle.std.proofs.lemmas.Nat.{mod_below}
use Rattle.graph_model.specs.Maps.{has}
use Rattle.graph_model.proofs.Sums.{sum_by-flat_map, sum_by-none, sum_by-plus, sum_by-same}

pub range-more : (a m : ℕ) → range_with_len a m ++ (a + m) ∷ [] ≡ range_with_len a (suc m)
range-more a zero = let e : a + 0 ≡ a = omega arith in ap (λ k. k ∷ []) e
range-more a (suc m) = let e : a + suc m ≡ (a + 1) + m = omega arith in ap (λ k. a ∷ range_with_len (a + 1) m ++ k ∷ []) e ∙ ap (λ ks. a ∷ ks) (range-more (a + 1) m)

pub range-below : (a m b : ℕ) → a + m ≤ b → AllByRecursion (λ k. k < b) (range_with_len a m)
range-below a zero b few = tt
range-below a (suc m) b few = (omega (arith, few), range-below (a + 1) m b (omega (arith, few)))

pub has-range : (a m j : ℕ) → a ≤ j → j < a + m → has (range_with_len a m) j ≡ true
has-range a zero j low high = absurd (omega (arith, low, high))
has-range a (suc m) j low high =
    elim (eqb a j) as (λ b. eqb a j ≡ b → (b || has (range_with_len (a + 1) m) j) ≡ true) [
      | true ↦ λ _. refl
      | false ↦ λ other. let apart = eqb-false a j other in has-range (a + 1) m j (omega (arith, low, apart)) (omega (arith, high))
    ] refl

-- ---- lists with the same sums have the same members

abbrev pub if_so : Bool → ℕ → ℕ
if_so b n = if b then n else 0

pub sum-filter : {X : Type 0} (f : X → ℕ) (p : X → Bool) (xs : List X) → sum_by f (filter p xs) ≡ sum_by (λ x. if_so (p x) (f x)) xs
sum-filter f p [] = refl
sum-filter f p (x ∷ xs) =
    let whole = sum_by-cons (λ y. if_so (p y) (f y)) x xs in
    let rest = sum-filter f p xs in
    elim (p x) as (λ b. p x ≡ b → sum_by f (cond b (x ∷ filter p xs) (filter p xs)) ≡ sum_by (λ y. if_so (p y) (f y)) (x ∷ xs)) [
      | true ↦ λ is. let here = ap (λ b. if_so b (f x)) is in omega (arith, sum_by-cons f x (filter p xs), whole, here, rest)
      | false ↦ λ is. let here = ap (λ b. if_so b (f x)) is in omega (arith, whole, here, rest)
    ] refl

any-count : {X : Type 0} (p : X → Bool) (xs : List X) → list_any p xs ≡ nat_lt 0 (sum_by (λ x. if_so (p x) 1) xs)
any-count p [] = refl
any-count p (x ∷ xs) =
    let whole = sum_by-cons (λ y. if_so (p y) 1) x xs in
    elim (p x) as (λ b. p x ≡ b → (b || list_any p xs) ≡ nat_lt 0 (sum_by (λ y. if_so (p y) 1) (x ∷ xs))) [
      | true ↦ λ is. let here = ap (λ b. if_so b 1) is in sym (lt-ltb 0 _ (omega (arith, whole, here)))
      | false ↦ λ is.
          let here = ap (λ b. if_so b 1) is in
          let same : sum_by (λ y. if_so (p y) 1) (x ∷ xs) ≡ sum_by (λ y. if_so (p y) 1) xs = omega (arith, whole, here) in
          any-count p xs ∙ ap (nat_lt 0) (sym same)
    ] refl

pub same-members : {X : Type 0} (xs ys : List X) → ((f : X → ℕ) → sum_by f xs ≡ sum_by f ys) → (p : X → Bool) → list_any p xs ≡ list_any p ys
same-members xs ys same p = any-count p xs ∙ ap (nat_lt 0) (same (λ x. if_so (p x) 1)) ∙ sym (any-count p ys)

ones : {X : Type 0} (xs : List X) → sum_by (λ x. 1) xs ≡ length xs
ones [] = refl
ones (x ∷ xs) = omega (arith, sum_by-cons (λ y. 1) x xs, ones xs)

pub same-length : {X : Type 0} (xs ys : List X) → ((f : X → ℕ) → sum_by f xs ≡ sum_by f ys) → length xs ≡ length ys
same-length xs ys same = sym (ones xs) ∙ same (λ x. 1) ∙ ones ys

-- ---- the same numbers in sections

abbrev pub in_section : List ℕ → ℕ → List ℕ
in_section xs s = filter (λ i. i % 8 == s) xs

-- a number stands in one section
weight : (r v a m : ℕ) → ℕ
weight r v a m = sum_by (λ s. if_so (r == s) v) (range_with_len a m)

in_none : (r v a m : ℕ) → r < a → weight r v a m ≡ 0
unfolding weight
in_none r v a zero low = refl
in_none r v a (suc m) low =
    let apart = ap (λ b. if_so b v) (ne_eqb r a (λ e. omega (arith, e, low))) in
    omega (arith, sum_by-cons (λ s. if_so (r == s) v) a (range_with_len (a + 1) m), apart, in_none r v (a + 1) m (omega (arith, low)))

in_one : (r v a m : ℕ) → a ≤ r → r < a + m → weight r v a m ≡ v
unfolding weight
in_one r v a zero low high = absurd (omega (arith, low, high))
in_one r v a (suc m) low high =
    let whole = sum_by-cons (λ s. if_so (r == s) v) a (range_with_len (a + 1) m) in
    elim (eqb r a) as (λ b. eqb r a ≡ b → sum_by (λ s. if_so (r == s) v) (range_with_len a (suc m)) ≡ v) [
      | true ↦ λ is. let here = ap (λ b. if_so b v) is in let same = eqb-true r a is in omega (arith, whole, here, in_none r v (a + 1) m (omega (arith, same)))
      | false ↦ λ is. let here = ap (λ b. if_so b v) is in let apart = eqb-false r a is in omega (arith, whole, here, in_one r v (a + 1) m (omega (arith, low, apart)) (omega (arith, high)))
    ] refl

abbrev pub eight : List ℕ
eight = range_with_len 0 8

-- the numbers of all eight sections
abbrev pub gone_round : List ℕ → List ℕ
gone_round xs = flat_map (in_section xs) eight

one_section : (f : ℕ → ℕ) (x : ℕ) (xs : List ℕ) (s : ℕ) → sum_by f (in_section (x ∷ xs) s) ≡ if_so (x % 8 == s) (f x) + sum_by f (in_section xs s)
one_section f x xs s =
    elim (x % 8 == s) as (λ b. sum_by f (cond b (x ∷ in_section xs s) (in_section xs s)) ≡ if_so b (f x) + sum_by f (in_section xs s)) [
      | true ↦ sum_by-cons f x (in_section xs s)
      | false ↦ omega arith
    ]

by_sections : (f : ℕ → ℕ) (xs : List ℕ) → sum_by (λ s. sum_by f (in_section xs s)) eight ≡ sum_by f xs
unfolding weight
by_sections f [] = sum_by-none (λ s. sum_by f (in_section [] s)) (λ s. refl) eight
by_sections f (x ∷ xs) =
    let split = sum_by-same (λ s. sum_by f (in_section (x ∷ xs) s)) (λ s. if_so (x % 8 == s) (f x) + sum_by f (in_section xs s)) (one_section f x xs) eight in
    let apart = sum_by-plus (λ s. if_so (x % 8 == s) (f x)) (λ s. sum_by f (in_section xs s)) eight in
    let below = mod_below x 8 (omega arith) in
    let once : sum_by (λ s. if_so (x % 8 == s) (f x)) eight ≡ f x = in_one (x % 8) (f x) 0 8 (omega arith) (omega (arith, below)) in
    omega (arith, split, apart, once, by_sections f xs, sum_by-cons f x xs)

pub same-sums : (xs : List ℕ) (f : ℕ → ℕ) → sum_by f (gone_round xs) ≡ sum_by f xs
same-sums xs f = sum_by-flat_map f (in_section xs) eight ∙ by_sections f xs

-- what is below a bound stays so
some-below : (p : ℕ → Bool) (b : ℕ) (xs : List ℕ) → AllByRecursion (λ k. k < b) xs → AllByRecursion (λ k. k < b) (filter p xs)
some-below p b [] all = tt
some-below p b (x ∷ xs) all = elim (p x) as (λ c. AllByRecursion (λ k. k < b) (cond c (x ∷ filter p xs) (filter p xs))) [ true ↦ (all.0, some-below p b xs all.1) | false ↦ some-below p b xs all.1 ]

both-below : (b : ℕ) (xs ys : List ℕ) → AllByRecursion (λ k. k < b) xs → AllByRecursion (λ k. k < b) ys → AllByRecursion (λ k. k < b) (xs ++ ys)
both-below b [] ys all more = more
both-below b (x ∷ xs) ys all more = (all.0, both-below b xs ys all.1 more)

sections-below : (b : ℕ) (xs ss : List ℕ) → AllByRecursion (λ k. k < b) xs → AllByRecursion (λ k. k < b) (flat_map (in_section xs) ss)
sections-below b xs [] all = tt
sections-below b xs (s ∷ ss) all = both-below b (in_section xs s) (flat_map (in_section xs) ss) (some-below (λ i. i % 8 == s) b xs all) (sections-below b xs ss all)

pub round-below : (xs : List ℕ) (b : ℕ) → AllByRecursion (λ k. k < b) xs → AllByRecursion (λ k. k < b) (gone_round xs)
round-below xs b all = sections-below b xs eight all
