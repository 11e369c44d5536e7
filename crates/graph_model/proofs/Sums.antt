-- Sums over lists.
use Rattle.std.proofs.Common.{◌≡◌, ℕ, ◌+◌, ◌*◌, Bool, cond, List, [], ◌∷◌, map, refl, ap, ◌∙◌, sym, arith}
use Rattle.std.specs.List.{sum_by, count_by, flat_map}
use Rattle.std.proofs.lemmas.List.Sums.{sum_by-cons, sum_by-append}

pub sum_by-map : {X Y : Type 0} (f : Y → ℕ) (g : X → Y) (xs : List X) → sum_by f (map g xs) ≡ sum_by (λ x. f (g x)) xs
sum_by-map f g [] = refl
sum_by-map f g (x ∷ xs) =
    sum_by-cons f (g x) (map g xs) ∙ ap (λ n. f (g x) + n) (sum_by-map f g xs) ∙ sym (sum_by-cons (λ z. f (g z)) x xs)

pub sum_by-same : {X : Type 0} (f g : X → ℕ) → ((x : X) → f x ≡ g x) → (xs : List X) → sum_by f xs ≡ sum_by g xs
sum_by-same f g each xs = λ i. sum_by (λ x. each x i) xs

pub sum_by-plus : {X : Type 0} (f g : X → ℕ) (xs : List X) → sum_by (λ x. f x + g x) xs ≡ sum_by f xs + sum_by g xs
sum_by-plus f g [] = refl
sum_by-plus f g (x ∷ xs) =
    omega (arith, sum_by-cons (λ z. f z + g z) x xs, sum_by-cons f x xs, sum_by-cons g x xs, sum_by-plus f g xs)

pub sum_by-twice : {X : Type 0} (f : X → ℕ) (xs : List X) → sum_by (λ x. 2 * f x) xs ≡ 2 * sum_by f xs
sum_by-twice f [] = refl
sum_by-twice f (x ∷ xs) = omega (arith, sum_by-cons (λ z. 2 * f z) x xs, sum_by-cons f x xs, sum_by-twice f xs)

pub sum_by-none : {X : Type 0} (f : X → ℕ) → ((x : X) → f x ≡ 0) → (xs : List X) → sum_by f xs ≡ 0
sum_by-none f none [] = refl
sum_by-none f none (x ∷ xs) = omega (arith, sum_by-cons f x xs, none x, sum_by-none f none xs)

pub sum_by-flat_map : {X Y : Type 0} (f : Y → ℕ) (h : X → List Y) (xs : List X) → sum_by f (flat_map h xs) ≡ sum_by (λ x. sum_by f (h x)) xs
sum_by-flat_map f h [] = refl
sum_by-flat_map f h (x ∷ xs) =
    sum_by-append f (h x) (flat_map h xs) ∙ ap (λ n. sum_by f (h x) + n) (sum_by-flat_map f h xs) ∙ sym (sum_by-cons (λ z. sum_by f (h z)) x xs)

-- how many pass
pub count_by-map : {X Y : Type 0} (p : Y → Bool) (g : X → Y) (xs : List X) → count_by p (map g xs) ≡ count_by (λ x. p (g x)) xs
count_by-map p g xs = sum_by-map (λ y. cond (p y) 1 0) g xs
