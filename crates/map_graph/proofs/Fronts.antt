-- The front of a list, and what a sum over it leaves out.
use Rattle.std.proofs.Common.{◌≡◌, ℕ, zero, suc, ◌+◌, ◌<◌, ◌≤◌, length, take, List, [], ◌∷◌, ◌++◌, refl, ap, sym, ◌∙◌, arith}
use Rattle.std.specs.List.{sum_by}
use Rattle.std.proofs.lemmas.List.{length-append}
use Rattle.std.proofs.lemmas.List.Sums.{sum_by-cons, sum_by-append}

module _ {A : Type 0} where
  take-front : (n : ℕ) (xs ys : List A) → n ≤ length xs → take n (xs ++ ys) ≡ take n xs
  take-front zero xs ys few = refl
  take-front (suc n) [] ys few = absurd (omega arith)
  take-front (suc n) (x ∷ xs) ys few = ap (λ rest. x ∷ rest) (take-front n xs ys (omega arith))

  pub take-all : (n : ℕ) (xs : List A) → length xs ≤ n → take n xs ≡ xs
  take-all zero [] few = refl
  take-all (suc n) [] few = refl
  take-all zero (x ∷ xs) few = absurd (omega arith)
  take-all (suc n) (x ∷ xs) few = ap (λ rest. x ∷ rest) (take-all n xs (omega arith))

  -- without its last item
  pub one_fewer : (n : ℕ) (old new : List A) (x : A) → old ≡ new ++ x ∷ [] → n < length old → take n new ≡ take n old
  one_fewer n old new x is more =
      let lengths = length-append new (x ∷ []) in
      sym (ap (take n) is ∙ take-front n new (x ∷ []) (omega (arith, lengths, ap length is)))

  pub sum_fewer : (f : A → ℕ) (old new : List A) (x : A) → old ≡ new ++ x ∷ [] → sum_by f old ≡ sum_by f new + f x
  sum_fewer f old new x is = omega (arith, ap (sum_by f) is, sum_by-append f new (x ∷ []), sum_by-cons f x [])

  pub shorter : (old new : List A) (x : A) → old ≡ new ++ x ∷ [] → length new < length old
  shorter old new x is = omega (arith, ap length is, length-append new (x ∷ []))
