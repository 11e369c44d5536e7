-- A count over the blocks of a rank that is 0 but at some of them is a sum over these.
use Rattle.std.proofs.Common.{◌≡◌, ◌≢◌, ◌∙◌, ℕ, zero, suc, ◌+◌, ◌<◌, Bool, true, false, cond, List, [], ◌∷◌, refl, ap, arith}
use Rattle.std.specs.Prelude.{sum_by, ◌==◌}
use Rattle.std.specs.List.{AllByRecursion}
use Rattle.std.proofs.lemmas.Bool.Decides.{nat_tests}
use Rattle.std.proofs.lemmas.List.Sums.{sum_by-cons}
use Rattle.object_words.specs.Blocks.{total_below}
use Rattle.object_view.proofs.View.{AreDistinct}

-- the count with one block left out
abbrev but : ℕ → (ℕ → ℕ) → ℕ → ℕ
but b f k = cond (k == b) 0 (f k)

but_other : (b k : ℕ) (f : ℕ → ℕ) → (k ≡ b → ⊥) → but b f k ≡ f k
but_other b k f apart = let off : (k == b) ≡ false = grind (arith, nat_tests, apart) in ap (λ t. cond t 0 (f k)) off

but_here : (b : ℕ) (f : ℕ → ℕ) → but b f b ≡ 0
but_here b f = let on : (b == b) ≡ true = grind (arith, nat_tests) in ap (λ t. cond t 0 (f b)) on

total_above : (n b : ℕ) (f : ℕ → ℕ) → (b < n → ⊥) → total_below n (but b f) ≡ total_below n f
unfolding total_below
total_above zero b f above = refl
total_above (suc n) b f above =
    let rest = total_above n b f (λ less. above (omega (arith, less))) in
    let last = but_other b n f (λ is. above (omega (arith, is))) in
    omega (arith, rest, last)

total_but : (n b : ℕ) (f : ℕ → ℕ) → b < n → total_below n f ≡ f b + total_below n (but b f)
unfolding total_below
total_but zero b f within = absurd (omega (arith, within))
total_but (suc n) b f within = cases (λ less. total_but n b f less) (n == b) refl
  where
    cases : (b < n → total_below n f ≡ f b + total_below n (but b f)) → (t : Bool) → (n == b) ≡ t → total_below n f + f n ≡ f b + (total_below n (but b f) + but b f n)
    cases before true is =
        let same : n ≡ b = grind (arith, nat_tests, is) in
        let rest = total_above n b f (λ less. omega (arith, less, same)) in
        let last : but b f n ≡ 0 = ap (λ t. cond t 0 (f n)) is in
        let here = ap f same in
        omega (arith, rest, last, here)
    cases before false is =
        let apart : n ≡ b → ⊥ = λ same. grind (arith, nat_tests, is, same) in
        let rest = before (let less : b < n = grind (arith, nat_tests, is, within) in less) in
        let last = but_other b n f apart in
        omega (arith, rest, last)

total_none : (n : ℕ) (f : ℕ → ℕ) → ((k : ℕ) → f k ≡ 0) → total_below n f ≡ 0
unfolding total_below
total_none zero f is = refl
total_none (suc n) f is = let rest = total_none n f is in let last = is n in omega (arith, rest, last)

sum_but : (b : ℕ) (f : ℕ → ℕ) (bs : List ℕ) → AllByRecursion (λ other. other ≢ b) bs → sum_by (but b f) bs ≡ sum_by f bs
sum_but b f [] all = refl
sum_but b f (other ∷ bs) all =
    let rest = sum_but b f bs all.1 in
    let here = but_other b other f all.0 in
    let one = sum_by-cons (but b f) other bs in
    let two = sum_by-cons f other bs in
    omega (arith, rest, here, one, two)

-- a count that is 0 but at these blocks
pub total_at : (n : ℕ) (f : ℕ → ℕ) (bs : List ℕ) → AreDistinct bs → AllByRecursion (λ b. b < n) bs
    → ((k : ℕ) → AllByRecursion (λ b. b ≢ k) bs → f k ≡ 0) → total_below n f ≡ sum_by f bs
total_at n f [] distinct within nothing = total_none n f (λ k. nothing k tt)
total_at n f (b ∷ bs) distinct within nothing =
    let split = total_but n b f within.0 in
    let rest = total_at n (but b f) bs distinct.1 within.1 (λ k apart. outside k apart (k == b) refl) in
    let same = sum_but b f bs distinct.0 in
    let sum = sum_by-cons f b bs in
    omega (arith, split, rest, same, sum)
  where
    outside : (k : ℕ) → AllByRecursion (λ other. other ≢ k) bs → (t : Bool) → (k == b) ≡ t → but b f k ≡ 0
    outside k apart true is = ap (λ t. cond t 0 (f k)) is
    outside k apart false is = ap (λ t. cond t 0 (f k)) is ∙ nothing k ((λ same. grind (arith, nat_tests, is, same)), apart)
