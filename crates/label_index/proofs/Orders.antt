-- Numbers that don't fall along a list are fixed by how often each stands there.
use Rattle.std.proofs.Common.{◌≡◌, ℕ, suc, ◌<◌, ◌≤◌, Bool, true, false, cond, eqb, List, [], ◌∷◌, length, get_or, sum_by, refl, sym, ap, arith, eq-eqb}
use Rattle.std.specs.Prelude.{nat_lt}
use Rattle.std.specs.List.{AllByRecursion}
use Rattle.std.specs.List.Sorted.{IsNonDecreasingBy, IsSorted}
use Rattle.std.specs.Ordering.{nat_cmp}
use Rattle.std.proofs.lemmas.Bool.{ltb-false, ne_eqb}
use Rattle.std.proofs.lemmas.Bool.Decides.{nat_tests}
use Rattle.std.proofs.lemmas.List.Sorted.{IsNonDecreasingBy-from_sort}
use Rattle.std.proofs.lemmas.List.Sums.{sum_by-cons}
use Rattle.graph_model.proofs.Entries.{All-map}

-- each is at most all that follow
abbrev pub Rise : List ℕ → Type 0
Rise [] = Unit {0}
Rise (n ∷ ns) = AllByRecursion (λ m. n ≤ m) ns × Rise ns

all_from : (n : ℕ) (ns : List ℕ) → ((j d : ℕ) → j < length ns → n ≤ get_or ns j d) → AllByRecursion (λ m. n ≤ m) ns
all_from n [] above = tt
all_from n (m ∷ ms) above = (above 0 0 (omega arith), all_from n ms (λ j d within. above (suc j) d (omega arith)))

rise_from : (ns : List ℕ) → IsNonDecreasingBy (λ n. n) ns → Rise ns
rise_from [] never_falls = tt
rise_from (n ∷ ns) never_falls =
    (all_from n ns (λ j d within. never_falls 0 (suc j) d (omega arith) (omega arith)), rise_from ns (λ i j d le within. never_falls (suc i) (suc j) d (omega arith) (omega arith)))

pub rise_from_sort : (ns : List ℕ) → IsSorted nat_cmp ns → Rise ns
rise_from_sort ns sorted = rise_from ns (IsNonDecreasingBy-from_sort (λ (n : ℕ). n) ns sorted)

abbrev counts : ℕ → ℕ → ℕ
counts n m = cond (eqb m n) 1 0

none_counts : (n : ℕ) (ms : List ℕ) → AllByRecursion (λ m. n < m) ms → sum_by (counts n) ms ≡ 0
none_counts n [] above = refl
none_counts n (m ∷ ms) above =
    let other : counts n m ≡ 0 = ap (λ b. cond b 1 0) (ne_eqb m n (λ same. omega (arith, above.0))) in
    omega (arith, sum_by-cons (counts n) m ms, other, none_counts n ms above.1)

least : (m n : ℕ) (ms ns : List ℕ) → AllByRecursion (λ k. m ≤ k) ms → sum_by (counts n) (m ∷ ms) ≡ sum_by (counts n) (n ∷ ns) → m ≤ n
least m n ms ns rise same = cases (nat_lt n m) refl
  where
    below : nat_lt n m ≡ true → n < m
    below is = grind (arith, nat_tests)

    cases : (b : Bool) → nat_lt n m ≡ b → m ≤ n
    cases true is =
        let lt = below is in
        let none = none_counts n (m ∷ ms) (lt, All-map (λ k. m ≤ k) (λ k. n < k) (λ k le. further k lt le) ms rise) in
        let one : counts n n ≡ 1 = ap (λ b. cond b 1 0) (eq-eqb n n refl) in
        absurd (omega (arith, none, one, same, sum_by-cons (counts n) n ns))
      where
        further : (k : ℕ) → n < m → m ≤ k → n < k
        further k lt le = omega arith
    cases false is = ltb-false n m is

pub same_rise : (ms ns : List ℕ) → Rise ms → Rise ns → ((f : ℕ → ℕ) → sum_by f ms ≡ sum_by f ns) → ms ≡ ns
same_rise [] [] a b same = refl
same_rise [] (n ∷ ns) a b same = absurd (omega (arith, same (λ _. 1), sum_by-cons (λ (_ : ℕ). 1) n ns))
same_rise (m ∷ ms) [] a b same = absurd (omega (arith, same (λ _. 1), sum_by-cons (λ (_ : ℕ). 1) m ms))
same_rise (m ∷ ms) (n ∷ ns) a b same =
    let le = least m n ms ns a.0 (same (counts n)) in
    let ge = least n m ns ms b.0 (sym (same (counts m))) in
    let head : m ≡ n = omega (arith, le, ge) in
    let rest = same_rise ms ns a.1 b.1 (λ f. omega (arith, same f, ap f head, sum_by-cons f m ms, sum_by-cons f n ns)) in
    λ i. head i ∷ rest i
