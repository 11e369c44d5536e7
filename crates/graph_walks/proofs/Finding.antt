-- Lists by place: what stands in them and where, and what rises.
use Rattle.std.proofs.Common.{◌≡◌, ℕ, zero, suc, ◌+◌, ◌-◌, ◌<◌, ◌≤◌, true, false, List, [], ◌∷◌, length, get_or, Some, inl, inr, refl, sym, ap, ◌∙◌, arith}
use Rattle.std.specs.Prelude.{◌==◌}
use Rattle.std.specs.List.{AllByRecursion, slice_get}
use Rattle.std.proofs.lemmas.Bool.{cases_eq, cases_lt, or_cases, or_left, or_right, eqb-true, eq-eqb, false_from_ne_true}
use Rattle.graph_model.specs.Maps.{IsSet, has}
use Rattle.graph_model.proofs.Entries.{same_value, nothing, never}
use Rattle.graph_walks.specs.Steps.{Rises}

pub has-place : (xs : List ℕ) (x : ℕ) → has xs x ≡ true → (k : ℕ) × (k < length xs) × (get_or xs k 0 ≡ x)
has-place [] x there = never there
has-place (y ∷ ys) x there =
    elim (or_cases (y == x) (has ys x) there) [
      | inl here ↦ (0, omega arith, eqb-true y x here)
      | inr later ↦ let rest = has-place ys x later in (suc rest.0, omega (arith, rest.1), rest.2)
    ]

pub place-has : (xs : List ℕ) (k x : ℕ) → k < length xs → get_or xs k 0 ≡ x → has xs x ≡ true
place-has [] k x below is = absurd (omega (arith, below))
place-has (y ∷ ys) zero x below is = or_left _ _ (eq-eqb y x is)
place-has (y ∷ ys) (suc k) x below is = or_right _ _ (place-has ys k x (omega (arith, below)) is)

pub absent : (xs : List ℕ) (x : ℕ) → ((k : ℕ) → k < length xs → get_or xs k 0 ≡ x → ⊥) → has xs x ≡ false
absent xs x not_there = false_from_ne_true (has xs x) (λ there. let k = has-place xs x there in not_there k.0 k.1 k.2)

pub got : (xs : List ℕ) (k x : ℕ) → slice_get xs k ≡ Some x → (k < length xs) × (get_or xs k 0 ≡ x)
got [] k x is = nothing x is
got (y ∷ ys) zero x is = (omega arith, same_value y x is)
got (y ∷ ys) (suc k) x is = let rest = got ys k x is in (omega (arith, rest.0), rest.1)

pub get-at : (xs : List ℕ) (k : ℕ) → k < length xs → slice_get xs k ≡ Some (get_or xs k 0)
get-at [] k below = absurd (omega (arith, below))
get-at (y ∷ ys) zero below = refl
get-at (y ∷ ys) (suc k) below = get-at ys k (omega (arith, below))

above : (x k : ℕ) (xs : List ℕ) → AllByRecursion (λ m. x < m) xs → k < length xs → x < get_or xs k 0
above x k [] all below = absurd (omega (arith, below))
above x zero (y ∷ ys) all below = all.0
above x (suc k) (y ∷ ys) all below = above x k ys all.1 (omega (arith, below))

pub set-rises : (xs : List ℕ) → IsSet xs → Rises xs
set-rises [] set i j less below = absurd (omega (arith, below))
set-rises (x ∷ xs) set zero zero less below = absurd (omega (arith, less))
set-rises (x ∷ xs) set zero (suc j) less below = above x j xs set.0 (omega (arith, below))
set-rises (x ∷ xs) set (suc i) zero less below = absurd (omega (arith, less))
set-rises (x ∷ xs) set (suc i) (suc j) less below = set-rises xs set.1 i j (omega (arith, less)) (omega (arith, below))

-- where halving ended, with what is below before it and what isn't behind
module _ (xs : List ℕ) (x low : ℕ) (before : (k : ℕ) → k < low → get_or xs k 0 < x) (rises : Rises xs) (behind : (k : ℕ) → low ≤ k → k < length xs → x ≤ get_or xs k 0) where
  pub all_below : length xs ≤ low → has xs x ≡ false
  all_below all = absent xs x (λ k below is. let less = before k (omega (arith, below, all)) in absurd (omega (arith, less, is)))

  pub passed_over : low < length xs → (get_or xs low 0 ≡ x → ⊥) → has xs x ≡ false
  passed_over within other =
      absent xs x (λ k below is.
      elim (cases_eq k low) [
        | inl same ↦ other (ap (λ n. get_or xs n 0) (sym same) ∙ is)
        | inr differs ↦
            elim (cases_lt k low) [
              | inr later ↦
                  let less = rises low k (omega (arith, later, differs)) below in
                  let least = behind low (omega arith) within in
                  absurd (omega (arith, less, least, is))
              | inl earlier ↦ let less = before k earlier in absurd (omega (arith, less, is))
            ]
      ])

-- rising numbers are as far apart as their places, or further
apart : (xs : List ℕ) → Rises xs → (i d : ℕ) → i + d < length xs → get_or xs i 0 + d ≤ get_or xs (i + d) 0
apart xs rises i zero below = let same : i + zero ≡ i = omega arith in omega (arith, ap (λ k. get_or xs k 0) same)
apart xs rises i (suc d) below =
    let next : (i + d) + 1 ≡ i + suc d = omega arith in
    let up = rises (i + d) (i + suc d) (omega arith) below in
    let before = apart xs rises i d (omega (arith, below)) in
    omega (arith, up, before)

pub consecutive : (xs : List ℕ) (last : ℕ) → Rises xs → length xs ≡ last + 1 → get_or xs last 0 - get_or xs 0 0 ≡ last → (k : ℕ) → k < length xs → get_or xs k 0 ≡ get_or xs 0 0 + k
consecutive xs last rises long span k below =
    let low = apart xs rises 0 k (omega (arith, below)) in
    let zero_k : 0 + k ≡ k = omega arith in
    let sum : k + (last - k) ≡ last = omega (arith, below, long) in
    let high = apart xs rises k (last - k) (omega (arith, below, long)) in
    let whole = apart xs rises 0 last (omega (arith, long)) in
    let zero_last : 0 + last ≡ last = omega arith in
    omega (arith, low, high, whole, span, below, long, ap (λ n. get_or xs n 0) zero_k, ap (λ n. get_or xs n 0) sum, ap (λ n. get_or xs n 0) zero_last)
