-- Sums over the entries of maps: what putting an entry in changes, and what taking some out does.
use Rattle.std.proofs.Common.{◌≡◌, ℕ, ◌+◌, ◌≤◌, Bool, true, false, cond, List, [], ◌∷◌, Some, None, refl, sym, ap, ◌∙◌, arith}
use Rattle.std.specs.List.{sum_by, count_by, filter}
use Rattle.std.specs.Ordering.{is_eq, is_lt, eq_by_cmp}
use Rattle.std.specs.declared.cmp.Ordering.{Ordering}
use Rattle.std.specs.declared.cmp.Ordering.TheVariants.{Less, Equal, Greater}
use Rattle.std.specs.Cmp.{IsTotalOrder}
use Rattle.std.specs.FinMap.{IsAntisymmetric}
use Rattle.std.specs.FinMap.Entries.{put, find, by_order, below_all, is_sorted}
use Rattle.std.proofs.lemmas.Bool.{and_parts, and_from}
use Rattle.std.proofs.lemmas.List.Sums.{sum_by-cons}
use Rattle.graph_model.specs.Maps.{Map, IsMap}
use Rattle.graph_model.proofs.Entries.{same_value, nothing, never, below-filter}

pub sum_by-filter-le : {X : Type 0} (f : X → ℕ) (p : X → Bool) (xs : List X) → sum_by f (filter p xs) ≤ sum_by f xs
sum_by-filter-le f p [] = omega arith
sum_by-filter-le f p (x ∷ xs) =
    elim (p x) as (λ b. sum_by f (cond b (x ∷ filter p xs) (filter p xs)) ≤ sum_by f (x ∷ xs)) [
      | true ↦ omega (arith, sum_by-cons f x (filter p xs), sum_by-cons f x xs, sum_by-filter-le f p xs)
      | false ↦ omega (arith, sum_by-cons f x xs, sum_by-filter-le f p xs)
    ]

-- how often a test passes
abbrev one_if : Bool → ℕ
one_if test = cond test 1 0

less_of : (order : Ordering) → is_lt order ≡ true → order ≡ Less
less_of Less is = refl
less_of Equal is = never is
less_of Greater is = never is

module _ {K X : Type 0} (R : K → K → Ordering) where
  module _ (same : IsAntisymmetric R) (f : K × X → ℕ) where
    pub sum_by-put-le : (k : K) (v : X) (es : Map K X) → sum_by f (put R k v es) ≤ sum_by f es + f (k, v)
    sum_by-put-le k v [] = omega (arith, sum_by-cons f (k, v) [])
    sum_by-put-le k v (e ∷ es) =
        elim (R k e.0) as (λ r. R k e.0 ≡ r → sum_by f (by_order r ((k, v) ∷ e ∷ es) ((e.0, v) ∷ es) (e ∷ put R k v es)) ≤ sum_by f (e ∷ es) + f (k, v)) [
          | Less ↦ λ _. omega (arith, sum_by-cons f (k, v) (e ∷ es))
          | Equal ↦ λ tied. omega (arith, sum_by-cons f (e.0, v) es, sum_by-cons f e es, ap (λ q. f (q, v)) (same k e.0 tied))
          | Greater ↦ λ _. omega (arith, sum_by-cons f e (put R k v es), sum_by-cons f e es, sum_by-put-le k v es)
        ] refl

  module _ (total : IsTotalOrder R) where
    below-lesser : (k m : K) (es : Map K X) → R k m ≡ Less → below_all R m es ≡ true → below_all R k es ≡ true
    below-lesser k m [] less below = refl
    below-lesser k m (e ∷ es) less below =
        let parts = and_parts (is_lt (R m e.0)) (below_all R m es) below in
        and_from _ _ (ap is_lt (total.trans k m e.0 less (less_of _ parts.0))) (below-lesser k m es less parts.1)

    below-tied : (k m : K) (es : Map K X) → R k m ≡ Equal → below_all R m es ≡ true → below_all R k es ≡ true
    below-tied k m [] tied below = refl
    below-tied k m (e ∷ es) tied below =
        let parts = and_parts (is_lt (R m e.0)) (below_all R m es) below in
        and_from _ _ (ap is_lt (total.congr k m e.0 tied) ∙ parts.0) (below-tied k m es tied parts.1)

    find-below : (k : K) (es : Map K X) → below_all R k es ≡ true → find R k es ≡ None
    find-below k [] below = refl
    find-below k (e ∷ es) below =
        let parts = and_parts (is_lt (R k e.0)) (below_all R k es) below in
        ap (λ r. cond (is_eq r) (Some e.1) (find R k es)) (less_of _ parts.0) ∙ find-below k es parts.1

    -- a value in the place of another
    pub sum_by-put-same : IsAntisymmetric R → (f : K × X → ℕ) (k : K) (u v : X) (es : Map K X) → IsMap R es → find R k es ≡ Some u
        → sum_by f (put R k v es) + f (k, u) ≡ sum_by f es + f (k, v)
    sum_by-put-same same f k u v [] sorted there = nothing u there
    sum_by-put-same same f k u v (e ∷ es) sorted there =
        let parts = and_parts (below_all R e.0 es) (is_sorted R es) sorted in
        elim (R k e.0) as (λ r. R k e.0 ≡ r → cond (is_eq r) (Some e.1) (find R k es) ≡ Some u
        → sum_by f (by_order r ((k, v) ∷ e ∷ es) ((e.0, v) ∷ es) (e ∷ put R k v es)) + f (k, u) ≡ sum_by f (e ∷ es) + f (k, v)) [
          | Less ↦ λ less found. nothing u (sym (find-below k es (below-lesser k e.0 es less parts.0)) ∙ found)
          | Equal ↦ λ tied found.
              let key = same k e.0 tied in
              let old : f (k, u) ≡ f e = ap (λ x. f (k, x)) (sym (same_value e.1 u found)) ∙ ap (λ q. f (q, e.1)) key in
              omega (arith, sum_by-cons f (e.0, v) es, sum_by-cons f e es, ap (λ q. f (q, v)) key, old)
          | Greater ↦ λ _ found. omega (arith, sum_by-cons f e (put R k v es), sum_by-cons f e es, sum_by-put-same same f k u v es parts.1 found)
        ] refl there

    -- what is found among those that pass is found among all
    pub find-filter : (p : K × X → Bool) (k : K) (x : X) (es : Map K X) → IsMap R es → find R k (filter p es) ≡ Some x → find R k es ≡ Some x
    find-filter p k x [] sorted there = there
    find-filter p k x (e ∷ es) sorted there =
        let parts = and_parts (below_all R e.0 es) (is_sorted R es) sorted in
        let rest = find-filter p k x es parts.1 in
        elim (R k e.0) as (λ r. R k e.0 ≡ r → find R k (filter p (e ∷ es)) ≡ Some x → cond (is_eq r) (Some e.1) (find R k es) ≡ Some x) [
          | Less ↦ λ is found. rest (passed-by p k x e es (ap is_eq is) found)
          | Equal ↦ λ is found. elim (p e) as (λ b. find R k (cond b (e ∷ filter p es) (filter p es)) ≡ Some x → Some e.1 ≡ Some x) [
            | true ↦ λ first. sym (ap (λ r. cond (is_eq r) (Some e.1) (find R k (filter p es))) is) ∙ first
            | false ↦ λ later. nothing x (sym (find-below k (filter p es) (below-filter R p k es (below-tied k e.0 es is parts.0))) ∙ later)
          ] found
          | Greater ↦ λ is found. rest (passed-by p k x e es (ap is_eq is) found)
        ] refl there
      where
        passed-by : (p : K × X → Bool) (k : K) (x : X) (e : K × X) (es : Map K X) → is_eq (R k e.0) ≡ false → find R k (filter p (e ∷ es)) ≡ Some x → find R k (filter p es) ≡ Some x
        passed-by p k x e es other found =
            elim (p e) as (λ b. find R k (cond b (e ∷ filter p es) (filter p es)) ≡ Some x → find R k (filter p es) ≡ Some x) [
              | true ↦ λ first. sym (ap (λ b. cond b (Some e.1) (find R k (filter p es))) other) ∙ first
              | false ↦ λ later. later
            ] found

    count-below : (k : K) (es : Map K X) → below_all R k es ≡ true → count_by (λ e. eq_by_cmp R k e.0) es ≡ 0
    count-below k [] below = refl
    count-below k (e ∷ es) below =
        let parts = and_parts (is_lt (R k e.0)) (below_all R k es) below in
        let this = ap (λ r. one_if (is_eq r)) (less_of _ parts.0) in
        omega (arith, sum_by-cons (λ x. one_if (eq_by_cmp R k x.0)) e es, this, count-below k es parts.1)

    -- a key stands once
    pub count-key-le : (k : K) (es : Map K X) → IsMap R es → count_by (λ e. eq_by_cmp R k e.0) es ≤ 1
    count-key-le k [] sorted = omega arith
    count-key-le k (e ∷ es) sorted =
        let parts = and_parts (below_all R e.0 es) (is_sorted R es) sorted in
        let split = sum_by-cons (λ (x : K × X). one_if (eq_by_cmp R k x.0)) e es in
        let rest = count-key-le k es parts.1 in
        elim (R k e.0) as (λ r. R k e.0 ≡ r → count_by (λ x. eq_by_cmp R k x.0) (e ∷ es) ≤ 1) [
          | Less ↦ λ is. omega (arith, split, ap (λ r. one_if (is_eq r)) is, rest)
          | Equal ↦ λ is. omega (arith, split, ap (λ r. one_if (is_eq r)) is, count-below k es (below-tied k e.0 es is parts.0))
          | Greater ↦ λ is. omega (arith, split, ap (λ r. one_if (is_eq r)) is, rest)
        ] refl
