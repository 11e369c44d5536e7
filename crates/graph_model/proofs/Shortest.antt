-- Walks of any kind: a shortest one to a vertex has fewer edges than there are vertices.
use Rattle.std.proofs.Common.{◌≡◌, ℕ, zero, suc, ◌+◌, ◌-◌, ◌<◌, ◌≤◌, Bool, true, false, cond, ◌||◌, List, [], ◌∷◌, length, inl, inr, refl, sym, ap, subst, ◌∙◌, arith, true≢false}
use Rattle.std.specs.Prelude.{◌==◌}
use Rattle.std.specs.List.{count_by}
use Rattle.std.proofs.lemmas.Bool.{or_cases, or_from, or_left, or_right, false_from_ne_true, eqb-true}
use Rattle.std.proofs.lemmas.List.Sums.{sum_by-cons, count_by-le-length}
use Rattle.graph_model.specs.Maps.{has}
use Rattle.graph_model.proofs.Entries.{never}

-- W n i j tells whether a walk of n steps leads from i to j, where S says what one step is
pub record IsWalking (W : ℕ → ℕ → ℕ → Bool) (S : ℕ → ℕ → Type 0) : Type 0 where
  pub here : (i j : ℕ) → W 0 i j ≡ true → i ≡ j
  pub stays : (i : ℕ) → W 0 i i ≡ true
  pub splits : (n i j : ℕ) → W (suc n) i j ≡ true → (t : ℕ) × S i t × (W n t j ≡ true)
  pub joins : (n i t j : ℕ) → S i t → W n t j ≡ true → W (suc n) i j ≡ true

abbrev counted : Bool → ℕ
counted b = cond b 1 0

-- a list where q passes whatever p does, and one number more
cond-le : (a b : Bool) → (a ≡ true → b ≡ true) → cond a 1 0 ≤ cond b 1 0
cond-le true true f = omega arith
cond-le true false f = never (f refl)
cond-le false b f = omega arith

module _ (p q : ℕ → Bool) (also : (v : ℕ) → p v ≡ true → q v ≡ true) where
  count-le : (ks : List ℕ) → count_by p ks ≤ count_by q ks
  count-le [] = omega arith
  count-le (k ∷ ks) = omega (arith, count-le ks, cond-le (p k) (q k) (also k), sum_by-cons (λ v. cond (p v) 1 0) k ks, sum_by-cons (λ v. cond (q v) 1 0) k ks)

  count-more : (ks : List ℕ) (x : ℕ) → has ks x ≡ true → p x ≡ false → q x ≡ true → count_by p ks + 1 ≤ count_by q ks
  count-more [] x there fails passes = never there
  count-more (k ∷ ks) x there fails passes =
      let of_p = sum_by-cons (λ v. cond (p v) 1 0) k ks in
      let of_q = sum_by-cons (λ v. cond (q v) 1 0) k ks in
      elim (or_cases (k == x) (has ks x) there) [
        | inl same ↦
            let is = eqb-true k x same in
            let without = ap counted (ap p is ∙ fails) in
            let one = ap counted (ap q is ∙ passes) in
            omega (arith, of_p, of_q, without, one, count-le ks)
        | inr later ↦ omega (arith, of_p, of_q, cond-le (p k) (q k) (also k), count-more ks x later fails passes)
      ]

module _ (W : ℕ → ℕ → ℕ → Bool) (S : ℕ → ℕ → Type 0) (walking : IsWalking W S) where
  split_at : (a b n i j : ℕ) → n ≡ a + b → W n i j ≡ true → (x : ℕ) × (W a i x ≡ true) × (W b x j ≡ true)
  split_at zero b n i j sum walk =
      let same : n ≡ b = omega arith in
      (i, walking.stays i, subst (λ m. W m i j ≡ true) same walk)
  split_at (suc a) b zero i j sum walk = absurd (omega arith)
  split_at (suc a) b (suc n) i j sum walk =
      let first = walking.splits n i j walk in
      let rest = split_at a b n first.0 j (omega arith) first.2 in
      (rest.0, walking.joins a i first.0 rest.0 first.1 rest.1, rest.2)

  join_at : (a b n i x j : ℕ) → n ≡ a + b → W a i x ≡ true → W b x j ≡ true → W n i j ≡ true
  join_at zero b n i x j sum one other =
      let same : b ≡ n = omega arith in
      subst (λ m. W m i j ≡ true) same (subst (λ k. W b k j ≡ true) (sym (walking.here i x one)) other)
  join_at (suc a) b zero i x j sum one other = absurd (omega arith)
  join_at (suc a) b (suc n) i x j sum one other =
      let first = walking.splits a i x one in
      walking.joins n i first.0 j first.1 (join_at a b n first.0 x j (omega arith) first.2 other)

  -- what is reached has what each step's target has
  pub reached : (V : ℕ → Type 0) → ((i t : ℕ) → S i t → V t) → (n i x : ℕ) → V i → W n i x ≡ true → V x
  reached V target zero i x start walk = subst V (walking.here i x walk) start
  reached V target (suc n) i x start walk =
      let first = walking.splits n i x walk in
      reached V target n first.0 x (target i first.0 first.1) first.2

  -- no walk to x is shorter than k steps
  abbrev pub IsNoNearer : ℕ → ℕ → ℕ → Type 0
  IsNoNearer k i x = (n : ℕ) → n < k → W n i x ≡ false

  -- on a shortest walk there is a vertex at each distance
  at_distance : (m i j k : ℕ) → W m i j ≡ true → IsNoNearer m i j → k ≤ m → (x : ℕ) × (W k i x ≡ true) × IsNoNearer k i x
  at_distance m i j k walk least le =
      let parts = split_at k (m - k) m i j (omega arith) walk in (
        parts.0,
        parts.1,
        λ n below. false_from_ne_true (W n i parts.0) (λ nearer.
            true≢false (sym (join_at n (m - k) (n + (m - k)) i parts.0 j refl nearer parts.2) ∙ least (n + (m - k)) (omega arith))),
      )

  -- a walk of at most k steps leads there
  abbrev within : ℕ → ℕ → ℕ → Bool
  within zero i v = W 0 i v
  within (suc k) i v = within k i v || W (suc k) i v

  not_within : (k i x : ℕ) → IsNoNearer (suc k) i x → within k i x ≡ false
  not_within zero i x far = far 0 (omega arith)
  not_within (suc k) i x far = or_from _ _ (not_within k i x (λ n below. far n (omega arith))) (far (suc k) (omega arith))

  module _ (ks : List ℕ) (V : ℕ → Type 0) (target : (i t : ℕ) → S i t → V t) (listed : (x : ℕ) → V x → has ks x ≡ true) (m i j : ℕ) (start : V i) (walk : W m i j ≡ true) (least : IsNoNearer m i j) where
    many : (k : ℕ) → k ≤ m → k + 1 ≤ count_by (within k i) ks
    many zero le = omega (arith, count-more (λ _. false) (within zero i) (λ _ no. never no) ks i (listed i start) refl (walking.stays i))
    many (suc k) le =
        let next = at_distance m i j (suc k) walk least le in
        let there = listed next.0 (reached V target (suc k) i next.0 start next.1) in
        omega (arith, many k (omega arith), count-more (within k i) (within (suc k) i) (λ v near. or_left _ _ near) ks next.0 there (not_within k i next.0 next.2) (or_right _ _ next.1))

    pub shortest_below : m < length ks
    shortest_below = omega (arith, many m (omega arith), count_by-le-length (within m i) ks)
