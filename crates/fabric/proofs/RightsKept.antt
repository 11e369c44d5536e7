-- The table of a rank's rights.
use Rattle.std.proofs.Common.{◌≡◌, ◌≢◌, ℕ, zero, suc, ◌+◌, ◌<◌, ◌≤◌, ◌==◌, Bool, true, false, cond, List, [], ◌∷◌, ◌++◌, length, set, get_or, ltb, replicate, refl, sym, ap, ◌∙◌, inl, inr, arith, eq-eqb, ne_eqb, lt-ltb, le-ltb, length-set, get_or-set_same, get_or-set_other}
use Rattle.std.specs.List.{range_with_len}
use Rattle.std.proofs.lemmas.Bool.{cases_eq, cases_lt, false≢true}
use Rattle.std.proofs.lemmas.Bool.Decides.{nat_tests}
use Rattle.std.proofs.lemmas.List.{get_or_past}
use lib.ListN.{length-replicate}
use Rattle.window_rule.specs.HistoryHolds.{is_among}
use Rattle.window_rule.specs.RightsHold.{least_of}
use Rattle.window_rule.specs.Splits.{without_right}
use Rattle.window_rule.proofs.CommitSteps.{among_least}
use Rattle.fabric.specs.Window.{AreRights, any}

-- what is told of the ranks below one so far
pub record AreBelow (held : List Bool) (ranks : ℕ) : Type 0 where
  pub sized : length held ≡ 64
  pub each : (rank : ℕ) → get_or held rank false ≡ ltb rank ranks

none_held : (n k : ℕ) → get_or (replicate {A = Bool} n false) k false ≡ false
none_held zero k = refl
none_held (suc n) zero = refl
none_held (suc n) (suc k) = none_held n k

pub none_below : (held : List Bool) → held ≡ replicate {A = Bool} 64 false → AreBelow held 0
none_below held is = record {
  sized = ap length is ∙ length-replicate 64 false;
  each = λ rank. ap (λ l. get_or l rank false) is
      ∙ (none_held 64 rank ∙ sym (le-ltb rank 0 (omega arith)));
}

pub one_more : (held : List Bool) (ranks : ℕ) → ranks < 64 → AreBelow held ranks
    → AreBelow (set held ranks true) (ranks + 1)
one_more held ranks below h = record {
  sized = length-set held ranks true ∙ h.sized;
  each = λ rank. elim (cases_eq rank ranks) [
    | inl same ↦
        ap (λ r. get_or (set held ranks true) r false) same
        ∙ (get_or-set_same held ranks true false (omega (arith, h.sized))
        ∙ sym (lt-ltb rank (ranks + 1) (omega arith)))
    | inr ne ↦
        get_or-set_other held ranks rank true false ne
        ∙ (h.each rank ∙ (let same : ltb rank ranks ≡ ltb rank (ranks + 1) = grind (arith, nat_tests) in same))
  ];
}

among_range : (start n rank : ℕ)
    → is_among rank (range_with_len start n)
    ≡ cond (ltb rank start) false (ltb rank (start + n))
among_range start zero rank =
    let e : start + 0 ≡ start = omega arith in
    let t : false ≡ cond (ltb rank start) false (ltb rank start) = grind (arith, nat_tests) in
    t ∙ ap (λ s. cond (ltb rank start) false (ltb rank s)) (sym e)
among_range start (suc n) rank =
    let e : start + suc n ≡ (start + 1) + n = omega arith in
    let t : cond (start == rank) true (cond (ltb rank (start + 1)) false (ltb rank ((start + 1) + n)))
    ≡ cond (ltb rank start) false (ltb rank ((start + 1) + n)) = grind (arith, nat_tests) in
    ap (λ b. cond (start == rank) true b) (among_range (start + 1) n rank)
    ∙ (t ∙ ap (λ s. cond (ltb rank start) false (ltb rank s)) (sym e))

pub all_below : (held : List Bool) (ranks : ℕ) → AreBelow held ranks
    → AreRights held (range_with_len 0 ranks)
all_below held ranks h = record {
  sized = h.sized;
  each = λ rank.
      let t : ltb rank ranks ≡ cond (ltb rank 0) false (ltb rank (0 + ranks)) = grind
      (arith, nat_tests) in
      h.each rank ∙ (t ∙ sym (among_range 0 ranks rank));
}

pub one_is : (held : List Bool) (right : ℕ) → right < 64 → AreBelow held 0
    → AreRights (set held right true) (right ∷ [])
one_is held right below h = record {
  sized = length-set held right true ∙ h.sized;
  each = λ rank. elim (cases_eq rank right) [
    | inl same ↦
        ap (λ r. get_or (set held right true) r false) same
        ∙ (get_or-set_same held right true false (omega (arith, h.sized))
        ∙ sym (ap (λ b. cond b true false) (eq-eqb right rank (sym same))))
    | inr ne ↦
        get_or-set_other held right rank true false ne
        ∙ (h.each rank ∙ (le-ltb rank 0 (omega arith)
        ∙ sym (ap (λ b. cond b true false) (ne_eqb right rank (λ e. ne (sym e))))))
  ];
}

-- a right that is among them is of one of the 64 ranks
pub held_below : (held : List Bool) (rights : List ℕ) (right : ℕ) → AreRights held rights
    → is_among right rights ≡ true → right < 64
held_below held rights right h among =
    elim (cases_lt right 64) [
      | inl below ↦ below
      | inr past ↦ absurd (false≢true
          (sym (get_or_past held right false (omega (arith, h.sized)))
          ∙ (h.each right ∙ among)))
    ]

-- one right is given up
among_if : (gone : Bool) (rank right : ℕ) (left : List ℕ)
    → is_among rank (cond gone left (right ∷ left))
    ≡ cond gone (is_among rank left) (cond (right == rank) true (is_among rank left))
among_if true rank right left = refl
among_if false rank right left = refl

tests : (right gone rank : ℕ) (rest : Bool)
    → cond (right == gone) (cond (rank == gone) false rest)
    (cond (right == rank) true (cond (rank == gone) false rest))
    ≡ cond (rank == gone) false (cond (right == rank) true rest)
tests right gone rank true = grind (arith, nat_tests)
tests right gone rank false = grind (arith, nat_tests)

pub among_without : (gone rank : ℕ) (rights : List ℕ)
    → is_among rank (without_right gone rights) ≡ cond (rank == gone) false (is_among rank rights)
among_without gone rank [] = sym (let t : cond (rank == gone) false false ≡ false = grind
    (arith, nat_tests) in t)
among_without gone rank (right ∷ more) =
    among_if (right == gone) rank right (without_right gone more)
    ∙ (ap (λ b. cond (right == gone) b (cond (right == rank) true b))
    (among_without gone rank more)
    ∙ tests right gone rank (is_among rank more))

pub rights_without : (held : List Bool) (rights : List ℕ) (gone : ℕ) → gone < 64
    → AreRights held rights → AreRights (set held gone false) (without_right gone rights)
rights_without held rights gone below h = record {
  sized = length-set held gone false ∙ h.sized;
  each = λ rank. elim (cases_eq rank gone) [
    | inl same ↦
        ap (λ r. get_or (set held gone false) r false) same
        ∙ (get_or-set_same held gone false false (omega (arith, h.sized))
        ∙ sym (among_without gone rank rights
        ∙ ap (λ b. cond b false (is_among rank rights)) (eq-eqb rank gone same)))
    | inr ne ↦
        get_or-set_other held gone rank false false ne
        ∙ (h.each rank
        ∙ sym (among_without gone rank rights
        ∙ ap (λ b. cond b false (is_among rank rights)) (ne_eqb rank gone ne)))
  ];
}

-- the rights of two together
pub among_both : (rank : ℕ) (xs ys : List ℕ)
    → is_among rank (xs ++ ys) ≡ any (is_among rank xs) (is_among rank ys)
among_both rank [] ys = refl
among_both rank (x ∷ xs) ys = elim (x == rank) as
    (λ b. cond b true (is_among rank (xs ++ ys)) ≡ any (cond b true (is_among rank xs))
    (is_among rank ys)) [ true ↦ refl | false ↦ among_both rank xs ys ]

pub rights_together : (held others both : List Bool) (xs ys : List ℕ) → length both ≡ 64
    → ((rank : ℕ) → get_or both rank false ≡ any (get_or held rank false) (get_or others rank false))
    → AreRights held xs → AreRights others ys → AreRights both (xs ++ ys)
rights_together held others both xs ys sized each h k = record {
  sized = sized;
  each = λ rank. each rank ∙ ((λ i. any (h.each rank i) (k.each rank i))
      ∙ sym (among_both rank xs ys));
}

-- the least right is the first in the table
least_at_most : (rights : List ℕ) (rank : ℕ) → is_among rank rights ≡ true
    → least_of rights ≤ rank
least_at_most [] rank e = absurd (false≢true e)
least_at_most (right ∷ []) rank e =
    elim (cases_eq right rank) [
      | inl same ↦ omega arith
      | inr ne ↦ absurd (false≢true (sym (ap (λ b. cond b true false) (ne_eqb right rank ne)) ∙ e))
    ]
least_at_most (right ∷ (next ∷ more)) rank e =
    elim (cases_eq right rank) [
      | inl same ↦ omega arith
      | inr ne ↦ omega (
        arith,
        least_at_most (next ∷ more) rank
            (sym (ap (λ b. cond b true (is_among rank (next ∷ more))) (ne_eqb right rank ne)) ∙ e),
      )
    ]

pub least_is : (held : List Bool) (rights : List ℕ) (rank : ℕ) → AreRights held rights
    → rights ≢ [] → ((k : ℕ) → k < rank → get_or held k false ≡ true → ⊥)
    → get_or held rank false ≡ true → rank ≡ least_of rights
least_is held rights rank h live none there =
    let most = least_at_most rights rank (sym (h.each rank) ∙ there) in
    elim (cases_lt (least_of rights) rank) [
      | inl less ↦ absurd (none (least_of rights) less
          (h.each (least_of rights) ∙ among_least rights live))
      | inr not ↦ omega arith
    ]

pub some_is_held : (held : List Bool) (rights : List ℕ) → AreRights held rights → rights ≢ []
    → ((k : ℕ) → k < 64 → get_or held k false ≡ true → ⊥) → ⊥
some_is_held held rights h live none =
    let among = among_least rights live in
    none (least_of rights) (held_below held rights (least_of rights) h among)
    (h.each (least_of rights) ∙ among)
