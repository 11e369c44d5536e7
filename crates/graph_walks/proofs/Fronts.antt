-- Levels by fronts: a front has the vertices of one level.
use Rattle.std.proofs.Common.{◌≡◌, ℕ, zero, suc, ◌+◌, ◌<◌, ◌≤◌, Bool, true, false, ◌&&◌, ◌||◌, List, [], ◌∷◌, Option, Some, None, is_some, inl, inr, if◌then◌else◌, refl, sym, ap, subst, ◌∙◌, arith, true≢false}
use Rattle.std.specs.Prelude as prelude
use Rattle.std.specs.Prelude.{◌==◌, is_none, IsSome}
use Rattle.std.specs.List.{list_any, range_with_len}
use Rattle.std.specs.Option.{option_or}
use Rattle.std.proofs.lemmas.Bool.{and_parts, and_from, or_cases, or_left, or_right, eqb-true, false_from_ne_true}
use Rattle.graph_model.specs.Maps.{has}
use Rattle.graph_model.specs.Walks.{is_walk_by, least_below}
use Rattle.graph_model.proofs.Entries.{same_value, nothing, never}
use Rattle.graph_model.proofs.Short.{find-in_range}
use Rattle.graph_model.proofs.Shortest.{IsWalking}
use Rattle.graph_model.proofs.Levels.{walking}
use Rattle.graph_walks.specs.Steps.{leads}
use Rattle.graph_walks.proofs.Bools.{and-false, same_tests}

pub any_some : (p : ℕ → Bool) (ks : List ℕ) → list_any p ks ≡ true → (v : ℕ) × (has ks v ≡ true) × (p v ≡ true)
any_some p [] some = never some
any_some p (k ∷ ks) some =
    elim (or_cases (p k) (list_any p ks) some) [
      | inl here ↦ (k, or_left _ _ (eqb-same k), here)
      | inr later ↦ let rest = any_some p ks later in (rest.0, or_right _ _ rest.1, rest.2)
    ]
  where
    eqb-same : (k : ℕ) → (k == k) ≡ true
    eqb-same k = Rattle.std.proofs.lemmas.Bool.eq-eqb k k refl

pub any_has : (p : ℕ → Bool) (ks : List ℕ) (v : ℕ) → has ks v ≡ true → p v ≡ true → list_any p ks ≡ true
any_has p [] v there passes = never there
any_has p (k ∷ ks) v there passes =
    elim (or_cases (k == v) (has ks v) there) [
      | inl here ↦ or_left _ _ (subst (λ x. p x ≡ true) (sym (eqb-true k v here)) passes)
      | inr later ↦ or_right _ _ (any_has p ks v later passes)
    ]

-- ---- the least number that passes

find-more : (p : ℕ → Bool) (a n : ℕ) → prelude.find p (range_with_len a (suc n)) ≡ option_or (prelude.find p (range_with_len a n)) (if p (a + n) then Some (a + n) else None)
find-more p a zero = let none : a ≡ a + 0 = omega arith in ap (λ k. if p k then Some k else None) none
find-more p a (suc n) =
    let sum : (a + 1) + n ≡ a + suc n = omega arith in
    elim (p a) as (λ b. (if b then Some a else prelude.find p (range_with_len (a + 1) (suc n))) ≡ option_or (if b then Some a else prelude.find p (range_with_len (a + 1) n)) (if p (a + suc n) then Some (a + suc n) else None)) [
      | true ↦ refl
      | false ↦ find-more p (a + 1) n ∙ ap (λ k. option_or (prelude.find p (range_with_len (a + 1) n)) (if p k then Some k else None)) sum
    ]

pub least-more : (p : ℕ → Bool) (n : ℕ) → least_below p (suc n) ≡ option_or (least_below p n) (if p n then Some n else None)
least-more p n = let sum : 0 + n ≡ n = omega arith in find-more p 0 n ∙ ap (λ k. option_or (least_below p n) (if p k then Some k else None)) sum

find-some : (p : ℕ → Bool) (a n m : ℕ) → prelude.find p (range_with_len a n) ≡ Some m → (p m ≡ true) × (m < a + n)
find-some p a zero m found = nothing m found
find-some p a (suc n) m found =
    elim (p a) as (λ b. p a ≡ b → (if b then Some a else prelude.find p (range_with_len (a + 1) n)) ≡ Some m → (p m ≡ true) × (m < a + suc n)) [
      | true ↦ λ passes is. let same = same_value a m is in (subst (λ k. p k ≡ true) same passes, omega (arith, same))
      | false ↦ λ _ is. let rest = find-some p (a + 1) n m is in (rest.0, omega (arith, rest.1))
    ] refl found

pub least-some : (p : ℕ → Bool) (n m : ℕ) → least_below p n ≡ Some m → (p m ≡ true) × (m < n)
least-some p n m found = let is = find-some p 0 n m found in (is.0, omega (arith, is.1))

pub least-none : (p : ℕ → Bool) (n : ℕ) → least_below p n ≡ None → (m : ℕ) → m < n → p m ≡ false
least-none p n none m below =
    false_from_ne_true (p m) (λ passes. true≢false (sym (find-in_range p 0 n m (omega arith) (omega (arith, below)) passes) ∙ ap is_some none))

pub least-is_none : (p : ℕ → Bool) (n : ℕ) → ((m : ℕ) → m < n → p m ≡ false) → is_none (least_below p n) ≡ true
least-is_none p n fails =
    elim (least_below p n) as (λ o. least_below p n ≡ o → is_none o ≡ true) [
      | None ↦ λ _. refl
      | Some m ↦ λ found. let is = least-some p n m found in absurd (true≢false (sym is.0 ∙ fails m is.1))
    ] refl

module _ (steps : List (ℕ × ℕ)) where
  w : IsWalking (is_walk_by steps) (λ i t. leads steps i t ≡ true)
  w = walking steps

  -- a walk by its last step
  last_step : (n i j : ℕ) → is_walk_by steps (suc n) i j ≡ true → (x : ℕ) × (is_walk_by steps n i x ≡ true) × (leads steps x j ≡ true)
  last_step zero i j walk =
      let first = w.splits 0 i j walk in
      (i, w.stays i, subst (λ k. leads steps i k ≡ true) (w.here first.0 j first.2) first.1)
  last_step (suc n) i j walk =
      let first = w.splits (suc n) i j walk in
      let rest = last_step n first.0 j first.2 in
      (rest.0, w.joins n i first.0 rest.0 first.1 rest.1, rest.2)

  more_step : (n i x j : ℕ) → is_walk_by steps n i x ≡ true → leads steps x j ≡ true → is_walk_by steps (suc n) i j ≡ true
  more_step zero i x j walk step = w.joins 0 i j j (subst (λ k. leads steps k j ≡ true) (sym (w.here i x walk)) step) (w.stays j)
  more_step (suc n) i x j walk step = let first = w.splits n i x walk in w.joins (suc n) i first.0 j first.1 (more_step n first.0 x j first.2 step)

  module _ (from : ℕ) where
    abbrev walked : ℕ → ℕ → Bool
    walked j n = is_walk_by steps n from j

    -- the vertices of level k
    abbrev pub IsFront : ℕ → List ℕ → Type 0
    IsFront k front = (x : ℕ) → has front x ≡ (walked x k && is_none (least_below (walked x) k))

    abbrev pub AreLevels : ℕ → (ℕ → Option ℕ) → Type 0
    AreLevels bound levels = (j : ℕ) → levels j ≡ least_below (walked j) bound

    module _ (k : ℕ) (front : List ℕ) (is_front : IsFront k front) where
      reaches : (j : ℕ) → least_below (walked j) (suc k) ≡ None → list_any (λ v. leads steps v j) front ≡ walked j (suc k)
      reaches j none =
          same_tests _ _
          (λ some.
          let v = any_some (λ v. leads steps v j) front some in
          more_step k from v.0 j (and_parts (walked v.0 k) (is_none (least_below (walked v.0) k)) (sym (is_front v.0) ∙ v.1)).0 v.2)
          (λ walk.
          let x = last_step k from j walk in
          let far = least-is_none (walked x.0) k (λ m below. false_from_ne_true (walked x.0 m) (λ near.
          true≢false (sym (more_step m from x.0 j near x.2) ∙ least-none (walked j) (suc k) none (suc m) (omega (arith, below))))) in
          any_has (λ v. leads steps v j) front x.0 (is_front x.0 ∙ and_from _ _ x.1 far) x.2)

      module _ (levels more : ℕ → Option ℕ) (are : AreLevels (suc k) levels) where
        pub levels-more : ((j : ℕ) → more j ≡ option_or (levels j) (if list_any (λ v. leads steps v j) front then Some (suc k) else None)) → AreLevels (suc (suc k)) more
        levels-more marked = λ j.
            marked j ∙ ap (λ o. option_or o (if list_any (λ v. leads steps v j) front then Some (suc k) else None)) (are j)
            ∙ elim (least_below (walked j) (suc k)) as (λ o. least_below (walked j) (suc k) ≡ o → option_or o (if list_any (λ v. leads steps v j) front then Some (suc k) else None) ≡ option_or o (if walked j (suc k) then Some (suc k) else None)) [
              | Some m ↦ λ _. refl
              | None ↦ λ none. ap (λ b. if b then Some (suc k) else None) (reaches j none)
            ] refl
            ∙ sym (least-more (walked j) (suc k))

        pub front-more : (next : List ℕ) → ((j : ℕ) → has next j ≡ (is_none (levels j) && list_any (λ v. leads steps v j) front)) → IsFront (suc k) next
        front-more next fresh = λ j.
            fresh j ∙ ap (λ o. is_none o && list_any (λ v. leads steps v j) front) (are j)
            ∙ elim (least_below (walked j) (suc k)) as (λ o. least_below (walked j) (suc k) ≡ o → (is_none o && list_any (λ v. leads steps v j) front) ≡ (walked j (suc k) && is_none o)) [
              | Some m ↦ λ _. sym (and-false (walked j (suc k)))
              | None ↦ λ none. reaches j none ∙ and-true (walked j (suc k))
            ] refl
          where
            and-true : (b : Bool) → b ≡ (b && true)
            and-true true = refl
            and-true false = refl

    pub levels-start : (levels : ℕ → Option ℕ) → ((j : ℕ) → levels j ≡ (if from == j then Some 0 else None)) → AreLevels 1 levels
    levels-start levels marked = λ j. marked j

    pub front-start : IsFront 0 (from ∷ [])
    front-start = λ j. elim (from == j) as (λ b. (b || false) ≡ (b && true)) [ true ↦ refl | false ↦ refl ]

-- what a round does to both
pub round : (steps : List (ℕ × ℕ)) (from level m : ℕ) (front next : List ℕ) (levels more : ℕ → Option ℕ) → 1 ≤ level → m ≡ level + 1 → AreLevels steps from level levels → ((k : ℕ) → level ≡ suc k → IsFront steps from k front)
    → ((j : ℕ) → more j ≡ option_or (levels j) (if list_any (λ v. leads steps v j) front then Some level else None))
    → ((j : ℕ) → has next j ≡ (is_none (levels j) && list_any (λ v. leads steps v j) front)) → AreLevels steps from m more × ((k : ℕ) → m ≡ suc k → IsFront steps from k next)
round steps from zero m front next levels more some is are is_front marked fresh = absurd (omega (arith, some))
round steps from (suc k) m front next levels more some is are is_front marked fresh =
    let here = is_front k refl in
    let up : suc (suc k) ≡ m = omega (arith, is) in (
      subst (λ b. AreLevels steps from b more) up (levels-more steps from k front here levels more are marked),
      λ q next_is. let q_is : suc k ≡ q = omega (arith, is, next_is) in subst (λ b. IsFront steps from b next) q_is (front-more steps from k front here levels more are next fresh),
    )
