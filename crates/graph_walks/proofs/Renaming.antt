-- Walks by place are walks from vertex to vertex.
use Rattle.std.proofs.Common.{◌≡◌, ℕ, zero, suc, ◌+◌, ◌<◌, ◌≤◌, Bool, true, false, ◌&&◌, List, [], ◌∷◌, length, get_or, map, Option, Some, None, inl, inr, refl, sym, ap, ◌∙◌, arith}
use Rattle.std.specs.Prelude.{◌==◌}
use Rattle.std.specs.List.{AllByRecursion, range_with_len, slice_get}
use Rattle.std.proofs.lemmas.Bool.{cases_order, or_cases, or_left, or_right, and_parts, and_from, eqb-true, eq-eqb, false_from_ne_true, true≢false}
use Rattle.graph_model.specs.Maps.{IsSet, has}
use Rattle.graph_model.specs.Walks.{is_walk_by, least_below}
use Rattle.graph_model.proofs.Entries.{never}
use Rattle.graph_model.proofs.Levels.{walking}
use Rattle.graph_walks.specs.Steps.{Hops, leads, steps_of, Rises, LeadsInto, IsLeastJoined}
use Rattle.graph_walks.proofs.Bools.{same_tests}
use Rattle.graph_walks.proofs.Finding.{place-has}
use Rattle.graph_walks.proofs.Fronts.{least-is_none}

module _ (ids : List ℕ) where
  abbrev pub named : List (ℕ × ℕ) → List (ℕ × ℕ)
  named hops = map (λ hop. (get_or ids hop.0 0, get_or ids hop.1 0)) hops

  pub step_named : (hops : List (ℕ × ℕ)) (a b : ℕ) → leads hops a b ≡ true → leads (named hops) (get_or ids a 0) (get_or ids b 0) ≡ true
  step_named [] a b led = never led
  step_named (h ∷ hs) a b led =
      elim (or_cases (h.0 == a && h.1 == b) (leads hs a b) led) [
        | inl here ↦
            let parts = and_parts (h.0 == a) (h.1 == b) here in
            or_left _ _ (and_from _ _ (eq-eqb _ _ (ap (λ p. get_or ids p 0) (eqb-true h.0 a parts.0))) (eq-eqb _ _ (ap (λ p. get_or ids p 0) (eqb-true h.1 b parts.1))))
        | inr later ↦ or_right _ _ (step_named hs a b later)
      ]

  pub step_placed : (hops : List (ℕ × ℕ)) (i t : ℕ) → leads (named hops) i t ≡ true → (a : ℕ) × (b : ℕ) × (leads hops a b ≡ true) × (get_or ids a 0 ≡ i) × (get_or ids b 0 ≡ t)
  step_placed [] i t led = never led
  step_placed (h ∷ hs) i t led =
      elim (or_cases (get_or ids h.0 0 == i && get_or ids h.1 0 == t) (leads (named hs) i t) led) [
        | inl here ↦
            let parts = and_parts (get_or ids h.0 0 == i) (get_or ids h.1 0 == t) here in
            (h.0, h.1, or_left _ _ (and_from _ _ (eq-eqb h.0 h.0 refl) (eq-eqb h.1 h.1 refl)), eqb-true _ _ parts.0, eqb-true _ _ parts.1)
        | inr later ↦ let rest = step_placed hs i t later in (rest.0, rest.1, or_right _ _ rest.2, rest.3, rest.4)
      ]

module _ (h : Hops) (rises : Rises h.ids) (within : (i t : ℕ) → leads h.hops i t ≡ true → (i < length h.ids) × (t < length h.ids)) where
  abbrev id : ℕ → ℕ
  id p = get_or h.ids p 0

  pub same_place : (p q : ℕ) → p < length h.ids → q < length h.ids → id p ≡ id q → p ≡ q
  same_place p q below inside same =
      elim (cases_order p q) [
        | inl is ↦ is
        | inr other ↦ elim other [
          | inl less ↦ let up = rises p q less inside in absurd (omega (arith, up, same))
          | inr more ↦ let up = rises q p more below in absurd (omega (arith, up, same))
        ]
      ]

  pub walk_named : (n i j : ℕ) → is_walk_by h.hops n i j ≡ true → is_walk_by (steps_of h) n (id i) (id j) ≡ true
  walk_named zero i j walk = eq-eqb (id i) (id j) (ap id (eqb-true i j walk))
  walk_named (suc n) i j walk =
      let first = (walking h.hops).splits n i j walk in
      (walking (steps_of h)).joins n (id i) (id first.0) (id j) (step_named h.ids h.hops i first.0 first.1) (walk_named n first.0 j first.2)

  pub walk_placed : (n i k : ℕ) → i < length h.ids → is_walk_by (steps_of h) n (id i) k ≡ true → (j : ℕ) × (j < length h.ids) × (id j ≡ k) × (is_walk_by h.hops n i j ≡ true)
  walk_placed zero i k below walk = (i, below, eqb-true (id i) k walk, eq-eqb i i refl)
  walk_placed (suc n) i k below walk =
      let first = (walking (steps_of h)).splits n (id i) k walk in
      let step = step_placed h.ids h.hops (id i) first.0 first.1 in
      let inside = within step.0 step.1 step.2 in
      let same : step.0 ≡ i = same_place step.0 i inside.0 below step.3 in
      let rest = walk_placed n step.1 k inside.1 (ap (λ x. is_walk_by (steps_of h) n x k) step.4 ∙ first.2) in
      (rest.0, rest.1, rest.2, (walking h.hops).joins n i step.1 rest.0 (ap (λ x. leads h.hops x step.1) (sym same) ∙ step.2) rest.3)

  pub same_walk : (n i j : ℕ) → i < length h.ids → j < length h.ids → is_walk_by h.hops n i j ≡ is_walk_by (steps_of h) n (id i) (id j)
  same_walk n i j below inside =
      same_tests _ _ (walk_named n i j)
      (λ walk. let to = walk_placed n i (id j) below walk in ap (λ x. is_walk_by h.hops n i x) (sym (same_place to.0 j to.1 inside to.2)) ∙ to.3)

  pub same_least : (i j from bound : ℕ) → i < length h.ids → j < length h.ids → id i ≡ from → least_below (λ n. is_walk_by h.hops n i j) bound ≡ least_below (λ n. is_walk_by (steps_of h) n from (id j)) bound
  same_least i j from bound below inside is =
      ap (λ (p : ℕ → Bool). least_below p bound) (λ k n. (same_walk n i j below inside ∙ ap (λ x. is_walk_by (steps_of h) n x (id j)) is) k)

  -- from elsewhere no walk leads to a vertex
  no_walk : (from : ℕ) → has h.ids from ≡ false → (n j : ℕ) → j < length h.ids → is_walk_by (steps_of h) n from (id j) ≡ false
  no_walk from away zero j inside = false_from_ne_true _ (λ walk. true≢false (sym (place-has h.ids j from inside (sym (eqb-true from (id j) walk))) ∙ away))
  no_walk from away (suc n) j inside = false_from_ne_true _ (λ walk.
      let first = (walking (steps_of h)).splits n from (id j) walk in
      let step = step_placed h.ids h.hops from first.0 first.1 in
      true≢false (sym (place-has h.ids step.0 from (within step.0 step.1 step.2).0 step.3) ∙ away))

  pub no_level : (from : ℕ) → has h.ids from ≡ false → (bound j : ℕ) → j < length h.ids → None ≡ least_below (λ n. is_walk_by (steps_of h) n from (id j)) bound
  no_level from away bound j inside =
      is_none-none (least_below (λ n. is_walk_by (steps_of h) n from (id j)) bound) (least-is_none (λ n. is_walk_by (steps_of h) n from (id j)) bound (λ n below. no_walk from away n j inside))
    where
      is_none-none : (o : Option ℕ) → Rattle.std.specs.Prelude.is_none o ≡ true → None ≡ o
      is_none-none None there = refl
      is_none-none (Some k) wrong = never wrong

  rise-le : (p q : ℕ) → p ≤ q → q < length h.ids → id p ≤ id q
  rise-le p q up inside = elim (cases_order p q) [
    | inl same ↦ let is = ap id same in omega (arith, is)
    | inr other ↦ elim other [
      | inl less ↦ let more = rises p q less inside in omega (arith, more)
      | inr more ↦ absurd (omega (arith, up, more))
    ]
  ]

  -- the least place that is joined is that of the least vertex
  pub least_named : (j i : ℕ) → j < length h.ids → IsLeastJoined h.hops j i → (i < length h.ids) × IsLeastJoined (steps_of h) (id j) (id i)
  least_named j i below least =
      let walk = least.joined in
      let to = walk_placed walk.0 j (id i) below (walk_named walk.0 j i walk.1) in
      let up = least.least to.0 walk.0 to.3 in (
        omega (arith, up, to.1),
        record {
          joined = (walk.0, walk_named walk.0 j i walk.1);
          least = λ k n walk_there.
              let there = walk_placed n j k below walk_there in
              let less = rise-le i there.0 (least.least there.0 n there.3) there.1 in
              omega (arith, less, there.2);
        },
      )

-- ---- all places

pub range-has : (a n t : ℕ) → a ≤ t → t < a + n → has (range_with_len a n) t ≡ true
range-has a zero t from up = absurd (omega (arith, from, up))
range-has a (suc n) t from up =
    elim (cases_order a t) [
      | inl same ↦ or_left _ _ (eq-eqb a t same)
      | inr other ↦ elim other [
        | inl less ↦ or_right _ _ (range-has (a + 1) n t (omega (arith, less)) (omega (arith, up)))
        | inr more ↦ absurd (omega (arith, from, more))
      ]
    ]

range-above : (low a n : ℕ) → low < a → AllByRecursion (λ m. low < m) (range_with_len a n)
range-above low a zero less = tt
range-above low a (suc n) less = (less, range-above low (a + 1) n (omega (arith, less)))

pub range-rises : (a n : ℕ) → IsSet (range_with_len a n)
range-rises a zero = tt
range-rises a (suc n) = (range-above a (a + 1) n (omega arith), range-rises (a + 1) n)

pub range-get : (a n k : ℕ) → k < n → slice_get (range_with_len a n) k ≡ Some (a + k)
range-get a zero k below = absurd (omega (arith, below))
range-get a (suc n) zero below = let same : a ≡ a + zero = omega arith in ap Some same
range-get a (suc n) (suc k) below = let same : (a + 1) + k ≡ a + suc k = omega arith in range-get (a + 1) n k (omega (arith, below)) ∙ ap Some same

-- the same hops are the same steps
steps-along : (ids : List ℕ) (a b : List (ℕ × ℕ)) → ((p t : ℕ) → leads a p t ≡ leads b p t) → (i t : ℕ) → leads (named ids a) i t ≡ true → leads (named ids b) i t ≡ true
steps-along ids a b same i t led =
    let step = step_placed ids a i t led in
    ap (λ x. leads (named ids b) x t) (sym step.3) ∙ ap (λ x. leads (named ids b) (get_or ids step.0 0) x) (sym step.4) ∙ step_named ids b step.0 step.1 (sym (same step.0 step.1) ∙ step.2)

pub same_steps : (ids : List ℕ) (a b : List (ℕ × ℕ)) → ((p t : ℕ) → leads a p t ≡ leads b p t) → (i t : ℕ) → leads (named ids a) i t ≡ leads (named ids b) i t
same_steps ids a b same i t = same_tests _ _ (steps-along ids a b same i t) (steps-along ids b a (λ p t. sym (same p t)) i t)

-- steps that may be taken back are hops that may be
pub hops_back : (h : Hops) → Rises h.ids → ((i t : ℕ) → leads h.hops i t ≡ true → (i < length h.ids) × (t < length h.ids)) → Rattle.graph_walks.specs.Steps.IsTwoWay (steps_of h) → Rattle.graph_walks.specs.Steps.IsTwoWay h.hops
hops_back h rises within two_way = λ a b led.
    let ends = within a b led in
    let back = step_placed h.ids h.hops (get_or h.ids b 0) (get_or h.ids a 0) (two_way (get_or h.ids a 0) (get_or h.ids b 0) (step_named h.ids h.hops a b led)) in
    let inside = within back.0 back.1 back.2 in
    ap (λ x. leads h.hops x a) (sym (same_place h rises within back.0 b inside.0 ends.1 back.3)) ∙ ap (λ x. leads h.hops back.0 x) (sym (same_place h rises within back.1 a inside.1 ends.0 back.4)) ∙ back.2
