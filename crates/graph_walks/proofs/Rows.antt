-- Flat rows: which hops they have.
use Rattle.std.proofs.Common.{◌≡◌, ℕ, zero, suc, ◌+◌, ◌-◌, ◌<◌, ◌≤◌, true, false, ◌&&◌, ◌||◌, List, [], ◌∷◌, ◌++◌, length, get_or, take, drop, map, inl, inr, refl, sym, ap, ◌∙◌, arith}
use Rattle.std.specs.Prelude.{◌==◌}
use Rattle.std.specs.List.{flat_map, range_with_len, slice_range}
use Rattle.std.proofs.lemmas.Bool.{false_from_ne_true, cases_lt, or_cases, or_left, or_right, and_parts, and_from, eqb-true, eq-eqb}
use Rattle.std.proofs.lemmas.List.{append-nil, drop_all, take_all, get_or-take, get_or-drop, get_or_append_left, get_or_push, length-append, length-take-le, length-drop}
use Rattle.std.proofs.lemmas.List.Folds.{list_any-append}
use Rattle.graph_model.specs.Maps.{has}
use Rattle.graph_model.proofs.Entries.{never}
use Rattle.graph_walks.specs.Steps.{leads, row_at, hops_of}
use Rattle.graph_walks.specs.Flat.{AreRows, AreWithin}
use Rattle.graph_walks.specs.Filling.{count_below, IsFilled}
use Rattle.graph_walks.proofs.Bools.{same_tests}
use Rattle.graph_walks.proofs.Finding.{has-place, place-has}
use Rattle.graph_walks.proofs.Filling.{below-more, none-below, below-rises, few-below}

-- ---- hops of rows

of_row : (k : ℕ) (ts : List ℕ) (i t : ℕ) → leads (map (λ x. (k, x)) ts) i t ≡ (k == i && has ts t)
of_row k [] i t = elim (k == i) as (λ b. false ≡ (b && false)) [ true ↦ refl | false ↦ refl ]
of_row k (x ∷ xs) i t =
    ap (λ b. (k == i && x == t) || b) (of_row k xs i t)
    ∙ elim (k == i) as (λ b. ((b && x == t) || (b && has xs t)) ≡ (b && (x == t || has xs t))) [ true ↦ refl | false ↦ refl ]

module _ (row : ℕ → List ℕ) where
  abbrev rows : ℕ → ℕ → List (ℕ × ℕ)
  rows a n = flat_map (λ place. map (λ t. (place, t)) (row place)) (range_with_len a n)

  first_row : (a n i t : ℕ) → leads (rows a (suc n)) i t ≡ ((a == i && has (row a) t) || leads (rows (a + 1) n) i t)
  first_row a n i t = list_any-append (λ (step : ℕ × ℕ). step.0 == i && step.1 == t) (map (λ x. (a, x)) (row a)) (rows (a + 1) n) ∙ ap (λ b. b || leads (rows (a + 1) n) i t) (of_row a (row a) i t)

  pub led_by_rows : (a n i t : ℕ) → leads (rows a n) i t ≡ true → (a ≤ i) × (i < a + n) × (has (row i) t ≡ true)
  led_by_rows a zero i t led = never led
  led_by_rows a (suc n) i t led =
      elim (or_cases (a == i && has (row a) t) (leads (rows (a + 1) n) i t) (sym (first_row a n i t) ∙ led)) [
        | inl here ↦
            let parts = and_parts (a == i) (has (row a) t) here in
            let same : a ≡ i = eqb-true a i parts.0 in
            (omega (arith, same), omega (arith, same), ap (λ k. has (row k) t) (sym same) ∙ parts.1)
        | inr later ↦ let rest = led_by_rows (a + 1) n i t later in (omega (arith, rest.0), omega (arith, rest.1), rest.2)
      ]

  pub rows_lead : (a n i t : ℕ) → a ≤ i → i < a + n → has (row i) t ≡ true → leads (rows a n) i t ≡ true
  rows_lead a zero i t from up there = absurd (omega (arith, from, up))
  rows_lead a (suc n) i t from up there =
      elim (cases_lt a i) [
        | inr same ↦ first_row a n i t ∙ or_left _ _ (and_from _ _ (eq-eqb a i (omega (arith, from, same))) (let is : a ≡ i = omega (arith, from, same) in ap (λ k. has (row k) t) is ∙ there))
        | inl later ↦ first_row a n i t ∙ or_right _ _ (rows_lead (a + 1) n i t (omega (arith, later)) (omega (arith, up)) there)
      ]

-- ---- what stands in a part of a list

length-range : (xs : List ℕ) (a b : ℕ) → a ≤ b → b ≤ length xs → length (slice_range xs a b) ≡ b - a
length-range xs a b up within = length-take-le (b - a) (drop a xs) (omega (arith, length-drop a xs, up, within))

pub range_has : (xs : List ℕ) (a b j t : ℕ) → a ≤ j → j < b → b ≤ length xs → get_or xs j 0 ≡ t → has (slice_range xs a b) t ≡ true
range_has xs a b j t from up within is =
    let sum : a + (j - a) ≡ j = omega (arith, from) in
    place-has (slice_range xs a b) (j - a) t (omega (arith, length-range xs a b (omega (arith, from, up)) within, from, up))
    (get_or-take (b - a) (drop a xs) (j - a) 0 (omega (arith, from, up)) ∙ get_or-drop a xs (j - a) 0 ∙ ap (λ k. get_or xs k 0) sum ∙ is)

pub has_range : (xs : List ℕ) (a b t : ℕ) → a ≤ b → b ≤ length xs → has (slice_range xs a b) t ≡ true → (j : ℕ) × (a ≤ j) × (j < b) × (get_or xs j 0 ≡ t)
has_range xs a b t up within there =
    let k = has-place (slice_range xs a b) t there in
    let long = length-range xs a b up within in
    let below : k.0 < b - a = omega (arith, long, k.1) in
    (a + k.0, omega arith, omega (arith, below), sym (get_or-drop a xs k.0 0) ∙ sym (get_or-take (b - a) (drop a xs) k.0 0 below) ∙ k.2)

-- what was written in a vector's slice
pub whole_back : {A : Type 0} (n : ℕ) (new old : List A) → length new ≡ length old → n ≡ length old → take n (new ++ drop (length new) old) ≡ new
whole_back n new old same all =
    ap (λ rest. take n (new ++ rest)) (drop_all (length new) old (omega (arith, same))) ∙ ap (take n) (append-nil new) ∙ take_all n new (omega (arith, same, all))

-- ---- the rows of filled ends

-- the row that a place of the ends is in
in_row : (hops : List (ℕ × ℕ)) (n j : ℕ) → j < count_below hops n → (p : ℕ) × (p < n) × (count_below hops p ≤ j) × (j < count_below hops (p + 1))
in_row hops zero j up = absurd (omega (arith, up, none-below hops))
in_row hops (suc n) j up =
    let next : n + 1 ≡ suc n = omega arith in
    elim (cases_lt j (count_below hops n)) [
      | inl before ↦ let rest = in_row hops n j before in (rest.0, omega (arith, rest.1), rest.2, rest.3)
      | inr here ↦ (n, omega arith, here, omega (arith, up, ap (count_below hops) next))
    ]

all-below : (hops : List (ℕ × ℕ)) (n : ℕ) → AreWithin n hops → count_below hops n ≡ length hops
all-below [] n within = refl
all-below (h ∷ hs) n within =
    let first = within.each 0 h (omega arith) in
    let rest : AreWithin n hs = record { each = λ k d below. within.each (suc k) d (omega (arith, below)) } in
    omega (
      arith,
      all-below hs n rest,
      Rattle.std.proofs.lemmas.List.Sums.sum_by-cons (λ (hop : ℕ × ℕ). Rattle.graph_walks.proofs.Filling.one_if (Rattle.std.specs.Prelude.nat_lt hop.0 n)) h hs,
      ap Rattle.graph_walks.proofs.Filling.one_if (Rattle.std.proofs.lemmas.Bool.lt-ltb h.0 n first.0),
    )

led-within : (n : ℕ) (hops : List (ℕ × ℕ)) (i t : ℕ) → AreWithin n hops → leads hops i t ≡ true → (i < n) × (t < n)
led-within n [] i t within led = never led
led-within n (h ∷ hs) i t within led =
    elim (or_cases (h.0 == i && h.1 == t) (leads hs i t) led) [
      | inl here ↦
          let parts = and_parts (h.0 == i) (h.1 == t) here in
          let first = within.each 0 h (omega arith) in
          (omega (arith, first.0, eqb-true h.0 i parts.0), omega (arith, first.1, eqb-true h.1 t parts.1))
      | inr later ↦ led-within n hs i t (record { each = λ k d below. within.each (suc k) d (omega (arith, below)) }) later
    ]

module _ (n : ℕ) (hops : List (ℕ × ℕ)) (within : AreWithin n hops) (starts ends more : List ℕ) (filled : IsFilled hops hops starts ends) (count : length starts ≡ n) (long : length ends ≡ length hops)
    (is : more ≡ starts ++ length hops ∷ []) where
  start : (p : ℕ) → p < n → get_or more p 0 ≡ count_below hops p
  start p below =
      let old = get_or_append_left starts (length hops ∷ []) 0 p (omega (arith, below, count)) in
      let free = filled.free p (omega (arith, below, count)) in
      omega (arith, ap (λ xs. get_or xs p 0) is, old, free, below-more hops p)

  past : get_or more n 0 ≡ count_below hops n
  past = ap (λ xs. get_or xs n 0) is ∙ get_or_push starts (length hops) 0 n count ∙ sym (all-below hops n within)

  starts_at : (p : ℕ) → p ≤ n → get_or more p 0 ≡ count_below hops p
  starts_at p up = elim (cases_lt p n) [ inl below ↦ start p below | inr end ↦ let same : p ≡ n = omega (arith, up, end) in ap (λ k. get_or more k 0) same ∙ past ∙ ap (count_below hops) (sym same) ]

  sound : (p j : ℕ) → p < n → count_below hops p ≤ j → j < count_below hops (p + 1) → leads hops p (get_or ends j 0) ≡ true
  sound p j below from up =
      let old = get_or_append_left starts (length hops ∷ []) 0 p (omega (arith, below, count)) in
      let at = start p below in
      filled.sound p j (omega (arith, below, count)) (omega (arith, ap (λ xs. get_or xs p 0) is, old, at, from)) up

  pub are_rows : AreRows n more ends
  are_rows = record {
    full = omega (arith, ap length is, length-append starts (length hops ∷ []), count);
    rise = λ p below. omega (arith, starts_at p (omega (arith, below)), starts_at (p + 1) (omega (arith, below)), below-more hops p);
    within = λ p below. omega (arith, starts_at (p + 1) (omega (arith, below)), few-below hops (p + 1), long);
    each = λ k below.
        let p = in_row hops n k (omega (arith, all-below hops n within, long, below)) in
        (led-within n hops p.0 (get_or ends k 0) within (sound p.0 k p.1 p.2 p.3)).1;
  }

  pub same_hops : (p t : ℕ) → leads (hops_of more ends n) p t ≡ leads hops p t
  same_hops p t =
      same_tests _ _
      (λ led.
      let row = led_by_rows (row_at more ends) 0 n p t led in
      let below : p < n = omega (arith, row.1) in
      let from = starts_at p (omega (arith, below)) in
      let to = starts_at (p + 1) (omega (arith, below)) in
      let j = has_range ends (get_or more p 0) (get_or more (p + 1) 0) t (are_rows.rise p below) (are_rows.within p below) row.2 in
      ap (leads hops p) (sym j.3) ∙ sound p j.0 below (omega (arith, from, j.1)) (omega (arith, to, j.2)))
      (λ led.
      let below : p < n = (led-within n hops p t within led).0 in
      let old = get_or_append_left starts (length hops ∷ []) 0 p (omega (arith, below, count)) in
      let from = starts_at p (omega (arith, below)) in
      let to = starts_at (p + 1) (omega (arith, below)) in
      let j = filled.full p t (omega (arith, below, count)) led in
      rows_lead (row_at more ends) 0 n p t (omega arith) (omega (arith, below))
      (range_has ends (get_or more p 0) (get_or more (p + 1) 0) j.0 t (omega (arith, ap (λ xs. get_or xs p 0) is, old, j.1)) (omega (arith, to, j.2)) (are_rows.within p below) j.3))

-- ---- rows as they are held

module _ (n : ℕ) (starts ends : List ℕ) (are : AreRows n starts ends) where
  pub row_is : (p t : ℕ) → p < n → has (row_at starts ends p) t ≡ leads (hops_of starts ends n) p t
  row_is p t below =
      same_tests _ _ (λ there. rows_lead (row_at starts ends) 0 n p t (omega arith) (omega (arith, below)) there) (λ led. (led_by_rows (row_at starts ends) 0 n p t led).2)

  pub no_row : (p t : ℕ) → n ≤ p → false ≡ leads (hops_of starts ends n) p t
  no_row p t above = sym (false_from_ne_true _ (λ led. let row = led_by_rows (row_at starts ends) 0 n p t led in absurd (omega (arith, row.1, above))))

  pub rows-within : (p t : ℕ) → leads (hops_of starts ends n) p t ≡ true → (p < n) × (t < n)
  rows-within p t led =
      let row = led_by_rows (row_at starts ends) 0 n p t led in
      let below : p < n = omega (arith, row.1) in
      let j = has_range ends (get_or starts p 0) (get_or starts (p + 1) 0) t (are.rise p below) (are.within p below) row.2 in
      (below, let inside = are.each j.0 (omega (arith, j.2, are.within p below)) in omega (arith, inside, j.3))
