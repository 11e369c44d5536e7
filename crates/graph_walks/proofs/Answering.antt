-- Lists by place are lists by vertex.
use Rattle.std.proofs.Common.{◌≡◌, ℕ, zero, suc, ◌+◌, ◌<◌, ◌≤◌, Bool, true, false, cond, ◌&&◌, List, [], ◌∷◌, ◌++◌, length, get_or, set, map, Option, Some, None, is_some, inl, inr, if◌then◌else◌, refl, sym, ap, subst, ◌∙◌, arith}
use Rattle.std.specs.Prelude.{◌==◌, IsSomeAnd, count_by, nat_lt}
use Rattle.std.specs.List.{filter, filter_map, range_with_len}
use Rattle.std.specs.Option.{option_to_list, option_map, option_map_or, option_or}
use Rattle.std.proofs.lemmas.Bool.{cases_eq, cases_lt, eqb-true, eq-eqb, ne_eqb, le-ltb}
use Rattle.std.proofs.lemmas.List.{map-append, map-id, get_or_past, get_or-set_same, get_or-set_other}
use Rattle.std.proofs.lemmas.List.Elements.{filter-append, filter_map-append}
use Rattle.std.proofs.lemmas.List.FromFn.{fill_by_all, length-range_with_len}
use Rattle.std.proofs.lemmas.List.Sums.{sum_by-append, sum_by-cons, count_by-le-length}
use Rattle.gdi_kinds.specs.declared.pair.Pair.{Pair}
use Rattle.graph_model.specs.Walks.{least_below}
use Rattle.graph_model.proofs.Entries.{nothing}
use Rattle.graph_walks.specs.Flat.{AreMarkedWithin}
use Rattle.graph_walks.specs.Marks.{mark_at}
use Rattle.graph_walks.specs.Reached.{is_within, is_this, AreNames}
use Rattle.graph_walks.specs.Steps.{Hops, leads, steps_of, Rises, IsLeastJoined}
use Rattle.graph_walks.proofs.Bools.{same_tests}
use Rattle.graph_walks.proofs.Finding.{place-has}
use Rattle.graph_walks.proofs.Renaming.{same_place, least_named}

abbrev one_if : Bool → ℕ
one_if b = cond b 1 0

-- ---- one place more

range-last : (a n : ℕ) → range_with_len a (suc n) ≡ range_with_len a n ++ (a + n) ∷ []
range-last a zero = let same : a ≡ a + zero = omega arith in ap (λ k. k ∷ []) same
range-last a (suc n) = let same : (a + 1) + n ≡ a + suc n = omega arith in ap (λ rest. a ∷ rest) (range-last (a + 1) n) ∙ ap (λ k. a ∷ (range_with_len (a + 1) n ++ k ∷ [])) same

pub range-more : (n : ℕ) → range_with_len 0 (n + 1) ≡ range_with_len 0 n ++ n ∷ []
range-more n = let up : n + 1 ≡ suc n = omega arith in let same : 0 + n ≡ n = omega arith in ap (range_with_len 0) up ∙ range-last 0 n ∙ ap (λ k. range_with_len 0 n ++ k ∷ []) same

pub pairs-more : (f : ℕ → Option Pair) (n : ℕ) → filter_map f (range_with_len 0 (n + 1)) ≡ filter_map f (range_with_len 0 n) ++ option_to_list (f n)
pairs-more f n =
    ap (filter_map f) (range-more n) ∙ filter_map-append f (range_with_len 0 n) (n ∷ [])
    ∙ ap (λ ps. filter_map f (range_with_len 0 n) ++ ps) (elim (f n) as (λ o. Rattle.std.specs.List.cons_option o [] ≡ option_to_list o) [ Some p ↦ refl | None ↦ refl ])

pub passing-more : {X : Type 0} (g : ℕ → X) (p : ℕ → Bool) (n : ℕ) → map g (filter p (range_with_len 0 (n + 1))) ≡ map g (filter p (range_with_len 0 n)) ++ (if p n then g n ∷ [] else [])
passing-more g p n =
    ap (λ ks. map g (filter p ks)) (range-more n) ∙ ap (map g) (filter-append p (range_with_len 0 n) (n ∷ [])) ∙ map-append g (filter p (range_with_len 0 n)) (filter p (n ∷ []))
    ∙ ap (λ xs. map g (filter p (range_with_len 0 n)) ++ xs) (elim (p n) as (λ b. map g (if b then n ∷ [] else []) ≡ (if b then g n ∷ [] else [])) [ true ↦ refl | false ↦ refl ])

pub count-more : (p : ℕ → Bool) (n : ℕ) → count_by p (range_with_len 0 (n + 1)) ≡ count_by p (range_with_len 0 n) + (if p n then 1 else 0)
count-more p n =
    let last = sum_by-cons (λ (k : ℕ). cond (p k) 1 0) n [] in
    omega (arith, ap (count_by p) (range-more n), sum_by-append (λ (k : ℕ). cond (p k) 1 0) (range_with_len 0 n) (n ∷ []), last)

pub few-counted : (p : ℕ → Bool) (n : ℕ) → count_by p (range_with_len 0 n) ≤ n
few-counted p n = omega (arith, count_by-le-length p (range_with_len 0 n), length-range_with_len 0 n)

-- ---- all places

all-ids : (ids : List ℕ) → ids ≡ map (λ p. get_or ids p 0) (range_with_len 0 (length ids))
all-ids ids = fill_by_all (λ p. get_or ids p 0) ids (length ids) 0 refl (λ k below. refl)

module _ (g : ℕ → ℕ) where
  pairs-over : (f h : ℕ → Option Pair) (a n : ℕ) → ((p : ℕ) → a ≤ p → p < a + n → f p ≡ h (g p)) → filter_map f (range_with_len a n) ≡ filter_map h (map g (range_with_len a n))
  pairs-over f h a zero same = refl
  pairs-over f h a (suc n) same =
      ap (λ o. Rattle.std.specs.List.cons_option o (filter_map f (range_with_len (a + 1) n))) (same a (omega arith) (omega arith))
      ∙ ap (Rattle.std.specs.List.cons_option (h (g a))) (pairs-over f h (a + 1) n (λ p from up. same p (omega (arith, from)) (omega (arith, up))))

  passing-over : {X : Type 0} (f h : ℕ → X) (p q : ℕ → Bool) (a n : ℕ) → ((k : ℕ) → a ≤ k → k < a + n → p k ≡ q (g k)) → ((k : ℕ) → a ≤ k → k < a + n → f k ≡ h (g k)) → map f (filter p (range_with_len a n)) ≡ map h (filter q (map g (range_with_len a n)))
  passing-over f h p q a zero same also = refl
  passing-over f h p q a (suc n) same also =
      let rest = passing-over f h p q (a + 1) n (λ k from up. same k (omega (arith, from)) (omega (arith, up))) (λ k from up. also k (omega (arith, from)) (omega (arith, up))) in
      ap (λ b. map f (if b then a ∷ filter p (range_with_len (a + 1) n) else filter p (range_with_len (a + 1) n))) (same a (omega arith) (omega arith))
      ∙ elim (q (g a)) as (λ b. map f (if b then a ∷ filter p (range_with_len (a + 1) n) else filter p (range_with_len (a + 1) n)) ≡ map h (if b then g a ∷ filter q (map g (range_with_len (a + 1) n)) else filter q (map g (range_with_len (a + 1) n)))) [
        | true ↦ ap (λ x. x ∷ map f (filter p (range_with_len (a + 1) n))) (also a (omega arith) (omega arith)) ∙ ap (λ xs. h (g a) ∷ xs) rest
        | false ↦ rest
      ]

  count-over : (p q : ℕ → Bool) (a n : ℕ) → ((k : ℕ) → a ≤ k → k < a + n → p k ≡ q (g k)) → count_by p (range_with_len a n) ≡ count_by q (map g (range_with_len a n))
  count-over p q a zero same = refl
  count-over p q a (suc n) same =
      omega (
        arith,
        count-over p q (a + 1) n (λ k from up. same k (omega (arith, from)) (omega (arith, up))),
        ap one_if (same a (omega arith) (omega arith)),
        sum_by-cons (λ (k : ℕ). cond (p k) 1 0) a (range_with_len (a + 1) n),
        sum_by-cons (λ (k : ℕ). cond (q k) 1 0) (g a) (map g (range_with_len (a + 1) n)),
      )

module _ (ids : List ℕ) where
  pub pairs-by-place : (f h : ℕ → Option Pair) → ((p : ℕ) → p < length ids → f p ≡ h (get_or ids p 0)) → filter_map f (range_with_len 0 (length ids)) ≡ filter_map h ids
  pairs-by-place f h same = pairs-over (λ p. get_or ids p 0) f h 0 (length ids) (λ p from up. same p (omega (arith, up))) ∙ ap (filter_map h) (sym (all-ids ids))

  pub ids-by-place : (p q : ℕ → Bool) → ((k : ℕ) → k < length ids → p k ≡ q (get_or ids k 0)) → map (λ k. get_or ids k 0) (filter p (range_with_len 0 (length ids))) ≡ filter q ids
  ids-by-place p q same =
      passing-over (λ k. get_or ids k 0) (λ k. get_or ids k 0) (λ (j : ℕ). j) p q 0 (length ids) (λ k from up. same k (omega (arith, up))) (λ k from up. refl)
      ∙ ap (λ js. map (λ (j : ℕ). j) (filter q js)) (sym (all-ids ids)) ∙ map-id (filter q ids)

  pub parts-by-place : (f h : ℕ → Pair) (p q : ℕ → Bool) → ((k : ℕ) → k < length ids → p k ≡ q (get_or ids k 0)) → ((k : ℕ) → k < length ids → f k ≡ h (get_or ids k 0))
      → map f (filter p (range_with_len 0 (length ids))) ≡ map h (filter q ids)
  parts-by-place f h p q same also =
      passing-over (λ k. get_or ids k 0) f h p q 0 (length ids) (λ k from up. same k (omega (arith, up))) (λ k from up. also k (omega (arith, up))) ∙ ap (λ js. map h (filter q js)) (sym (all-ids ids))

  pub count-by-place : (p q : ℕ → Bool) → ((k : ℕ) → k < length ids → p k ≡ q (get_or ids k 0)) → count_by p (range_with_len 0 (length ids)) ≡ count_by q ids
  count-by-place p q same = count-over (λ k. get_or ids k 0) p q 0 (length ids) (λ k from up. same k (omega (arith, up))) ∙ ap (count_by q) (sym (all-ids ids))

-- ---- counts of marks

pub raised : (sizes : List ℕ) (place : ℕ) → place < length sizes → (v : ℕ) → v ≡ get_or sizes place 0 + 1 → (p : ℕ) → get_or (set sizes place v) p 0 ≡ get_or sizes p 0 + (if is_this p (Some place) then 1 else 0)
raised sizes place inside v up p =
    elim (cases_eq p place) [
      | inl same ↦
          let there = ap (λ k. get_or (set sizes place v) k 0) same in
          let was = ap (λ k. get_or sizes k 0) same in
          omega (arith, there, was, up, get_or-set_same sizes place v 0 inside, ap one_if (eq-eqb place p (sym same)))
      | inr differs ↦ omega (arith, get_or-set_other sizes place p v 0 differs, ap one_if (ne_eqb place p (λ same. differs (sym same))))
    ]

pub marked-within : (n : ℕ) (steps : List (ℕ × ℕ)) (marks : List (Option ℕ)) → length marks ≡ n → ((j : ℕ) → j < n → IsSomeAnd (mark_at marks j) (IsLeastJoined steps j)) → AreMarkedWithin (length marks) marks
marked-within n steps marks long each = λ p q is.
    elim (cases_lt p (length marks)) [
      | inl below ↦
          let least : IsLeastJoined steps p q = subst (λ o. IsSomeAnd o (IsLeastJoined steps p)) is (each p (omega (arith, below, long))) in
          let up = least.least p 0 (eq-eqb p p refl) in
          omega (arith, up, below)
      | inr above ↦ nothing q (sym (get_or_past marks p None above) ∙ is)
    ]

module _ (h : Hops) (rises : Rises h.ids) (within : (i t : ℕ) → leads h.hops i t ≡ true → (i < length h.ids) × (t < length h.ids)) (marks : List (Option ℕ))
    (each : (j : ℕ) → j < length h.ids → IsSomeAnd (mark_at marks j) (IsLeastJoined h.hops j)) (name : ℕ → ℕ) (are : AreNames (steps_of h) h.ids name) where
  abbrev id : ℕ → ℕ
  id p = get_or h.ids p 0

  pub same_name : (p q : ℕ) → p < length h.ids → q < length h.ids → is_this q (mark_at marks p) ≡ (name (id p) == id q)
  same_name p q below inside =
      elim (mark_at marks p) as (λ o. IsSomeAnd o (IsLeastJoined h.hops p) → is_this q o ≡ (name (id p) == id q)) [
        | None ↦ λ wrong. absurd wrong
        | Some k ↦ λ least.
            let mine = least_named h rises within p k below least in
            let other = are (id p) (place-has h.ids p (id p) below refl) in
            let walk = other.joined in
            let my_walk = mine.1.joined in
            let one = mine.1.least (name (id p)) walk.0 walk.1 in
            let two = other.least (id k) my_walk.0 my_walk.1 in
            let equal : name (id p) ≡ id k = omega (arith, one, two) in
            same_tests _ _ (λ same. eq-eqb _ _ (equal ∙ ap id (eqb-true k q same)))
            (λ same. eq-eqb k q (same_place h rises within k q mine.0 inside (sym equal ∙ eqb-true (name (id p)) (id q) same)))
      ] (each p below)

-- ---- levels up to a depth

module _ (p : ℕ → Bool) (depth : ℕ) where
  deeper : (n : ℕ) → depth < n → is_within depth (least_below p (suc n)) ≡ is_within depth (least_below p n)
  deeper n deep =
      ap (is_within depth) (Rattle.graph_walks.proofs.Fronts.least-more p n)
      ∙ elim (least_below p n) as (λ o. is_within depth (option_or o (if p n then Some n else None)) ≡ is_within depth o) [
        | Some m ↦ refl
        | None ↦ elim (p n) as (λ b. is_within depth (option_or None (if b then Some n else None)) ≡ false) [
          | true ↦ Rattle.std.proofs.lemmas.Bool.lt-leb n depth deep
          | false ↦ refl
        ]
      ]

  far : (k : ℕ) → is_within depth (least_below p (k + (depth + 1))) ≡ is_within depth (least_below p (depth + 1))
  far zero = let sum : zero + (depth + 1) ≡ depth + 1 = omega arith in ap (λ n. is_within depth (least_below p n)) sum
  far (suc k) =
      let sum : suc k + (depth + 1) ≡ suc (k + (depth + 1)) = omega arith in
      ap (λ n. is_within depth (least_below p n)) sum ∙ deeper (k + (depth + 1)) (omega arith) ∙ far k

  pub within_depth : (count : ℕ) → is_within depth (least_below p (if nat_lt depth count then depth + 1 else count)) ≡ is_within depth (least_below p count)
  within_depth count =
      elim (nat_lt depth count) as (λ b. nat_lt depth count ≡ b → is_within depth (least_below p (if b then depth + 1 else count)) ≡ is_within depth (least_below p count)) [
        | true ↦ λ below.
            let less : depth < count = Rattle.std.proofs.lemmas.Bool.ltb-true depth count below in
            let sum : Rattle.std.proofs.Common.◌-◌ count (depth + 1) + (depth + 1) ≡ count = omega (arith, less) in
            sym (far (Rattle.std.proofs.Common.◌-◌ count (depth + 1))) ∙ ap (λ n. is_within depth (least_below p n)) sum
        | false ↦ λ _. refl
      ] refl

pub some_bound : (depth count bound : ℕ) → 1 ≤ count → bound ≡ (if nat_lt depth count then depth + 1 else count) → 1 ≤ bound
some_bound depth count bound some is =
    elim (nat_lt depth count) as (λ b. bound ≡ (if b then depth + 1 else count) → 1 ≤ bound) [
      | true ↦ λ one. omega (arith, one)
      | false ↦ λ all. omega (arith, all, some)
    ] is
