-- Lists over the numbers from 0 on, with a number more.
use Rattle.std.proofs.Common.{◌≡◌, ℕ, zero, suc, ◌%◌, ◌==◌, ◌+◌, ◌<◌, Bool, true, false, cond, List, [], ◌∷◌, ◌++◌, map, flat_map, filter, refl, ap, ◌∙◌, sym, arith, Some, slice_get, length}
use Rattle.std.specs.List.{range_with_len}
use Rattle.std.proofs.lemmas.Grind.{flat_map-append}
use Rattle.std.proofs.lemmas.List.{map-append, append-nil}
use Rattle.std.proofs.lemmas.List.FromFn.{map-range_with_len_more, length-map-range_with_len}
use Rattle.std.proofs.lemmas.List.Elements.{filter-append}
use Rattle.drill.specs.Draws.{state_after, next_state, drawn}

pub one_more : (k : ℕ) → suc k ≡ k + 1
one_more k = omega arith

pub state_more : (seed k : ℕ) → state_after seed (k + 1) ≡ next_state (state_after seed k)
state_more seed k = ap (state_after seed) (sym (one_more k))

same : (xs : List ℕ) → map (λ i. i) xs ≡ xs
same [] = refl
same (x ∷ xs) = ap (λ l. x ∷ l) (same xs)

range_more : (n : ℕ) → range_with_len 0 (n + 1) ≡ range_with_len 0 n ++ n ∷ []
range_more n = sym (same (range_with_len 0 (n + 1))) ∙ map-range_with_len_more (λ i. i) 0 n n (omega arith) ∙ ap (λ l. l ++ n ∷ []) (same (range_with_len 0 n))

pub map_more : {X : Type 0} (f : ℕ → X) (n : ℕ) → map f (range_with_len 0 (n + 1)) ≡ map f (range_with_len 0 n) ++ f n ∷ []
map_more f n = map-range_with_len_more f 0 n n (omega arith)

pub flat_map_more : {X : Type 0} (f : ℕ → List X) (n : ℕ) → flat_map f (range_with_len 0 (n + 1)) ≡ flat_map f (range_with_len 0 n) ++ f n
flat_map_more f n = ap (flat_map f) (range_more n) ∙ flat_map-append f (range_with_len 0 n) (n ∷ []) ∙ ap (λ l. flat_map f (range_with_len 0 n) ++ l) (append-nil (f n))

pub filter_more : (p : ℕ → Bool) (n : ℕ) → filter p (range_with_len 0 (n + 1)) ≡ filter p (range_with_len 0 n) ++ cond (p n) (n ∷ []) []
filter_more p n = ap (filter p) (range_more n) ∙ filter-append p (range_with_len 0 n) (n ∷ [])

-- one that comes in its turn, round eight
pub passes_more : {X : Type 0} (f : ℕ → X) (s n : ℕ) → n % 8 == s ≡ true
    → map f (filter (λ i. i % 8 == s) (range_with_len 0 (n + 1))) ≡ map f (filter (λ i. i % 8 == s) (range_with_len 0 n)) ++ f n ∷ []
passes_more f s n e =
    ap (map f) (filter_more (λ i. i % 8 == s) n ∙ ap (λ b. filter (λ i. i % 8 == s) (range_with_len 0 n) ++ cond b (n ∷ []) []) e)
    ∙ map-append f (filter (λ i. i % 8 == s) (range_with_len 0 n)) (n ∷ [])

-- one that doesn't
pub fails_more : {X : Type 0} (f : ℕ → X) (s n : ℕ) → n % 8 == s ≡ false
    → map f (filter (λ i. i % 8 == s) (range_with_len 0 (n + 1))) ≡ map f (filter (λ i. i % 8 == s) (range_with_len 0 n))
fails_more f s n e =
    ap (map f)
    (filter_more (λ i. i % 8 == s) n
    ∙ ap (λ b. filter (λ i. i % 8 == s) (range_with_len 0 n) ++ cond b (n ∷ []) []) e
    ∙ append-nil (filter (λ i. i % 8 == s) (range_with_len 0 n)))

-- one of the list, and how long it is
at_from : {X : Type 0} (f : ℕ → X) (a n k : ℕ) → k < n → slice_get (map f (range_with_len a n)) k ≡ Some (f (a + k))
at_from f a zero k lt = absurd (omega arith)
at_from f a (suc n) zero lt = let e : a ≡ a + 0 = omega arith in ap (λ i. Some (f i)) e
at_from f a (suc n) (suc k) lt = let e : (a + 1) + k ≡ a + suc k = omega arith in at_from f (a + 1) n k (omega arith) ∙ ap (λ i. Some (f i)) e

pub at_number : {X : Type 0} (f : ℕ → X) (n k : ℕ) → k < n → slice_get (map f (range_with_len 0 n)) k ≡ Some (f k)
at_number f n k lt = let e : 0 + k ≡ k = omega arith in at_from f 0 n k lt ∙ ap (λ i. Some (f i)) e

pub how_many : {X : Type 0} (f : ℕ → X) (n : ℕ) → length (map f (range_with_len 0 n)) ≡ n
how_many f n = length-map-range_with_len f 0 n

-- the first draw behind an even number of them, and the second
pub first_drawn : (seed n k x : ℕ) → x ≡ state_after seed k → next_state x % n ≡ drawn seed n k
first_drawn seed n k x e = ap (λ y. next_state y % n) e ∙ ap (λ y. y % n) (sym (state_more seed k))

pub drawn_on : (seed k x : ℕ) → x ≡ state_after seed k → next_state x ≡ state_after seed (k + 1)
drawn_on seed k x e = ap next_state e ∙ sym (state_more seed k)
