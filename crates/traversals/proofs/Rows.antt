-- Rows one behind the other: what one more is, and where each stands.
use Rattle.std.proofs.Common.{◌≡◌, ℕ, zero, suc, ◌+◌, ◌-◌, ◌<◌, ◌≤◌, List, [], ◌∷◌, ◌++◌, length, get_or, take, drop, Some, refl, ap, ◌∙◌, arith}
use Rattle.std.specs.List.{slice_get, slice_range}
use Rattle.std.proofs.lemmas.List.{length-drop, drop-append-le, take-append-le, take_all}
use Rattle.std.proofs.Math.Seq.{drop-append_seam}
use Rattle.traversals.specs.Rows.{rows_from, start_from, AreEnds}

pub ends-within : (start : ℕ) (stops : List ℕ) (whole : ℕ) → AreEnds start stops whole → start ≤ whole
ends-within start [] whole is = omega (arith, is)
ends-within start (stop ∷ stops) whole are = omega (arith, are.0, ends-within stop stops whole are.1)

pub rows-length : (start : ℕ) (stops numbers : List ℕ) → length (rows_from start stops numbers) ≡ length stops
rows-length start [] numbers = refl
rows-length start (stop ∷ stops) numbers = ap suc (rows-length stop stops numbers)

-- ---- a row more

range-kept : (numbers more : List ℕ) (a b : ℕ) → a ≤ b → b ≤ length numbers → slice_range (numbers ++ more) a b ≡ slice_range numbers a b
range-kept numbers more a b up within =
    ap (take (b - a)) (drop-append-le a numbers more (omega (arith, up, within)))
    ∙ take-append-le (b - a) (drop a numbers) more (omega (arith, length-drop a numbers, up, within))

range-new : (numbers more : List ℕ) → slice_range (numbers ++ more) (length numbers) (length numbers + length more) ≡ more
range-new numbers more =
    ap (take ((length numbers + length more) - length numbers)) (drop-append_seam numbers more)
    ∙ take_all ((length numbers + length more) - length numbers) more (omega arith)

pub row-more : (start : ℕ) (stops numbers more : List ℕ) → AreEnds start stops (length numbers) → rows_from start (stops ++ (length numbers + length more) ∷ []) (numbers ++ more) ≡ rows_from start stops numbers ++ more ∷ []
row-more start [] numbers more is =
    ap (λ (a : ℕ). slice_range (numbers ++ more) a (length numbers + length more) ∷ []) is ∙ ap (λ (row : List ℕ). row ∷ []) (range-new numbers more)
row-more start (stop ∷ stops) numbers more are =
    ap (λ (row : List ℕ). row ∷ rows_from stop (stops ++ (length numbers + length more) ∷ []) (numbers ++ more)) (range-kept numbers more start stop are.0 (ends-within stop stops (length numbers) are.1))
    ∙ ap (λ (rows : List (List ℕ)). slice_range numbers start stop ∷ rows) (row-more stop stops numbers more are.1)

pub ends-more : (start : ℕ) (stops : List ℕ) (whole more : ℕ) → AreEnds start stops whole → AreEnds start (stops ++ (whole + more) ∷ []) (whole + more)
ends-more start [] whole more is = (omega (arith, is), refl)
ends-more start (stop ∷ stops) whole more are = (are.0, ends-more stop stops whole more are.1)

-- ---- the row of a place

pub start-behind : (start : ℕ) (stops : List ℕ) (place : ℕ) → place < length stops → start_from start stops (suc place) ≡ get_or stops place 0
start-behind start [] place below = absurd (omega (arith, below))
start-behind start (stop ∷ stops) zero below = refl
start-behind start (stop ∷ stops) (suc place) below = start-behind stop stops place (omega (arith, below))

pub row-there : (start : ℕ) (stops numbers : List ℕ) (place : ℕ) → place < length stops
    → slice_get (rows_from start stops numbers) place ≡ Some (slice_range numbers (start_from start stops place) (get_or stops place 0))
row-there start [] numbers place below = absurd (omega (arith, below))
row-there start (stop ∷ stops) numbers zero below = refl
row-there start (stop ∷ stops) numbers (suc place) below = row-there stop stops numbers place (omega (arith, below))

pub row-within : (start : ℕ) (stops : List ℕ) (whole place : ℕ) → AreEnds start stops whole → place < length stops
    → (start_from start stops place ≤ get_or stops place 0) × (get_or stops place 0 ≤ whole)
row-within start [] whole place are below = absurd (omega (arith, below))
row-within start (stop ∷ stops) whole zero are below = (are.0, ends-within stop stops whole are.1)
row-within start (stop ∷ stops) whole (suc place) are below = row-within stop stops whole place are.1 (omega (arith, below))
