-- Bytes that are read from words are spelled so, and bytes that are spelled so are read.
use Rattle.std.proofs.Common.{◌≡◌, ℕ, zero, suc, ◌+◌, ◌-◌, ◌*◌, ◌<◌, ◌≤◌, min, Bool, true, false, cond, eqb, ltb, List, [], ◌∷◌, ◌++◌, length, take, drop, get_or, replicate, Option, Some, None, refl, sym, ap, subst, ◌∙◌, append_assoc, arith, inl, inr}
use Rattle.std.specs.Int.{w64, to_le_bytes, from_le_bytes}
use Rattle.std.proofs.lemmas.Bool.{cases_lt, eqb-true, eq-eqb, and_parts, and_from, ltb-false, le-ltb}
use Rattle.std.proofs.lemmas.List.{get_or-take, get_or-drop, get_or_past, get_or_append_left, get_or-append_right, get_or-append-add, length-take, length-drop, length-append, length-take-le, take_at, drop_at, take-append-drop, take_min, drop_min, append-nil, nil_from_length}
use Rattle.std.proofs.lemmas.List.Concat.{flat_map-cons}
use Rattle.std.proofs.lemmas.Grind.{same_number_lists}
use Rattle.std.proofs.lemmas.Nat.{le_bytes_8, from_le_bytes-to_le_bytes_8}
use Rattle.graph_model.specs.Sizes.{words_of_bytes}
use Rattle.holder_codec.specs.Reading.{IsWords, bytes_of, are_zero, bytes_at}
use Rattle.holder_codec.specs.Texts.{words_from, byte_words}
use Rattle.holder_codec.proofs.ReadLaws.{guard_some}

abbrev pub IsBytes : List ℕ → Type 0
IsBytes bytes = (i : ℕ) → get_or bytes i 0 < 256

-- no byte from a place on is more than 0
abbrev pub IsZeroFrom : ℕ → List ℕ → Type 0
IsZeroFrom n bytes = (i : ℕ) → n ≤ i → get_or bytes i 0 ≡ 0

-- ---- one word

-- the first 8 bytes, 0 where there is none
abbrev eight : List ℕ → List ℕ
eight bs = get_or bs 0 0 ∷ get_or bs 1 0 ∷ get_or bs 2 0 ∷ get_or bs 3 0 ∷ get_or bs 4 0 ∷ get_or bs 5 0 ∷ get_or bs 6 0 ∷ get_or bs 7 0 ∷ []

eight_fits : (bs : List ℕ) → IsBytes bs → IsBytes (eight bs)
eight_fits bs fits zero = fits 0
eight_fits bs fits (suc zero) = fits 1
eight_fits bs fits (suc (suc zero)) = fits 2
eight_fits bs fits (suc (suc (suc zero))) = fits 3
eight_fits bs fits (suc (suc (suc (suc zero)))) = fits 4
eight_fits bs fits (suc (suc (suc (suc (suc zero))))) = fits 5
eight_fits bs fits (suc (suc (suc (suc (suc (suc zero)))))) = fits 6
eight_fits bs fits (suc (suc (suc (suc (suc (suc (suc zero))))))) = fits 7
eight_fits bs fits (suc (suc (suc (suc (suc (suc (suc (suc i)))))))) = omega arith

eight_at : (bs : List ℕ) (i : ℕ) → i < 8 → get_or (eight bs) i 0 ≡ get_or bs i 0
eight_at bs zero lt = refl
eight_at bs (suc zero) lt = refl
eight_at bs (suc (suc zero)) lt = refl
eight_at bs (suc (suc (suc zero))) lt = refl
eight_at bs (suc (suc (suc (suc zero)))) lt = refl
eight_at bs (suc (suc (suc (suc (suc zero))))) lt = refl
eight_at bs (suc (suc (suc (suc (suc (suc zero)))))) lt = refl
eight_at bs (suc (suc (suc (suc (suc (suc (suc zero))))))) lt = refl
eight_at bs (suc (suc (suc (suc (suc (suc (suc (suc i)))))))) lt = absurd (omega arith)

-- a word is told by the first 8 bytes
pub from_le_same : (xs ys : List ℕ) → ((i : ℕ) → i < 8 → get_or xs i 0 ≡ get_or ys i 0) → from_le_bytes w64 xs ≡ from_le_bytes w64 ys
from_le_same xs ys same =
    rw (same 0 (omega arith), same 1 (omega arith), same 2 (omega arith), same 3 (omega arith), same 4 (omega arith), same 5 (omega arith), same 6 (omega arith), same 7 (omega arith)) refl

pub to_le_from_le : (bs : List ℕ) (i : ℕ) → IsBytes bs → i < 8 → get_or (to_le_bytes w64 (from_le_bytes w64 bs)) i 0 ≡ get_or bs i 0
to_le_from_le bs i fits lt =
    ap (λ (x : List ℕ). get_or x i 0) (le_bytes_8 (eight bs) (from_le_bytes w64 bs) refl (eight_fits bs fits) refl) ∙ eight_at bs i lt

-- ---- bytes behind others

abbrev zeros_of : ℕ → List ℕ
zeros_of n = replicate n 0

get_or-zeros : (n i : ℕ) → get_or (zeros_of n) i 0 ≡ 0
get_or-zeros zero i = refl
get_or-zeros (suc n) zero = refl
get_or-zeros (suc n) (suc i) = get_or-zeros n i

get_or-before : (bs zeros : List ℕ) (i : ℕ) → ((j : ℕ) → get_or zeros j 0 ≡ 0) → get_or (bs ++ zeros) i 0 ≡ get_or bs i 0
get_or-before [] zeros i none = none i
get_or-before (b ∷ bs) zeros zero none = refl
get_or-before (b ∷ bs) zeros (suc i) none = get_or-before bs zeros i none

-- what a field of 8 bytes gives that bytes were copied into
pub field_word : (bs : List ℕ) → from_le_bytes w64 (bs ++ drop (length bs) (replicate 8 0)) ≡ from_le_bytes w64 bs
field_word bs = from_le_same _ bs (λ i lt. get_or-before bs (drop (length bs) (replicate 8 0)) i (λ j. rw get_or-drop (get_or-zeros 8 (length bs + j))))

-- ---- words that bytes were put into

pub length-words_from : (n : ℕ) (bytes : List ℕ) → length (words_from n bytes) ≡ n
unfolding words_from
length-words_from zero bytes = refl
length-words_from (suc n) bytes = ap suc (length-words_from n (drop 8 bytes))

pub length-bytes_of : (words : List ℕ) → length (bytes_of words) ≡ 8 * length words
length-bytes_of [] = refl
length-bytes_of (w ∷ ws) = omega (arith, ap length (flat_map-cons (to_le_bytes w64) w ws), length-append (to_le_bytes w64 w) (bytes_of ws), length-bytes_of ws)

IsBytes-drop : (n : ℕ) (bytes : List ℕ) → IsBytes bytes → IsBytes (drop n bytes)
IsBytes-drop n bytes fits i = rw get_or-drop (fits (n + i))

IsBytes-take : (n : ℕ) (bytes : List ℕ) → IsBytes bytes → IsBytes (take n bytes)
IsBytes-take n bytes fits i =
    elim (cases_lt i n) [
      | inl lt ↦ rw (get_or-take n bytes i 0 lt) (fits i)
      | inr le ↦ rw (get_or_past (take n bytes) i 0 (omega (arith, length-take n bytes))) (omega arith)
    ]

-- the bytes of the words are those bytes again
pub bytes_of_words_from : (n : ℕ) (bytes : List ℕ) (i : ℕ) → IsBytes bytes → i < 8 * n → get_or (bytes_of (words_from n bytes)) i 0 ≡ get_or bytes i 0
unfolding words_from
bytes_of_words_from zero bytes i fits lt = absurd (omega arith)
bytes_of_words_from (suc n) bytes i fits lt =
    let word = from_le_bytes w64 (take 8 bytes) in
    let rest = bytes_of (words_from n (drop 8 bytes)) in
    elim (cases_lt i 8) [
      | inl low ↦ get_or_append_left (to_le_bytes w64 word) rest 0 i low ∙ to_le_from_le (take 8 bytes) i (IsBytes-take 8 bytes fits) low ∙ get_or-take 8 bytes i 0 low
      | inr high ↦ get_or-append_right (to_le_bytes w64 word) rest 8 i 0 refl high ∙ bytes_of_words_from n (drop 8 bytes) (i - 8) (IsBytes-drop 8 bytes fits) (omega arith) ∙ get_or-drop 8 bytes (i - 8) 0 ∙ ap (λ (k : ℕ). get_or bytes k 0) (omega arith)
    ]

-- ---- bytes that words were made of

take_zeros : (n : ℕ) (bytes : List ℕ) (i : ℕ) → IsZeroFrom n bytes → get_or (take n bytes) i 0 ≡ get_or bytes i 0
take_zeros n bytes i zeros =
    elim (cases_lt i n) [
      | inl lt ↦ get_or-take n bytes i 0 lt
      | inr le ↦ get_or_past (take n bytes) i 0 (omega (arith, length-take n bytes)) ∙ sym (zeros i le)
    ]

take_nil : (k : ℕ) → take k (zeros_of 0) ≡ []
take_nil zero = refl
take_nil (suc k) = refl

drop_take : (n m : ℕ) (bytes : List ℕ) → drop n (take m bytes) ≡ take (m - n) (drop n bytes)
drop_take zero m bytes = let e : m ≡ m - 0 = omega arith in ap (λ (k : ℕ). take k bytes) e
drop_take (suc n) zero bytes = let e : 0 ≡ 0 - suc n = omega arith in ap (λ (k : ℕ). take k (drop (suc n) bytes)) e
drop_take (suc n) (suc m) [] = sym (take_nil (suc m - suc n))
drop_take (suc n) (suc m) (b ∷ bytes) = let e : m - n ≡ suc m - suc n = omega arith in drop_take n m bytes ∙ ap (λ (k : ℕ). take k (drop n bytes)) e

words_from_bytes_of : (words : List ℕ) (n : ℕ) → IsWords words → IsZeroFrom n (bytes_of words) → words_from (length words) (take n (bytes_of words)) ≡ words
unfolding words_from
words_from_bytes_of [] n fits zeros = refl
words_from_bytes_of (w ∷ ws) n fits zeros =
    let bytes = bytes_of (w ∷ ws) in
    let head : from_le_bytes w64 (take 8 (take n bytes)) ≡ w =
    from_le_same (take 8 (take n bytes)) (to_le_bytes w64 w) (λ i lt. get_or-take 8 (take n bytes) i 0 lt ∙ take_zeros n bytes i zeros ∙ get_or_append_left (to_le_bytes w64 w) (bytes_of ws) 0 i lt) ∙ from_le_bytes-to_le_bytes_8 w (fits 0) in
    let below : IsZeroFrom (n - 8) (bytes_of ws) = λ i le. sym (get_or-append-add (to_le_bytes w64 w) (bytes_of ws) i 0) ∙ zeros (8 + i) (omega arith) in
    let tail : words_from (length ws) (drop 8 (take n bytes)) ≡ ws = ap (words_from (length ws)) (drop_take 8 n bytes) ∙ words_from_bytes_of ws (n - 8) (λ i. fits (suc i)) below in
    cc

-- ---- tests

are_zero_at : (bytes : List ℕ) (i : ℕ) → are_zero bytes ≡ true → get_or bytes i 0 ≡ 0
are_zero_at [] i all = refl
are_zero_at (b ∷ bytes) zero all = eqb-true b 0 (and_parts (eqb b 0) (are_zero bytes) all).0
are_zero_at (b ∷ bytes) (suc i) all = are_zero_at bytes i (and_parts (eqb b 0) (are_zero bytes) all).1

are_zero_from : (bytes : List ℕ) → ((i : ℕ) → get_or bytes i 0 ≡ 0) → are_zero bytes ≡ true
are_zero_from [] none = refl
are_zero_from (b ∷ bytes) none = and_from (eqb b 0) (are_zero bytes) (eq-eqb b 0 (none 0)) (are_zero_from bytes (λ i. none (suc i)))

-- ---- the two laws

none_some : {A : Type 0} (b : Bool) (o : Option A) (y : A) → cond b None o ≡ Some y → (b ≡ false) × (o ≡ Some y)
none_some true o y e = absurd cc
none_some false o y e = (refl, e)

pub bytes_takes : (n : ℕ) (words : List ℕ) (x : List ℕ × List ℕ) → IsWords words → bytes_at n words ≡ Some x → (words ≡ byte_words x.0 ++ x.1) × (length x.0 ≡ n)
unfolding bytes_at
bytes_takes n words x fits e =
    let count = words_of_bytes n in
    let front = take count words in
    let bytes = take n (bytes_of front) in
    let a = none_some (ltb (length words) count) (cond (are_zero (drop n (bytes_of front))) (Some (bytes, drop count words)) None) x e in
    let g = guard_some (are_zero (drop n (bytes_of front))) (bytes, drop count words) x a.1 in
    let long : count ≤ length words = ltb-false _ _ a.0 in
    let whole : length front ≡ count = length-take-le count words long in
    let len : length bytes ≡ n = omega (arith, length-take n (bytes_of front), length-bytes_of front) in
    let zeros : IsZeroFrom n (bytes_of front) = λ i le. ap (λ (k : ℕ). get_or (bytes_of front) k 0) (omega arith) ∙ sym (get_or-drop n (bytes_of front) (i - n) 0) ∙ are_zero_at (drop n (bytes_of front)) (i - n) g.0 in
    let front_fits : IsWords front = λ i. elim (cases_lt i count) [ inl lt ↦ rw (get_or-take count words i 0 lt) (fits i) | inr le ↦ rw (get_or_past front i 0 (omega arith)) (omega arith) ] in
    let same : byte_words bytes ≡ front = ap (λ (k : ℕ). words_from (words_of_bytes k) bytes) len ∙ ap (λ (k : ℕ). words_from k bytes) (sym whole) ∙ words_from_bytes_of front n front_fits zeros in
    let parts : words ≡ byte_words bytes ++ drop count words = sym (take-append-drop count words) ∙ ap (λ (f : List ℕ). f ++ drop count words) (sym same) in
    subst (λ (y : List ℕ × List ℕ). (words ≡ byte_words y.0 ++ y.1) × (length y.0 ≡ n)) g.1 (parts, len)

pub bytes_again : (bytes rest : List ℕ) → IsBytes bytes → bytes_at (length bytes) (byte_words bytes ++ rest) ≡ Some (bytes, rest)
unfolding bytes_at
bytes_again bytes rest fits =
    let n = length bytes in
    let count = words_of_bytes n in
    let words = byte_words bytes in
    let whole : length words ≡ count = length-words_from count bytes in
    let long : ltb (length (words ++ rest)) count ≡ false = le-ltb _ _ (omega (arith, length-append words rest)) in
    let all : length (bytes_of words) ≡ 8 * count = length-bytes_of words ∙ ap (λ (k : ℕ). 8 * k) whole in
    let enough : n ≤ 8 * count = omega arith in
    let front : take n (bytes_of words) ≡ bytes = same_number_lists (take n (bytes_of words)) bytes (length-take-le n (bytes_of words) (omega arith)) (λ k lt. get_or-take n (bytes_of words) k 0 (omega (arith, length-take n (bytes_of words))) ∙ bytes_of_words_from count bytes k fits (omega (arith, length-take n (bytes_of words)))) in
    let past : (i : ℕ) → get_or (drop n (bytes_of words)) i 0 ≡ 0 = λ i. get_or-drop n (bytes_of words) i 0 ∙ elim (cases_lt (n + i) (8 * count)) [
      | inl lt ↦ bytes_of_words_from count bytes (n + i) fits lt ∙ get_or_past bytes (n + i) 0 (omega arith)
      | inr le ↦ get_or_past (bytes_of words) (n + i) 0 (omega arith)
    ] in
    let zeros : are_zero (drop n (bytes_of words)) ≡ true = are_zero_from (drop n (bytes_of words)) past in
    rw (long, take_at words rest count whole, drop_at words rest count whole, zeros, front) refl

-- ---- for the loops

-- the word of the first 8 bytes, and those of the others
pub byte_words_step : (bytes : List ℕ) (n : ℕ) → n ≡ min (length bytes) 8 → 0 < length bytes → byte_words bytes ≡ from_le_bytes w64 (take n bytes) ∷ byte_words (drop n bytes)
unfolding words_from
byte_words_step bytes n is more =
    let n-is : n ≡ min 8 (length bytes) = omega arith in
    let front : take n bytes ≡ take 8 bytes = rw n-is (take_min 8 bytes) in
    let back : drop n bytes ≡ drop 8 bytes = rw n-is (drop_min 8 bytes) in
    let count : words_of_bytes (length bytes) ≡ suc (words_of_bytes (length (drop 8 bytes))) = omega (arith, length-drop 8 bytes) in
    rw (front, back, count) refl

pub goes_on : (out rest total : List ℕ) (n word : ℕ) → n ≡ min (length rest) 8 → 0 < length rest → word ≡ from_le_bytes w64 (take n rest)
    → out ++ byte_words rest ≡ total → (out ++ word ∷ []) ++ byte_words (drop n rest) ≡ total
goes_on out rest total n word is more word_is so_far =
    let step : word ∷ byte_words (drop n rest) ≡ byte_words rest = rw word_is (sym (byte_words_step rest n is more)) in
    append_assoc out (word ∷ []) (byte_words (drop n rest)) ∙ ap (λ (t : List ℕ). out ++ t) step ∙ so_far

pub is_done : (out rest total : List ℕ) → length rest ≡ 0 → out ++ byte_words rest ≡ total → out ≡ total
unfolding words_from
is_done out rest total none so_far =
    let nothing : rest ≡ [] = nil_from_length rest none in
    sym (append-nil out) ∙ ap (λ (t : List ℕ). out ++ byte_words t) (sym nothing) ∙ so_far
