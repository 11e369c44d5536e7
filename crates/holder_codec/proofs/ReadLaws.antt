-- What is read is spelled so, and what is spelled so is read: for numbers, pointers, and lists of what has these two laws.
use Rattle.std.proofs.Common.{◌≡◌, ℕ, zero, suc, ◌+◌, ◌^◌, ◌<◌, Bool, true, false, cond, List, [], ◌∷◌, ◌++◌, length, get_or, Option, Some, None, refl, sym, ap, subst, ◌∙◌, append_assoc, arith}
use Rattle.std.specs.Prelude.{IsTrue}
use Rattle.std.specs.List.{flat_map, AllByRecursion}
use Rattle.std.proofs.lemmas.List.{get_or-append-add}
use Rattle.std.proofs.lemmas.List.Concat.{flat_map-cons}
use Rattle.std.proofs.lemmas.Nat.{shr_split, shr_high, mod_low, shr_below, mod_below}
use Rattle.rma_layout.specs.Placement.{Place, raw_of, FitsOneWord}
use Rattle.object_words.specs.Chains.{place_of}
use Rattle.holder_codec.specs.Order.{is_rising}
use Rattle.holder_codec.specs.Reading.{IsWords, ◌>>=◌, number_at, place_at, many_at, rising_at}

pub IsWords-rest : (words front rest : List ℕ) → words ≡ front ++ rest → IsWords words → IsWords rest
IsWords-rest words front rest parts fits i =
    let at : get_or words (length front + i) 0 ≡ get_or rest i 0 = rw parts (get_or-append-add front rest i 0) in
    rw (← at) (fits (length front + i))

-- the value of a step that found one
pub bind_some : {A B : Type 0} (o : Option A) (f : A → Option B) (y : B) → (o >>= f) ≡ Some y → (x : A) × (o ≡ Some x) × (f x ≡ Some y)
bind_some (Some x) f y e = (x, refl, e)
bind_some None f y e = absurd cc

-- the same, handed on
pub bind_then : {A B P : Type 0} (o : Option A) (f : A → Option B) (y : B) → (o >>= f) ≡ Some y → ((x : A) → o ≡ Some x → f x ≡ Some y → P) → P
bind_then (Some x) f y e goes_on = goes_on x refl e
bind_then None f y e goes_on = absurd cc

pub guard_some : {A : Type 0} (b : Bool) (x y : A) → cond b (Some x) None ≡ Some y → (b ≡ true) × (x ≡ y)
guard_some true x y e = (refl, cc)
guard_some false x y e = absurd cc

abbrev found : {A : Type 0} → A → Option A
found x = Some x

pub some_is : {A : Type 0} (x y : A) → found x ≡ found y → x ≡ y
some_is x y e = cc

-- The two laws of a reading and a spelling.
pub record Reads {X : Type 0} (one_at : List ℕ → Option (X × List ℕ)) (spelling : X → List ℕ) (Fits : X → Type 0) : Type 0 where
  pub takes : (words : List ℕ) (x : X × List ℕ) → IsWords words → one_at words ≡ Some x → (words ≡ spelling x.0 ++ x.1) × Fits x.0
  pub again : (x : X) (rest : List ℕ) → Fits x → one_at (spelling x ++ rest) ≡ Some (x, rest)

-- two readings, one after the other
pub parts_then : (a x b y c : List ℕ) → a ≡ x ++ b → b ≡ y ++ c → a ≡ (x ++ y) ++ c
parts_then a x b y c p q = p ∙ ap (λ (t : List ℕ). x ++ t) q ∙ sym (append_assoc x y c)

-- five words one after the other, and what follows them
pub five_words : (words a b c d e : List ℕ) (m n o p q o' p' q' : ℕ) (rest : List ℕ) → words ≡ m ∷ a → a ≡ n ∷ b → b ≡ o ∷ c → c ≡ p ∷ d → d ≡ q ∷ e → e ≡ rest
    → o' ≡ o → p' ≡ p → q' ≡ q → words ≡ m ∷ n ∷ o' ∷ p' ∷ q' ∷ rest
five_words words a b c d e m n o p q o' p' q' rest h0 h1 h2 h3 h4 h5 eo ep eq = rw (h0, h1, h2, h3, h4, h5, eo, ep, eq) refl

-- ---- numbers and pointers

abbrev pub one_word : ℕ → List ℕ
one_word n = n ∷ []

number_takes : (words : List ℕ) (x : ℕ × List ℕ) → IsWords words → number_at words ≡ Some x → (words ≡ one_word x.0 ++ x.1) × (x.0 < 2 ^ 64)
number_takes [] x fits e = absurd cc
number_takes (word ∷ rest) x fits e = subst (λ (y : ℕ × List ℕ). (word ∷ rest ≡ one_word y.0 ++ y.1) × (y.0 < 2 ^ 64)) (some_is (word, rest) x e) (refl, fits 0)

pub numbers : Reads number_at one_word (λ n. n < 2 ^ 64)
numbers = record { takes = number_takes; again = λ n rest fits. refl }

pub raw_of-place_of : (word : ℕ) → raw_of (place_of word) ≡ word
raw_of-place_of word = shr_split word 48

pub place_of-raw_of : (place : Place) → FitsOneWord place → place_of (raw_of place) ≡ place
place_of-raw_of place fits = rw (shr_high place.rank 48 place.block fits.1, mod_low place.rank 48 place.block fits.1) refl

pub FitsOneWord-place_of : (word : ℕ) → word < 2 ^ 64 → FitsOneWord (place_of word)
FitsOneWord-place_of word lt = (shr_below word 16 48 lt, mod_below word (2 ^ 48) (omega arith))

abbrev pub place_words : Place → List ℕ
place_words place = raw_of place ∷ []

place_takes : (words : List ℕ) (x : Place × List ℕ) → IsWords words → place_at words ≡ Some x → (words ≡ place_words x.0 ++ x.1) × FitsOneWord x.0
unfolding place_at
place_takes words x fits e =
    let a = bind_some (number_at words) (λ word. Some (place_of word.0, word.1)) x e in
    let t = number_takes words a.0 fits a.1 in
    subst (λ (y : Place × List ℕ). (words ≡ place_words y.0 ++ y.1) × FitsOneWord y.0) (some_is (place_of a.0.0, a.0.1) x a.2)
    (t.0 ∙ ap (λ (w : ℕ). w ∷ a.0.1) (sym (raw_of-place_of a.0.0)), FitsOneWord-place_of a.0.0 t.1)

place_again : (place : Place) (rest : List ℕ) → FitsOneWord place → place_at (place_words place ++ rest) ≡ Some (place, rest)
unfolding place_at
place_again place rest fits = ap (λ (p : Place). Some (p, rest)) (place_of-raw_of place fits)

pub places : Reads place_at place_words FitsOneWord
places = record { takes = place_takes; again = place_again }

-- ---- lists

module _ {X : Type 0} (one_at : List ℕ → Option (X × List ℕ)) (spelling : X → List ℕ) (Fits : X → Type 0) (one : Reads one_at spelling Fits) where
  pub many_takes : (n : ℕ) (words : List ℕ) (x : List X × List ℕ) → IsWords words → many_at one_at n words ≡ Some x → (words ≡ flat_map spelling x.0 ++ x.1) × (length x.0 ≡ n) × AllByRecursion Fits x.0
  unfolding many_at
  many_takes zero words x fits e =
      subst (λ (y : List X × List ℕ). (words ≡ flat_map spelling y.0 ++ y.1) × (length y.0 ≡ 0) × AllByRecursion Fits y.0) (some_is ([], words) x e) (refl, refl, tt)
  many_takes (suc n) words x fits e =
      let a = bind_some (one_at words) (λ first. many_at one_at n first.1 >>= λ others. Some (first.0 ∷ others.0, others.1)) x e in
      let b = bind_some (many_at one_at n a.0.1) (λ others. Some (a.0.0 ∷ others.0, others.1)) x a.2 in
      let first = one.takes words a.0 fits a.1 in
      let second = many_takes n a.0.1 b.0 (IsWords-rest words (spelling a.0.0) a.0.1 first.0 fits) b.1 in
      let both = parts_then words (spelling a.0.0) a.0.1 (flat_map spelling b.0.0) b.0.1 first.0 second.0 in
      let made : List X × List ℕ = (a.0.0 ∷ b.0.0, b.0.1) in
      subst (λ (y : List X × List ℕ). (words ≡ flat_map spelling y.0 ++ y.1) × (length y.0 ≡ suc n) × AllByRecursion Fits y.0) (some_is made x b.2) (rw flat_map-cons both, ap suc second.1, (first.1, second.2))

  pub many_again : (xs : List X) (rest : List ℕ) → AllByRecursion Fits xs → many_at one_at (length xs) (flat_map spelling xs ++ rest) ≡ Some (xs, rest)
  unfolding many_at
  many_again [] rest fits = refl
  many_again (x ∷ xs) rest fits =
      let regrouped : flat_map spelling (x ∷ xs) ++ rest ≡ spelling x ++ (flat_map spelling xs ++ rest) = ap (λ (w : List ℕ). w ++ rest) (flat_map-cons spelling x xs) ∙ append_assoc (spelling x) (flat_map spelling xs) rest in
      ap (many_at one_at (suc (length xs))) regrouped ∙ rw (one.again x (flat_map spelling xs ++ rest) fits.0, many_again xs rest fits.1) refl

  pub rising_takes : (before : X → X → Bool) (n : ℕ) (words : List ℕ) (x : List X × List ℕ) → IsWords words → rising_at one_at before n words ≡ Some x
      → (words ≡ flat_map spelling x.0 ++ x.1) × (length x.0 ≡ n) × AllByRecursion Fits x.0 × IsTrue (is_rising before x.0)
  unfolding rising_at
  rising_takes before n words x fits e =
      let a = bind_some (many_at one_at n words) (λ items. cond (is_rising before items.0) (Some items) None) x e in
      let g = guard_some (is_rising before a.0.0) a.0 x a.2 in
      let t = many_takes n words a.0 fits a.1 in
      subst (λ (y : List X × List ℕ). (words ≡ flat_map spelling y.0 ++ y.1) × (length y.0 ≡ n) × AllByRecursion Fits y.0 × IsTrue (is_rising before y.0)) g.1 (t.0, t.1, t.2, g.0)

  pub rising_again : (before : X → X → Bool) (xs : List X) (rest : List ℕ) → AllByRecursion Fits xs → IsTrue (is_rising before xs) → rising_at one_at before (length xs) (flat_map spelling xs ++ rest) ≡ Some (xs, rest)
  unfolding rising_at
  rising_again before xs rest fits rising = rw (many_again xs rest fits, rising) refl
