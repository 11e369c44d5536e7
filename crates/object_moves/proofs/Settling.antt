-- Words that are stored one after another, each at a place of its own.
use Rattle.std.proofs.Common.{◌≡◌, ℕ, zero, suc, ◌+◌, ◌-◌, ◌*◌, ◌/◌, ◌%◌, ◌<◌, ◌≤◌, ◌==◌, ◌&&◌, Bool, true, false, cond, List, [], ◌∷◌, length, get_or, slice_get, Option, Some, None, ◌⊎◌, inl, inr, refl, sym, ap, ◌∙◌, subst, arith}
use Rattle.std.proofs.lemmas.Bool.Decides.{nat_tests}
use Rattle.std.proofs.lemmas.Bool.{cases_eq, lt-ltb, ltb-true}
use Rattle.std.proofs.Math.Dec.{ltb}
use Rattle.std.proofs.lemmas.Nat.{div-add-mod'}
use Rattle.std.proofs.lemmas.Option.{get_or_from_slice_get}
use Rattle.rma_layout.specs.Shape.{Shape}
use Rattle.rma_layout.specs.Placement.{Place, same_place, metadata, raw_of}
use Rattle.object_words.specs.Blocks.{one_if}
use Rattle.window_rule.specs.View.{View, Cell}
use Rattle.window_rule.specs.Known.{cell_of}
use Rattle.window_rule.specs.Partition.{times}
use Rattle.window_rule.specs.Reads.{put_in}
use Rattle.window_rule.proofs.LockLemmas.{place_cases, same_place-refl, same_place-false}
use Rattle.object_moves.specs.Stores.{AreFilled, AreLinkedTo, IsSettled, OnlyCells, link_in, link_word}

abbrev pub put_at : Place → ℕ → ℕ → List Cell → List Cell
put_at block i word cells = record { block = block; index = i; word = word } ∷ cells

pub put_here : (cells : List Cell) (block : Place) (i word : ℕ) → cell_of (put_at block i word cells) block i ≡ Some word
put_here cells block i word =
    let t : (i == i) ≡ true = grind (arith, nat_tests) in
    ap (λ b. cond (b && i == i) (Some word) (cell_of cells block i)) (same_place-refl block)
    ∙ ap (λ b. cond b (Some word) (cell_of cells block i)) t

and_false : (b : Bool) (x y : Option ℕ) → cond (b && false) x y ≡ y
and_false true x y = refl
and_false false x y = refl

pub put_other : (cells : List Cell) (block : Place) (i word : ℕ) (other : Place) (j : ℕ) → (block ≡ other → i ≡ j → ⊥)
    → cell_of (put_at block i word cells) other j ≡ cell_of cells other j
put_other cells block i word other j ne =
    elim (place_cases block other) [
      | inl same ↦ elim (cases_eq i j) [
        | inl e ↦ absurd (ne same e)
        | inr d ↦ let t : (i == j) ≡ false = grind (arith, nat_tests) in
            ap (λ b. cond (same_place block other && b) (Some word) (cell_of cells other j)) t ∙ and_false (same_place block other) (Some word) (cell_of cells other j)
      ]
      | inr differ ↦ ap (λ b. cond (b && i == j) (Some word) (cell_of cells other j)) (same_place-false block other differ)
    ]

module _ (n : ℕ) (block : ℕ → Place) (index : ℕ → ℕ) (target : ℕ → ℕ) (first : List Cell) where
  pub settled-none : IsSettled n 0 block index target first first
  settled-none = record { done = λ m h below. absurd (omega (arith, below)); still = λ m h below. refl; apart = λ place i ne. refl }

  pub settled-put : (k : ℕ) (now : List Cell) → k < n → ((m : ℕ) → m < n → block k ≡ block m → index k ≡ index m → k ≡ m)
      → IsSettled n k block index target first now
      → IsSettled n (k + 1) block index target first (put_at (block k) (index k) (target k) now)
  settled-put k now h one settled = record {
    done = λ m within below. elim (cases_eq k m) [
      | inl same ↦ subst (λ (x : ℕ). cell_of (put_at (block k) (index k) (target k) now) (block x) (index x) ≡ Some (target x)) same (put_here now (block k) (index k) (target k))
      | inr differ ↦ put_other now (block k) (index k) (target k) (block m) (index m) (λ b i. differ (one m within b i)) ∙ settled.done m within (omega (arith, differ, below))
    ];
    still = λ m within above. put_other now (block k) (index k) (target k) (block m) (index m) (λ b i. let e = one m within b i in omega (arith, e, above)) ∙ settled.still m within (omega (arith, above));
    apart = λ place i ne. put_other now (block k) (index k) (target k) place i (λ b j. ne k h b j) ∙ settled.apart place i ne;
  }

  -- a word that stands already need not be stored
  pub settled-skip : (k : ℕ) (now : List Cell) → k < n → cell_of first (block k) (index k) ≡ Some (target k)
      → IsSettled n k block index target first now → IsSettled n (k + 1) block index target first now
  settled-skip k now h there settled = record {
    done = λ m within below. elim (cases_eq k m) [
      | inl same ↦ subst (λ (x : ℕ). cell_of now (block x) (index x) ≡ Some (target x)) same (settled.still k h (omega arith) ∙ there)
      | inr differ ↦ settled.done m within (omega (arith, differ, below))
    ];
    still = λ m within above. settled.still m within (omega (arith, above));
    apart = settled.apart;
  }

-- blocks of which none stands twice
pub times-get : (xs : List Place) (j : ℕ) → j < length xs → 0 < times (get_or xs j metadata) xs
times-get [] j h = absurd (omega (arith, h))
times-get (x ∷ xs) zero h = let one = ap one_if (same_place-refl x) in omega (arith, one)
times-get (x ∷ xs) (suc j) h = omega (arith, times-get xs j (omega (arith, h)))

pub once-get : (xs : List Place) → ((block : Place) → times block xs ≤ 1) → (i j : ℕ) → i < length xs → j < length xs
    → get_or xs i metadata ≡ get_or xs j metadata → i ≡ j
once-get [] once i j h k e = absurd (omega (arith, h))
once-get (x ∷ xs) once zero zero h k e = refl
once-get (x ∷ xs) once zero (suc j) h k e =
    let one = ap one_if (same_place-refl x) in
    let again = subst (λ b. 0 < times b xs) (sym e) (times-get xs j (omega (arith, k))) in
    absurd (omega (arith, one, again, once x))
once-get (x ∷ xs) once (suc i) zero h k e =
    let one = ap one_if (same_place-refl x) in
    let again = subst (λ b. 0 < times b xs) e (times-get xs i (omega (arith, h))) in
    absurd (omega (arith, one, again, once x))
once-get (x ∷ xs) once (suc i) (suc j) h k e =
    ap suc (once-get xs (λ block. omega (arith, once block)) i j (omega (arith, h)) (omega (arith, k)) e)

-- words of the payload stand at places of their own
pub by_parts : (k m per : ℕ) → k / per ≡ m / per → k % per ≡ m % per → k ≡ m
by_parts k m per d r = sym (div-add-mod' k per) ∙ (ap (λ x. x * per + k % per) d ∙ (ap (λ x. m / per * per + x) r ∙ div-add-mod' m per))

module _ {N : Type 0} (n : ℕ) (block : ℕ → Place) (index : ℕ → ℕ) (target : ℕ → ℕ) where
  -- one more word stands, whether it was stored or stood there
  pub settled-more : (first was now : View N) (k : ℕ) (place : Place) (i word : ℕ) → k < n → block k ≡ place → index k ≡ i → target k ≡ word
      → ((m : ℕ) → m < n → block k ≡ block m → index k ≡ index m → k ≡ m)
      → OnlyCells first was → IsSettled n k block index target first.cells was.cells
      → (now ≡ put_in place i word was) ⊎ ((now ≡ was) × (cell_of was.cells place i ≡ Some word))
      → OnlyCells first now × IsSettled n (k + 1) block index target first.cells now.cells
  settled-more first was now k place i word h b e t one only settled (inl is) = (
    is ∙ (ap (put_in place i word) only ∙ ap (λ (v : View N). record first { cells = v.cells }) (sym is)),
    subst (λ (x : List Cell). IsSettled n (k + 1) block index target first.cells x)
        (ap (λ p. put_at p (index k) (target k) was.cells) b ∙ (ap (λ x. put_at place x (target k) was.cells) e ∙ (ap (λ w. put_at place i w was.cells) t ∙ sym (ap (λ (v : View N). v.cells) is))))
        (settled-put n block index target first.cells k was.cells h one settled),
  )
  settled-more first was now k place i word h b e t one only settled (inr (is, there)) = (
    subst (λ (v : View N). OnlyCells first v) (sym is) only,
    subst (λ (v : View N). IsSettled n (k + 1) block index target first.cells v.cells) (sym is)
        (settled-skip n block index target first.cells k was.cells h
        (sym (settled.still k h (omega arith)) ∙ (ap (λ p. cell_of was.cells p (index k)) b ∙ (ap (cell_of was.cells place) e ∙ (there ∙ ap Some (sym t))))) settled),
  )

module _ {N : Type 0} (blocks : List Place) (once : (block : Place) → times block blocks ≤ 1) where
  pub filled-more : (shape : Shape) (words : List ℕ) (first was now : View N) (k p : ℕ) (place : Place) (word : ℕ) → p ≡ shape.words - 1
      → ((m : ℕ) → m < length words → m / (shape.words - 1) < length blocks)
      → k < length words → slice_get blocks (k / p) ≡ Some place → slice_get words k ≡ Some word
      → OnlyCells first was → AreFilled shape blocks words k first.cells was.cells
      → (now ≡ put_in place (1 + k % p) word was) ⊎ ((now ≡ was) × (cell_of was.cells place (1 + k % p) ≡ Some word))
      → OnlyCells first now × AreFilled shape blocks words (k + 1) first.cells now.cells
  filled-more shape words first was now k p place word e reach h at told only filled either =
      let per = shape.words - 1 in
      settled-more (length words) (λ m. get_or blocks (m / per) metadata) (λ m. 1 + m % per) (λ m. get_or words m 0) first was now k place (1 + k % p) word h
      (get_or_from_slice_get blocks (k / per) place metadata (subst (λ (x : ℕ). slice_get blocks (k / x) ≡ Some place) e at))
      (ap (λ x. 1 + k % x) (sym e))
      (get_or_from_slice_get words k word 0 told)
      (λ m within b i. by_parts k m per (once-get blocks once (k / per) (m / per) (reach k h) (reach m within) b) (let r : k % per ≡ m % per = omega (arith, i) in r))
      only filled either

  pub linked-more : (used : ℕ) (first was now : View N) (j : ℕ) (place : Place) (word : ℕ) → used ≤ length blocks → j < used
      → slice_get blocks j ≡ Some place → word ≡ link_word blocks used j
      → OnlyCells first was → AreLinkedTo blocks used j first.cells was.cells
      → (now ≡ put_in place 0 word was) ⊎ ((now ≡ was) × (cell_of was.cells place 0 ≡ Some word))
      → OnlyCells first now × AreLinkedTo blocks used (j + 1) first.cells now.cells
  linked-more used first was now j place word enough h at told only linked either =
      settled-more used (λ m. get_or blocks m metadata) (λ _. 0) (link_word blocks used) first was now j place 0 word h
      (get_or_from_slice_get blocks j place metadata at) refl (sym told)
      (λ m within b i. once-get blocks once j m (omega (arith, h, enough)) (omega (arith, within, enough)) b)
      only linked either

link_cases : (t : Bool) (w x : ℕ) → cond t (Some x) None ≡ Some w → (t ≡ true) × (x ≡ w)
link_cases true w x e = (refl, some_is w x e)
  where
    some_is : (w x : ℕ) → Some x ≡ Some w → x ≡ w
    some_is w x e = cc e
link_cases false w x e = absurd (cc e)

pub link_known : (blocks : List Place) (count j w : ℕ) → link_in blocks count j ≡ Some w → (j + 1 < count) × (raw_of (get_or blocks (j + 1) metadata) ≡ w)
link_known blocks count j w e =
    let both = link_cases (ltb (j + 1) count) w (raw_of (get_or blocks (j + 1) metadata)) e in
    (ltb-true (j + 1) count both.0, both.1)

pub link_some : (blocks : List Place) (count j word : ℕ) (next : Place) → j + 1 < count → slice_get blocks (j + 1) ≡ Some next → word ≡ raw_of next
    → Some word ≡ link_in blocks count j
link_some blocks count j word next h at is =
    ap Some (is ∙ ap raw_of (sym (get_or_from_slice_get blocks (j + 1) next metadata at)))
    ∙ sym (ap (λ t. cond t (Some (raw_of (get_or blocks (j + 1) metadata))) None) (lt-ltb (j + 1) count h))
