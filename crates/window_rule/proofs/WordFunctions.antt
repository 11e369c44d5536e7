-- The words of a window as a function, before and after one of them is changed.
use Rattle.std.proofs.Common.{◌≡◌, ℕ, ◌&&◌, Bool, true, false, cond, List, length, set, refl, sym, ap, ◌∙◌, arith}
use Rattle.std.proofs.lemmas.Bool.{false≢true}
use Rattle.std.proofs.lemmas.Bool.Decides.{nat_tests}
use Rattle.rma_layout.specs.declared.word.Word.{Word}
use Rattle.rma_layout.specs.declared.word.Word.TheVariants.{Lock, Length, FreeList, Stamp, Data, Head, Gate, Commit}
use Rattle.rma_layout.specs.Shape.{Shape, window_words}
use Rattle.rma_layout.specs.Placement.{Place, IsBlock, same_place}
use Rattle.rma_layout.specs.Words.{IsWord, number_of, word_in}
use Rattle.rma_layout.proofs.WordLemmas.{word_in-set_same, word_in-set_other}
use Rattle.window_rule.specs.Words.{Words, is_block, is_word, words_in, same_word, with_word}
use Rattle.window_rule.proofs.LockLemmas.{same_place-refl, place_by_parts}

pub is_block-true : (shape : Shape) (place : Place) → IsBlock shape place
    → is_block shape place ≡ true
is_block-true shape place h = let a = h.0 in let b = h.1 in grind (arith, nat_tests)

pub is_block-tells : (shape : Shape) (place : Place) → is_block shape place ≡ true
    → IsBlock shape place
is_block-tells shape place h = grind (arith, nat_tests)

pub is_word-true : (shape : Shape) (word : Word) → IsWord shape word → is_word shape word ≡ true
is_word-true shape (Lock place) h = is_block-true shape place h
is_word-true shape (Length place) h = is_block-true shape place h
is_word-true shape (FreeList place) h = is_block-true shape place h
is_word-true shape (Stamp place) h = is_block-true shape place h
is_word-true shape (Data place i) h = let a = h.0.0 in let b = h.0.1 in let c = h.1 in grind
    (arith, nat_tests)
is_word-true shape (Head rank) h = grind (arith, nat_tests)
is_word-true shape Gate h = refl
is_word-true shape Commit h = refl

pub is_word-tells : (shape : Shape) (word : Word) → is_word shape word ≡ true → IsWord shape word
is_word-tells shape (Lock place) h = is_block-tells shape place h
is_word-tells shape (Length place) h = is_block-tells shape place h
is_word-tells shape (FreeList place) h = is_block-tells shape place h
is_word-tells shape (Stamp place) h = is_block-tells shape place h
is_word-tells shape (Data place i) h = grind (arith, nat_tests)
is_word-tells shape (Head rank) h = grind (arith, nat_tests)
is_word-tells shape Gate h = tt
is_word-tells shape Commit h = tt

pub same_place-tells : (p q : Place) → same_place p q ≡ true → p ≡ q
same_place-tells p q h =
    let r : p.rank ≡ q.rank = grind (arith, nat_tests) in
    let b : p.block ≡ q.block = grind (arith, nat_tests) in
    place_by_parts p q r b

both : (a b : Bool) → (a && b) ≡ true → (a ≡ true) × (b ≡ true)
both true b h = (refl, h)
both false b h = absurd (false≢true h)

pub same_word-refl : (word : Word) → same_word word word ≡ true
same_word-refl (Lock p) = same_place-refl p
same_word-refl (Length p) = same_place-refl p
same_word-refl (FreeList p) = same_place-refl p
same_word-refl (Stamp p) = same_place-refl p
same_word-refl (Data p i) = let s = same_place-refl p in grind (arith, nat_tests)
same_word-refl (Head r) = grind (arith, nat_tests)
same_word-refl Gate = refl
same_word-refl Commit = refl

pub same_word-tells : (one other : Word) → same_word one other ≡ true → one ≡ other
same_word-tells (Lock p) (Lock q) h = ap Lock (same_place-tells p q h)
same_word-tells (Length p) (Length q) h = ap Length (same_place-tells p q h)
same_word-tells (FreeList p) (FreeList q) h = ap FreeList (same_place-tells p q h)
same_word-tells (Stamp p) (Stamp q) h = ap Stamp (same_place-tells p q h)
same_word-tells (Data p i) (Data q j) h =
    let parts = both _ _ h in
    let number : i ≡ j = grind (arith, nat_tests, parts.1) in
    let place = same_place-tells p q parts.0 in
    λ k. Data (place k) (number k)
same_word-tells (Head r) (Head s) h = let e : r ≡ s = grind (arith, nat_tests) in ap Head e
same_word-tells Gate Gate h = refl
same_word-tells Commit Commit h = refl
same_word-tells one other h = absurd (false≢true h)

module _ (shape : Shape) (words : List ℕ) (word : Word) (new : ℕ)
    (sized : length words ≡ window_words shape) (is_w : IsWord shape word) where
  at_word : (other : Word) → IsWord shape other → (b : Bool) → same_word other word ≡ b
      → word_in shape (set words (number_of shape word) new) other ≡ cond b new
      (word_in shape words other)
  at_word other is_other true same =
      ap (word_in shape (set words (number_of shape word) new)) (same_word-tells other word same)
      ∙ word_in-set_same shape words word new sized is_w
  at_word other is_other false differ =
      word_in-set_other shape words word other new is_w is_other
      (λ e. false≢true (sym differ ∙ (ap (λ w. same_word w word) e ∙ same_word-refl word)))

  at_none : (other : Word) → is_word shape other ≡ false → (b : Bool) → same_word other word ≡ b
      → 0 ≡ cond b new 0
  at_none other none true same = absurd
      (false≢true (sym none
      ∙ (ap (is_word shape) (same_word-tells other word same) ∙ is_word-true shape word is_w)))
  at_none other none false differ = refl

  at : (other : Word) (b : Bool) → is_word shape other ≡ b
      → cond b (word_in shape (set words (number_of shape word) new) other) 0 ≡ cond
      (same_word other word) new (cond b (word_in shape words other) 0)
  at other true inside = at_word other (is_word-tells shape other inside)
      (same_word other word) refl
  at other false outside = at_none other outside (same_word other word) refl

  -- a write changes one word
  pub words_in-set : words_in shape (set words (number_of shape word) new) ≡ with_word
      (words_in shape words) word new
  words_in-set i other = at other (is_word shape other) refl i

pub words_in-word : (shape : Shape) (words : List ℕ) (word : Word) → IsWord shape word
    → words_in shape words word ≡ word_in shape words word
words_in-word shape words word is_w = ap (λ b. cond b (word_in shape words word) 0)
    (is_word-true shape word is_w)

-- what is written to a word stands there
pub with_word-same : (words : Words) (word : Word) (new : ℕ) → with_word words word new word ≡ new
with_word-same words word new = ap (λ b. cond b new (words word)) (same_word-refl word)
