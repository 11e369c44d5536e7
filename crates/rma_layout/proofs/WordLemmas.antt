-- Words and their numbers: which word has a number, and that no two have one.
use Rattle.std.proofs.Common.{◌≡◌, ◌≢◌, ℕ, ◌+◌, ◌-◌, ◌*◌, ◌/◌, ◌%◌, ◌<◌, ◌≤◌, cond, eqb, ltb, sym, ap, ◌∙◌, lt-ltb, arith, add-zero, add_assoc, zero, suc, ◌⊎◌, inl, inr, List, length, slice_set}
use Rattle.std.proofs.lemmas.Bool.{cases_eq, cases_lt}
use Rattle.std.proofs.lemmas.Bool.Decides.{nat_tests}
use Rattle.std.proofs.lemmas.List.{get_or-set_same, get_or-set_other}
use Rattle.std.proofs.lemmas.Nat.{div-mul-add, mod-mul-add, div_below, mod_below, div-add-mod', mul-add-lt}
use Rattle.rma_layout.specs.declared.word.Word.{Word}
use Rattle.rma_layout.specs.declared.word.Word.TheVariants.{Lock, Length, FreeList, Stamp, Data, Head, Gate, Commit}
use Rattle.rma_layout.specs.Shape.{Shape, window_words}
use Rattle.rma_layout.specs.Placement.{Place, IsBlock}
use Rattle.rma_layout.specs.Words.{IsWord, first_word, first_head, number_of, word_in}

-- the word at this offset of a block
abbrev pub word_at : Place → ℕ → Word
word_at place offset =
    cond (eqb offset 0) (Lock place) (cond (eqb offset 1) (Length place) (cond (eqb offset 2) (FreeList place) (cond (eqb offset 3) (Stamp place) (Data place (offset - 4)))))

-- the block of this place in the order of all blocks
abbrev pub block_at : Shape → ℕ → Place
block_at shape at = record { rank = at / shape.blocks; block = at % shape.blocks }

-- the word with a number
abbrev pub word_of : Shape → ℕ → Word
word_of shape n =
    cond (ltb n (first_head shape)) (word_at (block_at shape (n / (shape.words + 4))) (n % (shape.words + 4)))
    (cond (ltb n (first_head shape + shape.ranks)) (Head (n - first_head shape))
    (cond (eqb n (first_head shape + shape.ranks)) Gate Commit))

block_at-place : (shape : Shape) (place : Place) → IsBlock shape place → block_at shape (place.rank * shape.blocks + place.block) ≡ place
block_at-place shape place h =
    let rank = div-mul-add place.rank shape.blocks place.block h.1 in
    let block = mod-mul-add place.rank shape.blocks place.block h.1 in
    simp (rank, block)

-- a block's words lie before the heads
first_word-lt : (shape : Shape) (place : Place) (offset : ℕ) → IsBlock shape place → offset < shape.words + 4 → first_word shape place + offset < first_head shape
first_word-lt shape place offset h below =
    let block = mul-add-lt place.rank shape.blocks place.block shape.ranks h.0 h.1 in
    omega (arith, mul-add-lt (place.rank * shape.blocks + place.block) (shape.words + 4) offset (shape.ranks * shape.blocks) (omega (arith, block)) below)

-- the word with the number of an offset of a block
word_of-block : (shape : Shape) (place : Place) (offset : ℕ) → IsBlock shape place → offset < shape.words + 4 → word_of shape (first_word shape place + offset) ≡ word_at place offset
word_of-block shape place offset h below =
    let before = first_word-lt shape place offset h below in
    let at = place.rank * shape.blocks + place.block in
    let block = div-mul-add at (shape.words + 4) offset below in
    let rest = mod-mul-add at (shape.words + 4) offset below in
    let is_place = block_at-place shape place h in
    simp (lt-ltb _ _ before, block, rest, is_place)

word_at-Data : (place : Place) (i : ℕ) → word_at place (4 + i) ≡ Data place i
word_at-Data place i = grind (arith, nat_tests)

-- a word is the one with its number
pub word_of-number_of : (shape : Shape) (word : Word) → IsWord shape word → word_of shape (number_of shape word) ≡ word
word_of-number_of shape (Lock place) h = ap (word_of shape) (sym (add-zero (first_word shape place))) ∙ word_of-block shape place 0 h (omega arith)
word_of-number_of shape (Length place) h = word_of-block shape place 1 h (omega arith)
word_of-number_of shape (FreeList place) h = word_of-block shape place 2 h (omega arith)
word_of-number_of shape (Stamp place) h = word_of-block shape place 3 h (omega arith)
word_of-number_of shape (Data place i) h =
    ap (word_of shape) (add_assoc (first_word shape place) 4 i) ∙ word_of-block shape place (4 + i) h.0 (omega (arith, h.1)) ∙ word_at-Data place i
word_of-number_of shape (Head rank) h = grind (arith, nat_tests)
word_of-number_of shape Gate h = grind (arith, nat_tests)
word_of-number_of shape Commit h = grind (arith, nat_tests)

-- two words with one number are one word
pub same_from_number_of : (shape : Shape) (one other : Word) → IsWord shape one → IsWord shape other → number_of shape one ≡ number_of shape other → one ≡ other
same_from_number_of shape one other is_one is_other same =
    sym (word_of-number_of shape one is_one) ∙ ap (word_of shape) same ∙ word_of-number_of shape other is_other

offset_is_word : (shape : Shape) (place : Place) (offset : ℕ) → IsBlock shape place → offset < shape.words + 4 → (word : Word) × (IsWord shape word) × (number_of shape word ≡ first_word shape place + offset)
offset_is_word shape place zero h below = (Lock place, h, omega arith)
offset_is_word shape place (suc zero) h below = (Length place, h, omega arith)
offset_is_word shape place (suc (suc zero)) h below = (FreeList place, h, omega arith)
offset_is_word shape place (suc (suc (suc zero))) h below = (Stamp place, h, omega arith)
offset_is_word shape place (suc (suc (suc (suc i)))) h below = (Data place i, (h, omega arith), omega arith)

factor_pos : (n a b : ℕ) → n < a * b → 0 < b
factor_pos n a zero below = absurd (omega arith)
factor_pos n a (suc b) below = omega arith

IsBlock-block_at : (shape : Shape) (at : ℕ) → at < shape.ranks * shape.blocks → IsBlock shape (block_at shape at)
IsBlock-block_at shape at below =
    let positive = factor_pos at shape.ranks shape.blocks below in
    (div_below at shape.blocks shape.ranks positive below, mod_below at shape.blocks positive)

block_number_is_word : (shape : Shape) (n : ℕ) → n < first_head shape → (word : Word) × (IsWord shape word) × (number_of shape word ≡ n)
block_number_is_word shape n below =
    let at = n / (shape.words + 4) in
    let is_block = IsBlock-block_at shape at (div_below n (shape.words + 4) (shape.ranks * shape.blocks) (omega arith) below) in
    let found = offset_is_word shape (block_at shape at) (n % (shape.words + 4)) is_block (mod_below n (shape.words + 4) (omega arith)) in
    let same_at = div-add-mod' at shape.blocks in
    let same_n = div-add-mod' n (shape.words + 4) in
    (found.0, found.1, found.2 ∙ ap (λ x. x * (shape.words + 4) + n % (shape.words + 4)) same_at ∙ same_n)

behind_blocks : (shape : Shape) (n : ℕ) → first_head shape ≤ n → n < window_words shape → (n < first_head shape + shape.ranks) ⊎ (first_head shape + shape.ranks ≤ n) → (n ≡ first_head shape + shape.ranks) ⊎ (n ≡ first_head shape + shape.ranks → ⊥) → (word : Word) × (IsWord shape word) × (number_of shape word ≡ n)
behind_blocks shape n behind below (inl head) gate = (Head (n - first_head shape), omega arith, omega arith)
behind_blocks shape n behind below (inr past) (inl gate) = (Gate, tt, sym gate)
behind_blocks shape n behind below (inr past) (inr not_gate) = (Commit, tt, omega arith)

-- each number below the total is one of a word
pub number_is_word : (shape : Shape) (n : ℕ) → n < window_words shape → (word : Word) × (IsWord shape word) × (number_of shape word ≡ n)
number_is_word shape n below =
    elim (cases_lt n (first_head shape)) [
      | inl in_block ↦ block_number_is_word shape n in_block
      | inr behind ↦ behind_blocks shape n behind below (cases_lt n (first_head shape + shape.ranks)) (cases_eq n (first_head shape + shape.ranks))
    ]

pub number_of-lt : (shape : Shape) (word : Word) → IsWord shape word → number_of shape word < window_words shape
number_of-lt shape (Lock place) h = omega (arith, first_word-lt shape place 0 h (omega arith))
number_of-lt shape (Length place) h = omega (arith, first_word-lt shape place 1 h (omega arith))
number_of-lt shape (FreeList place) h = omega (arith, first_word-lt shape place 2 h (omega arith))
number_of-lt shape (Stamp place) h = omega (arith, first_word-lt shape place 3 h (omega arith))
number_of-lt shape (Data place i) h = omega (arith, first_word-lt shape place (4 + i) h.0 (omega (arith, h.1)))
number_of-lt shape (Head rank) h = omega arith
number_of-lt shape Gate h = omega arith
number_of-lt shape Commit h = omega arith

-- distinct words have distinct numbers
pub number_of-ne : (shape : Shape) (one other : Word) → IsWord shape one → IsWord shape other → one ≢ other → number_of shape one ≢ number_of shape other
number_of-ne shape one other is_one is_other ne same = ne (same_from_number_of shape one other is_one is_other same)

-- what is written to a word stands there
pub word_in-set_same : (shape : Shape) (words : List ℕ) (word : Word) (new : ℕ) → length words ≡ window_words shape → IsWord shape word → word_in shape (slice_set words (number_of shape word) new) word ≡ new
word_in-set_same shape words word new whole is_word =
    get_or-set_same words (number_of shape word) new 0 (omega (arith, number_of-lt shape word is_word))

-- another word is unchanged
pub word_in-set_other : (shape : Shape) (words : List ℕ) (word other : Word) (new : ℕ) → IsWord shape word → IsWord shape other → other ≢ word → word_in shape (slice_set words (number_of shape word) new) other ≡ word_in shape words other
word_in-set_other shape words word other new is_word is_other ne =
    get_or-set_other words (number_of shape word) (number_of shape other) new 0 (number_of-ne shape other word is_other is_word ne)
