-- The words that a view knows of blocks.
use Rattle.std.proofs.Common.{◌≡◌, ◌≢◌, ℕ, zero, suc, ◌<◌, ◌==◌, ◌&&◌, cond, List, [], ◌∷◌, refl, sym, ap, ◌∙◌, inl, inr, arith, Some, None, eq-eqb, ne_eqb}
use Rattle.std.proofs.lemmas.Bool.{cases_eq}
use Rattle.rma_layout.specs.Placement.{Place, same_place}
use Rattle.object_words.specs.Blocks.{one_if}
use Rattle.window_rule.specs.View.{Cell}
use Rattle.window_rule.specs.Known.{cell_of, without_cells}
use Rattle.window_rule.specs.Partition.{times}
use Rattle.window_rule.specs.Detach.{row, rows}
use Rattle.window_rule.proofs.LockLemmas.{same_place-refl, same_place-false, place_cases}

-- the first cell is of this word, of another word of the block, or of another block
pub cell-first : (one : Cell) (more : List Cell) (block : Place) (i : ℕ) → one.block ≡ block
    → one.index ≡ i → cell_of (one ∷ more) block i ≡ Some one.word
cell-first one more block i same here =
    ap (λ t. cond (t && one.index == i) (Some one.word) (cell_of more block i))
    (ap (λ p. same_place p block) same ∙ same_place-refl block)
    ∙ ap (λ t. cond t (Some one.word) (cell_of more block i)) (eq-eqb one.index i here)

pub cell-index : (one : Cell) (more : List Cell) (block : Place) (i : ℕ) → one.block ≡ block
    → one.index ≢ i → cell_of (one ∷ more) block i ≡ cell_of more block i
cell-index one more block i same else =
    ap (λ t. cond (t && one.index == i) (Some one.word) (cell_of more block i))
    (ap (λ p. same_place p block) same ∙ same_place-refl block)
    ∙ ap (λ t. cond t (Some one.word) (cell_of more block i)) (ne_eqb one.index i else)

pub cell-block : (one : Cell) (more : List Cell) (block : Place) (i : ℕ) → one.block ≢ block
    → cell_of (one ∷ more) block i ≡ cell_of more block i
cell-block one more block i ne = ap
    (λ t. cond (t && one.index == i) (Some one.word) (cell_of more block i))
    (same_place-false one.block block ne)

pub cell-gone : (cells : List Cell) (block : Place) (i : ℕ)
    → cell_of (without_cells cells block) block i ≡ None
cell-gone [] block i = refl
cell-gone (one ∷ more) block i =
    elim (place_cases one.block block) [
      | inl same ↦ ap (λ t. cell_of
          (cond t (without_cells more block) (one ∷ without_cells more block)) block i)
          (ap (λ p. same_place p block) same ∙ same_place-refl block) ∙ cell-gone more block i
      | inr ne ↦
          ap (λ t. cell_of (cond t (without_cells more block) (one ∷ without_cells more block))
          block i) (same_place-false one.block block ne)
          ∙ (cell-block one (without_cells more block) block i ne ∙ cell-gone more block i)
    ]

pub cell-stays : (cells : List Cell) (block other : Place) (i : ℕ) → other ≢ block
    → cell_of (without_cells cells block) other i ≡ cell_of cells other i
cell-stays [] block other i ne = refl
cell-stays (one ∷ more) block other i ne =
    elim (place_cases one.block block) [
      | inl same ↦
          ap (λ t. cell_of (cond t (without_cells more block) (one ∷ without_cells more block))
          other i) (ap (λ p. same_place p block) same ∙ same_place-refl block)
          ∙ (cell-stays more block other i ne
          ∙ sym (cell-block one more other i (λ e. ne (sym e ∙ same))))
      | inr differ ↦
          ap (λ t. cell_of (cond t (without_cells more block) (one ∷ without_cells more block))
          other i) (same_place-false one.block block differ)
          ∙ ap (λ rest. cond (same_place one.block other && one.index == i) (Some one.word) rest)
          (cell-stays more block other i ne)
    ]

-- a row of a block says what the block's words are
pub row-else : (words : Place → ℕ → ℕ) (block other : Place) (n i : ℕ) (rest : List Cell)
    → other ≢ block → cell_of (row words block n rest) other i ≡ cell_of rest other i
row-else words block other zero i rest ne = refl
row-else words block other (suc n) i rest ne =
    cell-block (record { block = block; index = n; word = words block n })
    (row words block n rest) other i (λ e. ne (sym e)) ∙ row-else words block other n i rest ne

pub row-has : (words : Place → ℕ → ℕ) (block : Place) (n i : ℕ) (rest : List Cell) → i < n
    → cell_of (row words block n rest) block i ≡ Some (words block i)
row-has words block zero i rest below = absurd (omega arith)
row-has words block (suc n) i rest below =
    elim (cases_eq n i) [
      | inl same ↦ cell-first (record { block = block; index = n; word = words block n })
          (row words block n rest) block i refl same ∙ ap (λ k. Some (words block k)) same
      | inr ne ↦ cell-index (record { block = block; index = n; word = words block n })
          (row words block n rest) block i refl ne ∙ row-has words block n i rest (omega arith)
    ]

pub row-tells : (words : Place → ℕ → ℕ) (block : Place) (n i w : ℕ) (rest : List Cell)
    → cell_of rest block i ≡ None → cell_of (row words block n rest) block i ≡ Some w
    → words block i ≡ w
row-tells words block zero i w rest none e = absurd
    (let gone : None ≡ Some w = sym none ∙ e in cc gone)
row-tells words block (suc n) i w rest none e =
    let first : Cell = record { block = block; index = n; word = words block n } in
    elim (cases_eq n i) [
      | inl same ↦
          let is : Some (words block n) ≡ Some w = sym
          (cell-first first (row words block n rest) block i refl same) ∙ e in
          ap (words block) (sym same) ∙ (cc is)
      | inr ne ↦ row-tells words block n i w rest none
          (sym (cell-index first (row words block n rest) block i refl ne) ∙ e)
    ]

not_here : (one block : Place) (more : List Place) → times block (one ∷ more) ≡ 0 → block ≢ one
not_here one block more none e = absurd
    (let here : one_if (same_place one block) ≡ 1 = ap (λ p. one_if (same_place one p)) e
    ∙ ap one_if (same_place-refl one) in omega arith)

pub rows-else : (words : Place → ℕ → ℕ) (n : ℕ) (chain : List Place) (rest : List Cell)
    (block : Place) (i : ℕ) → times block chain ≡ 0
    → cell_of (rows words n chain rest) block i ≡ cell_of rest block i
rows-else words n [] rest block i none = refl
rows-else words n (one ∷ more) rest block i none =
    let ne = not_here one block more none in
    row-else words one block n i (without_cells (rows words n more rest) one) ne
    ∙ (cell-stays (rows words n more rest) one block i ne
    ∙ rows-else words n more rest block i (omega arith))

pub rows-tell : (words : Place → ℕ → ℕ) (n : ℕ) (chain : List Place) (rest : List Cell)
    (block : Place) (i w : ℕ) → 0 < times block chain
    → cell_of (rows words n chain rest) block i ≡ Some w → words block i ≡ w
rows-tell words n [] rest block i w some e = absurd (omega arith)
rows-tell words n (one ∷ more) rest block i w some e =
    elim (place_cases block one) [
      | inl same ↦ ap (λ b. words b i) same
          ∙ row-tells words one n i w (without_cells (rows words n more rest) one)
          (cell-gone (rows words n more rest) one i)
          (sym (ap (λ b. cell_of (rows words n (one ∷ more) rest) b i) same) ∙ e)
      | inr ne ↦
          let not_first : one_if (same_place one block) ≡ 0 = ap one_if
          (same_place-false one block (λ s. ne (sym s))) in
          rows-tell words n more rest block i w (omega arith)
          (sym (row-else words one block n i (without_cells (rows words n more rest) one) ne
          ∙ cell-stays (rows words n more rest) one block i ne) ∙ e)
    ]

pub rows-have : (words : Place → ℕ → ℕ) (n : ℕ) (chain : List Place) (rest : List Cell)
    (block : Place) (i : ℕ) → 0 < times block chain → i < n
    → cell_of (rows words n chain rest) block i ≡ Some (words block i)
rows-have words n [] rest block i some below = absurd (omega arith)
rows-have words n (one ∷ more) rest block i some below =
    elim (place_cases block one) [
      | inl same ↦ ap (λ b. cell_of (rows words n (one ∷ more) rest) b i) same
          ∙ (row-has words one n i (without_cells (rows words n more rest) one) below
          ∙ ap (λ b. Some (words b i)) (sym same))
      | inr ne ↦
          let not_first : one_if (same_place one block) ≡ 0 = ap one_if
          (same_place-false one block (λ s. ne (sym s))) in
          (row-else words one block n i (without_cells (rows words n more rest) one) ne
          ∙ cell-stays (rows words n more rest) one block i ne)
          ∙ rows-have words n more rest block i (omega arith) below
    ]
