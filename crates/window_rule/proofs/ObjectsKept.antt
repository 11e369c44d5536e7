-- The parts on objects: which steps keep them.
use Rattle.std.proofs.Common.{◌≡◌, ◌≢◌, ℕ, zero, suc, ◌+◌, ◌-◌, ◌*◌, ◌/◌, ◌%◌, ◌<◌, ◌≤◌, ◌&&◌, ◌==◌, not, Bool, true, false, cond, List, [], ◌∷◌, length, get_or, refl, ap, ◌∙◌, arith, Option, Some, None}
use Rattle.std.proofs.lemmas.Nat.{div_below}
use Rattle.std.proofs.Math.Nat.{lt-div-mul-add}
use Rattle.rma_layout.specs.Shape.{Shape}
use Rattle.rma_layout.specs.Ranges.{IsInRange}
use Rattle.rma_layout.specs.Placement.{Place, same_place, metadata}
use Rattle.object_words.specs.Blocks.{one_if, blocks_for, is_reserved}
use Rattle.window_rule.specs.Objects.{Objects, AreLinked, IsKeptIn, IsKept, ObjectsStand, chain_length}
use Rattle.window_rule.specs.Partition.{times}
use Rattle.window_rule.proofs.LockLemmas.{same_place-refl, same_place-false}

-- the block that keeps a word of the content is in the chain
pub reaches : (n per k : ℕ) → 0 < per → k < n → k / per < blocks_for n per
reaches n per k positive below =
    let bound = lt-div-mul-add {a = n + (per - 1)} {b = per} positive in
    let m = (n + (per - 1)) / per in
    let enough : k < m * per = omega (arith, bound) in
    omega (arith, div_below k per m positive enough)

chain_has : (shape : Shape) (object : Place) (content : List ℕ) (k : ℕ) → k < length content
    → chain_length shape object content ≡ blocks_for (length content) (shape.words - 1)
chain_has shape object [] k h = absurd (omega arith)
chain_has shape object (w ∷ ws) k h = elim (is_reserved shape object.block) as
    (λ (b : Bool). cond (not b && false) 0
    (blocks_for (length (w ∷ ws)) (shape.words - 1)) ≡ blocks_for (length (w ∷ ws))
    (shape.words - 1)) [ true ↦ refl | false ↦ refl ]

pub times-get : (chain : List Place) (j : ℕ) → j < length chain
    → 0 < times (get_or chain j metadata) chain
times-get [] j h = absurd (omega arith)
times-get (one ∷ more) zero h = let here : one_if (same_place one one) ≡ 1 = ap one_if
    (same_place-refl one) in omega arith
times-get (one ∷ more) (suc j) h = omega (arith, times-get more j (omega arith))

-- each word of a content stands in a block of its chain
pub length_reaches : (shape : Shape) → 2 ≤ shape.words
    → (object : Place) (chain : List Place) (content : List ℕ) (k : ℕ) → k < length content
    → length chain ≡ chain_length shape object content → k / (shape.words - 1) < length chain
length_reaches shape wide object chain content k below blocks =
    omega (
      arith,
      reaches (length content) (shape.words - 1) k (omega arith) below,
      blocks,
      chain_has shape object content k below,
    )

pub chain_reaches : (shape : Shape) → 2 ≤ shape.words
    → (sizes : Place → ℕ) (cells : Place → ℕ → ℕ) (object : Place) (chain : List Place)
    (content : List ℕ) (k : ℕ) → k < length content
    → IsKeptIn shape sizes cells object chain content → k / (shape.words - 1) < length chain
chain_reaches shape wide sizes cells object chain content k below h =
    omega (
      arith,
      reaches (length content) (shape.words - 1) k (omega arith) below,
      h.blocks,
      chain_has shape object content k below,
    )

-- a word of a block is stored
module _ (cells : Place → ℕ → ℕ) (block : Place) (i new : ℕ) where
  abbrev pub stored : Place → ℕ → ℕ
  stored other j = cond (same_place other block && j == i) new (cells other j)

  -- a word of another block stays
  pub other_block : (other : Place) (j : ℕ) → other ≢ block → stored other j ≡ cells other j
  other_block other j ne = ap (λ t. cond (t && j == i) new (cells other j))
      (same_place-false other block ne)

  pub AreLinked-put : (chain : List Place) → times block chain ≡ 0 → AreLinked cells chain
      → AreLinked stored chain
  AreLinked-put [] none h = tt
  AreLinked-put (one ∷ more) none h =
      let ne : one ≢ block = λ e. absurd
      (let here : one_if (same_place one block) ≡ 1 = ap (λ p. one_if (same_place p block)) e
      ∙ ap one_if (same_place-refl block) in omega arith) in
      (other_block one 0 ne ∙ h.0, AreLinked-put more (omega arith) h.1)

  module _ (shape : Shape) (range : IsInRange shape) (sizes : Place → ℕ) where
    -- an object that does not have the block is kept
    pub IsKeptIn-put : (object : Place) (chain : List Place) (content : List ℕ)
        → times block chain ≡ 0
        → IsKeptIn shape sizes cells object chain content
        → IsKeptIn shape sizes stored object chain content
    IsKeptIn-put object chain content none h = record {
      size = h.size;
      blocks = h.blocks;
      few_words = h.few_words;
      linked = AreLinked-put chain none h.linked;
      payload = λ k below.
          let per = shape.words - 1 in
          let inside : k / per < length chain = omega (
            arith,
            reaches (length content) per k (omega (arith, range.words)) below,
            h.blocks,
            chain_has shape object content k below,
          ) in
          let at = get_or chain (k / per) metadata in
          let ne : at ≢ block = λ e. absurd
          (let same : times at chain ≡ times block chain = ap (λ b. times b chain) e in omega
          (arith, times-get chain (k / per) inside)) in
          other_block at (1 + k % per) ne ∙ h.payload k below;
    }

    IsKept-put : (object : Place) (chain : List Place) (content : Option (List ℕ))
        → (content ≢ None → times block chain ≡ 0) → IsKept shape sizes cells object chain content
        → IsKept shape sizes stored object chain content
    IsKept-put object chain None none h = h
    IsKept-put object chain (Some content) none h = IsKeptIn-put object chain content
        (none (λ e. absurd (cc e))) h

    -- and so are all objects where the block is in no chain that is attached
    pub ObjectsStand-put : (objects : Objects)
        → ((object : Place) → (objects object).content ≢ None
        → times block (objects object).chain ≡ 0)
        → ObjectsStand shape sizes cells objects → ObjectsStand shape sizes stored objects
    ObjectsStand-put objects none h object is_block =
        IsKept-put object (objects object).chain (objects object).content (none object)
        (h object is_block)

-- the length word of an object is stored
module _ (shape : Shape) (sizes : Place → ℕ) (cells : Place → ℕ → ℕ) (object : Place)
    (size : ℕ) where
  abbrev pub resized : Place → ℕ
  resized other = cond (same_place other object) size (sizes other)

  pub other_size : (other : Place) → other ≢ object → resized other ≡ sizes other
  other_size other ne = ap (λ t. cond t size (sizes other)) (same_place-false other object ne)

  pub IsKept-elsewhere : (other : Place) (chain : List Place) (content : Option (List ℕ))
      → other ≢ object → IsKept shape sizes cells other chain content
      → IsKept shape resized cells other chain content
  IsKept-elsewhere other chain None ne h = other_size other ne ∙ h
  IsKept-elsewhere other chain (Some content) ne h = record {
    size = other_size other ne ∙ h.size;
    blocks = h.blocks;
    few_words = h.few_words;
    linked = h.linked;
    payload = h.payload;
  }
