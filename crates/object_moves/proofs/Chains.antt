-- The chain of an object that a view knows is walked along its links.
use Rattle.std.proofs.Common.{◌≡◌, ℕ, zero, suc, ◌+◌, ◌-◌, ◌*◌, ◌/◌, ◌%◌, ◌<◌, ◌==◌, not, ◌&&◌, true, false, cond, List, [], ◌∷◌, ◌++◌, length, get_or, slice_get, take, refl, sym, ap, ◌∙◌, subst, inl, arith, Option, Some, None, ne_eqb}
use Rattle.std.proofs.lemmas.Nat.{div_below}
use Rattle.std.proofs.lemmas.Option.{get_or_from_slice_get}
use Rattle.std.proofs.lemmas.Grind.{take_at_read}
use Rattle.std.proofs.Math.Nat.{lt-div-mul-add}
use Rattle.rma_layout.specs.Shape.{Shape}
use Rattle.rma_layout.specs.Ranges.{IsInRange}
use Rattle.rma_layout.specs.Placement.{Place, IsBlock, metadata, same_place}
use Rattle.object_words.specs.Blocks.{blocks_for, is_reserved, one_if}
use Rattle.object_words.specs.Chains.{place_of}
use Rattle.object_words.specs.Contents.{is_empty}
use Rattle.object_words.specs.Entries.{Entry}
use Rattle.window_rule.specs.View.{View, Known}
use Rattle.window_rule.specs.Known.{chain_in, known_of, without_known}
use Rattle.window_rule.specs.Lengths.{measured}
use Rattle.window_rule.specs.Objects.{BeginsAt, chain_length}
use Rattle.window_rule.specs.Partition.{times}
use Rattle.window_rule.specs.Reads.{Gets, IsWordOf, MayGet}
use Rattle.window_rule.specs.Truths.{IsTrueView}
use Rattle.window_rule.proofs.LockLemmas.{same_place-refl}
use Rattle.window_rule.proofs.Walks.{place_of-raw_of}
use Rattle.object_moves.specs.Loads.{blocks_asked, content_in}

-- what is so of the chain of an object that a view knows
pub record IsChain (shape : Shape) (object : Place) (chain : List Place)
    (content : List ℕ) : Type 0 where
  pub blocks : length chain ≡ chain_length shape object content
  pub begins : 0 < length chain → get_or chain 0 metadata ≡ object
  pub each : (j : ℕ) → j < length chain → IsBlock shape (get_or chain j metadata)

times_at : (chain : List Place) (j : ℕ) → j < length chain
    → 0 < times (get_or chain j metadata) chain
times_at [] j h = absurd (omega arith)
times_at (block ∷ more) zero h = let here : one_if (same_place block block) ≡ 1 = ap one_if
    (same_place-refl block) in omega arith
times_at (block ∷ more) (suc j) h = omega (arith, times_at more j (omega arith))

begins_at : (object : Place) (chain : List Place) → BeginsAt object chain → 0 < length chain
    → get_or chain 0 metadata ≡ object
begins_at object [] h some = absurd (omega arith)
begins_at object (block ∷ more) h some = h

module _ {N : Type 0} (fits : Shape → Entry N → Type 0) (shape : Shape) (view : View N)
    (is : IsTrueView fits shape view) (object : Place) where
  pub known_chain : (known : Known) → known_of view.known object ≡ Some known
      → IsChain shape object known.chain known.content
  known_chain known e = record {
    blocks = is.full object known e;
    begins = begins_at object known.chain (is.lies object known e).begins;
    each = λ j h. is.inside object known (get_or known.chain j metadata) e
        (times_at known.chain j h);
  }

-- an object with blocks or with words is known
pub record IsKnown {N : Type 0} (view : View N) (object : Place) : Type 0 where
  pub known : Known
  pub is : known_of view.known object ≡ Some known
  pub chain : chain_in (known_of view.known object) ≡ known.chain
  pub content : content_in (known_of view.known object) ≡ known.content

some_known : (o : Option Known) → (0 < length (chain_in o) → (known : Known) × (o ≡ Some known))
    × (0 < length (content_in o) → (known : Known) × (o ≡ Some known))
some_known None = (λ h. absurd (omega arith), λ h. absurd (omega arith))
some_known (Some known) = (λ h. (known, refl), λ h. (known, refl))

known_at : {N : Type 0} (view : View N) (object : Place)
    → ((known : Known) × (known_of view.known object ≡ Some known)) → IsKnown view object
known_at view object found = record {
  known = found.0;
  is = found.1;
  chain = ap chain_in found.1;
  content = ap content_in found.1;
}

pub known_by_chain : {N : Type 0} (view : View N) (object : Place)
    → 0 < length (chain_in (known_of view.known object)) → IsKnown view object
known_by_chain view object h =
    known_at view object ((some_known (known_of view.known object)).0 h)

pub known_by_content : {N : Type 0} (view : View N) (object : Place)
    → 0 < length (content_in (known_of view.known object)) → IsKnown view object
known_by_content view object h =
    known_at view object ((some_known (known_of view.known object)).1 h)

-- a block of a known chain may be loaded
pub may_get : {N : Type 0} (view : View N) (object : Place) (known : Known) (j : ℕ) (block : Place)
    → known_of view.known object ≡ Some known → j < length known.chain
    → get_or known.chain j metadata ≡ block → MayGet view block
may_get view object known j block e h is =
    inl (object, known, e, subst (λ p. 0 < times p known.chain) is (times_at known.chain j h))

-- a link leads to the next block
pub next_block : (shape : Shape) (object : Place) (chain : List Place) (content : List ℕ)
    (j word : ℕ) → IsInRange shape → IsChain shape object chain content → j + 1 < length chain
    → IsWordOf shape chain content j 0 word → place_of word ≡ get_or chain (j + 1) metadata
next_block shape object chain content j word in_range is h told =
    let next = get_or chain (j + 1) metadata in
    let block = is.each (j + 1) h in
    ap place_of (told.link refl h)
    ∙ place_of-raw_of next (omega (arith, block.1, in_range.blocks))

pub met_more : (chain blocks new : List Place) (j : ℕ) (block : Place) → j < length chain
    → get_or chain j metadata ≡ block → blocks ≡ take j chain → new ≡ blocks ++ block ∷ []
    → new ≡ take (j + 1) chain
met_more chain blocks new j block h is met pushed =
    pushed ∙ (ap (λ xs. xs ++ block ∷ []) met
    ∙ (ap (λ b. take j chain ++ b ∷ []) (sym is) ∙ sym (take_at_read chain j metadata h).1))

pub told_more : (content words new : List ℕ) (k word : ℕ) → k < length content
    → get_or content k 0 ≡ word → words ≡ take k content → new ≡ words ++ word ∷ []
    → new ≡ take (k + 1) content
told_more content words new k word h is met pushed =
    pushed ∙ (ap (λ xs. xs ++ word ∷ []) met
    ∙ (ap (λ b. take k content ++ b ∷ []) (sym is) ∙ sym (take_at_read content k 0 h).1))

reaches : (n per k : ℕ) → 0 < per → k < n → k / per < blocks_for n per
reaches n per k positive h =
    let m = (n + (per - 1)) / per in
    let bound = lt-div-mul-add {a = n + (per - 1)} {b = per} positive in
    let enough : k < m * per = omega (arith, bound, positive, h) in
    omega (arith, div_below k per m positive enough)

chain_has : (shape : Shape) (object : Place) (content : List ℕ) (k : ℕ) → k < length content
    → chain_length shape object content ≡ blocks_for (length content) (shape.words - 1)
chain_has shape object [] k h = absurd (omega arith)
chain_has shape object (w ∷ ws) k h = elim (is_reserved shape object.block) as
    (λ b. cond (not b && false) 0 (blocks_for (length (w ∷ ws)) (shape.words - 1))
    ≡ blocks_for (length (w ∷ ws)) (shape.words - 1)) [ true ↦ refl | false ↦ refl ]

-- the block of a word is in the chain
pub reaches_in : (shape : Shape) (object : Place) (chain : List Place) (content : List ℕ) (k : ℕ)
    → IsInRange shape → IsChain shape object chain content → k < length content
    → k / (shape.words - 1) < length chain
reaches_in shape object chain content k in_range is h =
    let r = reaches (length content) (shape.words - 1) k (omega (arith, in_range.words)) h in
    subst (λ n. k / (shape.words - 1) < n) (sym (is.blocks ∙ chain_has shape object content k h)) r

-- as many blocks are asked for as the chain has
pub asked_are : (shape : Shape) (object : Place) (content : List ℕ)
    → blocks_asked shape object (length content) ≡ chain_length shape object content
asked_are shape object [] = refl
asked_are shape object (w ∷ ws) =
    let blocks = blocks_for (length (w ∷ ws)) (shape.words - 1) in
    elim (is_reserved shape object.block) as
    (λ b. cond (not b && length (w ∷ ws) == 0) 0 blocks ≡ cond (not b && is_empty (w ∷ ws)) 0 blocks) [
      | true ↦ refl
      | false ↦ ap (λ b. cond b 0 blocks) (ne_eqb (length (w ∷ ws)) 0 (λ e. omega arith))
    ]

-- word k of an object that a view knows, whose blocks these are
pub record IsWordAt {N : Type 0} (shape : Shape) (view : View N) (object : Place)
    (blocks : List Place) (per k : ℕ) : Type 0 where
  pub known : Known
  pub is : known_of view.known object ≡ Some known
  pub content : content_in (known_of view.known object) ≡ known.content
  pub blocks_are : blocks ≡ known.chain
  pub chain : IsChain shape object known.chain known.content
  pub below : k < length known.content
  pub within : k / per < length known.chain
  pub inside : k / per < length blocks

module _ {N : Type 0} (fits : Shape → Entry N → Type 0) (shape : Shape) (view : View N)
    (in_range : IsInRange shape) (is : IsTrueView fits shape view) (object : Place) where
  pub word_at : (blocks : List Place) (per k : ℕ) → per ≡ shape.words - 1
      → blocks ≡ chain_in (known_of view.known object)
      → k < length (content_in (known_of view.known object))
      → IsWordAt shape view object blocks per k
  word_at blocks per k per_is blocks_are h =
      let found = known_by_content view object (omega (arith, h)) in
      let below : k < length found.known.content = omega (arith, h, ap length found.content) in
      let chain = known_chain fits shape view is object found.known found.is in
      let within : k / per < length found.known.chain = subst
      (λ p. k / p < length found.known.chain) (sym per_is)
      (reaches_in shape object found.known.chain found.known.content k in_range chain below) in
      let same : blocks ≡ found.known.chain = blocks_are ∙ found.chain in
      record {
        known = found.known;
        is = found.is;
        content = found.content;
        blocks_are = same;
        chain = chain;
        below = below;
        within = within;
        inside = subst (λ l. k / per < length l) (sym same) within;
      }

  -- the block that number j of the chain is
  pub chain_at : (j : ℕ) (block : Place) → j < length (chain_in (known_of view.known object))
      → get_or (chain_in (known_of view.known object)) j metadata ≡ block
      → IsBlock shape block × MayGet view block
  chain_at j block h at =
      let found = known_by_chain view object (omega (arith, h)) in
      let within : j < length found.known.chain = omega (arith, h, ap length found.chain) in
      let here : get_or found.known.chain j metadata ≡ block = ap (λ l. get_or l j metadata)
      (sym found.chain) ∙ at in (
        subst (IsBlock shape) here
            ((known_chain fits shape view is object found.known found.is).each j within),
        may_get view object found.known j block found.is within here,
      )

  -- and where its link leads
  pub link_at : (j found_word : ℕ) (block : Place) (before after : View N) → before ≡ view
      → j + 1 < length (chain_in (known_of view.known object))
      → get_or (chain_in (known_of view.known object)) j metadata ≡ block
      → Gets shape block 0 before found_word after
      → get_or (chain_in (known_of view.known object)) (j + 1) metadata ≡ place_of found_word
  link_at j word block before after same h at told =
      let found = known_by_chain view object (omega (arith, h)) in
      let more : j + 1 < length found.known.chain = omega (arith, h, ap length found.chain) in
      let here : get_or found.known.chain j metadata ≡ block = ap (λ l. get_or l j metadata)
      (sym found.chain) ∙ at in
      let chain = known_chain fits shape view is object found.known found.is in
      ap (λ l. get_or l (j + 1) metadata) found.chain
      ∙ sym (next_block shape object found.known.chain found.known.content j word in_range chain
      more (told.known object found.known j
      (ap (λ (v : View N). known_of v.known object) same ∙ found.is) (omega arith, here)))

pub word_block : {N : Type 0} (shape : Shape) (view : View N) (object : Place)
    (blocks : List Place) (per k : ℕ) (block : Place) → IsWordAt shape view object blocks per k
    → slice_get blocks (k / per) ≡ Some block → IsBlock shape block × MayGet view block
word_block shape view object blocks per k block w at =
    let here : get_or w.known.chain (k / per) metadata ≡ block = ap
    (λ l. get_or l (k / per) metadata) (sym w.blocks_are)
    ∙ get_or_from_slice_get blocks (k / per) block metadata at in (
      subst (IsBlock shape) here (w.chain.each (k / per) w.within),
      may_get view object w.known (k / per) block w.is w.within here,
    )

pub word_told : {N : Type 0} (shape : Shape) (view : View N) (object : Place)
    (blocks : List Place) (per k : ℕ) (block : Place) (found : ℕ) (before after : View N)
    → IsWordAt shape view object blocks per k → slice_get blocks (k / per) ≡ Some block
    → per ≡ shape.words - 1 → before ≡ view → Gets shape block (1 + k % per) before found after
    → get_or (content_in (known_of view.known object)) k 0 ≡ found
word_told {N} shape view object blocks per k block found before after w at per_is same told =
    let here : get_or w.known.chain (k / per) metadata ≡ block = ap
    (λ l. get_or l (k / per) metadata) (sym w.blocks_are)
    ∙ get_or_from_slice_get blocks (k / per) block metadata at in
    let word = told.known object w.known (k / per)
    (ap (λ (v : View N). known_of v.known object) same ∙ w.is) (w.within, here) in
    ap (λ l. get_or l k 0) w.content
    ∙ sym (word.payload k w.below (ap (λ p. k / p) per_is) (ap (λ p. 1 + k % p) per_is))

-- an object that was measured is known
pub measured_is : {N : Type 0} (object : Place) (known : Known) (history : List (Entry N))
    (before after : View N) → after ≡ measured object known history before
    → known_of after.known object ≡ Some known
measured_is {N} object known history before after is =
    ap (λ (v : View N). known_of v.known object) is
    ∙ ap (λ b. cond b (Some known) (known_of (without_known before.known object) object))
    (same_place-refl object)

-- the block of a word is among so many as its object asks for
pub within_chain : (shape : Shape) (object : Place) (content : List ℕ) (k : ℕ) → IsInRange shape
    → k < length content → k / (shape.words - 1) < chain_length shape object content
within_chain shape object content k in_range h =
    let r = reaches (length content) (shape.words - 1) k (omega (arith, in_range.words)) h in
    subst (λ n. k / (shape.words - 1) < n) (sym (chain_has shape object content k h)) r
