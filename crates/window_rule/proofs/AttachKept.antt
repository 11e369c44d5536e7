-- New words are attached to an object.
use Rattle.std.proofs.Common.{◌≡◌, ◌≢◌, ℕ, zero, suc, ◌+◌, ◌-◌, ◌/◌, ◌%◌, ◌<◌, ◌≤◌, List, [], ◌∷◌, length, set, get_or, refl, sym, ap, ◌∙◌, subst, inl, inr, arith, Some}
use mathlib.Core.Option.{some}
use lib.ListN.{get_elem?}
use Rattle.rma_layout.specs.Shape.{Shape}
use Rattle.rma_layout.specs.Placement.{Place, IsBlock, IsReserved, same_place, metadata}
use Rattle.object_words.specs.Blocks.{one_if}
use Rattle.window_rule.specs.View.{View, Cell}
use Rattle.window_rule.specs.Words.{is_block}
use Rattle.window_rule.specs.Objects.{Objects, Standing, AreLinked, IsKeptIn, BeginsAt, with_standing}
use Rattle.window_rule.specs.Known.{cell_of}
use Rattle.window_rule.specs.Partition.{Holder, FreeOf, OwnOf, Within, IsPartition, part_of, places_of, times}
use Rattle.window_rule.specs.Attach.{AreLinksKnown, IsBuilt}
use Rattle.window_rule.specs.Lawful.{owns_of}
use Rattle.window_rule.proofs.LockLemmas.{place_cases, same_place-refl}
use Rattle.window_rule.proofs.ObjectsKept.{times-get, length_reaches}
use Rattle.window_rule.proofs.DetachKept.{standing-same, standing-other}
use Rattle.window_rule.proofs.PartitionKept.{IsExchange, IsPartition-exchange, owner_after, settle, share-le, share-none}
use Rattle.window_rule.proofs.ViewsKept.{part_before, part_after, part_other}

linked_from : (words : Place → ℕ → ℕ) (cells : List Cell) (chain : List Place)
    → ((b : Place) (i w : ℕ) → 0 < times b chain → cell_of cells b i ≡ Some w → words b i ≡ w)
    → AreLinksKnown cells chain → AreLinked words chain
linked_from words cells [] tells l = tt
linked_from words cells (one ∷ more) tells l = (
  tells one 0 _ (let here : one_if (same_place one one) ≡ 1 = ap one_if (same_place-refl one) in
      omega arith) l.0,
  linked_from words cells more (λ b i w some_times. tells b i w (omega arith)) l.1,
)

-- what is built is kept once the length word says so
pub IsKeptIn-built : (shape : Shape) (range : 2 ≤ shape.words) (sizes : Place → ℕ) (words : Place
    → ℕ → ℕ) (cells : List Cell) (object : Place) (chain : List Place) (content : List ℕ)
    → IsBuilt shape cells object chain content
    → ((b : Place) (i w : ℕ) → 0 < times b chain → cell_of cells b i ≡ Some w → words b i ≡ w)
    → sizes object ≡ length content → IsKeptIn shape sizes words object chain content
IsKeptIn-built shape range sizes words cells object chain content h tells size = record {
  size = size;
  blocks = h.enough;
  few_words = h.few_words;
  linked = linked_from words cells chain tells h.spelled.linked;
  payload = λ k below.
      let per = shape.words - 1 in
      tells (get_or chain (k / per) metadata) (1 + k % per) (get_or content k 0)
      (times-get chain (k / per)
      (length_reaches shape range object chain content k below h.enough))
      (h.spelled.payload k below);
}

-- the first block of a chain stands in it
pub first_in : (object : Place) (chain : List Place) → BeginsAt object chain → 0 < length chain
    → 0 < times object chain
first_in object [] h more = absurd (omega arith)
first_in object (one ∷ more) h any = let here : one_if (same_place one object) ≡ 1 = ap
    (λ p. one_if (same_place p object)) h ∙ ap one_if (same_place-refl object) in omega arith

settle_none : (a b : ℕ) (one other owner : Holder) → a ≡ 0 → b ≡ 0
    → settle a b one other owner ≡ owner
settle_none (suc a) b one other owner e d = absurd (omega arith)
settle_none zero (suc b) one other owner e d = absurd (omega arith)
settle_none zero zero one other owner e d = refl

settle_other : (a b : ℕ) (one other owner : Holder) → a ≡ 0 → 0 < b
    → settle a b one other owner ≡ other
settle_other (suc a) b one other owner e d = absurd (omega arith)
settle_other zero (suc b) one other owner e d = refl
settle_other zero zero one other owner e d = absurd (omega arith)

-- blocks go between an object and a view's own
module _ {N : Type 0} (shape : Shape) (views : List (View N)) (id : ℕ) (before after : View N)
    (there : get_elem? views id ≡ some before) (free : ℕ → List Place) (objects : Objects)
    (owner : Place → Holder)
    (object : Place) (new : Standing)
    (h : IsPartition shape (part_of free (owns_of views) objects) owner)
    (conserved : (block : Place)
    → times block (places_of after.private) + times block new.chain ≡ times block
    (places_of before.private) + times block (objects object).chain) where
  abbrev part : Holder → List Place
  part = part_of free (owns_of views) objects

  abbrev moved : Holder → List Place
  moved = part_of free (owns_of (set views id after)) (with_standing objects object new)

  mine_before : part (OwnOf id) ≡ places_of before.private
  mine_before = ap places_of
      (part_before (λ (v : View N). v.private) views id before before [] there)

  mine_after : moved (OwnOf id) ≡ places_of after.private
  mine_after = ap places_of (part_after (λ (v : View N). v.private) views id before after [] there)

  in_object : moved (Within object) ≡ new.chain
  in_object = ap (λ (s : Standing). s.chain) (standing-same objects object new)

  elsewhere : (holder : Holder) → holder ≢ OwnOf id → holder ≢ Within object
      → moved holder ≡ part holder
  elsewhere (FreeOf rank) not_mine not_object = refl
  elsewhere (OwnOf j) not_mine not_object = ap places_of
      (part_other (λ (v : View N). v.private) views id before after [] there j
      (λ e. not_mine (ap OwnOf e)))
  elsewhere (Within other) not_mine not_object = ap (λ (s : Standing). s.chain)
      (standing-other objects object other new (λ e. not_object (ap Within e)))

  exchanged : IsExchange part moved (OwnOf id) (Within object)
  exchanged = record {
    differ = λ e. cc e;
    conserved = λ block.
        let a = ap (times block) mine_before in
        let b = ap (times block) mine_after in
        let c = ap (times block) in_object in
        omega (arith, conserved block);
    elsewhere = elsewhere;
  }

  stays_reserved : (IsReserved shape object.block → 0 < times object new.chain) → (block : Place)
      → IsBlock shape block → IsReserved shape block.block
      → owner_after moved (OwnOf id) (Within object) owner block ≡ Within block
  stays_reserved first block is_b reserved =
      let with_itself = h.reserved block is_b reserved in
      let not_own : times block (part (OwnOf id)) ≡ 0 = h.each (OwnOf id) block
      ∙ share-none (is_block shape block) (owner block) (OwnOf id)
      (λ e. let same : Within block ≡ OwnOf id = sym with_itself ∙ e in cc same) in
      let before_count = ap (times block) mine_before in
      let after_count = ap (times block) mine_after in
      let new_count = ap (times block) in_object in
      let few = share-le (is_block shape block) (owner block) (Within object) in
      elim (place_cases block object) [
        | inl same ↦
            let in_new : 0 < times block new.chain = subst (λ p. 0 < times p new.chain) (sym same)
            (first (subst (λ (p : Place). IsReserved shape p.block) same reserved)) in
            settle_other _ _ (OwnOf id) (Within object) (owner block)
            (omega (arith, conserved block, h.each (Within object) block)) (omega arith)
            ∙ ap Within (sym same)
        | inr ne ↦
            let not_in : times block (part (Within object)) ≡ 0 = h.each (Within object) block
            ∙ share-none (is_block shape block) (owner block) (Within object)
            (λ e. ne (let same : Within block ≡ Within object = sym with_itself
            ∙ e in cc same)) in
            settle_none _ _ (OwnOf id) (Within object) (owner block)
            (omega (arith, conserved block)) (omega (arith, conserved block)) ∙ with_itself
      ]

  pub blocks_exchanged : (IsReserved shape object.block → 0 < times object new.chain)
      → IsPartition shape moved (owner_after moved (OwnOf id) (Within object) owner)
  blocks_exchanged first = IsPartition-exchange shape part moved owner (OwnOf id)
      (Within object) exchanged (stays_reserved first) h
