-- The part on blocks: which moves of blocks keep it.
use Rattle.std.proofs.Common.{◌≡◌, ◌≢◌, ℕ, zero, suc, ◌+◌, ◌<◌, ◌≤◌, ◌&&◌, Bool, true, false, List, refl, sym, ap, ◌∙◌, ◌⊎◌, inl, inr, arith}
use Rattle.std.proofs.lemmas.Bool.{cases_Bool, cases_eq, false≢true}
use Rattle.std.proofs.lemmas.Bool.Decides.{nat_tests}
use Rattle.rma_layout.specs.Shape.{Shape}
use Rattle.rma_layout.specs.Placement.{Place, IsBlock, IsReserved}
use Rattle.object_words.specs.Blocks.{one_if}
use Rattle.window_rule.specs.Words.{is_block}
use Rattle.window_rule.specs.Partition.{Holder, FreeOf, OwnOf, Within, same_holder, times, IsPartition}
use Rattle.window_rule.proofs.LockLemmas.{same_place-refl}
use Rattle.window_rule.proofs.WordFunctions.{same_place-tells}

pub same_holder-refl : (h : Holder) → same_holder h h ≡ true
same_holder-refl (FreeOf r) = grind (arith, nat_tests)
same_holder-refl (OwnOf i) = grind (arith, nat_tests)
same_holder-refl (Within o) = same_place-refl o

pub same_holder-tells : (h k : Holder) → same_holder h k ≡ true → h ≡ k
same_holder-tells (FreeOf r) (FreeOf s) e = let n : r ≡ s = grind (arith, nat_tests) in ap FreeOf n
same_holder-tells (OwnOf i) (OwnOf j) e = let n : i ≡ j = grind (arith, nat_tests) in ap OwnOf n
same_holder-tells (Within o) (Within p) e = ap Within (same_place-tells o p e)
same_holder-tells h k e = absurd (false≢true e)

pub holder_cases : (h k : Holder) → (h ≡ k) ⊎ (h ≢ k)
holder_cases h k =
    elim (cases_Bool (same_holder h k)) [
      | inl same ↦ inl (same_holder-tells h k same)
      | inr differ ↦ inr
          (λ e. false≢true (sym differ ∙ (ap (λ x. same_holder x k) e ∙ same_holder-refl k)))
    ]

-- how often a block that is with this owner stands in the part of a holder
abbrev pub share : Bool → Holder → Holder → ℕ
share inside owner holder = one_if (inside && same_holder owner holder)

one_of : (a b : Bool) → 0 < one_if (a && b) → (a ≡ true) × (b ≡ true)
one_of true true h = (refl, refl)
one_of true false h = absurd (omega arith)
one_of false b h = absurd (omega arith)

at_most : (b : Bool) → one_if b ≤ 1
at_most true = omega arith
at_most false = omega arith

pub share-tells : (inside : Bool) (owner holder : Holder) → 0 < share inside owner holder
    → (inside ≡ true) × (owner ≡ holder)
share-tells inside owner holder h = let both = one_of inside (same_holder owner holder) h in
    (both.0, same_holder-tells owner holder both.1)

pub share-here : (inside : Bool) (holder : Holder) → inside ≡ true → share inside holder holder ≡ 1
share-here inside holder e = ap (λ b. one_if (b && same_holder holder holder)) e
    ∙ ap one_if (same_holder-refl holder)

pub share-le : (inside : Bool) (owner holder : Holder) → share inside owner holder ≤ 1
share-le inside owner holder = at_most (inside && same_holder owner holder)

pub share-none : (inside : Bool) (owner holder : Holder) → owner ≢ holder
    → share inside owner holder ≡ 0
share-none inside owner holder ne =
    elim (cases_eq (share inside owner holder) 0) [
      | inl e ↦ e
      | inr more ↦ absurd (ne (share-tells inside owner holder (omega arith)).1)
    ]

-- a block cannot be with two
pub two_shares : (inside : Bool) (owner one other : Holder) → one ≢ other
    → share inside owner one + share inside owner other ≤ 1
two_shares inside owner one other ne =
    elim (cases_eq (share inside owner one) 0) [
      | inl none ↦ omega (arith, share-le inside owner other)
      | inr here ↦
          let is_one = (share-tells inside owner one (omega arith)).1 in
          omega (
            arith,
            share-le inside owner one,
            share-none inside owner other (λ e. ne (sym is_one ∙ e)),
          )
    ]

-- the owner of a block, from how often it stands with each of two holders after a move between them
abbrev pub settle : ℕ → ℕ → Holder → Holder → Holder → Holder
settle (suc m) n one other owner = one
settle zero (suc n) one other owner = other
settle zero zero one other owner = owner

-- the count of a block in the part of a holder after such a move
pub record IsMoved (inside : Bool) (owner one other holder : Holder)
    (in_one in_other count : ℕ) : Type 0 where
  pub conserved : in_one + in_other ≡ share inside owner one + share inside owner other
  pub here : holder ≡ one → count ≡ in_one
  pub there : holder ≡ other → count ≡ in_other
  pub elsewhere : holder ≢ one → holder ≢ other → count ≡ share inside owner holder

module _ (inside : Bool) (owner one other holder : Holder) (ne : one ≢ other) where
  moved_away : (count : ℕ) → 0 < share inside owner one + share inside owner other → holder ≢ one
      → holder ≢ other → count ≡ share inside owner holder → count ≡ 0
  moved_away count some not_one not_other e =
      elim (cases_eq (share inside owner one) 0) [
        | inl none ↦ e ∙ share-none inside owner holder
            (λ same. not_other (sym same ∙ (share-tells inside owner other (omega arith)).1))
        | inr here ↦ e ∙ share-none inside owner holder
            (λ same. not_one (sym same ∙ (share-tells inside owner one (omega arith)).1))
      ]

  inside_if : 0 < share inside owner one + share inside owner other → inside ≡ true
  inside_if some =
      elim (cases_eq (share inside owner one) 0) [
        | inl none ↦ (share-tells inside owner other (omega arith)).0
        | inr here ↦ (share-tells inside owner one (omega arith)).0
      ]

  settled : (in_one in_other count : ℕ)
      → IsMoved inside owner one other holder in_one in_other count
      → count ≡ share inside (settle in_one in_other one other owner) holder
  settled (suc m) n count h =
      let conserved = h.conserved in
      let few = two_shares inside owner one other ne in
      let within = inside_if (omega arith) in
      elim (holder_cases holder one) [
        | inl same ↦ h.here same
            ∙ (omega arith ∙ sym (ap (λ k. share inside one k) same ∙ share-here inside one within))
        | inr not_one ↦
            sym (share-none inside one holder (λ e. not_one (sym e))
            ∙ sym (elim (holder_cases holder other) [
              | inl same ↦ h.there same ∙ omega arith
              | inr not_other ↦ moved_away count (omega arith) not_one not_other
                  (h.elsewhere not_one not_other)
            ]))
      ]
  settled zero (suc n) count h =
      let conserved = h.conserved in
      let few = two_shares inside owner one other ne in
      let within = inside_if (omega arith) in
      elim (holder_cases holder other) [
        | inl same ↦ h.there same
            ∙ (omega arith ∙ sym
            (ap (λ k. share inside other k) same ∙ share-here inside other within))
        | inr not_other ↦
            sym (share-none inside other holder (λ e. not_other (sym e))
            ∙ sym (elim (holder_cases holder one) [
              | inl same ↦ h.here same
              | inr not_one ↦ moved_away count (omega arith) not_one not_other
                  (h.elsewhere not_one not_other)
            ]))
      ]
  settled zero zero count h =
      let conserved = h.conserved in
      elim (holder_cases holder one) [
        | inl same ↦ h.here same ∙ (omega arith ∙ sym (ap (share inside owner) same))
        | inr not_one ↦ elim (holder_cases holder other) [
          | inl same ↦ h.there same ∙ (omega arith ∙ sym (ap (share inside owner) same))
          | inr not_other ↦ h.elsewhere not_one not_other
        ]
      ]

abbrev pub owner_after : (Holder → List Place) → Holder → Holder → (Place → Holder) → Place → Holder
owner_after after one other owner block = settle (times block (after one))
    (times block (after other)) one other (owner block)

-- blocks go from one holder to another, or both ways
pub record IsExchange (part after : Holder → List Place) (one other : Holder) : Type 0 where
  pub differ : one ≢ other
  pub conserved : (block : Place)
      → times block (after one) + times block (after other) ≡ times block (part one) + times block
      (part other)
  pub elsewhere : (holder : Holder) → holder ≢ one → holder ≢ other → after holder ≡ part holder

pub IsPartition-exchange : (shape : Shape) (part after : Holder → List Place) (owner : Place
    → Holder) (one other : Holder)
    → IsExchange part after one other
    → ((block : Place) → IsBlock shape block → IsReserved shape block.block
    → owner_after after one other owner block ≡ Within block)
    → IsPartition shape part owner → IsPartition shape after (owner_after after one other owner)
IsPartition-exchange shape part after owner one other move reserved h = record {
  each = λ holder block.
      settled (is_block shape block) (owner block) one other holder move.differ
      (times block (after one)) (times block (after other)) (times block (after holder))
      (record {
        conserved = omega (arith, move.conserved block, h.each one block, h.each other block);
        here = λ same. ap (λ k. times block (after k)) same;
        there = λ same. ap (λ k. times block (after k)) same;
        elsewhere = λ not_one not_other. ap (times block) (move.elsewhere holder not_one not_other)
            ∙ h.each holder block;
      });
  reserved = reserved;
}

-- no block stands in the parts of two holders
pub apart : (shape : Shape) (part : Holder → List Place) (owner : Place → Holder)
    (one other : Holder) (block : Place)
    → IsPartition shape part owner → one ≢ other → 0 < times block (part one)
    → times block (part other) ≡ 0
apart shape part owner one other block h ne here =
    let is_one = (share-tells (is_block shape block) (owner block) one
    (omega (arith, h.each one block))).1 in
    h.each other block
    ∙ share-none (is_block shape block) (owner block) other (λ e. ne (sym is_one ∙ e))

settle_unmoved : (a b : ℕ) (one other owner : Holder) → a ≡ 0 → b ≡ 0
    → settle a b one other owner ≡ owner
settle_unmoved a b one other owner e d = ap (λ n. settle n b one other owner) e
    ∙ ap (λ n. settle 0 n one other owner) d

-- blocks go between two holders that are no objects
pub IsPartition-between : (shape : Shape) (part after : Holder → List Place) (owner : Place
    → Holder) (one other : Holder)
    → IsExchange part after one other → ((block : Place) → one ≢ Within block)
    → ((block : Place) → other ≢ Within block)
    → IsPartition shape part owner → IsPartition shape after (owner_after after one other owner)
IsPartition-between shape part after owner one other move one_free other_free h =
    IsPartition-exchange shape part after owner one other move (λ block is_b reserved.
    let owned = h.reserved block is_b reserved in
    let none : (holder : Holder) → holder ≢ Within block
    → times block (part holder) ≡ 0 = λ holder ne. h.each holder block
    ∙ share-none (is_block shape block) (owner block) holder (λ e. ne (sym e ∙ owned)) in
    settle_unmoved (times block (after one)) (times block (after other)) one other (owner block)
    (omega (arith, move.conserved block, none one (one_free block), none other (other_free block)))
    (omega (arith, move.conserved block, none one (one_free block), none other (other_free block)))
    ∙ owned) h
