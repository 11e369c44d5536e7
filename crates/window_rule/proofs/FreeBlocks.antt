-- Which blocks a free list may have.
use Rattle.std.proofs.Common.{◌≡◌, ◌≢◌, ℕ, ◌<◌, ◌≤◌, cond, List, [], ◌∷◌, refl, sym, ap, ◌∙◌, subst, inl, inr, arith, Some, eq-eqb, ne_eqb}
use Rattle.std.proofs.lemmas.Bool.{cases_eq}
use Rattle.std.specs.List.{AllByRecursion}
use Rattle.rma_layout.specs.Shape.{Shape}
use Rattle.rma_layout.specs.Placement.{Place, same_place}
use Rattle.object_words.specs.Blocks.{one_if}
use Rattle.window_rule.specs.Words.{is_block}
use Rattle.window_rule.specs.Partition.{Holder, FreeOf, OwnOf, Within, IsPartition, times}
use Rattle.window_rule.specs.Pool.{MayBeFree, bound_of}
use Rattle.window_rule.specs.Objects.{tag_of}
use Rattle.window_rule.proofs.Coverage.{of_one}
use Rattle.window_rule.proofs.LockLemmas.{same_place-refl}
use Rattle.window_rule.proofs.PartitionKept.{share-tells}
use Rattle.window_rule.proofs.WordFunctions.{is_block-tells}

-- what is so of each block that stands in a list
all_of_list : (P : Place → Type 0) (list : List Place)
    → ((block : Place) → 0 < times block list → P block) → AllByRecursion P list
all_of_list P [] f = tt
all_of_list P (one ∷ more) f = (
  f one (let here : one_if (same_place one one) ≡ 1 = ap one_if (same_place-refl one) in omega arith),
  all_of_list P more (λ block there. f block (omega arith)),
)

module _ (shape : Shape) (part : Holder → List Place) (owner : Place → Holder)
    (h : IsPartition shape part owner) where
  -- what is with no object may be free
  ordinary_block : (holder : Holder) → ((object : Place) → holder ≢ Within object) → (block : Place)
      → 0 < times block (part holder) → MayBeFree shape block.rank block
  ordinary_block holder no_object block there =
      let tells = share-tells (is_block shape block) (owner block) holder
      (omega (arith, h.each holder block)) in
      let inside = is_block-tells shape block tells.0 in record {
        on = refl;
        is_block = inside;
        unreserved = λ reserved. no_object block (sym tells.1 ∙ h.reserved block inside reserved);
      }

  pub own_block_is : (id : ℕ) (block : Place) → 0 < times block (part (OwnOf id))
      → MayBeFree shape block.rank block
  own_block_is id = ordinary_block (OwnOf id) (λ object e. cc e)

  module _ (rank : ℕ)
      (on : AllByRecursion (λ (block : Place). block.rank ≡ rank) (part (FreeOf rank))) where
    pub free_block : (block : Place) → 0 < times block (part (FreeOf rank))
        → MayBeFree shape rank block
    free_block block there = subst (λ r. MayBeFree shape r block)
        (of_one (λ (b : Place). b.rank ≡ rank) (part (FreeOf rank)) block on there)
        (ordinary_block (FreeOf rank) (λ object e. cc e) block there)

    pub free_blocks : AllByRecursion (MayBeFree shape rank) (part (FreeOf rank))
    free_blocks = all_of_list (MayBeFree shape rank) (part (FreeOf rank)) free_block

bound_is : (P : ℕ × ℕ → Type 0) (bounds : List (ℕ × ℕ)) (rank bound : ℕ)
    → bound_of bounds rank ≡ Some bound → AllByRecursion P bounds → P (rank, bound)
bound_is P [] rank bound e h = absurd (cc e)
bound_is P (one ∷ more) rank bound e h =
    elim (cases_eq one.0 rank) [
      | inl same ↦
          let found : Some one.1 ≡ Some bound = sym
          (ap (λ b. cond b (Some one.1) (bound_of more rank)) (eq-eqb one.0 rank same)) ∙ e in
          let is : one.1 ≡ bound = cc found in
          subst P (λ k. (same k, is k)) h.0
      | inr ne ↦ bound_is P more rank bound
          (sym (ap (λ b. cond b (Some one.1) (bound_of more rank)) (ne_eqb one.0 rank ne)) ∙ e) h.1
    ]

-- a bound of the tag is one
pub bound_holds : (heads : ℕ → ℕ) (bounds : List (ℕ × ℕ)) (rank bound : ℕ)
    → AllByRecursion (λ (one : ℕ × ℕ). tag_of (heads one.0) ≤ one.1) bounds
    → bound_of bounds rank ≡ Some bound → tag_of (heads rank) ≤ bound
bound_holds heads bounds rank bound h e = bound_is
    (λ (one : ℕ × ℕ). tag_of (heads one.0) ≤ one.1) bounds rank bound e h
