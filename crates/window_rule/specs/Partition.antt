-- The part of the invariant on blocks: each is in one free list, with one view or with one object.
use Rattle.std.specs.Prelude.{◌≡◌, ℕ, ◌+◌, ◌==◌, ◌&&◌, Bool, false, List, [], ◌∷◌, map, get_or}
use Rattle.rma_layout.specs.Shape.{Shape}
use Rattle.rma_layout.specs.Placement.{Place, IsBlock, IsReserved, same_place}
use Rattle.object_words.specs.Blocks.{one_if}
use Rattle.window_rule.specs.View.{OwnBlock}
use Rattle.window_rule.specs.Words.{is_block}
use Rattle.window_rule.specs.Objects.{Objects}

pub data Holder : Type 0 where
  -- the free list of a rank
  FreeOf : ℕ → Holder
  -- a view, by its number
  OwnOf : ℕ → Holder
  -- an object
  Within : Place → Holder

abbrev pub same_holder : Holder → Holder → Bool
same_holder (FreeOf r) (FreeOf s) = r == s
same_holder (OwnOf i) (OwnOf j) = i == j
same_holder (Within o) (Within p) = same_place o p
same_holder one other = false

-- how often a block is among these
abbrev pub times : Place → List Place → ℕ
times block [] = 0
times block (one ∷ more) = one_if (same_place one block) + times block more

abbrev pub places_of : List OwnBlock → List Place
places_of own = map (λ (one : OwnBlock). one.block) own

abbrev pub part_of : (ℕ → List Place) → List (List OwnBlock) → Objects → Holder → List Place
part_of free owns objects (FreeOf rank) = free rank
part_of free owns objects (OwnOf id) = places_of (get_or owns id [])
part_of free owns objects (Within object) = (objects object).chain

-- each block of the window is with its owner, once, and with no other. What is no block of the
-- window is nowhere
pub record IsPartition (shape : Shape) (part : Holder → List Place) (owner : Place
    → Holder) : Type 0 where
  pub each : (holder : Holder) (block : Place)
      → times block (part holder) ≡ one_if
      (is_block shape block && same_holder (owner block) holder)
  pub reserved : (block : Place) → IsBlock shape block → IsReserved shape block.block
      → owner block ≡ Within block
