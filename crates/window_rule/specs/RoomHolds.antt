-- The part of the invariant on room: a view has, on each rank, as many blocks as the contents that
-- it keeps ask for.
use Rattle.std.specs.Prelude.{ℕ, zero, suc, ◌+◌, ◌≤◌, ◌==◌, List, length, Option, Some, None}
use Rattle.window_rule.specs.EachView.{EachView}
use Rattle.std.specs.List.{count_by}
use Rattle.rma_layout.specs.Shape.{Shape}
use Rattle.rma_layout.specs.Placement.{Place}
use Rattle.object_words.specs.Blocks.{on_rank as place_on}
use Rattle.window_rule.specs.View.{View, Dirt, OwnBlock}
use Rattle.window_rule.specs.Objects.{chain_length}
use Rattle.window_rule.specs.Partition.{places_of}
use Rattle.window_rule.specs.Dirty.{dirt_of}

pub record Stock : Type 0 where
  pub private : List OwnBlock
  pub dirty : List Dirt

abbrev pub stock_of : {N : Type 0} → View N → Stock
stock_of view = record { private = view.private; dirty = view.dirty }

-- a sum over the numbers below n
abbrev pub sum_below : ℕ → (ℕ → ℕ) → ℕ
sum_below zero f = 0
sum_below (suc n) f = sum_below n f + f n

abbrev pub count_on : ℕ → List Place → ℕ
count_on rank blocks = count_by (λ (block : Place). block.rank == rank) blocks

-- the blocks that what a view keeps of an object asks for, and those that it has there
abbrev pub asked_for : Shape → Place → Option Dirt → ℕ
asked_for shape object None = 0
asked_for shape object (Some dirt) = chain_length shape object dirt.kept

abbrev pub kept_of : Option Dirt → ℕ
kept_of None = 0
kept_of (Some dirt) = length dirt.blocks

abbrev pub asked_at : Shape → List Dirt → ℕ → ℕ → ℕ
asked_at shape dirty rank block = asked_for shape (place_on rank block)
    (dirt_of dirty (place_on rank block))

abbrev pub kept_at : List Dirt → ℕ → ℕ → ℕ
kept_at dirty rank block = kept_of (dirt_of dirty (place_on rank block))

-- an object's blocks all lie on its own rank, so those of a rank are all of its objects'
abbrev pub HasStock : Shape → Stock → Type 0
HasStock shape stock = (rank : ℕ)
    → sum_below shape.blocks (asked_at shape stock.dirty rank) ≤ count_on rank
    (places_of stock.private) + sum_below shape.blocks (kept_at stock.dirty rank)

-- It reads no word, and the blocks of its own and the dirt of each view.
abbrev pub RoomHolds : {N : Type 0} → Shape → List (View N) → Type 0
RoomHolds {N} shape views = EachView (stock_of {N = N}) (λ _. HasStock shape) views
