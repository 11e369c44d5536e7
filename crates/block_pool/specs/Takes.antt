-- What taking a block means.
use Rattle.std.specs.Prelude.{◌≡◌, ◌≢◌, ℕ, ◌<◌, ◌⊎◌, ◌∷◌, Bool, true, false, Result, Ok, Err, Some}
use Rattle.rma_layout.specs.Shape.{Shape}
use Rattle.rma_layout.specs.Placement.{Place}
use Rattle.object_words.specs.Blocks.{on_rank}
use Rattle.free_list.specs.Heads.{first_of}
use Rattle.window_rule.specs.View.{View}
use Rattle.window_rule.specs.Known.{without_cells}
use Rattle.window_rule.specs.Partition.{places_of, times}
use Rattle.window_rule.specs.Pool.{MayBeFree}
use Rattle.window_rule.specs.Spares.{IsNoSpare, first_spare_of, own_next_of, without_spare}
use Rattle.fabric.specs.Window.{RankModel}
use Rattle.block_pool.specs.Moves.{Failed, FailedLast, IsUnworn, IsWorn, Looked, Unmoved}
use Rattle.block_pool.specs.declared.refused.PoolRefused.{PoolRefused}
use Rattle.block_pool.specs.declared.refused.PoolRefused.TheVariants.{Empty, PoolBusy, Worn}

-- the block was the first of the free list, and is the view's own now
pub record Pops {N : Type 0} (home : ℕ) (block : Place) (before after : View N) : Type 0 where
  pub head : ℕ
  pub looked : Looked home head before after
  pub unworn : IsUnworn head
  pub block_is : block ≡ on_rank home (first_of head)
  pub nobodys : times block (places_of before.private) ≡ 0
  pub next : ℕ
  pub view : after ≡ record before {
    private = record { block = block; next = Some next } ∷ before.private;
    cells = without_cells before.cells block;
    notes = after.notes;
    bounds = after.bounds;
    misses = after.misses;
    looks = after.looks;
  }

-- the rank had no spare of this home rank, and has taken the block from the free list
pub record TakesFree {N : Type 0} (home : ℕ) (block : Place)
    (before after : RankModel N) : Type 0 where
  pub no_spare : first_spare_of before.spares home ≡ 0
  pub spares : after.spares ≡ before.spares
  pub pops : Pops home block before.view after.view

-- the block was the first spare of this home rank
pub record TakesSpare {N : Type 0} (home : ℕ) (block : Place)
    (before after : RankModel N) : Type 0 where
  pub some_spare : first_spare_of before.spares home ≢ 0
  pub block_is : block ≡ on_rank home (first_spare_of before.spares home)
  pub next : ℕ
  pub link : own_next_of before.view.private block ≡ Some next
  pub spares : after.spares ≡ without_spare home next before.spares
  pub bounds : after.view.bounds ≡ before.view.bounds
  pub unmoved : Unmoved before.view after.view

-- the block is the rank's own for use
pub record Takes {N : Type 0} (home : ℕ) (block : Place) (before after : RankModel N) : Type 0 where
  pub free : MayBeFree before.window.shape home block
  pub own : 0 < times block (places_of after.view.private)
  pub no_spare : IsNoSpare before.window.shape after.view.private after.spares block
  pub from : TakesFree home block before after ⊎ TakesSpare home block before after

-- why no block was taken: the head that was loaded last had none, or the last tag, or each exchange
-- on it failed
abbrev pub Refuses : {N : Type 0} → ℕ → ℕ → View N → View N → PoolRefused → Type 0
Refuses home times before after (Empty head) = Looked home head before after
    × (first_of head ≡ 0) × IsUnworn head
Refuses home times before after (PoolBusy loaded seen) = Looked home loaded before after
    × (first_of loaded ≢ 0) × IsUnworn loaded × (seen ≢ loaded) × Failed home times before after
    × FailedLast home loaded seen before after
Refuses home times before after (Worn head) = Looked home head before after × IsWorn head

-- and no block has moved
pub record Refusal {N : Type 0} (home : ℕ) (before after : RankModel N)
    (refused : PoolRefused) : Type 0 where
  pub no_spare : first_spare_of before.spares home ≡ 0
  pub spares : after.spares ≡ before.spares
  pub unmoved : Unmoved before.view after.view
  pub why : Refuses home 64 before.view after.view refused

-- what the answer of one or more exchanges tells
abbrev pub Tries : {N : Type 0} → Shape → ℕ → ℕ → View N → View N → Result Place PoolRefused → Type 0
Tries shape home times before after (Ok block) = Pops home block before after
    × MayBeFree shape home block
Tries shape home times before after (Err refused) = Unmoved before after
    × Refuses home times before after refused

abbrev pub is_busy : Result Place PoolRefused → Bool
is_busy (Ok block) = false
is_busy (Err (Empty head)) = false
is_busy (Err (PoolBusy loaded seen)) = true
is_busy (Err (Worn head)) = false
