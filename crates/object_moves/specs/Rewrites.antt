-- A locked object gets new words, in blocks that it had and blocks that were taken for it.
use Rattle.std.specs.Prelude.{◌≡◌, ℕ, ◌+◌, ◌<◌, ◌≤◌, ◌^◌, List, ◌∷◌, ◌++◌, length, take, Some}
use mathlib.Core.List.{IsPrefix}
use Rattle.rma_layout.specs.Shape.{Shape}
use Rattle.rma_layout.specs.Placement.{Place, IsBlock}
use Rattle.window_rule.specs.View.{View, Known}
use Rattle.window_rule.specs.Detach.{MayDetach}
use Rattle.window_rule.specs.Known.{known_of, without_known}
use Rattle.window_rule.specs.Objects.{LiesAt, chain_length}
use Rattle.window_rule.specs.Partition.{times, places_of}
use Rattle.window_rule.specs.RoomHolds.{count_on}
use Rattle.window_rule.specs.Spares.{IsNoSpare, own_next_of}
use Rattle.fabric.specs.Window.{RankModel}

-- the blocks with which an object is written: those of its chain, so many, and behind them extras. In
-- the first of them there is room for the words
pub record HasBlocks (shape : Shape) (object : Place) (blocks : List Place) (kept : ℕ)
    (words : List ℕ) : Type 0 where
  pub kept_are : kept ≤ length blocks
  pub enough : chain_length shape object words ≤ length blocks
  pub few_words : length words ≤ 2 ^ 20
  pub lies : LiesAt object blocks
  pub inside : (block : Place) → 0 < times block blocks → IsBlock shape block
  pub once : (block : Place) → times block blocks ≤ 1

-- the object may be detached. What is known of it are its chain, to which the extras were added, and
-- its words, which are the old ones or begin with them. The extras are of the rank's own and no spares
pub record MayRewrite {N : Type 0} (shape : Shape) (object : Place) (blocks : List Place) (kept : ℕ)
    (old words : List ℕ) (rank : RankModel N) : Type 0 where
  pub detach : MayDetach rank.view object
  pub has : HasBlocks shape object blocks kept words
  pub known : Known
  pub is : known_of rank.view.known object ≡ Some known
  pub extras : List Place
  pub are : blocks ≡ known.chain ++ extras
  pub kept_is : kept ≡ length known.chain
  pub begins : IsPrefix old known.content
  pub own : (block : Place) → 0 < times block extras → 0 < times block (places_of rank.view.private)
  pub no_spare : (block : Place) → 0 < times block extras
      → IsNoSpare shape rank.view.private rank.spares block

-- the first of these blocks are the object's chain then
abbrev pub chain_of_first : Shape → Place → List Place → List ℕ → List Place
chain_of_first shape object blocks words = take (chain_length shape object words) blocks

-- the object has its new words, and the view has what it was: nothing else has changed but the words
-- that the view knows of its blocks, and which blocks are its own: the object's old chain for the new
pub record Rewrites {N : Type 0} (shape : Shape) (object : Place) (chain : List Place)
    (words : List ℕ) (before after : View N) : Type 0 where
  pub known : Known
  pub was : known_of before.known object ≡ Some known
  pub full : length known.chain ≡ chain_length shape object known.content
  pub view : after ≡ record before {
    dirty = record {
      object = object;
      kept = known.content;
      blocks = chain;
      attached = Some words;
    } ∷ before.dirty;
    known = without_known before.known object;
    cells = after.cells;
    private = after.private;
  }
  pub exchanged : (block : Place)
      → times block (places_of after.private) + times block chain ≡ times block
      (places_of before.private) + times block known.chain
  pub as_many : (rank : ℕ)
      → count_on rank (places_of after.private) + count_on rank chain ≡ count_on rank
      (places_of before.private) + count_on rank known.chain
  -- a block that is not in the chain leads where it did
  pub links : (block : Place) (next : ℕ) → times block chain ≡ 0
      → own_next_of before.private block ≡ Some next → own_next_of after.private block ≡ Some next
