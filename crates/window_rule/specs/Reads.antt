-- What loading and storing a word of a block tells, and makes of a view.
use Rattle.std.specs.Prelude.{◌≡◌, ℕ, ◌+◌, ◌-◌, ◌/◌, ◌%◌, ◌<◌, ◌⊎◌, List, ◌∷◌, length, get_or, Some, None}
use Rattle.rma_layout.specs.Shape.{Shape}
use Rattle.rma_layout.specs.Placement.{Place, metadata, raw_of}
use Rattle.window_rule.specs.View.{View, Known, Dirt}
use Rattle.window_rule.specs.Known.{known_of, cell_of}
use Rattle.window_rule.specs.Dirty.{dirt_of}
use Rattle.window_rule.specs.Partition.{times, places_of}
use Rattle.window_rule.specs.ContentsHold.{HasBlock, stash_of}

-- the block is number j of the chain
abbrev pub IsAt : List Place → ℕ → Place → Type 0
IsAt chain j block = (j < length chain) × (get_or chain j metadata ≡ block)

-- word i of block number j of a chain, by what the chain keeps
pub record IsWordOf (shape : Shape) (chain : List Place) (content : List ℕ)
    (j i word : ℕ) : Type 0 where
  pub link : i ≡ 0 → j + 1 < length chain → word ≡ raw_of (get_or chain (j + 1) metadata)
  pub last : i ≡ 0 → j + 1 ≡ length chain → word ≡ 0
  pub payload : (k : ℕ) → k < length content → j ≡ k / (shape.words - 1)
      → i ≡ 1 + k % (shape.words - 1) → word ≡ get_or content k 0

-- the block is in the chain of an object that the view knows, or with the view
abbrev pub MayGet : {N : Type 0} → View N → Place → Type 0
MayGet view block =
    ((object : Place) × (known : Known) × (known_of view.known object ≡ Some known)
    × (0 < times block known.chain)) ⊎ HasBlock (stash_of view) block

-- the word is what each known chain says it is, and what the view knows of it. The view learns
-- nothing new
pub record Gets {N : Type 0} (shape : Shape) (block : Place) (i : ℕ) (before : View N) (found : ℕ)
    (after : View N) : Type 0 where
  pub view : after ≡ before
  pub known : (object : Place) (known : Known) (j : ℕ) → known_of before.known object ≡ Some known
      → IsAt known.chain j block → IsWordOf shape known.chain known.content j i found
  pub held : (word : ℕ) → HasBlock (stash_of before) block
      → cell_of before.cells block i ≡ Some word → found ≡ word

-- the block is of the view's own, or of an object that it has detached and not attached
abbrev pub MayPut : {N : Type 0} → View N → Place → Type 0
MayPut view block = (0 < times block (places_of view.private))
    ⊎ ((object : Place) × (dirt : Dirt) × (dirt_of view.dirty object ≡ Some dirt)
    × (dirt.attached ≡ None) × (0 < times block dirt.blocks))

abbrev pub put_in : {N : Type 0} → Place → ℕ → ℕ → View N → View N
put_in block i word view =
    record view { cells = record { block = block; index = i; word = word } ∷ view.cells }

abbrev pub Puts : {N : Type 0} → Place → ℕ → View N → ℕ → View N → Type 0
Puts block i before new after = after ≡ put_in block i new before
