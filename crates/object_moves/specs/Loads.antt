-- What loading a whole object means.
use Rattle.std.specs.Prelude.{◌≡◌, ℕ, ◌-◌, ◌==◌, ◌&&◌, not, List, [], length, Option, Some, None, Result, IfOk, if◌then◌else◌}
use mathlib.Core.List.{IsPrefix}
use Rattle.gdi_kinds.specs.declared.no_memory.NoMemory.{NoMemory}
use Rattle.rma_layout.specs.Shape.{Shape}
use Rattle.rma_layout.specs.Placement.{Place}
use Rattle.object_words.specs.Blocks.{blocks_for, is_reserved}
use Rattle.object_words.specs.Entries.{Entry}
use Rattle.window_rule.specs.View.{View, Known}
use Rattle.window_rule.specs.Lengths.{measured}
use Rattle.object_moves.specs.declared.loading.Loaded.{Loaded}

-- the words of an object, if the view knows the object
abbrev pub content_in : Option Known → List ℕ
content_in None = []
content_in (Some known) = known.content

-- the blocks that an object with so many words has
abbrev pub blocks_asked : Shape → Place → ℕ → ℕ
blocks_asked shape object words =
    if not (is_reserved shape object.block) && words == 0 then 0 else blocks_for words
    (shape.words - 1)

-- what may be loaded of an object that is known to be this: all of it, its chain, or its chain and how
-- many words it has
abbrev pub IsWhole : Known → Loaded → Type 0
IsWhole known one = (one.blocks ≡ known.chain) × (one.words ≡ known.content)

abbrev pub IsChain : Known → List Place → Type 0
IsChain known blocks = blocks ≡ known.chain

abbrev pub IsMeasured : Known → List Place × ℕ → Type 0
IsMeasured known one = (one.0 ≡ known.chain) × (one.1 ≡ length known.content)

-- the object is known then, with all of the history so far; and what was loaded is what is known
pub record Loads {N T : Type 0} (Is : Known → T → Type 0) (object : Place) (before after : View N)
    (answer : Result T NoMemory) : Type 0 where
  pub known : Known
  pub history : List (Entry N)
  pub goes_on : IsPrefix before.seen history
  pub view : after ≡ measured object known history before
  pub loaded : IfOk answer (Is known)
