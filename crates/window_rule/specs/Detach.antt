-- What detaching an object makes of a view.
use Rattle.std.specs.Prelude.{◌≡◌, ◌≢◌, ◌≤◌, ◌+◌, ◌^◌, ℕ, zero, suc, List, [], ◌∷◌, length, Some, None}
use Rattle.rma_layout.specs.Shape.{Shape}
use Rattle.rma_layout.specs.Placement.{Place}
use Rattle.window_rule.specs.View.{View, Known, Cell, Dirt, Marked, AsWriter}
use Rattle.window_rule.specs.Locks.{hold_of}
use Rattle.window_rule.specs.Known.{known_of, cell_of, without_known, without_cells}
use Rattle.window_rule.specs.Dirty.{dirt_of}
use Rattle.window_rule.specs.Objects.{LiesAt, chain_length}
use Rattle.window_rule.specs.Partition.{times, places_of}
use Rattle.window_rule.specs.Attach.{IsSpelled}
use Rattle.window_rule.specs.StampsHold.{opened_of}

-- so many words of a block, as they are, are what is known of it
abbrev pub row : (Place → ℕ → ℕ) → Place → ℕ → List Cell → List Cell
row words block zero rest = rest
row words block (suc n) rest =
    record { block = block; index = n; word = words block n } ∷ row words block n rest

abbrev pub rows : (Place → ℕ → ℕ) → ℕ → List Place → List Cell → List Cell
rows words n [] rest = rest
rows words n (block ∷ more) rest = row words block n (without_cells (rows words n more rest) block)

abbrev pub dirt_on : Place → Known → Dirt
dirt_on object known =
    record { object = object; kept = known.content; blocks = known.chain; attached = None }

abbrev pub detached : {N : Type 0} → Place → Known → List Cell → View N → View N
detached object known cells view =
    record view {
      dirty = dirt_on object known ∷ view.dirty;
      known = without_known view.known object;
      cells = cells;
    }

pub record MayDetach {N : Type 0} (view : View N) (object : Place) : Type 0 where
  pub marked : hold_of view.locks object ≡ Some Marked
  pub clean : dirt_of view.dirty object ≡ None
  pub writer : view.gate ≡ AsWriter
  pub opened : opened_of view.stamps.opened object ≢ None

-- the object's blocks are with the view, which knows all their words. What it knew of the object
-- was so
pub record Detaches {N : Type 0} (shape : Shape) (object : Place)
    (before after : View N) : Type 0 where
  pub known : Known
  pub cells : List Cell
  pub view : after ≡ detached object known cells before
  pub same : (was : Known) → known_of before.known object ≡ Some was → was ≡ known
  pub blocks : length known.chain ≡ chain_length shape object known.content
  pub few_words : length known.content ≤ 2 ^ 20
  pub lies : LiesAt object known.chain
  pub spelled : IsSpelled shape cells known.chain known.content
  pub apart : (block : Place) → times block known.chain + times block (places_of before.private) ≤ 1
  pub others : (block : Place) (i : ℕ) → times block known.chain ≡ 0
      → cell_of cells block i ≡ cell_of before.cells block i
