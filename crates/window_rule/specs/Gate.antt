-- What the steps on the gate make of a view.
use Rattle.std.specs.Prelude.{◌≡◌, ℕ, Bool, true, false, List, [], ◌∷◌, Option, Some, None, if◌then◌else◌}
use Rattle.rma_layout.specs.Shape.{Shape}
use Rattle.rma_layout.specs.Placement.{Place}
use Rattle.lock_words.specs.declared.want.Want.TheVariants.{Writer, Whole}
use Rattle.window_rule.specs.View.{View, Known, Hold, Shared, Marked, Returning, Locks, GatePlace, Outside, AsWriter, AsWhole, WriterReturning, WholeReturning, OfGate}
use Rattle.window_rule.specs.Locks.{hold_of}
use Rattle.window_rule.specs.Steps.{Tries, refused}

-- whether what is read under such a lock lasts
abbrev pub is_lasting : Option Hold → Bool
is_lasting None = false
is_lasting (Some Shared) = true
is_lasting (Some Marked) = true
is_lasting (Some Returning) = false

-- what is known of objects that are locked so that it lasts
abbrev pub under_locks : Locks → List (Place × Known) → List (Place × Known)
under_locks locks [] = []
under_locks locks (one ∷ more) = if is_lasting
    (hold_of locks one.0) then one ∷ under_locks locks more else under_locks locks more

module _ {N : Type 0} where
  -- the view has this place in the gate
  abbrev pub entered : GatePlace → View N → View N
  entered place view = record view { gate = place }

  -- the view has no place in the gate, and forgets what it has read of objects that it has not
  -- locked
  abbrev pub outside : View N → View N
  outside view = record view { gate = Outside; known = under_locks view.locks view.known }

module _ {N : Type 0} (shape : Shape) (before : View N) (found : ℕ) (after : View N) where
  -- a writer's place is added. Where it is refused the word still counts it
  abbrev pub EntersAsWriter : Type 0
  EntersAsWriter = Tries shape Writer before found after (entered AsWriter before)
      (refused OfGate Writer found (entered WriterReturning before))

  -- a whole place is added. Where it is refused the word still counts it
  abbrev pub EntersAsWhole : Type 0
  EntersAsWhole = Tries shape Whole before found after (entered AsWhole before)
      (refused OfGate Whole found (entered WholeReturning before))

-- a writer's place, or a place that was refused, is given up
abbrev pub LeavesGate : {N : Type 0} → View N → View N → Type 0
LeavesGate before after = after ≡ entered Outside before

-- a whole place is given up
abbrev pub LeavesWhole : {N : Type 0} → View N → View N → Type 0
LeavesWhole before after = after ≡ outside before
