-- The part of the invariant on locks: each lock word counts the locks that views have on its
-- object.
use Rattle.std.specs.Prelude.{◌≡◌, ℕ, ◌≤◌, List, Some}
use mathlib.Core.Option.{some}
use lib.ListN.{get_elem?}
use Rattle.rma_layout.specs.Shape.{Shape}
use Rattle.rma_layout.specs.Placement.{Place, IsBlock}
use Rattle.lock_words.specs.Counts.{lock_word}
use Rattle.window_rule.specs.View.{Hold, Locks}
use Rattle.window_rule.specs.Locks.{hold_of, in_all, shares_of, lasting_of, marks_of}

-- a lock word, beside the shares, the lasting shares and the marks of its object
pub record IsCounted (word shares lasting marks : ℕ) : Type 0 where
  pub word_is : word ≡ lock_word shares marks
  pub one_mark : marks ≤ 1
  -- a mark stands beside no share but such as are about to be taken back
  pub apart : marks ≡ 1 → lasting ≡ 0

-- It reads the lock words, and the locks of each view.
pub record LocksHold (shape : Shape) (word_of : Place → ℕ) (all : List Locks) : Type 0 where
  pub counted : (object : Place) → IsBlock shape object
      → IsCounted (word_of object) (in_all shares_of object all) (in_all lasting_of object all)
      (in_all marks_of object all)
  -- what is locked is a block of the window
  pub of_blocks : (id : ℕ) (locks : Locks) (object : Place) (hold : Hold)
      → get_elem? all id ≡ some locks
      → hold_of locks object ≡ Some hold → IsBlock shape object
