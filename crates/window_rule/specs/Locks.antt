-- How a view has objects locked, and what that counts for in their lock words.
use Rattle.std.specs.Prelude.{ℕ, List, [], ◌∷◌, Option, Some, None, if◌then◌else◌}
use Rattle.std.specs.List.{sum_by}
use Rattle.rma_layout.specs.Placement.{Place, same_place}
use Rattle.window_rule.specs.View.{Hold, Shared, Marked, Returning, Locks}

-- how the object is locked, if it is
abbrev pub hold_of : Locks → Place → Option Hold
hold_of [] object = None
hold_of (one ∷ more) object = if same_place one.0 object then Some one.1 else hold_of more object

abbrev pub without_lock : Locks → Place → Locks
without_lock [] object = []
without_lock (one ∷ more) object =
    if same_place one.0 object then without_lock more object else one ∷ without_lock more object

-- these locks, with the object locked so and no longer otherwise
abbrev pub with_lock : Locks → Place → Hold → Locks
with_lock locks object hold = (object, hold) ∷ without_lock locks object

-- the shares that a lock word counts for such a lock: one that is about to be taken back counts too
abbrev pub shares_of : Option Hold → ℕ
shares_of None = 0
shares_of (Some Shared) = 1
shares_of (Some Marked) = 0
shares_of (Some Returning) = 1

-- the shares that are to last
abbrev pub lasting_of : Option Hold → ℕ
lasting_of None = 0
lasting_of (Some Shared) = 1
lasting_of (Some Marked) = 0
lasting_of (Some Returning) = 0

abbrev pub marks_of : Option Hold → ℕ
marks_of None = 0
marks_of (Some Shared) = 0
marks_of (Some Marked) = 1
marks_of (Some Returning) = 0

-- a count of an object over the locks of all views
abbrev pub in_all : (Option Hold → ℕ) → Place → List Locks → ℕ
in_all count object all = sum_by (λ locks. count (hold_of locks object)) all
