-- The objects that a transaction has locked, as locks of a view.
use Rattle.std.specs.Prelude.{ℕ, List, [], ◌∷◌, Option, None, Some}
use Rattle.object_words.specs.Chains.{place_of}
use Rattle.window_rule.specs.View.{Hold, Locks, Shared, Marked}
use Rattle.object_moves.specs.declared.held.Mode.{Mode}
use Rattle.object_moves.specs.declared.held.Mode.TheVariants as mode

abbrev pub hold_as : Mode → Hold
hold_as mode.Shared = Shared
hold_as mode.Marked = Marked

abbrev pub hold_in : Option Mode → Option Hold
hold_in None = None
hold_in (Some one) = Some (hold_as one)

-- the map behind them: its keys are the words that name the objects
abbrev pub locks_in : List (ℕ × Mode) → Locks
locks_in [] = []
locks_in (one ∷ more) = (place_of one.0, hold_as one.1) ∷ locks_in more
