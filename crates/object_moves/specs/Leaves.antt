-- What leaving locks makes of a view.
use Rattle.std.specs.Prelude.{◌≡◌, None}
use Rattle.rma_layout.specs.Placement.{Place}
use Rattle.window_rule.specs.View.{View}
use Rattle.window_rule.specs.Locks.{hold_of}

module _ {N : Type 0} where
  -- nothing but the locks and what is known has changed
  abbrev pub OnlyLocks : View N → View N → Type 0
  OnlyLocks before after = after ≡ record before { locks = after.locks; known = after.known }

  -- no lock is left
  pub record LeavesAll (before after : View N) : Type 0 where
    pub only : OnlyLocks before after
    pub none : (object : Place) → hold_of after.locks object ≡ None
