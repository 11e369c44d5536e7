-- What loading the length of an object makes of a view.
use Rattle.std.specs.Prelude.{◌≡◌, ℕ, List, [], ◌∷◌, length, None, ◌⊎◌}
use mathlib.Core.List.{IsPrefix}
use Rattle.rma_layout.specs.Placement.{Place}
use Rattle.object_words.specs.Entries.{Entry}
use Rattle.window_rule.specs.View.{View, Known, AsWhole}
use Rattle.window_rule.specs.Locks.{hold_of}
use Rattle.window_rule.specs.Dirty.{dirt_of}
use Rattle.window_rule.specs.Known.{without_known}
use Rattle.window_rule.specs.ContentsHold.{Lasts}

-- the object is known from now on, and so is all of the history
abbrev pub measured : {N : Type 0} → Place → Known → List (Entry N) → View N → View N
measured object known history view =
    record view {
      known = (object, known) ∷ without_known view.known object;
      seen = history;
      heard = [];
    }

-- the view may rely on what it reads of the object
pub record MayRead {N : Type 0} (view : View N) (object : Place) : Type 0 where
  pub clean : dirt_of view.dirty object ≡ None
  pub lasting : Lasts (hold_of view.locks object) ⊎ (view.gate ≡ AsWhole)

pub record Measures {N : Type 0} (object : Place) (before : View N) (found : ℕ)
    (after : View N) : Type 0 where
  pub known : Known
  pub history : List (Entry N)
  pub goes_on : IsPrefix before.seen history
  pub view : after ≡ measured object known history before
  pub found_is : found ≡ length known.content

-- the view has seen all of the history, so all that it knows is so at its end
abbrev pub placed : {N : Type 0} → List (Entry N) → View N → View N
placed history view = record view { seen = history; heard = [] }

pub record Places {N : Type 0} (before : View N) (found : ℕ) (after : View N) : Type 0 where
  pub history : List (Entry N)
  pub goes_on : IsPrefix before.seen history
  pub view : after ≡ placed history before
  pub found_is : found ≡ length history
