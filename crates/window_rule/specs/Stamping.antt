-- What the step on an object's stamp asks of a view, and makes of it.
use Rattle.std.specs.Prelude.{◌≡◌, ◌≢◌, Bool, List, [], ◌∷◌, Option, Some, None, if◌then◌else◌}
use Rattle.rma_layout.specs.Placement.{Place, same_place}
use Rattle.window_rule.specs.View.{View, Marked}
use Rattle.window_rule.specs.Locks.{hold_of}
use Rattle.window_rule.specs.Dirty.{dirt_of}
use Rattle.window_rule.specs.StampsHold.{opened_of}

abbrev pub without_opened : List (Place × Bool) → Place → List (Place × Bool)
without_opened [] object = []
without_opened (one ∷ more) object =
    if same_place one.0 object then without_opened more object else one ∷ without_opened more object

abbrev pub toggled_from : Option Bool → List (Place × Bool) → Place → List (Place × Bool)
toggled_from None opened object = (object, Bool.false) ∷ opened
toggled_from (Some written) opened object = without_opened opened object

-- an object that was not open is open, and not committed yet. One that was open is closed
abbrev pub toggled : List (Place × Bool) → Place → List (Place × Bool)
toggled opened object = toggled_from (opened_of opened object) opened object

abbrev pub stamped : {N : Type 0} → Place → View N → View N
stamped object view =
    record view { stamps = record view.stamps { opened = toggled view.stamps.opened object } }

pub record MayStamp {N : Type 0} (view : View N) (object : Place) : Type 0 where
  pub marked : hold_of view.locks object ≡ Some Marked
  pub clean : dirt_of view.dirty object ≡ None
  -- an open object is closed only after a commit that wrote it
  pub committed : opened_of view.stamps.opened object ≢ Some Bool.false

abbrev pub RaisesStamp : {N : Type 0} → Place → View N → View N → Type 0
RaisesStamp object before after = after ≡ stamped object before
