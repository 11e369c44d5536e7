-- What the worked transaction begins with.
use Rattle.std.specs.Prelude.{◌≡◌}
use Rattle.rma_layout.specs.Placement.{Place}
use Rattle.window_rule.specs.View.{View, Marked, AsWriter}
use Rattle.window_rule.specs.Steps.{locked, tried}
use Rattle.window_rule.specs.Gate.{entered}
use Rattle.window_rule.specs.Pairs.{IsAtRest}

-- the view was at rest, and has entered the gate as a writer and marked the object since
abbrev pub HasMarked : {N : Type 0} → Place → View N → Type 0
HasMarked {N} object view = (before : View N) × IsAtRest before
    × (view ≡ tried (locked object Marked (entered AsWriter before)))
