-- A fact of each view.
use Rattle.std.specs.Prelude.{◌≡◌, ℕ, List}
use mathlib.Core.Option.{some}
use lib.ListN.{get_elem?}

-- of what a part reads of it, and of its number
abbrev pub EachView : {V A : Type 0} → (V → A) → (ℕ → A → Type 0) → List V → Type 0
EachView {V} part Holds views = (id : ℕ) (view : V) → get_elem? views id ≡ some view
    → Holds id (part view)
