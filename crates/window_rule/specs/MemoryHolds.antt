-- The part of the invariant on what views know of objects: it is what the history that they have
-- seen says.
use Rattle.std.specs.Prelude.{◌≡◌, List, Some}
use Rattle.rma_layout.specs.Shape.{Shape}
use Rattle.rma_layout.specs.Placement.{Place, IsBlock}
use Rattle.object_words.specs.Contents.{content_of}
use Rattle.object_words.specs.Entries.{Entry, store_after}
use Rattle.window_rule.specs.View.{View, Known}
use Rattle.window_rule.specs.Known.{known_of}
use Rattle.window_rule.specs.EachView.{EachView}

pub record Memory (N : Type 0) : Type 0 where
  pub known : List (Place × Known)
  pub seen : List (Entry N)

abbrev pub memory_of : {N : Type 0} → View N → Memory N
memory_of view = record { known = view.known; seen = view.seen }

abbrev pub Remembers : {N : Type 0} → Shape → Memory N → Type 0
Remembers shape memory = (object : Place) (known : Known)
    → known_of memory.known object ≡ Some known
    → IsBlock shape object × (content_of (store_after memory.seen) object ≡ known.content)

-- It reads no word, and what each view knows and has seen.
abbrev pub MemoryHolds : {N : Type 0} → Shape → List (View N) → Type 0
MemoryHolds {N} shape views = EachView (memory_of {N = N}) (λ _. Remembers shape) views
