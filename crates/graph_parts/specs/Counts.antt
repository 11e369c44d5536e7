-- Counts by key.
use Rattle.std.specs.Prelude.{ℕ, List, count_by, ◌==◌}
use Rattle.std.specs.Option.{unwrap_or}
use Rattle.rma_layout.specs.Shape.{Shape}
use Rattle.rma_layout.specs.Placement.{raw_of, slot_of}
use Rattle.graph_model.specs.Maps.{Map, at}

-- a count, which may be absent where it is 0
abbrev pub count_of : Map ℕ ℕ → ℕ → ℕ
count_of counts key = unwrap_or (at counts key) 0

-- how many labels of a vertex the object of the index with this pointer keeps
abbrev pub labels_kept : Shape → ℕ → List ℕ → ℕ → ℕ
labels_kept shape id labels raw = count_by (λ label. raw_of (slot_of shape label id) == raw) labels
