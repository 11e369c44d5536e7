-- A graph of one vertex with a label, a loop, and a heavy edge to itself; and the words of a store that represents it.
use Rattle.std.specs.Prelude.{ℕ, false, [], ◌∷◌}
use Rattle.rma_layout.specs.Placement.{Place}
use Rattle.object_words.specs.Contents.{Contents}
use Rattle.graph_model.specs.Graph.{Graph}

-- the labels are A and B; the second edge has both, so it is heavy
abbrev pub loops : Graph
loops = record {
  labels = (65 ∷ []) ∷ (66 ∷ []) ∷ [];
  types = [];
  vertices = (5, record { next = 2; labels = 0 ∷ []; props = [] }) ∷ [];
  edges = (record { source = 5; ordinal = 0 }, record { target = 5; undirected = false; labels = []; props = [] })
      ∷ (record { source = 5; ordinal = 1 }, record { target = 5; undirected = false; labels = 0 ∷ 1 ∷ []; props = [] }) ∷ [];
}

abbrev at : ℕ → ℕ → Place
at rank block = record { rank = rank; block = block }

-- block 0 of rank 0 has the names. Vertex 5 is on rank 1: its bucket is block 2, its label's slot block 66. The vertex is
-- in block 81, whose pointer is 281474976710737, and the heavy edge in block 82
abbrev pub words_of_loops : Contents
words_of_loops =
    (at 0 0, 2 ∷ 0 ∷ 1 ∷ 65 ∷ 1 ∷ 66 ∷ [])
    ∷ (at 1 2, 5 ∷ 281474976710737 ∷ [])
    ∷ (at 1 66, 0 ∷ 5 ∷ [])
    ∷ (
      at 1 81,
      5 ∷ 2 ∷ 1 ∷ 0 ∷ 4 ∷ 0
          ∷ 0 ∷ 0 ∷ 5 ∷ 281474976710737 ∷ 0
          ∷ 0 ∷ 1 ∷ 5 ∷ 281474976710737 ∷ 9223653511831486546
          ∷ 1 ∷ 0 ∷ 5 ∷ 281474976710737 ∷ 0
          ∷ 1 ∷ 1 ∷ 5 ∷ 281474976710737 ∷ 9223653511831486546 ∷ [],
    )
    ∷ (at 1 82, 5 ∷ 1 ∷ 5 ∷ 2 ∷ 0 ∷ 0 ∷ 1 ∷ [])
    ∷ []
