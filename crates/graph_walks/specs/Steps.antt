-- Steps from vertex to vertex, and what walks over them reach.
use Rattle.std.specs.Prelude.{ℕ, ◌+◌, ◌<◌, ◌≤◌, Bool, ◌&&◌, List, map, length, slice_index, slice_range, IsTrue, ◌==◌}
use Rattle.std.specs.List.{list_any, flat_map, range_with_len}
use Rattle.graph_model.specs.Maps.{has}
use Rattle.graph_model.specs.Walks.{is_walk_by}

-- a step leads from i to t
abbrev pub leads : List (ℕ × ℕ) → ℕ → ℕ → Bool
leads steps i t = list_any (λ step. step.0 == i && step.1 == t) steps

-- Vertices by place, from 0: their identifiers, rising. The hops are steps from place to place.
pub record Hops : Type 0 where
  pub ids : List ℕ
  pub hops : List (ℕ × ℕ)

-- the steps that hops are, from vertex to vertex
abbrev pub steps_of : Hops → List (ℕ × ℕ)
steps_of h = map (λ hop. (slice_index h.ids hop.0, slice_index h.ids hop.1)) h.hops

-- each number is above those before it
abbrev pub Rises : List ℕ → Type 0
Rises ids = (i j : ℕ) → i < j → j < length ids → slice_index ids i < slice_index ids j

-- where the hops from a place lead, in flat rows: `ends` from the start of its row to that of the next
abbrev pub row_at : List ℕ → List ℕ → ℕ → List ℕ
row_at starts ends place = slice_range ends (slice_index starts place) (slice_index starts (place + 1))

-- the hops of flat rows
abbrev pub hops_of : List ℕ → List ℕ → ℕ → List (ℕ × ℕ)
hops_of starts ends count = flat_map (λ place. map (λ t. (place, t)) (row_at starts ends place)) (range_with_len 0 count)

-- each step may be taken back
abbrev pub IsTwoWay : List (ℕ × ℕ) → Type 0
IsTwoWay steps = (i t : ℕ) → IsTrue (leads steps i t) → IsTrue (leads steps t i)

-- steps lead to these vertices alone
abbrev pub LeadsInto : List (ℕ × ℕ) → List ℕ → Type 0
LeadsInto steps ids = (i t : ℕ) → IsTrue (leads steps i t) → IsTrue (has ids t)

-- the least of the numbers that a walk of any length joins with j
pub record IsLeastJoined (steps : List (ℕ × ℕ)) (j i : ℕ) : Type 0 where
  pub joined : (n : ℕ) × IsTrue (is_walk_by steps n j i)
  pub least : (k n : ℕ) → IsTrue (is_walk_by steps n j k) → i ≤ k
