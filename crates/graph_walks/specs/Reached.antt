-- What walks tell of vertices, as answers have it.
use Rattle.std.specs.Prelude.{ℕ, Bool, false, List, Option, map, count_by, nat_le, IsTrue, ◌==◌}
use Rattle.std.specs.List.{filter}
use Rattle.std.specs.Option.{option_map, option_map_or}
use Rattle.gdi_kinds.specs.declared.pair.Pair.{Pair}
use Rattle.graph_model.specs.Maps.{has}
use Rattle.graph_model.specs.Walks.{is_walk_by, least_below}
use Rattle.graph_walks.specs.Steps.{IsLeastJoined}

-- the least number of steps of a walk from i to j, below a bound
abbrev pub level_by : List (ℕ × ℕ) → ℕ → ℕ → ℕ → Option ℕ
level_by steps bound i j = least_below (λ n. is_walk_by steps n i j) bound

-- a vertex with a number, if it has one
abbrev pub pair_if : ℕ → Option ℕ → Option Pair
pair_if id number = option_map (λ n. record { id = id; number = n }) number

-- a number is there, and at most this
abbrev pub is_within : ℕ → Option ℕ → Bool
is_within most number = option_map_or (λ n. nat_le n most) number false

abbrev pub is_this : ℕ → Option ℕ → Bool
is_this k number = option_map_or (λ n. n == k) number false

-- a vertex with how many of some vertices are named after it
abbrev pub part_by : (ℕ → ℕ) → List ℕ → ℕ → Pair
part_by name ids i = record { id = i; number = count_by (λ j. name j == i) ids }

-- the vertices that are named after themselves, each with how many are named after it
abbrev pub parts_by : (ℕ → ℕ) → List ℕ → List Pair
parts_by name ids = map (part_by name ids) (filter (λ j. name j == j) ids)

-- each vertex is named after the least that a walk joins with it
abbrev pub AreNames : List (ℕ × ℕ) → List ℕ → (ℕ → ℕ) → Type 0
AreNames steps ids name = (j : ℕ) → IsTrue (has ids j) → IsLeastJoined steps j (name j)
