-- Walks by steps over edges, and what they tell of vertices.
use Rattle.std.specs.Prelude.{ℕ, zero, suc, Bool, ◌&&◌, List, [], ◌∷◌, length, Option, Some, None, if◌then◌else◌, ◌==◌}
use Rattle.std.specs.List.{list_any, flat_map, range_with_len}
use Rattle.std.specs.Prelude as prelude
use Rattle.graph_model.specs.Maps.{keys}
use Rattle.graph_model.specs.Graph.{Graph, Edge, EdgeKey}

abbrev pub both_ways : ℕ → ℕ → List (ℕ × ℕ)
both_ways i j = (i, j) ∷ (j, i) ∷ []

-- the steps that an edge allows, each from the first vertex to the second: to its target, and also back from there
-- where it is undirected
abbrev pub steps_over : EdgeKey × Edge → List (ℕ × ℕ)
steps_over entry =
    if entry.1.undirected then both_ways entry.0.source entry.1.target else (entry.0.source, entry.1.target) ∷ []

abbrev pub graph_steps : Graph → List (ℕ × ℕ)
graph_steps g = flat_map steps_over g.edges

-- the same with directions ignored: every step may be taken back
abbrev pub joining_steps : Graph → List (ℕ × ℕ)
joining_steps g = flat_map (λ step. both_ways step.0 step.1) (graph_steps g)

-- a walk of n steps from i to j: of none where they are one, and else of a step from i and on from where it leads
abbrev pub is_walk_by : List (ℕ × ℕ) → ℕ → ℕ → ℕ → Bool
is_walk_by steps zero i j = i == j
is_walk_by steps (suc n) i j = list_any (λ step. step.0 == i && is_walk_by steps n step.1 j) steps

abbrev pub is_walk : Graph → ℕ → ℕ → ℕ → Bool
is_walk g n i j = is_walk_by (graph_steps g) n i j

abbrev pub is_joined : Graph → ℕ → ℕ → ℕ → Bool
is_joined g n i j = is_walk_by (joining_steps g) n i j

-- the least of the numbers from 0 on that passes, below a bound
abbrev pub least_below : (ℕ → Bool) → ℕ → Option ℕ
least_below passes bound = prelude.find passes (range_with_len 0 bound)

-- The level of j from i: the least number of steps of a walk. A shortest walk meets no vertex twice, so it has fewer
-- steps than there are vertices.
abbrev pub level_of : Graph → ℕ → ℕ → Option ℕ
level_of g i j = least_below (λ n. is_walk g n i j) (length g.vertices)

-- the least identifier that a walk joins with i, directions ignored
abbrev pub component_of : Graph → ℕ → Option ℕ
component_of g i = prelude.find (λ j. list_any (λ n. is_joined g n i j) (range_with_len 0 (length g.vertices))) (keys g.vertices)
