-- What a drill of `n` vertices tells where no transaction is refused for blocks: that of its arcs, which its numbers give.
use Rattle.std.specs.Prelude.{ℕ, ◌+◌, ◌-◌, ◌*◌, ◌/◌, ◌%◌, ◌==◌, Bool, false, List, ◌++◌, map, length, flat_map, find, Option}
use Rattle.std.specs.List.{filter, filter_map, list_any, range_with_len}
use Rattle.std.specs.Option.{option_map_or}
use Rattle.graph_model.specs.Walks.{both_ways, is_walk_by, least_below}
use Rattle.drill.specs.Draws.{drawn}
use Rattle.drill.specs.Drill.{target_of}
use Rattle.drill_run.specs.declared.summary.Summary.{Summary}
use Rattle.drill_run.specs.Summaries.{greatest}

-- the drawn pairs of the load
abbrev pub load_arcs : ℕ → ℕ → List (ℕ × ℕ)
load_arcs n seed = map (λ i. (drawn seed n (2 * i), drawn seed n (2 * i + 1))) (range_with_len 0 n)

-- from each even vertex to the one that is drawn for it
abbrev pub script_arcs : ℕ → ℕ → List (ℕ × ℕ)
script_arcs n seed = map (λ i. (i, target_of n seed (i / 2))) (filter (λ i. i % 2 == 0) (range_with_len 0 n))

abbrev pub drill_arcs : ℕ → ℕ → List (ℕ × ℕ)
drill_arcs n seed = load_arcs n seed ++ script_arcs n seed

-- among the vertices below `n`: the least number of arcs of a walk
abbrev pub level_over : ℕ → List (ℕ × ℕ) → ℕ → ℕ → Option ℕ
level_over n arcs i j = least_below (λ k. is_walk_by arcs k i j) n

-- the arcs, and those back
abbrev pub two_way : List (ℕ × ℕ) → List (ℕ × ℕ)
two_way arcs = flat_map (λ arc. both_ways arc.0 arc.1) arcs

-- the least vertex that arcs join with `i`, directions ignored
abbrev pub component_over : ℕ → List (ℕ × ℕ) → ℕ → Option ℕ
component_over n arcs i = find (λ j. list_any (λ k. is_walk_by (two_way arcs) k i j) (range_with_len 0 n)) (range_with_len 0 n)

abbrev pub is_least_over : ℕ → List (ℕ × ℕ) → ℕ → Bool
is_least_over n arcs j = option_map_or (λ i. i == j) (component_over n arcs j) false

-- the summary of vertices below `n` and arcs between them, with the levels from the last vertex, where nothing is refused
abbrev pub summary_over : ℕ → List (ℕ × ℕ) → Summary
summary_over n arcs = record {
  vertices = n;
  edges = length arcs;
  parts = length (filter (is_least_over n arcs) (range_with_len 0 n));
  deepest = greatest (filter_map (level_over n arcs (n - 1)) (range_with_len 0 n));
  full = 0;
}
