-- A graph of these vertices and arcs has their summary.
use Rattle.std.proofs.Common.{◌≡◌, ℕ, ◌-◌, ◌<◌, Bool, true, false, ◌&&◌, ◌||◌, List, [], ◌∷◌, length, Option, if◌then◌else◌, refl, sym, ap, ◌∙◌, arith}
use Rattle.std.specs.Prelude as prelude
use Rattle.std.specs.Prelude.{◌==◌}
use Rattle.std.specs.List.{filter, filter_map, flat_map, list_any, range_with_len}
use Rattle.std.specs.Option.{option_map_or}
use Rattle.std.proofs.lemmas.List.FromFn.{length-range_with_len}
use Rattle.gdi_kinds.specs.declared.outcome.Printed.{Printed}
use Rattle.graph_model.specs.Maps.{keys}
use Rattle.graph_model.specs.Graph.{Graph, is_vertex}
use Rattle.graph_model.specs.Walks.{both_ways, component_of, graph_steps, is_walk_by, joining_steps, level_of, least_below}
use Rattle.graph_model.proofs.Levels.{length-keys}
use Rattle.graph_walks.specs.Steps.{leads}
use Rattle.map_graph.proofs.Steps.{same_levels, same_walks}
use Rattle.drill_run.specs.Arcs.{component_over, is_least_over, level_over, summary_over, two_way}
use Rattle.drill_run.specs.Summaries.{deepest_from, full_count, greatest, part_count, summary_of}
use Rattle.drill_run.proofs.Drilled.{Drilled, is-there}
use Rattle.drill_run.proofs.Ranges.{has-range}

-- a step leads both ways exactly where it leads one way or the other
and-turn : (x y : Bool) → (x && y) ≡ (y && x)
and-turn true true = refl
and-turn true false = refl
and-turn false true = refl
and-turn false false = refl

sort : (x y a b : Bool) → (x || (y || (a || b))) ≡ ((x || a) || (y || b))
sort true y a b = refl
sort false true true b = refl
sort false true false b = refl
sort false false true b = refl
sort false false false b = refl

turned : (steps : List (ℕ × ℕ)) (i t : ℕ) → leads (flat_map (λ step. both_ways step.0 step.1) steps) i t ≡ (leads steps i t || leads steps t i)
turned [] i t = refl
turned (s ∷ ss) i t =
    ap (λ b. (s.0 == i && s.1 == t) || ((s.1 == i && s.0 == t) || b)) (turned ss i t)
    ∙ ap (λ b. (s.0 == i && s.1 == t) || (b || (leads ss i t || leads ss t i))) (and-turn (s.1 == i) (s.0 == t))
    ∙ sort (s.0 == i && s.1 == t) (s.0 == t && s.1 == i) (leads ss i t) (leads ss t i)

pub same_two_way : (a b : List (ℕ × ℕ)) → ((i t : ℕ) → leads a i t ≡ leads b i t)
    → (i t : ℕ) → leads (flat_map (λ step. both_ways step.0 step.1) a) i t ≡ leads (flat_map (λ step. both_ways step.0 step.1) b) i t
same_two_way a b same i t = turned a i t ∙ ap (λ x. x || leads a t i) (same i t) ∙ ap (λ x. leads b i t || x) (same t i) ∙ sym (turned b i t)

module _ (g : Graph) (n c : ℕ) (arcs : List (ℕ × ℕ)) (some : 0 < n) (is : Drilled g (range_with_len 0 n) arcs c) where
  count : length g.vertices ≡ n
  count = sym (length-keys g.vertices) ∙ ap length is.ids_are ∙ length-range_with_len 0 n

  same_level : (i j : ℕ) → level_of g i j ≡ level_over n arcs i j
  same_level i j = same_levels (graph_steps g) arcs is.steps i j (length g.vertices) ∙ ap (λ m. least_below (λ k. is_walk_by arcs k i j) m) count

  joined : (k i j : ℕ) → is_walk_by (joining_steps g) k i j ≡ is_walk_by (two_way arcs) k i j
  joined k i j = same_walks (joining_steps g) (two_way arcs) (same_two_way (graph_steps g) arcs is.steps) k i j

  same_component : (i : ℕ) → component_of g i ≡ component_over n arcs i
  same_component i =
      ap (λ (walk : ℕ → ℕ → Bool). prelude.find (λ j. list_any (λ k. walk k j) (range_with_len 0 (length g.vertices))) (keys g.vertices)) (λ x k j. joined k i j x)
      ∙ ap (λ m. prelude.find (λ j. list_any (λ k. is_walk_by (two_way arcs) k i j) (range_with_len 0 m)) (keys g.vertices)) count
      ∙ ap (λ ks. prelude.find (λ j. list_any (λ k. is_walk_by (two_way arcs) k i j) (range_with_len 0 n)) ks) is.ids_are

  same_parts : part_count g ≡ length (filter (is_least_over n arcs) (range_with_len 0 n))
  same_parts =
      ap (λ (component : ℕ → Option ℕ). length (filter (λ j. option_map_or (λ i. i == j) (component j) false) (keys g.vertices))) (λ x j. same_component j x)
      ∙ ap (λ ks. length (filter (is_least_over n arcs) ks)) is.ids_are

  deepest : deepest_from g (n - 1) ≡ greatest (filter_map (level_over n arcs (n - 1)) (range_with_len 0 n))
  deepest =
      let there : is_vertex g (n - 1) ≡ true = is-there g (range_with_len 0 n) (n - 1) is.ids_are ∙ has-range 0 n (n - 1) (omega arith) (omega (arith, some)) in
      ap (λ b. if b then greatest (filter_map (level_of g (n - 1)) (keys g.vertices)) else 0) there
      ∙ ap (λ (level : ℕ → Option ℕ). greatest (filter_map level (keys g.vertices))) (λ x j. same_level (n - 1) j x)
      ∙ ap (λ ks. greatest (filter_map (level_over n arcs (n - 1)) ks)) is.ids_are

  pub drilled_summary : (run : Printed) → full_count run ≡ 0 → summary_of g (n - 1) run ≡ summary_over n arcs
  drilled_summary run none = λ x. record {
    vertices = count x;
    edges = is.edges x;
    parts = same_parts x;
    deepest = deepest x;
    full = none x;
  }
