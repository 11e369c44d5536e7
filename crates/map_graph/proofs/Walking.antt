-- What the calls that walk answer.
use Rattle.std.proofs.Common.{◌≡◌, ℕ, ◌<◌, true, false, List, [], ◌∷◌, length, map, Option, Some, None, is_some, refl, sym, ap, subst, ◌∙◌, arith}
use Rattle.std.specs.Prelude.{◌==◌, IsSome, count_by, unwrap_or}
use Rattle.std.specs.List.{AllByRecursion, list_any, filter, filter_map}
use Rattle.std.specs.Option.{option_map, option_map_or}
use Rattle.std.specs.Ordering.{nat_cmp, is_lt}
use Rattle.std.specs.FinMap.Entries.{below_all, is_sorted, is_some-find}
use Rattle.std.proofs.lemmas.Bool.{and_parts}
use Rattle.std.proofs.lemmas.Bool.Decides.{nat_tests}
use Rattle.gdi_kinds.specs.declared.pair.Pair.{Pair}
use Rattle.gdi_kinds.specs.declared.call.Call.TheVariants as call
use Rattle.gdi_kinds.specs.declared.reply.Reply.TheVariants as reply
use Rattle.rma_layout.specs.Shape.{Shape}
use Rattle.graph_model.specs.Maps.{Map, IsMap, IsSet, keys, has}
use Rattle.graph_model.specs.Graph.{Graph, Vertex, vertex_at, is_vertex}
use Rattle.graph_model.specs.WellFormed.{IsWellFormed}
use Rattle.graph_model.specs.Walks.{graph_steps, joining_steps, is_walk_by, level_of, component_of, least_below}
use Rattle.graph_model.specs.WholeCalls.{is_in_component, part_of}
use Rattle.graph_model.proofs.Sets.{is_eq-nat_cmp}
use Rattle.graph_model.proofs.Levels.{length-keys}
use Rattle.graph_walks.specs.Steps.{leads}
use Rattle.graph_walks.specs.Reached.{AreNames, is_within, level_by, pair_if, part_by, parts_by}
use Rattle.map_graph.proofs.CallAnswers.{Gives}
use Rattle.map_graph.proofs.Steps.{same_levels, named, filter-same, count-same}
use Rattle.graph_model.proofs.Components.{vertex_component}
use Rattle.graph_model.proofs.Entries.{never}

-- ---- the vertices of a well-formed graph rise

less-than : (a b : ℕ) → is_lt (nat_cmp a b) ≡ true → a < b
less-than a b less = grind (arith, nat_tests)

above-keys : (k : ℕ) (vs : Map ℕ Vertex) → below_all nat_cmp k vs ≡ true → AllByRecursion (λ m. k < m) (keys vs)
above-keys k [] below = tt
above-keys k (v ∷ vs) below =
    let parts = and_parts (is_lt (nat_cmp k v.0)) (below_all nat_cmp k vs) below in
    (less-than k v.0 parts.0, above-keys k vs parts.1)

rising : (vs : Map ℕ Vertex) → IsMap nat_cmp vs → IsSet (keys vs)
rising [] sorted = tt
rising (v ∷ vs) sorted =
    let parts = and_parts (below_all nat_cmp v.0 vs) (is_sorted nat_cmp vs) sorted in
    (above-keys v.0 vs parts.0, rising vs parts.1)

pub ids-rise : (g : Graph) (ids : List ℕ) → ids ≡ keys g.vertices → IsWellFormed g → IsSet ids
ids-rise g ids is well = subst IsSet (sym is) (rising g.vertices well.vertices)

unlisted : (g : Graph) (x : ℕ) → has (keys g.vertices) x ≡ true → IsSome (vertex_at g x)
unlisted g x there = is_some-find nat_cmp x g.vertices ∙ ap (λ test. list_any test (keys g.vertices)) (λ i k. is_eq-nat_cmp x k i) ∙ there

pub count-is : (g : Graph) (ids : List ℕ) (n : ℕ) → ids ≡ keys g.vertices → n ≡ length ids → n ≡ length g.vertices
count-is g ids n is count = count ∙ ap length is ∙ length-keys g.vertices

-- ---- levels

module _ (shape : Shape) (g : Graph) (id : ℕ) (there : is_vertex g id ≡ true) (ids : List ℕ) (are : ids ≡ keys g.vertices) (steps : List (ℕ × ℕ)) (same : (i t : ℕ) → leads steps i t ≡ leads (graph_steps g) i t) where
  level : (j : ℕ) → level_by steps (length ids) id j ≡ level_of g id j
  level j = same_levels steps (graph_steps g) same id j (length ids) ∙ ap (λ b. least_below (λ n. is_walk_by (graph_steps g) n id j) b) (ap length are ∙ length-keys g.vertices)

  pub levels-done : (pairs : List Pair) → pairs ≡ filter_map (λ j. pair_if j (level_by steps (length ids) id j)) ids → Gives shape g (call.Levels id) g (reply.Levels pairs)
  levels-done pairs told =
      let all_levels : pairs ≡ filter_map (λ j. option_map (λ level. record { id = j; number = level }) (level_of g id j)) (keys g.vertices) =
      told ∙ ap (λ (f : ℕ → Option ℕ). filter_map (λ j. option_map (λ level. record { id = j; number = level }) (f j)) ids) (λ i j. level j i)
      ∙ ap (λ ks. filter_map (λ j. option_map (λ level. record { id = j; number = level }) (level_of g id j)) ks) are in
      rw there (ap (λ (ps : List Pair). record { graph = g; reply = reply.Levels ps }) (sym all_levels))

  pub hood-done : (depth : ℕ) (hood : List ℕ) → hood ≡ filter (λ j. is_within depth (level_by steps (length ids) id j)) ids → Gives shape g (call.Hood id depth) g (reply.Ids hood)
  hood-done depth hood told =
      let whole : hood ≡ filter (λ j. is_within depth (level_of g id j)) (keys g.vertices) =
      told ∙ ap (λ (f : ℕ → Option ℕ). filter (λ j. is_within depth (f j)) ids) (λ i j. level j i) ∙ ap (λ ks. filter (λ j. is_within depth (level_of g id j)) ks) are in
      rw there (ap (λ (js : List ℕ). record { graph = g; reply = reply.Ids js }) (sym whole))

-- ---- components

module _ (shape : Shape) (g : Graph) (well : IsWellFormed g) (ids : List ℕ) (are : ids ≡ keys g.vertices) (steps : List (ℕ × ℕ)) (same : (i t : ℕ) → leads steps i t ≡ leads (joining_steps g) i t) where
  is_there : (j : ℕ) → has ids j ≡ true → IsSome (vertex_at g j)
  is_there j there = unlisted g j (ap (λ ks. has ks j) (sym are) ∙ there)

  some_component : (j : ℕ) → has ids j ≡ true → component_of g j ≡ Some (unwrap_or (component_of g j) 0)
  some_component j there = elim (component_of g j) as (λ o. is_some o ≡ true → o ≡ Some (unwrap_or o 0)) [ None ↦ λ wrong. never wrong | Some c ↦ λ _. refl ] (vertex_component g j well (is_there j there))

  are_names : AreNames steps ids (λ j. unwrap_or (component_of g j) 0)
  are_names = λ j there. named g steps same j (unwrap_or (component_of g j) 0) well (is_there j there) (some_component j there)

  in_part : (i j : ℕ) → has ids j ≡ true → (unwrap_or (component_of g j) 0 == i) ≡ is_in_component g i j
  in_part i j there = sym (ap (λ o. option_map_or (λ k. k == i) o false) (some_component j there))

  one_part : (i : ℕ) → part_by (λ j. unwrap_or (component_of g j) 0) ids i ≡ part_of g i
  one_part i =
      ap (λ (n : ℕ). record { id = i; number = n }) (count-same (λ j. unwrap_or (component_of g j) 0 == i) (is_in_component g i) ids (in_part i))
      ∙ ap (λ (ks : List ℕ). record { id = i; number = count_by (is_in_component g i) ks }) are

  pub parts-done : (parts : List Pair) → ((name : ℕ → ℕ) → AreNames steps ids name → parts ≡ parts_by name ids) → Gives shape g call.Parts g (reply.Parts parts)
  parts-done parts told =
      let whole : parts ≡ map (part_of g) (filter (λ j. is_in_component g j j) (keys g.vertices)) =
      told (λ j. unwrap_or (component_of g j) 0) are_names
      ∙ ap (map (part_by (λ j. unwrap_or (component_of g j) 0) ids)) (filter-same (λ j. unwrap_or (component_of g j) 0 == j) (λ j. is_in_component g j j) ids (λ j. in_part j j))
      ∙ ap (λ ks. map (part_by (λ j. unwrap_or (component_of g j) 0) ids) (filter (λ j. is_in_component g j j) ks)) are
      ∙ ap (λ (f : ℕ → Pair). map f (filter (λ j. is_in_component g j j) (keys g.vertices))) (λ i j. one_part j i) in
      ap (λ (ps : List Pair). record { graph = g; reply = reply.Parts ps }) (sym whole)
