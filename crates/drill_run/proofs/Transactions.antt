-- What the transactions of a drill make: its vertices and its arcs.
use Rattle.std.proofs.Common.{◌≡◌, ℕ, zero, suc, ◌+◌, ◌*◌, ◌/◌, ◌%◌, ◌<◌, ◌≤◌, Bool, true, false, cond, List, [], ◌∷◌, ◌++◌, map, length, None, refl, sym, ap, subst, ◌∙◌, arith, append_assoc, if◌then◌else◌}
use Rattle.std.specs.Prelude.{◌==◌, pos, FitsSigned}
use Rattle.std.specs.Int.{w64}
use Rattle.std.specs.List.{AllByRecursion, flat_map, filter, range_with_len}
use Rattle.std.proofs.lemmas.List.{append-nil}
use Rattle.std.proofs.lemmas.Int.{fits_signed_from_abs}
use Rattle.std.proofs.lemmas.Nat.{mod_below}
use Rattle.gdi_kinds.specs.declared.call.Call.{Call}
use Rattle.gdi_kinds.specs.declared.call.Call.TheVariants as call
use Rattle.gdi_kinds.specs.declared.call.Dir.TheVariants.{Either}
use Rattle.gdi_kinds.specs.declared.value.Kind.TheVariants as kind
use Rattle.gdi_kinds.specs.declared.value.Value.TheVariants as value
use Rattle.rma_layout.specs.Shape.{Shape}
use Rattle.graph_model.specs.Maps.{has}
use Rattle.graph_model.specs.Graph.{Graph, empty_graph}
use Rattle.graph_model.specs.Calls.{graph_after_call}
use Rattle.graph_model.specs.Transactions.{graph_after_calls, graph_after_txn}
use Rattle.graph_model.proofs.Leaving.{looking_call}
use Rattle.graph_model.proofs.Transactions.{empty_well}
use Rattle.serial_run.specs.Serial.{graph_after_txns}
use Rattle.drill.specs.Draws.{drawn, state_after}
use Rattle.drill.specs.Drill.{all_edges, all_vertices, asks, edge_call, grows, node, number, step_of, target_of, vertex_calls}
use Rattle.drill_run.proofs.Drilled.{Drilled, most_calls, later, label_made, type_made, tagged, numbered, vertex_made, edge_made}
use Rattle.drill_run.proofs.Ranges.{range-more, range-below, has-range}

calls-append : (shape : Shape) (g : Graph) (before after : List Call) → graph_after_calls shape g (before ++ after) ≡ graph_after_calls shape (graph_after_calls shape g before) after
calls-append shape g [] after = refl
calls-append shape g (k ∷ ks) after = calls-append shape (graph_after_call shape g k) ks after

-- numbers that a drill writes are values
fits : (n : ℕ) → n ≤ 10000 → FitsSigned w64 (pos n)
fits n few = fits_signed_from_abs w64 (pos n) (omega (arith, few))

drawn-below : (seed n k : ℕ) → 0 < n → drawn seed n k < n
drawn-below seed n k some = mod_below (state_after seed (k + 1)) n some

-- ---- the vertices

module _ (shape : Shape) where
  one_vertex : (g : Graph) (i c : ℕ) → Drilled g (range_with_len 0 i) [] c → i < 10000 → c + 3 ≤ most_calls
      → Drilled (graph_after_calls shape g (vertex_calls i)) (range_with_len 0 (suc i)) [] (c + 3)
  one_vertex g i c is low few =
      let g1 = graph_after_call shape g (call.Vertex i) in
      let same : i ≡ 0 + i = omega arith in
      let ids : range_with_len 0 i ++ i ∷ [] ≡ range_with_len 0 (suc i) = ap (λ k. range_with_len 0 i ++ k ∷ []) same ∙ range-more 0 i in
      let made : Drilled g1 (range_with_len 0 (suc i)) [] (c + 1) =
      subst (λ ks. Drilled g1 ks [] (c + 1)) ids (vertex_made shape g (range_with_len 0 i) c is (omega (arith, few)) i (range-below 0 i i (omega arith)) (omega (arith, low))) in
      let value_fits = fits i (omega (arith, low)) in
      elim (i % 2 == 0) as (λ even. Drilled (graph_after_calls shape g1 ((if even then call.Tag i node ∷ [] else []) ++ call.Set i number (value.Int (pos i)) ∷ [])) (range_with_len 0 (suc i)) [] (c + 3)) [
        | true ↦
            let g2 = graph_after_call shape g1 (call.Tag i node) in
            let last = numbered shape g2 (range_with_len 0 (suc i)) [] ((c + 1) + 1) (tagged shape g1 (range_with_len 0 (suc i)) [] (c + 1) made i node) i number i value_fits in
            later _ _ _ (((c + 1) + 1) + 1) (c + 3) (omega arith) last
        | false ↦
            let last = numbered shape g1 (range_with_len 0 (suc i)) [] (c + 1) made i number i value_fits in
            later _ _ _ ((c + 1) + 1) (c + 3) (omega arith) last
      ]

  vertices-from : (g : Graph) (i m c : ℕ) → Drilled g (range_with_len 0 i) [] c → i + m ≤ 10000 → c + 3 * m ≤ most_calls
      → Drilled (graph_after_calls shape g (flat_map vertex_calls (range_with_len i m))) (range_with_len 0 (i + m)) [] (c + 3 * m)
  vertices-from g i zero c is low few =
      let same : i ≡ i + zero = omega arith in
      later g _ _ c (c + 3 * zero) (omega arith) (subst (λ n. Drilled g (range_with_len 0 n) [] c) same is)
  vertices-from g i (suc m) c is low few =
      let g1 = graph_after_calls shape g (vertex_calls i) in
      let next : suc i ≡ i + 1 = omega arith in
      let one = subst (λ n. Drilled g1 (range_with_len 0 n) [] (c + 3)) next (one_vertex g i c is (omega (arith, low)) (omega (arith, few))) in
      let rest = vertices-from g1 (i + 1) m (c + 3) one (omega (arith, low)) (omega (arith, few)) in
      let ids : (i + 1) + m ≡ i + suc m = omega arith in
      let whole = calls-append shape g (vertex_calls i) (flat_map vertex_calls (range_with_len (i + 1) m)) in
      later _ _ _ ((c + 3) + 3 * m) (c + 3 * suc m) (omega arith)
      (subst (λ h. Drilled h (range_with_len 0 (i + suc m)) [] ((c + 3) + 3 * m)) (sym whole)
      (subst (λ n. Drilled (graph_after_calls shape g1 (flat_map vertex_calls (range_with_len (i + 1) m))) (range_with_len 0 n) [] ((c + 3) + 3 * m)) ids rest))

  empty-drilled : Drilled empty_graph [] [] 0
  empty-drilled = record { well = empty_well; ids_are = refl; few_ids = omega arith; steps = λ i t. refl; edges = refl; few_arcs = omega arith; small = tt }

  pub vertices-made : (n : ℕ) → n ≤ 10000 → Drilled (graph_after_txn shape empty_graph (all_vertices n)) (range_with_len 0 n) [] (2 + 3 * n)
  vertices-made n few =
      let g1 = graph_after_call shape empty_graph (call.NewLabel node) in
      let g2 = graph_after_call shape g1 (call.NewType number kind.Int false) in
      let one = label_made shape empty_graph [] [] 0 empty-drilled node refl in
      let two = type_made shape g1 [] [] (0 + 1) one number kind.Int refl in
      let from_two = later g2 [] [] ((0 + 1) + 1) 2 (omega arith) two in
      let same : 0 + n ≡ n = omega arith in
      subst (λ m. Drilled (graph_after_txn shape empty_graph (all_vertices n)) (range_with_len 0 m) [] (2 + 3 * n)) same (vertices-from g2 0 n 2 from_two (omega (arith, few)) (omega (arith, few)))

-- ---- the arcs of the load

abbrev load_arc : ℕ → ℕ → ℕ → ℕ × ℕ
load_arc n seed i = (drawn seed n (2 * i), drawn seed n (2 * i + 1))

module _ (shape : Shape) (n seed : ℕ) (some : 0 < n) where
  among : (k : ℕ) → has (range_with_len 0 n) (drawn seed n k) ≡ true
  among k = has-range 0 n (drawn seed n k) (omega arith) (omega (arith, drawn-below seed n k some))

  edges-from : (g : Graph) (i m c : ℕ) (arcs : List (ℕ × ℕ)) → Drilled g (range_with_len 0 n) arcs c → c + m ≤ most_calls
      → Drilled (graph_after_calls shape g (map (edge_call n seed) (range_with_len i m))) (range_with_len 0 n) (arcs ++ map (load_arc n seed) (range_with_len i m)) (c + m)
  edges-from g i zero c arcs is few = later g _ _ c (c + zero) (omega arith) (subst (λ l. Drilled g (range_with_len 0 n) l c) (sym (append-nil arcs)) is)
  edges-from g i (suc m) c arcs is few =
      let g1 = graph_after_call shape g (edge_call n seed i) in
      let one : Drilled g1 (range_with_len 0 n) (arcs ++ load_arc n seed i ∷ []) (c + 1) =
      edge_made shape g (range_with_len 0 n) arcs c is (omega (arith, few)) (drawn seed n (2 * i)) (drawn seed n (2 * i + 1)) (among (2 * i)) (among (2 * i + 1)) in
      let rest = edges-from g1 (i + 1) m (c + 1) (arcs ++ load_arc n seed i ∷ []) one (omega (arith, few)) in
      later _ _ _ ((c + 1) + m) (c + suc m) (omega arith)
      (subst (λ l. Drilled (graph_after_calls shape g1 (map (edge_call n seed) (range_with_len (i + 1) m))) (range_with_len 0 n) l ((c + 1) + m))
      (append_assoc arcs (load_arc n seed i ∷ []) (map (load_arc n seed) (range_with_len (i + 1) m))) rest)

  pub load-made : n ≤ 10000 → Drilled (graph_after_txns shape empty_graph (all_vertices n ∷ all_edges n seed ∷ [])) (range_with_len 0 n) (map (load_arc n seed) (range_with_len 0 n)) ((2 + 3 * n) + n)
  load-made few = edges-from (graph_after_txn shape empty_graph (all_vertices n)) 0 n (2 + 3 * n) [] (vertices-made shape n few) (omega (arith, few))

  -- ---- the arcs of the script

  abbrev script_arc : ℕ → ℕ × ℕ
  script_arc i = (i, target_of n seed (i / 2))

  abbrev even : ℕ → Bool
  even i = i % 2 == 0

  one_step : (g : Graph) (i c : ℕ) (arcs : List (ℕ × ℕ)) → Drilled g (range_with_len 0 n) arcs c → i < n → n ≤ 10000 → c + 2 ≤ most_calls
      → Drilled (graph_after_txn shape g (step_of n seed i)) (range_with_len 0 n) (arcs ++ (if even i then script_arc i ∷ [] else [])) (c + 2)
  one_step g i c arcs is low small few =
      elim (even i) as (λ b. Drilled (graph_after_txn shape g (if b then grows i (target_of n seed (i / 2)) else asks i)) (range_with_len 0 n) (arcs ++ (if b then script_arc i ∷ [] else [])) (c + 2)) [
        | true ↦
            let t = target_of n seed (i / 2) in
            let g1 = graph_after_call shape g (call.Edge i t None) in
            let one = edge_made shape g (range_with_len 0 n) arcs c is (omega (arith, few)) i t (has-range 0 n i (omega arith) (omega (arith, low))) (among (2 * n + i / 2)) in
            let two = numbered shape g1 (range_with_len 0 n) (arcs ++ script_arc i ∷ []) (c + 1) one i number (i + 1) (fits (i + 1) (omega (arith, low, small))) in
            later _ _ _ ((c + 1) + 1) (c + 2) (omega arith) two
        | false ↦
            let looks : graph_after_call shape g (call.Near i Either) ≡ g = looking_call shape g (call.Near i Either) refl in
            later _ _ _ c (c + 2) (omega arith) (subst (λ l. Drilled (graph_after_call shape g (call.Near i Either)) (range_with_len 0 n) l c) (sym (append-nil arcs)) (subst (λ h. Drilled h (range_with_len 0 n) arcs c) (sym looks) is))
      ]

  pub steps-made : (xs : List ℕ) (g : Graph) (c : ℕ) (arcs : List (ℕ × ℕ)) → Drilled g (range_with_len 0 n) arcs c → AllByRecursion (λ i. i < n) xs → n ≤ 10000 → c + 2 * length xs ≤ most_calls
      → Drilled (graph_after_txns shape g (map (step_of n seed) xs)) (range_with_len 0 n) (arcs ++ map script_arc (filter even xs)) (c + 2 * length xs)
  steps-made [] g c arcs is low small few = later g _ _ c (c + 2 * length {A = ℕ} []) (omega arith) (subst (λ l. Drilled g (range_with_len 0 n) l c) (sym (append-nil arcs)) is)
  steps-made (i ∷ xs) g c arcs is low small few =
      let g1 = graph_after_txn shape g (step_of n seed i) in
      let here : List (ℕ × ℕ) = if even i then script_arc i ∷ [] else [] in
      let one = one_step g i c arcs is low.0 small (omega (arith, few)) in
      let rest = steps-made xs g1 (c + 2) (arcs ++ here) one low.1 small (omega (arith, few)) in
      let joined : (arcs ++ here) ++ map script_arc (filter even xs) ≡ arcs ++ map script_arc (filter even (i ∷ xs)) =
      append_assoc arcs here (map script_arc (filter even xs))
      ∙ ap (λ l. arcs ++ l) (elim (even i) as (λ b. (if b then script_arc i ∷ [] else []) ++ map script_arc (filter even xs) ≡ map script_arc (cond b (i ∷ filter even xs) (filter even xs))) [ true ↦ refl | false ↦ refl ]) in
      later _ _ _ ((c + 2) + 2 * length xs) (c + 2 * length (i ∷ xs)) (omega arith)
      (subst (λ l. Drilled (graph_after_txns shape g1 (map (step_of n seed) xs)) (range_with_len 0 n) l ((c + 2) + 2 * length xs)) joined rest)
