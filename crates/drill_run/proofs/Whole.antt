-- A drill's run as a whole.
use Rattle.std.proofs.Common.{◌≡◌, ℕ, ◌+◌, ◌-◌, ◌*◌, ◌/◌, ◌%◌, ◌<◌, ◌≤◌, Bool, ◌&&◌, List, ◌++◌, map, length, sum_by, sym, ap, subst, ◌∙◌, arith}
use Rattle.std.specs.Prelude.{◌==◌}
use Rattle.std.specs.List.{filter, range_with_len}
use Rattle.std.proofs.lemmas.List.FromFn.{length-range_with_len}
use Rattle.std.proofs.lemmas.List.Sums.{sum_by-append}
use Rattle.rma_layout.specs.Shape.{Shape}
use Rattle.graph_model.specs.Graph.{Graph, empty_graph}
use Rattle.graph_model.proofs.Sums.{sum_by-map}
use Rattle.serial_run.specs.Serial.{graph_after_txns, graph_behind, run_after}
use Rattle.serial_run.specs.Runs.{RunsScript}
use Rattle.serial_run.specs.declared.script_run.ScriptRun.{ScriptRun}
use Rattle.plain_run.specs.declared.loaded.Loaded.{Loaded}
use Rattle.plain_run.specs.Loading.{HasLoaded}
use Rattle.drill.specs.Drill.{drill_load, drill_script, step_of, target_of}
use Rattle.drill_run.specs.Arcs.{drill_arcs, load_arcs, script_arcs}
use Rattle.drill_run.specs.Drills.{load_of, PrintsDrill}
use Rattle.drill_run.specs.Summaries.{full_count, summary_of, summary_text}
use Rattle.drill_run.proofs.Drilled.{Drilled}
use Rattle.drill_run.proofs.Expected.{drilled_summary}
use Rattle.drill_run.proofs.Ranges.{gone_round, if_so, range-below, round-below, same-length, same-members, same-sums, sum-filter}
use Rattle.drill_run.proofs.Behind.{last, left, legal, printed}
use Rattle.drill_run.proofs.Serial.{steps_done}
use Rattle.drill_run.proofs.Transactions.{load-made, steps-made}

-- the same arcs in another order
other_order : (g : Graph) (ids : List ℕ) (one other : List (ℕ × ℕ)) (c : ℕ) → ((f : ℕ × ℕ → ℕ) → sum_by f one ≡ sum_by f other) → Drilled g ids one c → Drilled g ids other c
other_order g ids one other c same is =
    let long = same-length one other same in
    record {
      well = is.well;
      ids_are = is.ids_are;
      few_ids = is.few_ids;
      steps = λ i t. is.steps i t ∙ same-members one other same (λ (step : ℕ × ℕ). step.0 == i && step.1 == t);
      edges = is.edges ∙ long;
      few_arcs = omega (arith, is.few_arcs, long);
      small = is.small;
    }

module _ (n seed : ℕ) where
  abbrev even : ℕ → Bool
  even i = i % 2 == 0

  abbrev arc : ℕ → ℕ × ℕ
  arc i = (i, target_of n seed (i / 2))

  sums-of : (xs : List ℕ) (f : ℕ × ℕ → ℕ) → sum_by f (map arc (filter even xs)) ≡ sum_by (λ i. if_so (even i) (f (arc i))) xs
  sums-of xs f = sum_by-map f arc (filter even xs) ∙ sum-filter (λ i. f (arc i)) even xs

  round-arcs : (f : ℕ × ℕ → ℕ) → sum_by f (load_arcs n seed ++ map arc (filter even (gone_round (range_with_len 0 n)))) ≡ sum_by f (drill_arcs n seed)
  round-arcs f =
      let xs = range_with_len 0 n in
      let same = sums-of (gone_round xs) f ∙ same-sums xs (λ i. if_so (even i) (f (arc i))) ∙ sym (sums-of xs f) in
      omega (arith, sum_by-append f (load_arcs n seed) (map arc (filter even (gone_round xs))), sum_by-append f (load_arcs n seed) (script_arcs n seed), same)

-- the graph of a drill in which nothing is refused
drilled : (shape : Shape) (n seed : ℕ) → 0 < n → n ≤ 10000 → full_count (run_after shape (drill_load n seed) (drill_script n seed)) ≡ 0
    → Drilled (graph_behind shape (drill_load n seed) (drill_script n seed)) (range_with_len 0 n) (drill_arcs n seed) (((2 + 3 * n) + n) + 2 * n)
drilled shape n seed some few none =
    let xs = range_with_len 0 n in
    let g = graph_after_txns shape empty_graph (drill_load n seed) in
    let long : length (gone_round xs) ≡ n = same-length (gone_round xs) xs (same-sums xs) ∙ length-range_with_len 0 n in
    let c = (2 + 3 * n) + n in
    let made = steps-made shape n seed some (gone_round xs) g c (load_arcs n seed) (load-made shape n seed some few) (round-below xs n (range-below 0 n n (omega arith))) few (omega (arith, long, few)) in
    let counted = subst (λ m. Drilled (graph_after_txns shape g (map (step_of n seed) (gone_round xs))) xs (load_arcs n seed ++ map (arc n seed) (filter (even n seed) (gone_round xs))) (c + 2 * m)) long made in
    other_order _ xs _ (drill_arcs n seed) (c + 2 * n) (round-arcs n seed) (subst (λ h. Drilled h xs (load_arcs n seed ++ map (arc n seed) (filter (even n seed) (gone_round xs))) (c + 2 * n)) (sym (steps_done shape n seed some none)) counted)

pub prints_drill : (shape : Shape) (n seed : ℕ) → 0 < n → n ≤ 10000 → (loaded : Loaded) (run : ScriptRun) → HasLoaded shape (load_of n seed) loaded → RunsScript loaded.graph loaded.entries (drill_script n seed) run
    → PrintsDrill shape n seed (summary_text (summary_of run.graph.graph (n - 1) run.printed))
prints_drill shape n seed some few loaded run has runs = record {
  run = run.printed;
  room = has.room;
  legal = legal shape n seed some loaded run has runs;
  printed = ap (λ g. summary_text (summary_of g (n - 1) run.printed)) (last shape n seed some loaded run has runs);
  expected = λ none.
      let after = printed shape n seed some loaded run has runs in
      let quiet = sym (ap full_count after) ∙ none in
      ap (λ g. summary_text (summary_of g (n - 1) run.printed)) (left shape n seed some loaded run has runs)
      ∙ ap summary_text (drilled_summary _ n _ (drill_arcs n seed) some (drilled shape n seed some few quiet) run.printed none);
}
