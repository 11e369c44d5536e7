-- What the objects that calls don't touch grow by: nothing.
use Rattle.std.proofs.Common.{◌≡◌, ℕ, ◌-◌, Bool, true, false, ◌&&◌, List, [], ◌∷◌, ◌++◌, if◌then◌else◌, refl, sym, ap, subst, ◌∙◌, arith}
use Rattle.std.specs.Prelude.{◌==◌, nat_lt}
use Rattle.std.specs.List.{sum_by, list_all}
use Rattle.std.proofs.lemmas.Bool.{and_parts, and_from, eqb-true}
use Rattle.gdi_kinds.specs.declared.call.Call.{Call}
use Rattle.rma_layout.specs.Shape.{Shape, reserved_blocks}
use Rattle.rma_layout.specs.Placement.{home_of}
use Rattle.graph_model.specs.Graph.{Graph, is_vertex, is_heavy_at}
use Rattle.graph_model.specs.Sizes.{blocks_of_words}
use Rattle.graph_model.specs.Calls.{graph_after_call}
use Rattle.graph_model.specs.Transactions.{graph_after_calls}
use Rattle.graph_model.specs.Capacity.{Object, is_object, words_of, objects_on, blocks_of_object, growth_of, graphs_along}
use Rattle.graph_model.specs.Capacity.Object.{Reserved, OfVertex, OfHeavyEdge}
use Rattle.graph_model.proofs.Sums.{sum_by-none}
use Rattle.graph_undo.specs.Undo.{Undo, noted_before, rolled_back, IsInOrder}
use Rattle.graph_undo.proofs.RolledBack.{rolled_back-append}
use Rattle.graph_undo.proofs.CallsUndone.{steps_lead_back}
use Rattle.touched_objects.specs.Touched.{Spot, is_touched, touched_on_the_way, touched_by, IsSameAt}
use Rattle.touched_objects.specs.Weights.{stands_on, weight_on, weight_of}
use Rattle.touched_objects.specs.Needed.{noted_along, AreSound, CallsLeadBack, NeededByTouched}
use Rattle.touched_objects.proofs.OtherObjects.{not_touched-append, other_objects}
use Rattle.touched_objects.proofs.Standing.{sums_differ_by_these}

pub calls_lead_back : CallsLeadBack
calls_lead_back shape g [] sound = refl
calls_lead_back shape g (call ∷ calls) sound =
    let next = graph_after_call shape g call in
    rolled_back-append (noted_before g call) (noted_along shape next calls) (graph_after_calls shape next calls)
    ∙ ap (rolled_back (noted_before g call)) (calls_lead_back shape next calls sound.1)
    ∙ (steps_lead_back shape g call sound.0.0 sound.0.1).is

pub last_in_order : (shape : Shape) (g : Graph) (calls : List Call) → AreSound shape g calls → IsInOrder (graph_after_calls shape g calls)
last_in_order shape g [] sound = sound.0
last_in_order shape g (call ∷ calls) sound = last_in_order shape (graph_after_call shape g call) calls sound.1

touched-append : (shape : Shape) (xs ys : List Undo) (h : Graph) (spot : Spot) → is_touched (touched_on_the_way shape (xs ++ ys) h) spot ≡ false → is_touched (touched_on_the_way shape ys h) spot ≡ false
touched-append shape [] ys h spot none = none
touched-append shape (x ∷ xs) ys h spot none =
    touched-append shape xs ys h spot (not_touched-append (touched_by shape (rolled_back (xs ++ ys) h) x) (touched_on_the_way shape (xs ++ ys) h) spot none).1

module _ (shape : Shape) (spot : Spot) where
  same_before : (g : Graph) (calls : List Call) → AreSound shape g calls → is_touched (touched_on_the_way shape (noted_along shape g calls) (graph_after_calls shape g calls)) spot ≡ false
      → IsSameAt shape (graph_after_calls shape g calls) g spot
  same_before g calls sound none =
      subst (λ k. IsSameAt shape (graph_after_calls shape g calls) k spot) (calls_lead_back shape g calls sound)
      (other_objects shape (noted_along shape g calls) (graph_after_calls shape g calls) spot (last_in_order shape g calls sound) none)

  -- what isn't touched and is there afterwards was there all along
  there_along : (g : Graph) (calls : List Call) → AreSound shape g calls → is_touched (touched_on_the_way shape (noted_along shape g calls) (graph_after_calls shape g calls)) spot ≡ false
      → is_object (graph_after_calls shape g calls) spot.1 ≡ true → list_all (λ k. is_object k spot.1) (graphs_along shape g calls) ≡ true
  there_along g [] sound none there = and_from (is_object g spot.1) true there refl
  there_along g (call ∷ calls) sound none there =
      and_from (is_object g spot.1) (list_all (λ k. is_object k spot.1) (graphs_along shape (graph_after_call shape g call) calls))
      ((same_before g (call ∷ calls) sound none).0 ∙ there)
      (there_along (graph_after_call shape g call) calls sound.1 (touched-append shape (noted_before g call) (noted_along shape (graph_after_call shape g call) calls) (graph_after_calls shape g (call ∷ calls)) spot none) there)

no_growth : (n : ℕ) → n - n ≡ 0
no_growth n = omega arith

module _ (shape : Shape) (rank : ℕ) (g : Graph) (calls : List Call) (sound : AreSound shape g calls) where
  abbrev after : Graph
  after = graph_after_calls shape g calls

  abbrev grows : Object → ℕ
  grows = growth_of shape g after (graphs_along shape g calls) rank

  kept-same : (object : Object) → list_all (λ k. is_object k object) (graphs_along shape g calls) ≡ true → words_of shape g rank object ≡ words_of shape after rank object → grows object ≡ 0
  kept-same object kept words =
      ap (λ b. if b then blocks_of_object shape after rank object - blocks_of_object shape g rank object else blocks_of_object shape after rank object - 1) kept
      ∙ ap (λ n. blocks_of_object shape after rank object - blocks_of_words shape n) words ∙ no_growth (blocks_of_object shape after rank object)

  weighs_nothing : (spot : Spot) → is_touched (touched_on_the_way shape (noted_along shape g calls) after) spot ≡ false → weight_on shape after rank grows spot ≡ 0
  weighs_nothing (r, Reserved block) none =
      let same = same_before shape (r, Reserved block) g calls sound none in
      let kept = there_along shape (r, Reserved block) g calls sound none refl in
      elim (r == rank && nat_lt block (reserved_blocks shape)) as (λ b. (r == rank && nat_lt block (reserved_blocks shape)) ≡ b → ◌≡◌ {A = ℕ} (if b then grows (Reserved block) else 0) 0) [
        | false ↦ λ _. refl
        | true ↦ λ on.
            let here = eqb-true r rank (and_parts (r == rank) (nat_lt block (reserved_blocks shape)) on).0 in
            kept-same (Reserved block) kept (subst (λ q. words_of shape g q (Reserved block) ≡ words_of shape after q (Reserved block)) here same.1)
      ] refl
  weighs_nothing (r, OfVertex id) none =
      let same = same_before shape (r, OfVertex id) g calls sound none in
      elim (home_of shape id == rank && is_vertex after id) as (λ b. (home_of shape id == rank && is_vertex after id) ≡ b → ◌≡◌ {A = ℕ} (if b then grows (OfVertex id) else 0) 0) [
        | false ↦ λ _. refl
        | true ↦ λ on. kept-same (OfVertex id) (there_along shape (r, OfVertex id) g calls sound none (and_parts (home_of shape id == rank) (is_vertex after id) on).1) same.1
      ] refl
  weighs_nothing (r, OfHeavyEdge source ordinal) none =
      let same = same_before shape (r, OfHeavyEdge source ordinal) g calls sound none in
      elim (home_of shape source == rank && is_heavy_at after source ordinal) as (λ b. (home_of shape source == rank && is_heavy_at after source ordinal) ≡ b → ◌≡◌ {A = ℕ} (if b then grows (OfHeavyEdge source ordinal) else 0) 0) [
        | false ↦ λ _. refl
        | true ↦ λ on. kept-same (OfHeavyEdge source ordinal) (there_along shape (r, OfHeavyEdge source ordinal) g calls sound none (and_parts (home_of shape source == rank) (is_heavy_at after source ordinal) on).1) same.1
      ] refl

zero-weight : (b : Bool) → ◌≡◌ {A = ℕ} (if b then 0 else 0) 0
zero-weight true = refl
zero-weight false = refl

pub needed_by_touched : NeededByTouched
needed_by_touched shape rank g calls spots sound apart cover =
    let after = graph_after_calls shape g calls in
    let grows = growth_of shape g after (graphs_along shape g calls) rank in
    let nothing : Object → ℕ = λ object. 0 in
    let order = last_in_order shape g calls sound in
    let both = sums_differ_by_these shape rank after after grows nothing spots order order apart (λ spot none. weighs_nothing shape rank g calls sound spot (cover spot none) ∙ sym (zero-weight (stands_on shape after rank spot))) in
    let none : weight_of shape after rank nothing spots ≡ 0 = sum_by-none (weight_on shape after rank nothing) (λ spot. zero-weight (stands_on shape after rank spot)) spots in
    let zero : sum_by nothing (objects_on shape after rank) ≡ 0 = sum_by-none nothing (λ _. refl) (objects_on shape after rank) in
    omega (arith, both, none, zero)
