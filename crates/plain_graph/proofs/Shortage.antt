-- When a rank is short, by the blocks that are taken on each.
use Rattle.std.proofs.Common.{◌≡◌, ℕ, zero, suc, ◌+◌, ◌-◌, ◌<◌, Bool, true, false, cond, not, ◌&&◌, List, [], ◌∷◌, ◌++◌, map, if◌then◌else◌, Option, Some, None, refl, sym, ap, subst, ◌∙◌, arith}
use Rattle.std.specs.Prelude.{nat_lt}
use Rattle.std.specs.List.{AllByRecursion, range_with_len, find}
use Rattle.std.specs.Option.{option_map_or, option_to_list}
use Rattle.std.proofs.lemmas.Nat.{mod_below}
use Rattle.gdi_kinds.specs.declared.call.Call.{Call}
use Rattle.gdi_kinds.specs.declared.call.Call.TheVariants as call
use Rattle.rma_layout.specs.Shape.{Shape}
use Rattle.rma_layout.specs.Placement.{home_of}
use Rattle.graph_model.specs.Graph.{Graph}
use Rattle.graph_model.specs.Calls.{graph_after_call}
use Rattle.graph_model.specs.Transactions.{graph_after_calls}
use Rattle.graph_model.specs.Capacity.{Object, is_object, blocks_used_on, object_to_make, rank_if_made, makes, blocks_needed_on, short_at_commit}
use Rattle.graph_undo.specs.Undo.{IsInOrder}
use Rattle.touched_objects.specs.Touched.{Spot, is_touched, IsSameAt}
use Rattle.touched_objects.specs.Weights.{AreApart}
use Rattle.touched_objects.specs.Needed.{AreSound, Cover, noted_along}
use Rattle.touched_objects.proofs.OtherObjects.{other_objects}
use Rattle.touched_objects.proofs.Standing.{used_differs}
use Rattle.touched_objects.proofs.NeededBlocks.{calls_lead_back, last_in_order, needed_by_touched}
use Rattle.plain_graph.specs.declared.growth.Growth.{Growth}
use Rattle.plain_graph.specs.Trials.{IsGrowth, spot_of}
use Rattle.plain_graph.specs.Used.{amount_on, growth_blocks, times}
use Rattle.plain_graph.proofs.Weighing.{after_amount, before_amount, growth_amount}

pub find_same : (p q : ℕ → Bool) (first n : ℕ) → ((r : ℕ) → r < first + n → p r ≡ q r) → find p (range_with_len first n) ≡ find q (range_with_len first n)
find_same p q first zero same = refl
find_same p q first (suc n) same =
    ap (λ b. cond b (Some first) (find p (range_with_len (first + 1) n))) (same first (omega arith))
    ∙ ap (λ o. cond (q first) (Some first) o) (find_same p q (first + 1) n (λ r below. same r (omega (arith, below))))

-- an object is made on a rank
home_below : (shape : Shape) (id : ℕ) → 0 < shape.ranks → home_of shape id < shape.ranks
home_below shape id some = mod_below id shape.ranks some

abbrev IsBelow : Shape → Option (ℕ × Object) → Type 0
IsBelow shape None = Unit {0}
IsBelow shape (Some made) = made.0 < shape.ranks

made_below : (shape : Shape) (c : Call) → 0 < shape.ranks → IsBelow shape (object_to_make shape c)
made_below shape (call.Vertex id) some = home_below shape id some
made_below shape (call.ETag source ordinal label) some = home_below shape source some
made_below shape (call.ESet source ordinal prop value) some = home_below shape source some
made_below shape (call.EAdd source ordinal prop value) some = home_below shape source some
made_below shape c some = tt

below_of : (shape : Shape) (before after : Graph) (o : Option (ℕ × Object)) (rest : List ℕ) → IsBelow shape o → AllByRecursion (λ rank. rank < shape.ranks) rest
    → AllByRecursion (λ rank. rank < shape.ranks) (option_to_list (option_map_or (rank_if_made before after) o None) ++ rest)
below_of shape before after None rest is all = all
below_of shape before after (Some made) rest is all =
    elim (not (is_object before made.1) && is_object after made.1) as (λ b. AllByRecursion (λ rank. rank < shape.ranks) (option_to_list (if b then Some made.0 else None) ++ rest)) [ true ↦ (is, all) | false ↦ all ]

pub makes_below : (shape : Shape) (g : Graph) (calls : List Call) → 0 < shape.ranks → AllByRecursion (λ rank. rank < shape.ranks) (makes shape g calls)
makes_below shape g [] some = tt
makes_below shape g (c ∷ cs) some =
    below_of shape g (graph_after_call shape g c) (object_to_make shape c) (makes shape (graph_after_call shape g c) cs) (made_below shape c some) (makes_below shape (graph_after_call shape g c) cs some)

module _ (shape : Shape) (g : Graph) (calls : List Call) (growths : List Growth) (sound : AreSound shape g calls) (apart : AreApart (map (spot_of shape) growths))
    (cover : Cover shape g calls (map (spot_of shape) growths)) (each : AllByRecursion (IsGrowth shape g calls) growths) where
  -- the least rank on which more would be taken than it has
  pub commit_short : (taken : ℕ → ℕ)
      → ((rank : ℕ) → rank < shape.ranks → taken rank ≡ blocks_used_on shape g rank + times rank (makes shape g calls) + amount_on rank growth_blocks growths)
      → find (λ rank. nat_lt shape.blocks (taken rank)) (range_with_len 0 shape.ranks) ≡ short_at_commit shape g calls
  commit_short taken is =
      find_same (λ rank. nat_lt shape.blocks (taken rank)) (λ rank. nat_lt shape.blocks (blocks_used_on shape g rank + blocks_needed_on shape g calls rank)) 0 shape.ranks
      (λ rank below. ap (nat_lt shape.blocks) (omega (arith, is rank (omega (arith, below)), needed_by_touched shape rank g calls (map (spot_of shape) growths) sound apart cover, growth_amount shape rank g calls growths each)))

  abbrev last : Graph
  last = graph_after_calls shape g calls

  stays : (spot : Spot) → is_touched (map (spot_of shape) growths) spot ≡ false → IsSameAt shape g last spot
  stays spot none =
      let same : IsSameAt shape last g spot = subst (λ k. IsSameAt shape last k spot) (calls_lead_back shape g calls sound)
      (other_objects shape (noted_along shape g calls) last spot (last_in_order shape g calls sound) (cover spot none)) in
      (sym same.0, sym same.1)

  -- the blocks in use once the calls are done
  pub used_last : IsInOrder g → (rank old new : ℕ) → old ≡ blocks_used_on shape g rank
      → new ≡ old + amount_on rank (λ growth. growth.after) growths - amount_on rank (λ growth. growth.before) growths
      → new ≡ blocks_used_on shape last rank
  used_last order rank old new was is =
      omega (
        arith,
        was,
        is,
        after_amount shape rank g calls growths each,
        before_amount shape rank g calls growths each,
        used_differs shape rank g last (map (spot_of shape) growths) order (last_in_order shape g calls sound) apart stays,
      )
