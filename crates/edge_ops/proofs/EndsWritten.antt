-- What is in the objects of two ends once they are written.
use Rattle.std.proofs.Common.{◌≡◌, ◌≢◌, ◌∙◌, ℕ, ◌≤◌, Bool, true, false, cond, ◌||◌, List, [], length, Option, Some, None, refl, sym, ap, subst, arith, eq-eqb, eqb-true}
use Rattle.std.specs.Option.{option_map, option_map_or, unwrap_or, MatchOption}
use Rattle.std.specs.Prelude.{is_none}
use Rattle.std.specs.Ordering.{eq_by_cmp}
use Rattle.std.proofs.lemmas.Bool.{and_from, and_parts, or_parts}
use Rattle.std.proofs.lemmas.Bool.Decides.{nat_tests}
use Rattle.rma_layout.specs.Placement.{Place, same_place}
use Rattle.object_words.specs.Contents.{Contents, IsByRisingObject, content_of, place_cmp, with_words, overlay}
use Rattle.object_words.proofs.Places.{in_order-with_words, place_ties_itself, places_equal}
use Rattle.graph_model.specs.Sizes.{most_words, is_too_large}
use Rattle.object_store.specs.State.{StoreState}
use Rattle.object_store.proofs.Working.{content_put}
use Rattle.holder_codec.specs.declared.vertex_holder.VertexHolder.{VertexHolder}
use Rattle.holder_codec.specs.Vertex.{IsVertexHolder, vertex_words}
use Rattle.vertex_ops.specs.Vertices.{HeldVertex, HoldsVertex, IsOrderly, holder_for}
use Rattle.edge_ops.specs.declared.ends.Ends.{Ends}
use Rattle.edge_ops.specs.Ends.{HeldEnds, HoldsEnds, as_ends, ends_after}
use Rattle.edge_ops.specs.Ending.{AreHolders, AreOf, WritesEnds, are_too_large, ends_made, target_of, written}

-- ---- places

pub same_itself : (place : Place) → same_place place place ≡ true
same_itself place = and_from _ _ (eq-eqb place.rank place.rank refl) (eq-eqb place.block place.block refl)

pub place_is : (one other : Place) → same_place one other ≡ true → one ≡ other
place_is one other same =
    let parts = and_parts _ _ same in
    λ i. record { rank = eqb-true one.rank other.rank parts.0 i; block = eqb-true one.block other.block parts.1 i }

pub same_apart : (one other : Place) → one ≢ other → same_place one other ≡ false
same_apart one other apart = cases (same_place one other) refl
  where
    cases : (same : Bool) → same_place one other ≡ same → same ≡ false
    cases true same =
        absurd (apart (place_is one other same))
    cases false same = refl

pub untied : (one other : Place) → one ≢ other → eq_by_cmp place_cmp one other ≡ false
untied one other apart = cases (eq_by_cmp place_cmp one other) refl
  where
    cases : (tie : Bool) → eq_by_cmp place_cmp one other ≡ tie → tie ≡ false
    cases true tie = absurd (apart (places_equal one other tie))
    cases false tie = refl

-- ---- the words

module _ (contents writes : Contents) (source target : Place) (ordered : IsByRisingObject writes) where
  pub here : (object : Place) (words : List ℕ) (before : Contents) → IsByRisingObject before → content_of (overlay contents (with_words before object words)) object ≡ words
  here object words before rise =
      content_put contents before object words object rise ∙ ap (λ b. cond b words (content_of (overlay contents before) object)) (place_ties_itself object)

  pub both_written : (made : Ends) → AreOf source target made
      → let after = written source target (vertex_words made.source) (option_map vertex_words made.target) writes in
      (content_of (overlay contents after) source ≡ vertex_words made.source) × (content_of (overlay contents after) target ≡ vertex_words (target_of made)) × IsByRisingObject after
  both_written made are = cases made.target are
    where
      cases : (to : Option VertexHolder) → MatchOption to (source ≡ target) (λ _. source ≢ target)
          → let after = written source target (vertex_words made.source) (option_map vertex_words to) writes in
          (content_of (overlay contents after) source ≡ vertex_words made.source) × (content_of (overlay contents after) target ≡ vertex_words (unwrap_or to made.source)) × IsByRisingObject after
      cases None loop =
          let at_source = here source (vertex_words made.source) writes ordered in
          (at_source, subst (λ (place : Place). content_of (overlay contents (with_words writes source (vertex_words made.source))) place ≡ vertex_words made.source) loop at_source, in_order-with_words writes source (vertex_words made.source) ordered)
      cases (Some to) apart =
          let first_ordered = in_order-with_words writes source (vertex_words made.source) ordered in (
            content_put contents (with_words writes source (vertex_words made.source)) target (vertex_words to) source first_ordered
                ∙ (ap (λ b. cond b (vertex_words to) (content_of (overlay contents (with_words writes source (vertex_words made.source))) source)) (untied source target apart)
                ∙ here source (vertex_words made.source) writes ordered),
            here target (vertex_words to) (with_words writes source (vertex_words made.source)) first_ordered,
            in_order-with_words (with_words writes source (vertex_words made.source)) target (vertex_words to) first_ordered,
          )

-- ---- sizes

pub too_large_either : (ends : Ends) → are_too_large ends ≡ (is_too_large (length (vertex_words ends.source)) || is_too_large (length (vertex_words (target_of ends))))
too_large_either ends = cases ends.target
  where
    alone : (b : Bool) → (b || false) ≡ (b || b)
    alone true = refl
    alone false = refl

    cases : (to : Option VertexHolder) → (is_too_large (length (vertex_words ends.source)) || option_map_or (λ holder. is_too_large (length (vertex_words holder))) to false)
        ≡ (is_too_large (length (vertex_words ends.source)) || is_too_large (length (vertex_words (unwrap_or to ends.source))))
    cases None = alone (is_too_large (length (vertex_words ends.source)))
    cases (Some to) = refl

few : (n : ℕ) → is_too_large n ≡ false → n ≤ most_words
few n is = grind (arith, nat_tests)

-- ---- as the graph has it

module _ {N : Type 0} {source target : Place} {mid new : StoreState N} {made : Ends} (ordered : IsByRisingObject mid.writes) (are : AreOf source target made) (holders : AreHolders made) (small : are_too_large made ≡ false)
    (wrote : WritesEnds source target made mid new) where
  now : (store : Contents) → (content_of (overlay store new.writes) source ≡ vertex_words made.source) × (content_of (overlay store new.writes) target ≡ vertex_words (target_of made)) × IsByRisingObject new.writes
  now store =
      subst (λ (w : Contents). (content_of (overlay store w) source ≡ vertex_words made.source) × (content_of (overlay store w) target ≡ vertex_words (target_of made)) × IsByRisingObject w) (sym wrote.writes)
      (both_written store mid.writes source target ordered made are)

  pub in_order_now : IsByRisingObject new.writes
  in_order_now = (now []).2

  target_is : IsVertexHolder (target_of made)
  target_is = cases made.target holders.target
    where
      cases : (to : Option VertexHolder) → MatchOption to (Unit {0}) IsVertexHolder → IsVertexHolder (unwrap_or to made.source)
      cases None _ = holders.source
      cases (Some to) is = is

  sizes : (is_too_large (length (vertex_words made.source)) ≡ false) × (is_too_large (length (vertex_words (target_of made))) ≡ false)
  sizes = or_parts _ _ (sym (too_large_either made) ∙ small)

  holds_one : (object : Place) (holder : VertexHolder) (after : HeldVertex) → IsVertexHolder holder → is_too_large (length (vertex_words holder)) ≡ false → holder_for after ≡ holder → IsOrderly after
      → (contents : Contents) → content_of contents object ≡ vertex_words holder → HoldsVertex object contents after
  holds_one object holder after is fits same orderly contents words = record {
    fits = orderly;
    holder = subst IsVertexHolder (sym same) is;
    words = words ∙ ap vertex_words (sym same);
    within = subst (λ (ws : List ℕ). length ws ≤ most_words) (sym words) (few (length (vertex_words holder)) fits);
  }

  pub ends_hold : (after : HeldEnds) → holder_for after.source ≡ made.source → holder_for after.target ≡ target_of made → IsOrderly after.source → IsOrderly after.target → (store : Contents)
      → HoldsEnds source target (overlay store new.writes) after
  ends_hold after at_source at_target source_orderly target_orderly store = record {
    at_source = holds_one source made.source after.source holders.source sizes.0 at_source source_orderly (overlay store new.writes) (now store).0;
    at_target = holds_one target (target_of made) after.target target_is sizes.1 at_target target_orderly (overlay store new.writes) (now store).1;
  }

-- what is made of the vertices is what is made of their holders
module _ (source target : Place) (as_source as_target : HeldVertex → HeldVertex) (source_holder target_holder : VertexHolder → VertexHolder)
    (like_source : (held : HeldVertex) → holder_for (as_source held) ≡ source_holder (holder_for held)) (like_target : (held : HeldVertex) → holder_for (as_target held) ≡ target_holder (holder_for held)) where
  as_both : (object : Place) (held : HeldVertex) (one other : Bool) → same_place object source ≡ one → same_place object target ≡ other
      → holder_for (as_ends source target as_source as_target object held) ≡ cond other (target_holder (cond one (source_holder (holder_for held)) (holder_for held))) (cond one (source_holder (holder_for held)) (holder_for held))
  as_both object held one other a b =
      ap (λ x. holder_for (cond (same_place object target) (as_target (cond x (as_source held) held)) (cond x (as_source held) held))) a
      ∙ (ap (λ y. holder_for (cond y (as_target (cond one (as_source held) held)) (cond one (as_source held) held))) b ∙ four one other)
    where
      four : (x y : Bool) → holder_for (cond y (as_target (cond x (as_source held) held)) (cond x (as_source held) held))
          ≡ cond y (target_holder (cond x (source_holder (holder_for held)) (holder_for held))) (cond x (source_holder (holder_for held)) (holder_for held))
      four true true = like_target (as_source held) ∙ ap target_holder (like_source held)
      four true false = like_source held
      four false true = like_target held
      four false false = refl

  pub made_alike : (ends : Ends) (held : HeldEnds) → AreOf source target ends → ends.source ≡ holder_for held.source → target_of ends ≡ holder_for held.target
      → (holder_for (ends_after source target as_source as_target held).source ≡ (ends_made source_holder target_holder ends).source)
      × (holder_for (ends_after source target as_source as_target held).target ≡ target_of (ends_made source_holder target_holder ends))
  made_alike ends held are at_source at_target = cases ends.target are at_target
    where
      cases : (to : Option VertexHolder) → MatchOption to (source ≡ target) (λ _. source ≢ target) → unwrap_or to ends.source ≡ holder_for held.target
          → (holder_for (as_ends source target as_source as_target source held.source) ≡ cond (is_none to) (target_holder (source_holder ends.source)) (source_holder ends.source))
          × (holder_for (as_ends source target as_source as_target target held.target) ≡ unwrap_or (option_map target_holder to) (cond (is_none to) (target_holder (source_holder ends.source)) (source_holder ends.source)))
      cases None loop there = (
        as_both source held.source true true (same_itself source) (subst (λ (place : Place). same_place source place ≡ true) loop (same_itself source)) ∙ ap (λ (h : VertexHolder). target_holder (source_holder h)) (sym at_source),
        as_both target held.target true true (subst (λ (place : Place). same_place target place ≡ true) (sym loop) (same_itself target)) (same_itself target) ∙ ap (λ (h : VertexHolder). target_holder (source_holder h)) (sym there),
      )
      cases (Some to) apart there = (
        as_both source held.source true false (same_itself source) (same_apart source target apart) ∙ ap source_holder (sym at_source),
        as_both target held.target false true (same_apart target source (λ same. apart (sym same))) (same_itself target) ∙ ap target_holder (sym there),
      )

  pub orderly_both : ((held : HeldVertex) → IsOrderly held → IsOrderly (as_source held)) → ((held : HeldVertex) → IsOrderly held → IsOrderly (as_target held)) → (object : Place) (held : HeldVertex) → IsOrderly held
      → IsOrderly (as_ends source target as_source as_target object held)
  orderly_both keeps_source keeps_target object held is =
      elim (same_place object source) as (λ x. IsOrderly (cond (same_place object target) (as_target (cond x (as_source held) held)) (cond x (as_source held) held))) [
        | true ↦ elim (same_place object target) as (λ y. IsOrderly (cond y (as_target (as_source held)) (as_source held))) [ true ↦ keeps_target (as_source held) (keeps_source held is) | false ↦ keeps_source held is ]
        | false ↦ elim (same_place object target) as (λ y. IsOrderly (cond y (as_target held) held)) [ true ↦ keeps_target held is | false ↦ is ]
      ]

pub are_of_made : (source target : Place) (source_holder target_holder : VertexHolder → VertexHolder) (ends : Ends) → AreOf source target ends → AreOf source target (ends_made source_holder target_holder ends)
are_of_made source target source_holder target_holder ends are = cases ends.target are
  where
    cases : (to : Option VertexHolder) → MatchOption to (source ≡ target) (λ _. source ≢ target) → MatchOption (option_map target_holder to) (source ≡ target) (λ _. source ≢ target)
    cases None loop = loop
    cases (Some to) apart = apart
