-- An edge is gone from both its ends, and its own object is empty.
use Rattle.std.proofs.Common.{◌≡◌, ◌∙◌, ℕ, ◌≤◌, Bool, true, false, cond, ◌||◌, [], length, Option, Some, None, refl, sym, ap, subst, ◌⊎◌, inl, inr, arith}
use Rattle.std.specs.Option.{option_map, option_map_or, MatchOption}
use Rattle.std.specs.Prelude.{is_none, is_some, not}
use Rattle.std.specs.Ordering.{eq_by_cmp}
use Rattle.std.proofs.lemmas.Bool.{or_parts}
use Rattle.std.proofs.lemmas.Bool.Decides.{nat_tests}
use Rattle.gdi_kinds.specs.declared.reply.Reply.TheVariants as reply
use Rattle.rma_layout.specs.Placement.{Place, same_place}
use Rattle.object_words.specs.Contents.{Contents, Agrees, IsByRisingObject, content_of, overlay}
use Rattle.object_words.proofs.Places.{place_ties_itself}
use Rattle.graph_model.specs.Graph.{is_heavy}
use Rattle.graph_model.specs.Sizes.{is_too_large}
use Rattle.graph_model.proofs.Sets.{length-filter-le}
use Rattle.object_store.specs.State.{StoreState}
use Rattle.object_store.specs.Sound.{StaysBegun}
use Rattle.object_store.specs.Calls.{WritesObject}
use Rattle.object_store.specs.Works.{Reaches}
use Rattle.object_store.proofs.Working.{content_put, stays-same}
use Rattle.holder_codec.specs.declared.edge_form.EdgeForm.{EdgeForm}
use Rattle.holder_codec.specs.declared.edge_form.EdgeForm.TheVariants.{Plain, Labelled, Heavy}
use Rattle.holder_codec.specs.declared.edge_record.EdgeRecord.{EdgeRecord}
use Rattle.holder_codec.specs.declared.vertex_holder.VertexHolder.{VertexHolder}
use Rattle.holder_codec.specs.Vertex.{vertex_words}
use Rattle.holder_codec.proofs.Lengths.{length-vertex_words}
use Rattle.held_objects.specs.Changes.{Holds, any}
use Rattle.held_objects.proofs.Knows.{knows_after, still}
use Rattle.vertex_ops.specs.Vertices.{HeldVertex, HoldsVertex}
use Rattle.edge_ops.specs.declared.ends.Ends.{Ends}
use Rattle.edge_ops.specs.declared.opened.Opened.{Opened}
use Rattle.edge_ops.specs.Cutting.{CutsEdge, IsCut, holder_without, lacks_edge, without}
use Rattle.edge_ops.specs.Ends.{HeldEnds, HoldsEnds, as_ends, ends_after}
use Rattle.edge_ops.specs.Ending.{AreHolders, WritesEnds, are_too_large, ends_made}
use Rattle.edge_ops.specs.HeldEdges.{HeldEdge, HeldOut, HoldsOut, KnowsOut, in_key, out_key}
use Rattle.edge_ops.specs.Opening.{ClearsOwn, IsAtRecord, MatchForm, OpensNone, OpensSome}
use Rattle.edge_ops.specs.Records.{Key, key_of, key_cmp, record_for, without_record}
use Rattle.edge_ops.proofs.EdgesFound.{IsOfRecord, edge_there, footprint_is, light_alone, none_there, out_any, own_held, source_known}
use Rattle.edge_ops.proofs.EndsChanged.{ends_changed, ends_stay}
use Rattle.edge_ops.proofs.EndsWritten.{place_is, same_itself}
use Rattle.edge_ops.proofs.Finding.{found_is}
use Rattle.edge_ops.proofs.RecordLists.{none_of_key, still_none}

-- ---- fewer records are no more words

without_small : (holder : VertexHolder) (key : Key) → is_too_large (length (vertex_words holder)) ≡ false → is_too_large (length (vertex_words (holder_without key holder))) ≡ false
without_small holder key small =
    let before = length-vertex_words holder in
    let after = length-vertex_words (holder_without key holder) in
    let fewer = length-filter-le (λ e. not (eq_by_cmp key_cmp key (key_of e))) holder.edges in
    fits (length (vertex_words (holder_without key holder))) (length (vertex_words holder)) (omega (arith, before, after, fewer)) small
  where
    fits : (m n : ℕ) → m ≤ n → is_too_large n ≡ false → is_too_large m ≡ false
    fits m n le is = grind (arith, nat_tests)

pub ends_without_small : (one other : Key) (ends : Ends) → are_too_large ends ≡ false → are_too_large (ends_made (holder_without one) (holder_without other) ends) ≡ false
ends_without_small one other ends small = cases ends.target small
  where
    either : (a b : Bool) → a ≡ false → b ≡ false → (a || b) ≡ false
    either a b x y = ap (λ t. t || b) x ∙ y

    cases : (to : Option VertexHolder) → (is_too_large (length (vertex_words ends.source)) || option_map_or (λ holder. is_too_large (length (vertex_words holder))) to false) ≡ false
        → (is_too_large (length (vertex_words (cond (is_none to) (holder_without other (holder_without one ends.source)) (holder_without one ends.source))))
        || option_map_or (λ holder. is_too_large (length (vertex_words holder))) (option_map (holder_without other) to) false) ≡ false
    cases None few =
        let parts = or_parts (is_too_large (length (vertex_words ends.source))) false few in
        either _ false (without_small (holder_without one ends.source) other (without_small ends.source one parts.0)) refl
    cases (Some to) few =
        let parts = or_parts (is_too_large (length (vertex_words ends.source))) (is_too_large (length (vertex_words to))) few in
        either _ _ (without_small ends.source one parts.0) (without_small to other parts.1)

abbrev cut_ends : ℕ → Ends → Ends
cut_ends ordinal ends = ends_made (holder_without (out_key ordinal)) (holder_without (in_key ends.source.id ordinal)) ends

-- ---- neither record is left

gone : (source target : Place) (ordinal id : ℕ) (vertex : HeldVertex) → record_for (as_ends source target (without (out_key ordinal)) (without (in_key id ordinal)) source vertex).edges (out_key ordinal) ≡ None
gone source target ordinal id vertex =
    let first = none_of_key (out_key ordinal) vertex.edges in
    ap (λ b. record_for (cond (same_place source target) (without (in_key id ordinal) (cond b (without (out_key ordinal) vertex) vertex)) (cond b (without (out_key ordinal) vertex) vertex)).edges (out_key ordinal)) (same_itself source)
    ∙ elim (same_place source target) as (λ b. record_for (cond b (without (in_key id ordinal) (without (out_key ordinal) vertex)) (without (out_key ordinal) vertex)).edges (out_key ordinal) ≡ None) [
      | true ↦ still_none (in_key id ordinal) (without_record (out_key ordinal) vertex.edges) (out_key ordinal) first
      | false ↦ first
    ]

-- ---- the edge is cut

module _ {N : Type 0} {source : Place} {ordinal : ℕ} {old mid : StoreState N} where
  pub cuts_none : OpensNone source ordinal old mid → KnowsOut source ordinal any old → CutsEdge source ordinal old mid reply.NoEdge
  cuts_none opened known = record {
    answer = λ store held agrees has. sym (ap (λ (o : Option HeldEdge). cond (is_some o) reply.Done reply.NoEdge) (none_there opened.found store held agrees has opened.none));
    cut = λ store held agrees has. subst (λ (o : Option HeldEdge). MatchOption o (Unit {0}) (IsCut source ordinal (overlay store mid.writes) held.source)) (sym (none_there opened.found store held agrees has opened.none)) tt;
    footprint = λ store held agrees has. record { reads = λ place. or_beyond (opened.reaches.reads place); writes = λ place. or_beyond (opened.reaches.writes place) };
    unchanged = λ _. opened.found.looks;
    known = still opened.found.looks known;
    gone =
        knows_after opened.found.looks.stays ordered (λ store may agrees.
        let is = known.always store may in
        subst (λ (writes : Contents). Holds (HoldsOut old.shape source ordinal) lacks_edge old.shape (overlay store writes)) (sym opened.found.looks.writes)
        (record { part = is.part; has = is.has; passed = ap (λ (o : Option HeldEdge). not (is_some o)) (none_there opened.found store is.part agrees is.has opened.none) }));
    source_known = still opened.found.looks (source_known known);
    target_known = λ target leads.
        knows_after opened.found.looks.stays ordered (λ store may agrees.
        let is = leads.always store may in
        let none : false ≡ true = subst (λ (o : Option HeldEdge). option_map_or (λ edge. same_place edge.target_at target) o false ≡ true) (none_there opened.found store is.part agrees is.has opened.none) is.passed in
        absurd (cc none));
  }
    where
      or_beyond : {A B C : Type 0} → A ⊎ C → A ⊎ B ⊎ C
      or_beyond (inl a) = inl a
      or_beyond (inr c) = inr (inr c)

      ordered : IsByRisingObject mid.writes
      ordered = subst IsByRisingObject (sym opened.found.looks.writes) opened.found.in_order

  module _ {opened : Opened} (read : OpensSome source ordinal old mid opened) where
    module _ (after new : StoreState N) (holders : AreHolders (cut_ends ordinal opened.ends)) (wrote : WritesEnds source opened.edge.other_at (cut_ends ordinal opened.ends) mid after) (cleared : ClearsOwn opened.edge.form after new) (after_ordered : IsByRisingObject after.writes) (new_ordered : IsByRisingObject new.writes) where
      abbrev Cleared : EdgeForm → Type 0
      Cleared form = MatchForm form (λ _. new ≡ after) (λ own. WritesObject own [] after new)

      reads_are : (form : EdgeForm) → Cleared form → new.reads ≡ after.reads
      reads_are Plain is = ap (λ (s : StoreState N). s.reads) is
      reads_are (Labelled l) is = ap (λ (s : StoreState N). s.reads) is
      reads_are (Heavy own) is = is.reads

      stays_are : (form : EdgeForm) → Cleared form → StaysBegun after new
      stays_are Plain is = subst (StaysBegun after) (sym is) stays-same
      stays_are (Labelled l) is = subst (StaysBegun after) (sym is) stays-same
      stays_are (Heavy own) is = is.stays

      agreed : (store : Contents) → Agrees new.reads store → Agrees mid.reads store
      agreed store agrees = subst (λ (reads : Contents). Agrees reads store) (reads_are opened.edge.form cleared ∙ wrote.reads) agrees

      -- the ends without the edge, once its own object is written
      module _ (store : Contents) (held : HeldOut) (agrees : Agrees mid.reads store) (has : HoldsOut old.shape source ordinal (overlay store old.writes) held) where
        e : IsOfRecord old.shape source ordinal opened.edge (overlay store old.writes) held
        e = edge_there read.ends.source_found store held agrees has opened.edge read.record_is

        target_is : e.one.target_at ≡ opened.edge.other_at
        target_is = ap (λ (r : EdgeRecord). r.other_at) e.of

        id_is : opened.ends.source.id ≡ held.source.id
        id_is = ap (λ (h : VertexHolder). h.id) (found_is read.ends.source_found store held.source agrees has.at_source)

        abbrev both : HeldEnds
        both = record { source = held.source; target = e.one.target }

        abbrev both_cut : HeldEnds
        both_cut = ends_after source opened.edge.other_at (without (out_key ordinal)) (without (in_key opened.ends.source.id ordinal)) both

        ends_then : HoldsEnds source opened.edge.other_at (overlay store after.writes) both_cut
        ends_then =
            ends_changed read.ends (without (out_key ordinal)) (without (in_key opened.ends.source.id ordinal)) (holder_without (out_key ordinal)) (holder_without (in_key opened.ends.source.id ordinal)) (λ _. refl) (λ _. refl)
            (λ _ is. record { labels = is.labels; props = is.props; some = is.some }) (λ _ is. record { labels = is.labels; props = is.props; some = is.some }) holders
            (ends_without_small (out_key ordinal) (in_key opened.ends.source.id ordinal) opened.ends read.small) wrote store both agrees
            (record { at_source = has.at_source; at_target = subst (λ (place : Place). HoldsVertex place (overlay store old.writes) e.one.target) target_is e.holds.at_target })

        ends_now : (form : EdgeForm) → opened.edge.form ≡ form → Cleared form → HoldsEnds source opened.edge.other_at (overlay store new.writes) both_cut
        ends_now Plain form is = subst (λ (s : StoreState N). HoldsEnds source opened.edge.other_at (overlay store s.writes) both_cut) (sym is) ends_then
        ends_now (Labelled l) form is = subst (λ (s : StoreState N). HoldsEnds source opened.edge.other_at (overlay store s.writes) both_cut) (sym is) ends_then
        ends_now (Heavy own) form is =
            let held_own = own_held e own form in
            ends_stay after_ordered is source opened.edge.other_at (λ same. held_own.0.not_source (held_own.1 ∙ sym same)) (λ same. held_own.0.not_target (held_own.1 ∙ (sym same ∙ sym target_is))) store both_cut ends_then

        own_now : (form : EdgeForm) → opened.edge.form ≡ form → Cleared form → is_heavy e.one.edge ≡ true → content_of (overlay store new.writes) e.one.own_at ≡ []
        own_now Plain form is heavy = absurd (light_alone e.one Plain (ap (λ (r : EdgeRecord). r.form) e.of ∙ form) heavy)
        own_now (Labelled l) form is heavy = absurd (light_alone e.one (Labelled l) (ap (λ (r : EdgeRecord). r.form) e.of ∙ form) heavy)
        own_now (Heavy own) form is heavy =
            subst (λ (place : Place). content_of (overlay store new.writes) place ≡ []) (sym (own_held e own form).1)
            (ap (λ (w : Contents). content_of (overlay store w) own) is.writes
            ∙ (content_put store after.writes own [] own after_ordered
            ∙ ap (λ b. cond b [] (content_of (overlay store after.writes) own)) (place_ties_itself own)))

        is_cut : IsCut source ordinal (overlay store new.writes) held.source e.one
        is_cut = record {
          ends = subst (λ (p : Place × ℕ). HoldsEnds source p.0 (overlay store new.writes)
              (record {
                source = as_ends source p.0 (without (out_key ordinal)) (without (in_key p.1 ordinal)) source held.source;
                target = as_ends source p.0 (without (out_key ordinal)) (without (in_key p.1 ordinal)) p.0 e.one.target;
              })) (λ i. (sym target_is i, id_is i)) (ends_now opened.edge.form refl cleared);
          own = own_now opened.edge.form refl cleared;
        }

      pub cuts_some : {Makes : ℕ → Type 0} → KnowsOut source ordinal any old → Reaches (IsAtRecord source opened.edge) Makes old new → CutsEdge source ordinal old new reply.Done
      cuts_some known reaches = record {
        answer = λ store held agrees has. sym (ap (λ (o : Option HeldEdge). cond (is_some o) reply.Done reply.NoEdge) (e store held (agreed store agrees) has).is);
        cut = λ store held agrees has.
            subst (λ (o : Option HeldEdge). MatchOption o (Unit {0}) (IsCut source ordinal (overlay store new.writes) held.source)) (sym (e store held (agreed store agrees) has).is) (is_cut store held (agreed store agrees) has);
        footprint = λ store held agrees has. footprint_is (e store held (agreed store agrees) has) reaches;
        unchanged = λ other. absurd (other refl);
        known = out_any out_known;
        gone = out_known;
        source_known = source_known out_known;
        target_known = λ target leads.
            knows_after reaches.stays new_ordered (λ store may agrees.
            let is = leads.always store may in
            let it = e store is.part (agreed store agrees) is.has in
            let here : same_place it.one.target_at target ≡ true = subst (λ (o : Option HeldEdge). option_map_or (λ edge. same_place edge.target_at target) o false ≡ true) it.is is.passed in
            let at : opened.edge.other_at ≡ target = sym (target_is store is.part (agreed store agrees) is.has) ∙ place_is it.one.target_at target here in
            record {
              part = (both_cut store is.part (agreed store agrees) is.has).target;
              has = subst (λ (place : Place). HoldsVertex place (overlay store new.writes) (both_cut store is.part (agreed store agrees) is.has).target) at (ends_now store is.part (agreed store agrees) is.has opened.edge.form refl cleared).at_target;
              passed = refl;
            });
      }
        where
          out_known : KnowsOut source ordinal lacks_edge new
          out_known =
              knows_after reaches.stays new_ordered (λ store may agrees.
              let is = known.always store may in
              let ends = ends_now store is.part (agreed store agrees) is.has opened.edge.form refl cleared in
              record {
                part = record { source = as_ends source opened.edge.other_at (without (out_key ordinal)) (without (in_key opened.ends.source.id ordinal)) source is.part.source; found = None };
                has = record { at_source = ends.at_source; record_here = gone source opened.edge.other_at ordinal opened.ends.source.id is.part.source; edge = tt };
                passed = refl;
              })
