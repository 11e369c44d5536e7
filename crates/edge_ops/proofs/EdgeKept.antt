-- An edge has the labels and properties that it was given.
use Rattle.std.proofs.Common.{◌≡◌, ◌≢◌, ◌∙◌, ℕ, suc, ◌≤◌, Bool, true, false, cond, eqb, eq-eqb, eqb-true, ◌&&◌, ◌||◌, List, [], ◌∷◌, ◌++◌, length, Option, Some, None, refl, sym, ap, subst, ◌⊎◌, inl, inr, arith}
use Rattle.std.specs.Prelude.{nat_lt, not}
use Rattle.std.specs.List.{AllByRecursion}
use Rattle.std.specs.Option.{option_map_or, unwrap_or, MatchOption}
use Rattle.std.proofs.lemmas.Bool.{and_from, and_parts, or_parts}
use Rattle.std.proofs.lemmas.Bool.Decides.{nat_tests}
use Rattle.gdi_kinds.specs.declared.value.Value.{Value}
use Rattle.rma_layout.specs.Shape.{Shape}
use Rattle.rma_layout.specs.Placement.{Place, IsBlock, home_of, same_place}
use Rattle.rma_layout.specs.Ranges.{IsInRange}
use Rattle.object_words.specs.Contents.{Contents, Agrees, IsByRisingObject, content_of, overlay, words_at}
use Rattle.graph_model.specs.Graph.{Edge, PropType, Props, is_heavy}
use Rattle.graph_model.specs.Sizes.{is_too_large, most_words}
use Rattle.object_store.specs.State.{StoreState, committed}
use Rattle.object_store.specs.Sound.{StaysBegun}
use Rattle.object_store.specs.Works.{Looks, Reaches}
use Rattle.object_store.proofs.Working.{reaches-same, reaches-then, reaches-wider, stays-then}
use Rattle.holder_codec.specs.declared.edge_form.EdgeForm.{EdgeForm}
use Rattle.holder_codec.specs.declared.edge_form.EdgeForm.TheVariants.{Plain, Labelled, Heavy}
use Rattle.holder_codec.specs.declared.edge_holder.EdgeHolder.{EdgeHolder}
use Rattle.holder_codec.specs.declared.edge_record.EdgeRecord.{EdgeRecord}
use Rattle.holder_codec.specs.declared.vertex_holder.VertexHolder.{VertexHolder}
use Rattle.holder_codec.specs.EdgeObject.{IsEdgeHolder, edge_object_words}
use Rattle.holder_codec.specs.Edges.{FormFits}
use Rattle.holder_codec.specs.Holders.{held_props, held_values, is_marked_in}
use Rattle.holder_codec.specs.Represents.{IsUnreserved, light_form}
use Rattle.holder_codec.specs.Vertex.{IsVertexHolder, vertex_words}
use Rattle.held_objects.specs.Changes.{Holds, IsHeldAs}
use Rattle.held_objects.proofs.Knows.{before, knows_after, still}
use Rattle.vertex_ops.specs.Vertices.{HeldVertex, HoldsVertex, IsOrderly, holder_for}
use Rattle.edge_ops.specs.declared.ends.Ends.{Ends}
use Rattle.edge_ops.specs.declared.opened.Opened.{Opened}
use Rattle.edge_ops.specs.declared.wanted.Wanted.{Wanted}
use Rattle.edge_ops.specs.declared.wanted.Wanted.TheVariants as wanted
use Rattle.edge_ops.specs.Ends.{HeldEnds, as_ends, ends_after, with_in}
use Rattle.edge_ops.specs.Ending.{AreHolders, holder_with_in, target_of}
use Rattle.edge_ops.specs.Forming.{Gives, GivesEdge, GivesForm, GivesObject, HasEnds, IsMadeOn, IsOpen, IsWanted, ends_formed, into_record, with_form}
use Rattle.edge_ops.specs.HeldEdges.{HeldEdge, HeldOut, HoldsOut, HoldsOwn, IsBeyond, IsOrderlyEdge, KnowsOut, edge_holder_for, form_of_held, in_key, is_edge_to, out_key, record_at_source, record_at_target}
use Rattle.edge_ops.specs.Keeping.{IsKept, IsMadeFor, IsOfEdge, KeepsEdge, KeepsFootprint, given, has_own, is_taken, out_given}
use Rattle.edge_ops.specs.Opening.{IsAtRecord, MatchForm, OpensNone, OpensSome, OwnIsOpen}
use Rattle.edge_ops.specs.Records.{record_for, with_record}
use Rattle.edge_ops.proofs.EdgeForms.{formed_holders, formed_small, heavy_fits}
use Rattle.edge_ops.proofs.EdgeMade.{out_stays, record_put}
use Rattle.edge_ops.proofs.EdgesFound.{IsOfRecord, beyond_is, edge_there, none_there, source_known}
use Rattle.edge_ops.proofs.EndsWritten.{made_alike, orderly_both, same_itself, too_large_either}
use Rattle.edge_ops.proofs.Opening.{taken}
use Rattle.edge_ops.proofs.Finding.{found_is, holders_found, may_write_found}

-- ---- the holder of an edge

some_props : (types : List PropType) (props : Props) → AllByRecursion (λ entry. 1 ≤ length entry.1) props → nat_lt 0 (length (held_props types props)) ≡ nat_lt 0 (length props)
some_props types [] some = refl
some_props types (p ∷ ps) some = cases p.1 some.0
  where
    positive : (m n : ℕ) → nat_lt 0 (suc m) ≡ nat_lt 0 (suc n)
    positive m n = grind (arith, nat_tests)

    cases : (vs : List Value) → 1 ≤ length vs → nat_lt 0 (length (held_values p.0 (is_marked_in types p.0) vs ++ held_props types ps)) ≡ nat_lt 0 (length (p ∷ ps))
    cases [] few = absurd (omega (arith, few))
    cases (v ∷ vs) few = positive (length (held_values p.0 (is_marked_in types p.0) vs ++ held_props types ps)) (length ps)

-- it has an object of its own just where the edge is heavy
heavy_as : (types : List PropType) (holder : EdgeHolder) (edge : Edge) → IsOfEdge types holder edge → is_heavy edge ≡ has_own holder
heavy_as types holder edge of = ap (λ b. nat_lt 1 (length edge.labels) || b) (sym (some_props types edge.props of.fits.some)) ∙ ap (λ (h : EdgeHolder). has_own h) of.is

-- ---- a vertex and an edge from it, with both records put in place

as_ends_keeps : {A : Type 0} (view : HeldVertex → A) (source target : Place) (as_source as_target : HeldVertex → HeldVertex) → ((h : HeldVertex) → view (as_source h) ≡ view h) → ((h : HeldVertex) → view (as_target h) ≡ view h)
    → (object : Place) (held : HeldVertex) → view (as_ends source target as_source as_target object held) ≡ view held
as_ends_keeps view source target as_source as_target first second object held =
    elim (same_place object source) as (λ a. view (cond (same_place object target) (as_target (cond a (as_source held) held)) (cond a (as_source held) held)) ≡ view held) [
      | true ↦ elim (same_place object target) as (λ b. view (cond b (as_target (as_source held)) (as_source held)) ≡ view held) [ true ↦ second (as_source held) ∙ first held | false ↦ first held ]
      | false ↦ elim (same_place object target) as (λ b. view (cond b (as_target held) held) ≡ view held) [ true ↦ second held | false ↦ refl ]
    ]

module _ (shape : Shape) (source : Place) (ordinal : ℕ) (contents : Contents) (vertex : HeldVertex) (one : HeldEdge) where
  abbrev out : EdgeRecord
  out = record_at_source ordinal one

  abbrev into : EdgeRecord
  into = record_at_target source vertex.id ordinal one

  abbrev now : Place → HeldVertex → HeldVertex
  now = as_ends source one.target_at (with_in out) (with_in into)

  abbrev name_of : HeldVertex → List PropType × ℕ
  name_of held = (held.types, held.id)

  named : (object : Place) (held : HeldVertex) → name_of (now object held) ≡ name_of held
  named = as_ends_keeps name_of source one.target_at (with_in out) (with_in into) (λ _. refl) (λ _. refl)

  source_id : (now source vertex).id ≡ vertex.id
  source_id = ap (λ (p : List PropType × ℕ). p.1) (named source vertex)

  here : record_for (now source vertex).edges (out_key ordinal) ≡ Some out
  here =
      ap (λ b. record_for (cond (same_place source one.target_at) (with_in into (cond b (with_in out vertex) vertex)) (cond b (with_in out vertex) vertex)).edges (out_key ordinal)) (same_itself source)
      ∙ elim (same_place source one.target_at) as (λ b. record_for (cond b (with_in into (with_in out vertex)) (with_in out vertex)).edges (out_key ordinal) ≡ Some out) [
        | true ↦ out_stays into (with_record out vertex.edges) ordinal refl ∙ record_put out vertex.edges
        | false ↦ record_put out vertex.edges
      ]

  there : record_for (now one.target_at one.target).edges (in_key vertex.id ordinal) ≡ Some into
  there =
      ap (λ b. record_for (cond b (with_in into (cond (same_place one.target_at source) (with_in out one.target) one.target)) (cond (same_place one.target_at source) (with_in out one.target) one.target)).edges (in_key vertex.id ordinal)) (same_itself one.target_at)
      ∙ record_put into (cond (same_place one.target_at source) (with_in out one.target) one.target).edges

  holds_given : IsOrderlyEdge one.edge → IsBlock shape one.target_at → HoldsVertex source contents (now source vertex) → HoldsVertex one.target_at contents (now one.target_at one.target) → one.target.id ≡ one.edge.target
      → (is_heavy one.edge ≡ true → HoldsOwn shape source ordinal contents vertex one) → HoldsOut shape source ordinal contents (out_given source ordinal vertex one)
  holds_given fits block at_source at_target target own = record {
    at_source = at_source;
    record_here = here;
    edge = record {
      fits = fits;
      block = block;
      at_target = at_target;
      target = ap (λ (p : List PropType × ℕ). p.1) (named one.target_at one.target) ∙ target;
      record_there = ap (λ id. record_for (now one.target_at one.target).edges (in_key id ordinal)) source_id ∙ (there ∙ ap (λ id. Some (record into { other = id })) (sym source_id));
      heavy = λ heavy.
          let is = own heavy in
          record {
            block = is.block;
            not_source = is.not_source;
            not_target = is.not_target;
            own = subst (λ (p : List PropType × ℕ). IsHeldAs IsEdgeHolder edge_object_words (edge_holder_for p.0 p.1 ordinal) IsOrderlyEdge one.own_at contents one.edge) (sym (named source vertex)) is.own;
          };
    };
  }

-- ---- what an object holds by its words

few : (n : ℕ) → is_too_large n ≡ false → n ≤ most_words
few n is = grind (arith, nat_tests)

holds_words : (object : Place) (holder : VertexHolder) (held : HeldVertex) → IsVertexHolder holder → is_too_large (length (vertex_words holder)) ≡ false → holder_for held ≡ holder → IsOrderly held
    → (contents : Contents) → content_of contents object ≡ vertex_words holder → HoldsVertex object contents held
holds_words object holder held is small same orderly contents words = record {
  fits = orderly;
  holder = subst IsVertexHolder (sym same) is;
  words = words ∙ ap vertex_words (sym same);
  within = subst (λ (ws : List ℕ). length ws ≤ most_words) (sym words) (few (length (vertex_words holder)) small);
}

target_holder_is : (ends : Ends) → AreHolders ends → IsVertexHolder (target_of ends)
target_holder_is ends are = cases ends.target are.target
  where
    cases : (to : Option VertexHolder) → MatchOption to (Unit {0}) IsVertexHolder → IsVertexHolder (unwrap_or to ends.source)
    cases None _ = are.source
    cases (Some to) is = is

-- an edge that is heavy has the form of its object, and another one a light one
heavy_form : (held : HeldEdge) (form : EdgeForm) → form_of_held held ≡ form → is_heavy held.edge ≡ true → form ≡ Heavy held.own_at
heavy_form held form is heavy = sym is ∙ ap (λ b. cond b (Heavy held.own_at) (light_form held.edge.labels)) heavy

light_part : {A : Type 0} (Other : Place → Type 0) (held : HeldEdge) (form : EdgeForm) → form_of_held held ≡ form → is_heavy held.edge ≡ false → MatchForm form (λ _. A) Other → A
light_part {A} Other held form is light part =
    cases held.edge.labels (subst (λ (f : EdgeForm). MatchForm f (λ _. A) Other) (sym is ∙ ap (λ b. cond b (Heavy held.own_at) (light_form held.edge.labels)) light) part)
  where
    cases : (labels : List ℕ) → MatchForm (light_form labels) (λ _. A) Other → A
    cases [] is = is
    cases (l ∷ ls) is = is

-- ---- an edge that was read

module _ {N : Type 0} {source : Place} {old mid : StoreState N} {opened : Opened} (holder : EdgeHolder) (read : OpensSome source holder.ordinal old mid opened)
    (known : KnowsOut source holder.ordinal (is_edge_to holder.source holder.target) old) where
  some_known : Holds (HoldsOut old.shape source holder.ordinal) (is_edge_to holder.source holder.target) old.shape (overlay (committed mid) old.writes)
  some_known = known.always (committed mid) (before read.ends.source_found.looks.stays (committed mid) read.ends.source_found.stands)

  module _ (store : Contents) (held : HeldOut) (agrees : Agrees mid.reads store) (holds : HoldsOut old.shape source holder.ordinal (overlay store old.writes) held) where
    pub e : IsOfRecord old.shape source holder.ordinal opened.edge (overlay store old.writes) held
    e = edge_there read.ends.source_found store held agrees holds opened.edge read.record_is

    target_at : e.one.target_at ≡ opened.edge.other_at
    target_at = ap (λ (r : EdgeRecord). r.other_at) e.of

    source_is : opened.ends.source ≡ holder_for held.source
    source_is = found_is read.ends.source_found store held.source agrees holds.at_source

    id_is : opened.ends.source.id ≡ held.source.id
    id_is = ap (λ (h : VertexHolder). h.id) source_is

    at_target : HoldsVertex opened.edge.other_at (overlay store old.writes) e.one.target
    at_target = subst (λ (place : Place). HoldsVertex place (overlay store old.writes) e.one.target) target_at e.holds.at_target

    target_is : target_of opened.ends ≡ holder_for e.one.target
    target_is = found_is read.ends.target_found store e.one.target agrees at_target

    ordinal_is : holder.ordinal ≡ opened.edge.ordinal
    ordinal_is = ap (λ (r : EdgeRecord). r.ordinal) e.of

    record_back : record_for (target_of opened.ends).edges (in_key opened.ends.source.id opened.edge.ordinal) ≡ Some (into_record source opened.ends.source.id opened.edge)
    record_back =
        ap (λ (h : VertexHolder). record_for h.edges (in_key opened.ends.source.id opened.edge.ordinal)) target_is
        ∙ (ap (λ (p : ℕ × ℕ). record_for e.one.target.edges (in_key p.0 p.1)) (λ i. (id_is i, sym ordinal_is i))
        ∙ (e.holds.record_there ∙ (λ i. Some (into_record source (sym id_is i) (e.of i)))))

  -- it is the edge that is told
  parts : (eqb some_known.part.source.id holder.source ≡ true) × (option_map_or (λ one. eqb one.edge.target holder.target) some_known.part.found false ≡ true)
  parts = and_parts (eqb some_known.part.source.id holder.source) (option_map_or (λ one. eqb one.edge.target holder.target) some_known.part.found false) some_known.passed

  source_named : opened.ends.source.id ≡ holder.source
  source_named = id_is (committed mid) some_known.part read.ends.source_found.stands.agrees some_known.has ∙ eqb-true some_known.part.source.id holder.source parts.0

  target_named : opened.edge.other ≡ holder.target
  target_named =
      let is = e (committed mid) some_known.part read.ends.source_found.stands.agrees some_known.has in
      sym (ap (λ (r : EdgeRecord). r.other) is.of)
      ∙ eqb-true is.one.edge.target holder.target (subst (λ (o : Option HeldEdge). option_map_or (λ one. eqb one.edge.target holder.target) o false ≡ true) is.is parts.1)

  pub is_open : IsBlock old.shape source → IsOpen source opened mid
  is_open block =
      let store = committed mid in
      let agrees = read.ends.source_found.stands.agrees in
      let is = e store some_known.part agrees some_known.has in
      let shape = read.ends.source_found.looks.stays.shape in
      let writes = read.ends.source_found.looks.writes in
      record {
        ranges = subst IsInRange (sym shape) read.ends.source_found.ranges;
        ordered = subst IsByRisingObject (sym writes) read.ends.source_found.in_order;
        source_block = subst (λ (s : Shape). IsBlock s source) (sym shape) block;
        target_block = subst (λ (s : Shape). IsBlock s opened.edge.other_at) (sym shape) read.block;
        outward = sym (ap (λ (r : EdgeRecord). r.inward) is.of);
        fits = read.fits;
        holders = holders_found read.ends;
        are = read.ends.are_of;
        small = read.small;
        here = subst (λ n. record_for opened.ends.source.edges (out_key n) ≡ Some opened.edge) (ordinal_is store some_known.part agrees some_known.has) read.record_is;
        there = record_back store some_known.part agrees some_known.has;
        may_source = may_write_found read.ends.source_found;
        may_target = may_write_found read.ends.target_found;
        own = own_open opened.edge.form read.own;
        has = record {
          at_source = λ store agrees. ap (λ (w : Contents). content_of (overlay store w) source) writes ∙ read.ends.source_found.words store agrees;
          at_target = λ store agrees. ap (λ (w : Contents). content_of (overlay store w) opened.edge.other_at) writes ∙ read.ends.target_found.words store agrees;
        };
      }
    where
      own_open : (form : EdgeForm) → MatchForm form (λ _. Unit {0}) (λ own. OwnIsOpen own source opened.edge.other_at old mid) → MatchForm form (λ _. Unit {0}) (λ own. OwnIsOpen own source opened.edge.other_at mid mid)
      own_open Plain is = tt
      own_open (Labelled l) is = tt
      own_open (Heavy own) is =
          record { block = subst (λ (s : Shape). IsBlock s own) (sym read.ends.source_found.looks.stays.shape) is.block; may = is.may; not_source = is.not_source; not_target = is.not_target }

  -- ---- once it is written

  module _ (can : IsOpen source opened mid) (is : IsEdgeHolder holder) (form : EdgeForm) (form_fits : FormFits form) (own : Place) {new : StoreState N}
      (has : HasEnds source opened.edge.other_at (ends_formed source form opened.edge opened.ends) new) (stays : (place : Place) (words : List ℕ) → words_at mid.reads place ≡ Some words → words_at new.reads place ≡ Some words) where
    abbrev out_now : EdgeRecord
    out_now = with_form form opened.edge

    abbrev into_now : EdgeRecord
    into_now = into_record source opened.ends.source.id out_now

    pub agreed : (store : Contents) → Agrees new.reads store → Agrees mid.reads store
    agreed store agrees place words was = agrees place words (stays place words was)

    holders_now : AreHolders (ends_formed source form opened.edge opened.ends)
    holders_now = formed_holders can form form_fits

    sizes : (is_too_large (length (vertex_words (ends_formed source form opened.edge opened.ends).source)) ≡ false) × (is_too_large (length (vertex_words (target_of (ends_formed source form opened.edge opened.ends)))) ≡ false)
    sizes = or_parts _ _ (sym (too_large_either (ends_formed source form opened.edge opened.ends)) ∙ formed_small can form form_fits)

    module _ (store : Contents) (held : HeldOut) (agrees : Agrees new.reads store) (holds : HoldsOut old.shape source holder.ordinal (overlay store old.writes) held) where
      abbrev was : IsOfRecord old.shape source holder.ordinal opened.edge (overlay store old.writes) held
      was = e store held (agreed store agrees) holds

      abbrev both : HeldEnds
      both = record { source = held.source; target = was.one.target }

      abbrev both_now : HeldEnds
      both_now = ends_after source opened.edge.other_at (with_in out_now) (with_in into_now) both

      alike : (holder_for both_now.source ≡ (ends_formed source form opened.edge opened.ends).source) × (holder_for both_now.target ≡ target_of (ends_formed source form opened.edge opened.ends))
      alike =
          made_alike source opened.edge.other_at (with_in out_now) (with_in into_now) (holder_with_in out_now) (holder_with_in into_now) (λ _. refl) (λ _. refl) opened.ends both read.ends.are_of
          (source_is store held (agreed store agrees) holds) (target_is store held (agreed store agrees) holds)

      orderly : (object : Place) (one : HeldVertex) → IsOrderly one → IsOrderly (as_ends source opened.edge.other_at (with_in out_now) (with_in into_now) object one)
      orderly =
          orderly_both source opened.edge.other_at (with_in out_now) (with_in into_now) (holder_with_in out_now) (holder_with_in into_now) (λ _. refl) (λ _. refl)
          (λ _ o. record { labels = o.labels; props = o.props; some = o.some }) (λ _ o. record { labels = o.labels; props = o.props; some = o.some })

      source_now : HoldsVertex source (overlay store new.writes) both_now.source
      source_now =
          holds_words source (ends_formed source form opened.edge opened.ends).source both_now.source holders_now.source sizes.0 alike.0 (orderly source held.source holds.at_source.fits) (overlay store new.writes) (has.at_source store agrees)

      target_now : HoldsVertex opened.edge.other_at (overlay store new.writes) both_now.target
      target_now =
          holds_words opened.edge.other_at (target_of (ends_formed source form opened.edge opened.ends)) both_now.target (target_holder_is (ends_formed source form opened.edge opened.ends) holders_now) sizes.1 alike.1
          (orderly opened.edge.other_at was.one.target was.holds.at_target.fits) (overlay store new.writes) (has.at_target store agrees)

      module _ (form_is : form ≡ cond (has_own holder) (Heavy own) (light_form holder.labels))
          (own_is : has_own holder ≡ true → IsBlock old.shape own × (own ≢ source) × (own ≢ opened.edge.other_at) × (content_of (overlay store new.writes) own ≡ edge_object_words holder) × (length (edge_object_words holder) ≤ most_words))
          (edge : Edge) (of : IsOfEdge held.source.types holder edge) (same : edge.undirected ≡ was.one.edge.undirected) where
        abbrev one_now : HeldEdge
        one_now = given was.one edge own

        heavy : is_heavy edge ≡ has_own holder
        heavy = heavy_as held.source.types holder edge of

        form_now : form_of_held one_now ≡ form
        form_now =
            ap (λ b. cond b (Heavy own) (light_form edge.labels)) heavy
            ∙ (ap (λ (ls : List ℕ). cond (has_own holder) (Heavy own) (light_form ls)) (ap (λ (h : EdgeHolder). h.labels) of.is) ∙ sym form_is)

        undirected_is : edge.undirected ≡ opened.edge.undirected
        undirected_is = same ∙ ap (λ (r : EdgeRecord). r.undirected) was.of

        other_is : edge.target ≡ opened.edge.other
        other_is = ap (λ (h : EdgeHolder). h.target) of.is ∙ sym target_named

        out_is : record_at_source holder.ordinal one_now ≡ out_now
        out_is i = record {
          inward = (was.of i).inward;
          undirected = undirected_is i;
          ordinal = (was.of i).ordinal;
          other = other_is i;
          other_at = (was.of i).other_at;
          form = form_now i;
        }

        id_now : opened.ends.source.id ≡ held.source.id
        id_now = id_is store held (agreed store agrees) holds

        into_is : record_at_target source held.source.id holder.ordinal one_now ≡ into_now
        into_is i = into_record source (sym id_now i) (out_is i)

        as_held : edge_holder_for held.source.types held.source.id holder.ordinal edge ≡ holder
        as_held = ap (λ id. edge_holder_for held.source.types id holder.ordinal edge) (sym id_now ∙ source_named) ∙ of.is

        own_held : is_heavy edge ≡ true → HoldsOwn old.shape source holder.ordinal (overlay store new.writes) held.source one_now
        own_held is_so =
            let it = own_is (sym heavy ∙ is_so) in
            record {
              block = it.0;
              not_source = it.1;
              not_target = λ there. it.2 (there ∙ target_at store held (agreed store agrees) holds);
              own = record {
                fits = of.fits;
                holder = subst IsEdgeHolder (sym as_held) is;
                words = it.3 ∙ ap edge_object_words (sym as_held);
                within = subst (λ (ws : List ℕ). length ws ≤ most_words) (sym it.3) it.4;
              };
            }

        pub out_held_now : HoldsOut old.shape source holder.ordinal (overlay store new.writes) (out_given source holder.ordinal held.source one_now)
        out_held_now =
            let at : opened.edge.other_at ≡ was.one.target_at = sym (target_at store held (agreed store agrees) holds) in
            let path : (opened.edge.other_at, (out_now, into_now)) ≡ (was.one.target_at, (record_at_source holder.ordinal one_now, record_at_target source held.source.id holder.ordinal one_now)) = λ i. (at i, (sym out_is i, sym into_is i)) in
            holds_given old.shape source holder.ordinal (overlay store new.writes) held.source one_now of.fits was.holds.block
            (subst (λ (p : Place × (EdgeRecord × EdgeRecord)). HoldsVertex source (overlay store new.writes) (as_ends source p.0 (with_in p.1.0) (with_in p.1.1) source held.source)) path source_now)
            (subst (λ (p : Place × (EdgeRecord × EdgeRecord)). HoldsVertex p.0 (overlay store new.writes) (as_ends source p.0 (with_in p.1.0) (with_in p.1.1) p.0 was.one.target)) path target_now)
            (was.holds.target ∙ (ap (λ (r : EdgeRecord). r.other) was.of ∙ sym other_is)) own_held

        pub named_now : is_edge_to holder.source holder.target (out_given source holder.ordinal held.source one_now) ≡ true
        named_now =
            and_from (eqb (out_given source holder.ordinal held.source one_now).source.id holder.source) (eqb edge.target holder.target)
            (eq-eqb (out_given source holder.ordinal held.source one_now).source.id holder.source (source_id old.shape source holder.ordinal (overlay store new.writes) held.source one_now ∙ (sym id_now ∙ source_named)))
            (eq-eqb edge.target holder.target (ap (λ (h : EdgeHolder). h.target) of.is))

  never_both : {A : Type 0} (b : Bool) → b ≡ true → b ≡ false → A
  never_both b one other = let same : true ≡ false = sym one ∙ other in absurd (cc same)

  abbrev IsOld : Contents → HeldOut → Type 0
  IsOld store held = IsOfRecord old.shape source holder.ordinal opened.edge (overlay store old.writes) held

  -- what is said of the edge's own object
  abbrev OwnIsKept : Place → StoreState N → Contents → HeldEdge → Type 0
  OwnIsKept own new store was =
      (is_heavy was.edge ≡ true → has_own holder ≡ true → own ≡ was.own_at)
      × (is_heavy was.edge ≡ false → has_own holder ≡ true → IsUnreserved old.shape (home_of old.shape holder.source) own × (content_of store own ≡ []))
      × (is_heavy was.edge ≡ true → has_own holder ≡ false → content_of (overlay store new.writes) was.own_at ≡ [])

  module _ (can : IsOpen source opened mid) (is : IsEdgeHolder holder) (form : EdgeForm) (form_fits : FormFits form) (own : Place) {new : StoreState N} {kept : Bool}
      (has : HasEnds source opened.edge.other_at (ends_formed source form opened.edge opened.ends) new) (ordered : IsByRisingObject new.writes) (stays : StaysBegun mid new)
      (form_is : form ≡ cond (has_own holder) (Heavy own) (light_form holder.labels))
      (own_is : has_own holder ≡ true → IsBlock old.shape own × (own ≢ source) × (own ≢ opened.edge.other_at) × ((store : Contents) → content_of (overlay store new.writes) own ≡ edge_object_words holder) × (length (edge_object_words holder) ≤ most_words))
      (answer : kept ≡ is_taken holder) (kept_is : kept ≡ true)
      (kept_own : (store : Contents) (held : HeldOut) → Agrees new.reads store → (was : IsOld store held) → OwnIsKept own new store was.one)
      (foot : (store : Contents) (held : HeldOut) → IsOld store held → KeepsFootprint source own holder held old new) where
    stays_all : StaysBegun old new
    stays_all = stays-then read.ends.source_found.looks.stays stays

    agreed_mid : (store : Contents) → Agrees new.reads store → Agrees mid.reads store
    agreed_mid store agrees place words was = agrees place words (stays.reads place words was)

    own_at_store : (store : Contents) → has_own holder ≡ true → IsBlock old.shape own × (own ≢ source) × (own ≢ opened.edge.other_at) × (content_of (overlay store new.writes) own ≡ edge_object_words holder) × (length (edge_object_words holder) ≤ most_words)
    own_at_store store has_it = let o = own_is has_it in (o.0, o.1, o.2, o.3 store, o.4)

    module _ (store : Contents) (held : HeldOut) (agrees : Agrees new.reads store) (holds : HoldsOut old.shape source holder.ordinal (overlay store old.writes) held) where
      before_is : IsOld store held
      before_is = e store held (agreed_mid store agrees) holds

      is_kept : IsKept old.shape source own holder store (overlay store new.writes) held.source before_is.one
      unfolding e before_is agreed agreed_mid
      is_kept =
          let it = kept_own store held agrees before_is in
          record {
            held = λ edge of same. out_held_now can is form form_fits own has stays.reads store held agrees holds form_is (own_at_store store) edge of same;
            stays = it.0;
            made = it.1;
            emptied = it.2;
          }

    known_then : (passes : HeldOut → Bool) → KnowsOut source holder.ordinal passes old → ((held : HeldOut) → passes held ≡ true → (edge : Edge) × IsOfEdge held.source.types holder edge)
        → KnowsOut source holder.ordinal (is_edge_to holder.source holder.target) new
    unfolding e before_is agreed agreed_mid
    known_then passes knows edges =
        knows_after stays_all ordered (λ store may agrees.
        let k = knows.always store may in
        let before = before_is store k.part agrees k.has in
        let it = edges k.part k.passed in
        let edge : Edge = record it.0 { undirected = before.one.edge.undirected } in
        let of : IsOfEdge k.part.source.types holder edge = record { fits = record { labels = it.1.fits.labels; props = it.1.fits.props; some = it.1.fits.some }; is = it.1.is } in
        record {
          part = out_given source holder.ordinal k.part.source (given before.one edge own);
          has = out_held_now can is form form_fits own has stays.reads store k.part agrees k.has form_is (own_at_store store) edge of refl;
          passed = named_now can is form form_fits own has stays.reads store k.part agrees k.has form_is (own_at_store store) edge of refl;
        })

    keeps_it : KeepsEdge source holder old new kept
    keeps_it = record {
      answer = answer;
      own = own;
      held = λ _ store held agrees holds.
          subst (λ (o : Option HeldEdge). MatchOption o (Unit {0}) (IsKept old.shape source own holder store (overlay store new.writes) held.source)) (sym (before_is store held agrees holds).is) (is_kept store held agrees holds);
      footprint = λ store held agrees holds. foot store held (before_is store held agrees holds);
      unchanged = λ left. never_both kept kept_is left;
      source_known = knows_after stays_all ordered (λ store may agrees.
          let k = known.always store may in
          record { part = (both_now can is form form_fits own has stays.reads store k.part agrees k.has).source; has = source_now can is form form_fits own has stays.reads store k.part agrees k.has; passed = refl });
      known = known_then;
    }

  -- ---- by what was wanted

  -- the objects of the record, and none else
  foot_at_record : {new : StoreState N} (own : Place) → Reaches (IsAtRecord source opened.edge) (λ _. ⊥) mid new → (store : Contents) (held : HeldOut) → IsOld store held → KeepsFootprint source own holder held old new
  foot_at_record {new} own reaches store held was = record { reads = λ place. told place (all.reads place); writes = λ place. told place (all.writes place) }
    where
      all : Reaches (IsAtRecord source opened.edge) (λ _. ⊥) old new
      all = reaches-then read.reaches reaches

      told : {C : Type 0} (place : Place) → IsAtRecord source opened.edge place ⊎ C → (place ≡ source) ⊎ IsBeyond held place ⊎ IsMadeFor holder own held place ⊎ C
      told place (inl (inl at)) = inl at
      told place (inl (inr at)) = inr (inl (beyond_is was place at))
      told place (inr same) = inr (inr (inr same))

  -- and the own object
  foot_with_own : {new : StoreState N} {Makes : ℕ → Type 0} (own : Place) → has_own holder ≡ true → MatchForm opened.edge.form (λ _. IsMadeOn holder.source own mid new) (λ was. own ≡ was)
      → Reaches (λ place. IsAtRecord source opened.edge place ⊎ (place ≡ own)) Makes mid new → (store : Contents) (held : HeldOut) → IsOld store held → KeepsFootprint source own holder held old new
  foot_with_own {new} {Makes} own has origin reaches store held was = record { reads = λ place. told place (all.reads place); writes = λ place. told place (all.writes place) }
    where
      all : Reaches (λ place. IsAtRecord source opened.edge place ⊎ (place ≡ own)) Makes old new
      all = reaches-then (reaches-wider (λ place at. inl at) (λ rank never. absurd never) read.reaches) reaches

      light_made : (place : Place) → place ≡ own → is_heavy was.one.edge ≡ false → IsMadeFor holder own held place
      light_made place same light = subst (λ (o : Option HeldEdge). MatchOption o ⊥ (λ one. (is_heavy one.edge ≡ false) × (has_own holder ≡ true) × (place ≡ own))) (sym was.is) (light, has, same)

      heavy_own : (place : Place) → place ≡ own → is_heavy was.one.edge ≡ true → IsBeyond held place
      heavy_own place same heavy =
          let form = heavy_form was.one opened.edge.form (ap (λ (r : EdgeRecord). r.form) was.of) heavy in
          let own_is : own ≡ was.one.own_at = subst (λ (f : EdgeForm). MatchForm f (λ _. IsMadeOn holder.source own mid new) (λ at. own ≡ at)) form origin in
          beyond_is was place (inr (form ∙ ap Heavy (sym (same ∙ own_is))))

      either : (place : Place) → place ≡ own → IsBeyond held place ⊎ IsMadeFor holder own held place
      either place same = cases (is_heavy was.one.edge) refl
        where
          cases : (heavy : Bool) → is_heavy was.one.edge ≡ heavy → IsBeyond held place ⊎ IsMadeFor holder own held place
          cases true heavy = inl (heavy_own place same heavy)
          cases false light = inr (light_made place same light)

      told : {C : Type 0} (place : Place) → (IsAtRecord source opened.edge place ⊎ (place ≡ own)) ⊎ C → (place ≡ source) ⊎ IsBeyond held place ⊎ IsMadeFor holder own held place ⊎ C
      told place (inl (inl (inl at))) = inl at
      told place (inl (inl (inr at))) = inr (inl (beyond_is was place at))
      told place (inl (inr same)) = elim (either place same) [ inl beyond ↦ inr (inl beyond) | inr made ↦ inr (inr (inl made)) ]
      told place (inr same) = inr (inr (inr same))

  keeps_form : (can : IsOpen source opened mid) → IsEdgeHolder holder → {new : StoreState N} {kept : Bool} (form : EdgeForm) → has_own holder ≡ false → form ≡ light_form holder.labels → FormFits form → GivesForm source form opened new
      → Reaches (IsAtRecord source opened.edge) (λ _. ⊥) mid new → kept ≡ is_taken holder → KeepsEdge source holder old new kept
  keeps_form can is {new} {kept} form none form_is fits gave reaches answer =
      keeps_it can is form fits source gave.formed gave.ordered reaches.stays (form_is ∙ ap (λ b. cond b (Heavy source) (light_form holder.labels)) (sym none)) (λ has. never_both (has_own holder) has none) answer
      (answer ∙ ap (λ b. not (b && is_too_large (length (edge_object_words holder)))) none)
      (λ store held agrees was. (
        λ _ has. never_both (has_own holder) has none,
        λ _ has. never_both (has_own holder) has none,
        λ heavy _.
            let form = heavy_form was.one opened.edge.form (ap (λ (r : EdgeRecord). r.form) was.of) heavy in
            subst (λ (f : EdgeForm). MatchForm f (λ _. Unit {0}) (λ own. (store : Contents) → content_of (overlay store new.writes) own ≡ [])) form gave.emptied store,
      )) (foot_at_record source reaches)

  keeps_object : (can : IsOpen source opened mid) → IsEdgeHolder holder → {new : StoreState N} {kept : Bool} (words : List ℕ) → has_own holder ≡ true → words ≡ edge_object_words holder → length words ≤ most_words
      → GivesObject source holder.source words opened mid new → kept ≡ is_taken holder → KeepsEdge source holder old new kept
  keeps_object can is {new} {kept} words has words_are small gave answer =
      keeps_it can is (Heavy gave.own) (heavy_fits can.ranges gave.block) gave.own gave.formed gave.ordered gave.reaches.stays (ap (λ b. cond b (Heavy gave.own) (light_form holder.labels)) (sym has))
      (λ _. (
        subst (λ (s : Shape). IsBlock s gave.own) shape gave.block,
        gave.not_source,
        gave.not_target,
        λ store. gave.has_words store ∙ words_are,
        subst (λ (ws : List ℕ). length ws ≤ most_words) words_are small,
      )) answer
      (answer ∙ (ap (λ b. not (b && is_too_large (length (edge_object_words holder)))) has ∙ ap not (taken (length (edge_object_words holder)) (subst (λ (ws : List ℕ). length ws ≤ most_words) words_are small))))
      (λ store held agrees was. (
        λ heavy _.
            subst (λ (f : EdgeForm). MatchForm f (λ _. IsMadeOn holder.source gave.own mid new) (λ at. gave.own ≡ at)) (heavy_form was.one opened.edge.form (ap (λ (r : EdgeRecord). r.form) was.of) heavy) gave.origin,
        λ light _.
            let made = light_part (λ at. gave.own ≡ at) was.one opened.edge.form (ap (λ (r : EdgeRecord). r.form) was.of) light gave.origin in
            (subst (λ (s : Shape). IsUnreserved s (home_of s holder.source) gave.own) shape made.place, made.empty store agrees),
        λ _ none. never_both (has_own holder) has none,
      )) (foot_with_own gave.own has gave.origin gave.reaches)
    where
      shape : mid.shape ≡ old.shape
      shape = read.ends.source_found.looks.stays.shape

  keeps_none : {kept : Bool} → has_own holder ≡ true → is_too_large (length (edge_object_words holder)) ≡ true → kept ≡ is_taken holder → KeepsEdge source holder old mid kept
  keeps_none {kept} has large answer = record {
    answer = answer;
    own = source;
    held = λ is. never_both kept is left;
    footprint = λ store held agrees holds. foot_at_record source reaches-same store held (e store held agrees holds);
    unchanged = λ _. looks;
    source_known = still looks (source_known known);
    known = λ passes knows edges. still looks known;
  }
    where
      looks : Looks old mid
      looks = read.ends.source_found.looks

      left : kept ≡ false
      left = answer ∙ (ap (λ b. not (b && is_too_large (length (edge_object_words holder)))) has ∙ ap not large)

  pub keeps : IsOpen source opened mid → IsEdgeHolder holder → {new : StoreState N} {kept : Bool} → GivesEdge source holder opened mid new kept → KeepsEdge source holder old new kept
  keeps can is {new} {kept} did = cases did.wanted did.is did.gives
    where
      cases : (w : Wanted) → IsWanted holder w → Gives source holder opened mid new w → KeepsEdge source holder old new kept
      cases (wanted.Form form) want gave = keeps_form can is form want.0 want.1 want.2 gave.0 gave.1 did.answer
      cases (wanted.Object words) want gave = keeps_object can is words want.0 want.1 want.2 gave did.answer
      cases wanted.TooLarge want same = subst (λ (s : StoreState N). KeepsEdge source holder old s kept) (sym same) (keeps_none want.0 want.1 did.answer)

-- an edge that is known to be there is found
pub never_none : {N : Type 0} {source : Place} {old mid : StoreState N} (ordinal id target : ℕ) → KnowsOut source ordinal (is_edge_to id target) old → OpensNone source ordinal old mid → ⊥
never_none {N} {source} {old} {mid} ordinal id target known opened =
    let it = known.always (committed mid) (before opened.found.looks.stays (committed mid) opened.found.stands) in
    let none = none_there opened.found (committed mid) it.part opened.found.stands.agrees it.has opened.none in
    let parts = and_parts (eqb it.part.source.id id) (option_map_or (λ one. eqb one.edge.target target) it.part.found false) it.passed in
    let same : false ≡ true = subst (λ (o : Option HeldEdge). option_map_or (λ one. eqb one.edge.target target) o false ≡ true) none parts.1 in
    absurd (cc same)
