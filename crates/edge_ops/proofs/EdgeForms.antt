-- Both records of an edge are given another form.
use Rattle.std.proofs.Common.{◌≡◌, ◌≢◌, ◌∙◌, ℕ, Bool, true, false, cond, ◌||◌, List, [], length, Option, Some, None, IsSome, refl, sym, ap, subst, ◌⊎◌, inl, inr, arith}
use Rattle.std.specs.Prelude.{is_none}
use Rattle.std.specs.Int.{from_bool}
use Rattle.std.specs.Option.{option_map, option_map_or, unwrap_or, MatchOption}
use Rattle.std.specs.Ordering.{eq_by_cmp}
use Rattle.std.proofs.lemmas.Bool.{or_parts}
use Rattle.rma_layout.specs.Placement.{Place, IsBlock, IsReserved, home_of}
use Rattle.rma_layout.specs.Ranges.{IsInRange}
use Rattle.rma_layout.specs.Shape.{Shape}
use Rattle.object_words.specs.Contents.{Contents, Agrees, IsByRisingObject, content_of, overlay, words_at, with_words, place_cmp}
use Rattle.object_words.proofs.Places.{in_order-with_words, place_ties_itself, words_at-with_words, words_at_here}
use Rattle.object_words.specs.Entries.{Entry}
use Rattle.graph_model.specs.Sizes.{is_too_large}
use Rattle.object_store.specs.State.{StoreState, Said}
use Rattle.object_store.specs.Calls.{MakesObject, MayWrite, WritesObject}
use Rattle.object_store.specs.Works.{Fell, Reaches}
use Rattle.object_store.proofs.Working.{content_put}
use Rattle.holder_codec.specs.declared.edge_form.EdgeForm.{EdgeForm}
use Rattle.holder_codec.specs.declared.edge_form.EdgeForm.TheVariants.{Plain, Labelled, Heavy}
use Rattle.holder_codec.specs.declared.edge_record.EdgeRecord.{EdgeRecord}
use Rattle.holder_codec.specs.declared.vertex_holder.VertexHolder.{VertexHolder}
use Rattle.holder_codec.specs.Edges.{FormFits, RecordFits, is_record_before}
use Rattle.holder_codec.specs.Vertex.{IsVertexHolder, vertex_words}
use Rattle.holder_codec.proofs.Lengths.{length-vertex_words}
use Rattle.rising_lists.proofs.Rising.{sorted}
use Rattle.graph_model.proofs.Entries.{nothing, same_value}
use Rattle.edge_ops.specs.declared.ends.Ends.{Ends}
use Rattle.edge_ops.specs.declared.opened.Opened.{Opened}
use Rattle.edge_ops.specs.Ending.{AreHolders, WritesEnds, are_too_large, holder_with_in, target_of}
use Rattle.edge_ops.specs.Forming.{GivesForm, GivesObject, HasEnds, IsMadeOn, IsOpen, ends_formed, into_record, with_form}
use Rattle.edge_ops.specs.HeldEdges.{in_key, out_key}
use Rattle.edge_ops.specs.Opening.{ClearsOwn, IsAtRecord, MatchForm, OwnIsBlock, OwnIsOpen}
use Rattle.edge_ops.specs.Records.{Key, key_of, key_cmp, record_for, with_record}
use Rattle.edge_ops.proofs.EdgeMade.{record_for-with}
use Rattle.edge_ops.proofs.EndsChanged.{same_elsewhere}
use Rattle.edge_ops.proofs.EndsWritten.{are_of_made, both_written, untied}
use Rattle.edge_ops.proofs.Finding.{fits_one_word}
use Rattle.edge_ops.proofs.Keys.{key_total, key_same, before_is}
use Rattle.edge_ops.proofs.Opening.{may_write_after}
use Rattle.edge_ops.proofs.RecordLists.{holder_with}
use Rattle.edge_ops.proofs.Replacing.{length_replaced, with_itself}

-- ---- holders

replaced_small : (holder : VertexHolder) (edge found : EdgeRecord) → IsVertexHolder holder → record_for holder.edges (key_of edge) ≡ Some found
    → is_too_large (length (vertex_words holder)) ≡ false → is_too_large (length (vertex_words (holder_with_in edge holder))) ≡ false
replaced_small holder edge found is there small =
    let before = length-vertex_words holder in
    let after = length-vertex_words (holder_with_in edge holder) in
    let same = length_replaced edge holder.edges found (sorted key_of key_total key_same is_record_before before_is holder.edges is.edges_rise) there in
    let alike : length (vertex_words holder) ≡ length (vertex_words (holder_with_in edge holder)) = omega (arith, before, after, same) in
    subst (λ n. is_too_large n ≡ false) alike small

holder_same : (holder : VertexHolder) (edge : EdgeRecord) → IsVertexHolder holder → record_for holder.edges (key_of edge) ≡ Some edge → holder_with_in edge holder ≡ holder
holder_same holder edge is there =
    ap (λ (es : List EdgeRecord). record holder { edges = es }) (with_itself edge holder.edges (sorted key_of key_total key_same is_record_before before_is holder.edges is.edges_rise) there)

either : (a b : Bool) → a ≡ false → b ≡ false → (a || b) ≡ false
either a b x y = ap (λ t. t || b) x ∙ y

module _ {N : Type 0} {source : Place} {opened : Opened} {state : StoreState N} (can : IsOpen source opened state) where
  abbrev id : ℕ
  id = opened.ends.source.id

  abbrev ordinal : ℕ
  ordinal = opened.edge.ordinal

  module _ (form : EdgeForm) (form_fits : FormFits form) where
    abbrev out : EdgeRecord
    out = with_form form opened.edge

    abbrev into : EdgeRecord
    into = into_record source id out

    out_key_is : key_of out ≡ out_key ordinal
    out_key_is = ap (λ b. (from_bool b, (cond b opened.edge.other 0, ordinal))) can.outward

    out_fits : RecordFits out
    out_fits = record { ordinal = can.fits.ordinal; other = can.fits.other; other_at = can.fits.other_at; form = form_fits }

    here_out : record_for opened.ends.source.edges (key_of out) ≡ Some opened.edge
    here_out = ap (record_for opened.ends.source.edges) out_key_is ∙ can.here

    first_is : IsVertexHolder (holder_with_in out opened.ends.source)
    first_is = holder_with opened.ends.source opened.ends.source.next out (with_record out opened.ends.source.edges) refl can.holders.source.next out_fits can.holders.source

    other_key : record_for (with_record out opened.ends.source.edges) (in_key id ordinal) ≡ record_for opened.ends.source.edges (in_key id ordinal)
    other_key =
        record_for-with out opened.ends.source.edges (in_key id ordinal)
        ∙ ap (λ (k : Key). cond (eq_by_cmp key_cmp (in_key id ordinal) k) (Some out) (record_for opened.ends.source.edges (in_key id ordinal))) out_key_is

    -- as many records are as many words
    pub formed_small : are_too_large (ends_formed source form opened.edge opened.ends) ≡ false
    formed_small = cases opened.ends.target can.holders.target can.there can.small
      where
        cases : (to : Option VertexHolder) → MatchOption to (Unit {0}) IsVertexHolder → record_for (unwrap_or to opened.ends.source).edges (in_key id ordinal) ≡ Some (into_record source id opened.edge)
            → (is_too_large (length (vertex_words opened.ends.source)) || option_map_or (λ holder. is_too_large (length (vertex_words holder))) to false) ≡ false
            → (is_too_large (length (vertex_words (cond (is_none to) (holder_with_in into (holder_with_in out opened.ends.source)) (holder_with_in out opened.ends.source))))
            || option_map_or (λ holder. is_too_large (length (vertex_words holder))) (option_map (holder_with_in into) to) false) ≡ false
        cases None is there few =
            let parts = or_parts (is_too_large (length (vertex_words opened.ends.source))) false few in
            either _ false (replaced_small (holder_with_in out opened.ends.source) into (into_record source id opened.edge) first_is (other_key ∙ there) (replaced_small opened.ends.source out opened.edge can.holders.source here_out parts.0)) refl
        cases (Some to) is there few =
            let parts = or_parts (is_too_large (length (vertex_words opened.ends.source))) (is_too_large (length (vertex_words to))) few in
            either _ _ (replaced_small opened.ends.source out opened.edge can.holders.source here_out parts.0) (replaced_small to into (into_record source id opened.edge) is there parts.1)

    into_fits : RecordFits into
    into_fits = record { ordinal = can.fits.ordinal; other = can.holders.source.id; other_at = fits_one_word can.ranges can.source_block; form = form_fits }

    pub formed_holders : AreHolders (ends_formed source form opened.edge opened.ends)
    formed_holders = record { source = at_source opened.ends.target; target = at_target opened.ends.target can.holders.target }
      where
        at_source : (to : Option VertexHolder) → IsVertexHolder (cond (is_none to) (holder_with_in into (holder_with_in out opened.ends.source)) (holder_with_in out opened.ends.source))
        at_source None =
            holder_with (holder_with_in out opened.ends.source) opened.ends.source.next into (with_record into (with_record out opened.ends.source.edges)) refl can.holders.source.next into_fits first_is
        at_source (Some to) = first_is

        at_target : (to : Option VertexHolder) → MatchOption to (Unit {0}) IsVertexHolder → MatchOption (option_map (holder_with_in into) to) (Unit {0}) IsVertexHolder
        at_target None is = tt
        at_target (Some to) is = holder_with to to.next into (with_record into to.edges) refl is.next into_fits is

    -- both ends have what was written
    pub formed_now : {after : StoreState N} → WritesEnds source opened.edge.other_at (ends_formed source form opened.edge opened.ends) state after
        → HasEnds source opened.edge.other_at (ends_formed source form opened.edge opened.ends) after × IsByRisingObject after.writes
    formed_now {after} wrote =
        let made = ends_formed source form opened.edge opened.ends in
        let are = are_of_made source opened.edge.other_at (holder_with_in out) (holder_with_in into) opened.ends can.are in
        let now : (store : Contents) → (content_of (overlay store after.writes) source ≡ vertex_words made.source) × (content_of (overlay store after.writes) opened.edge.other_at ≡ vertex_words (target_of made)) × IsByRisingObject after.writes =
        λ store. subst (λ (w : Contents). (content_of (overlay store w) source ≡ vertex_words made.source) × (content_of (overlay store w) opened.edge.other_at ≡ vertex_words (target_of made)) × IsByRisingObject w) (sym wrote.writes)
        (both_written store state.writes source opened.edge.other_at can.ordered made are) in
        (record { at_source = λ store _. (now store).0; at_target = λ store _. (now store).1 }, (now []).2)

  -- the form that it has is no change
  pub form_same : ends_formed source opened.edge.form opened.edge opened.ends ≡ opened.ends
  form_same = cases opened.ends.target can.holders.target can.there
    where
      key_is : key_of opened.edge ≡ out_key ordinal
      key_is = ap (λ b. (from_bool b, (cond b opened.edge.other 0, ordinal))) can.outward

      at_source : holder_with_in opened.edge opened.ends.source ≡ opened.ends.source
      at_source = holder_same opened.ends.source opened.edge can.holders.source (ap (record_for opened.ends.source.edges) key_is ∙ can.here)

      cases : (to : Option VertexHolder) → MatchOption to (Unit {0}) IsVertexHolder → record_for (unwrap_or to opened.ends.source).edges (in_key id ordinal) ≡ Some (into_record source id opened.edge)
          → let back = into_record source id opened.edge in
          let made : Ends = record {
            source = cond (is_none to) (holder_with_in back (holder_with_in opened.edge opened.ends.source)) (holder_with_in opened.edge opened.ends.source);
            target = option_map (holder_with_in back) to;
          } in
          let ends : Ends = record { source = opened.ends.source; target = to } in
          made ≡ ends
      cases None is there =
          let both = ap (holder_with_in (into_record source id opened.edge)) at_source ∙ holder_same opened.ends.source (into_record source id opened.edge) can.holders.source there in
          λ i. record { source = both i; target = None }
      cases (Some to) is there =
          let other = holder_same to (into_record source id opened.edge) is there in
          λ i. record { source = at_source i; target = Some (other i) }

  pub has_same : HasEnds source opened.edge.other_at (ends_formed source opened.edge.form opened.edge opened.ends) state
  has_same = subst (λ (ends : Ends). HasEnds source opened.edge.other_at ends state) (sym form_same) can.has

-- ---- another object is written

module _ {N : Type 0} {own : Place} {words : List ℕ} {old new : StoreState N} (ordered : IsByRisingObject old.writes) (wrote : WritesObject own words old new) where
  pub ends_still : {source target : Place} {ends : Ends} → source ≢ own → target ≢ own → HasEnds source target ends old → HasEnds source target ends new
  ends_still {source} {target} not_source not_target has = record {
    at_source = λ store agrees. same_elsewhere ordered wrote source not_source store ∙ has.at_source store (subst (λ (r : Contents). Agrees r store) wrote.reads agrees);
    at_target = λ store agrees. same_elsewhere ordered wrote target not_target store ∙ has.at_target store (subst (λ (r : Contents). Agrees r store) wrote.reads agrees);
  }

  pub own_now : (store : Contents) → content_of (overlay store new.writes) own ≡ words
  own_now store =
      ap (λ (w : Contents). content_of (overlay store w) own) wrote.writes
      ∙ (content_put store old.writes own words own ordered ∙ ap (λ b. cond b words (content_of (overlay store old.writes) own)) (place_ties_itself own))

-- ---- an object is made

module _ {N : Type 0} {home : ℕ} {own : Place} {old new : StoreState N} (made : MakesObject home old new own) where
  -- what may be written isn't what is made
  pub apart_made : (object : Place) → MayWrite old object → object ≢ own
  apart_made object may same = elim (subst (MayWrite old) same may) [
    | inl reserved ↦ made.unreserved reserved
    | inr (inl written) ↦ is_written (words_at old.writes own) made.unwritten written
    | inr (inr some) ↦ some (was_empty (words_at old.reads own) refl)
  ]
    where
      is_written : (o : Option (List ℕ)) → o ≡ None → IsSome o → ⊥
      is_written None none is = absurd (cc is)
      is_written (Some ws) none is = nothing ws (sym none)

      was_empty : (o : Option (List ℕ)) → words_at old.reads own ≡ o → content_of old.reads own ≡ []
      was_empty None is = ap (λ (o : Option (List ℕ)). unwrap_or o []) is
      was_empty (Some ws) is =
          let now : Some ws ≡ Some [] = sym (made.stays.reads own ws is) ∙ (ap (λ (r : Contents). words_at r own) made.reads ∙ words_at_here old.reads own []) in
          ap (λ (o : Option (List ℕ)). unwrap_or o []) is ∙ same_value ws [] now

  pub may_still_made : (object : Place) → MayWrite old object → MayWrite new object
  may_still_made object may = elim may [
    | inl reserved ↦ inl (subst (λ (shape : Shape). IsReserved shape object.block) (sym made.stays.shape) reserved)
    | inr (inl written) ↦ inr (inl (subst (λ (w : Contents). IsSome (words_at w object)) (sym made.writes) (still_some written)))
    | inr (inr some) ↦ inr (inr (λ empty. some (was_empty (words_at old.reads object) refl empty)))
  ]
    where
      still_some : IsSome (words_at old.writes object) → IsSome (words_at (with_words old.writes own []) object)
      still_some is =
          subst IsSome (sym (words_at-with_words old.writes own [] object)) (elim (eq_by_cmp place_cmp object own) as (λ b. IsSome (cond b (Some []) (words_at old.writes object))) [ true ↦ refl | false ↦ is ])

      was_empty : (o : Option (List ℕ)) → words_at old.reads object ≡ o → content_of new.reads object ≡ [] → content_of old.reads object ≡ []
      was_empty None is empty = ap (λ (o : Option (List ℕ)). unwrap_or o []) is
      was_empty (Some ws) is empty = ap (λ (o : Option (List ℕ)). unwrap_or o []) is ∙ (sym (ap (λ (o : Option (List ℕ)). unwrap_or o []) (made.stays.reads object ws is)) ∙ empty)

  pub made_empty : (contents : Contents) → Agrees new.reads contents → content_of contents own ≡ []
  made_empty contents agrees = agrees own [] (ap (λ (r : Contents). words_at r own) made.reads ∙ words_at_here old.reads own [])

  agreed : (store : Contents) → Agrees new.reads store → Agrees old.reads store
  agreed store agrees place words is = agrees place words (made.stays.reads place words is)

  elsewhere : IsByRisingObject old.writes → (object : Place) → object ≢ own → (store : Contents) → content_of (overlay store new.writes) object ≡ content_of (overlay store old.writes) object
  elsewhere ordered object apart store =
      ap (λ (w : Contents). content_of (overlay store w) object) made.writes
      ∙ (content_put store old.writes own [] object ordered ∙ ap (λ b. cond b [] (content_of (overlay store old.writes) object)) (untied object own apart))

  -- an edge with its ends may be written as before
  pub open_made : {source : Place} {opened : Opened} → IsByRisingObject new.writes → MatchForm opened.edge.form (λ _. Unit {0}) (λ _. ⊥) → IsOpen source opened old → IsOpen source opened new
  open_made {source} {opened} ordered light can = record {
    ranges = subst IsInRange (sym made.stays.shape) can.ranges;
    ordered = ordered;
    source_block = subst (λ (shape : Shape). IsBlock shape source) (sym made.stays.shape) can.source_block;
    target_block = subst (λ (shape : Shape). IsBlock shape opened.edge.other_at) (sym made.stays.shape) can.target_block;
    outward = can.outward;
    fits = can.fits;
    holders = can.holders;
    are = can.are;
    small = can.small;
    here = can.here;
    there = can.there;
    may_source = may_still_made source can.may_source;
    may_target = may_still_made opened.edge.other_at can.may_target;
    own = own_light opened.edge.form light;
    has = record {
      at_source = λ store agrees. elsewhere can.ordered source (apart_made source can.may_source) store ∙ can.has.at_source store (agreed store agrees);
      at_target = λ store agrees. elsewhere can.ordered opened.edge.other_at (apart_made opened.edge.other_at can.may_target) store ∙ can.has.at_target store (agreed store agrees);
    };
  }
    where
      own_light : (form : EdgeForm) → MatchForm form (λ _. Unit {0}) (λ _. ⊥) → MatchForm form (λ _. Unit {0}) (λ own. OwnIsOpen own source opened.edge.other_at new new)
      own_light Plain is = tt
      own_light (Labelled l) is = tt
      own_light (Heavy at) is = absurd is

-- ---- what is given

pub heavy_fits : {shape : Shape} {own : Place} → IsInRange shape → IsBlock shape own → FormFits (Heavy own)
heavy_fits ranges block = (omega (arith, ranges.ranks, block.0), omega (arith, ranges.blocks, block.1))

module _ {N : Type 0} {source : Place} {opened : Opened} {old : StoreState N} (can : IsOpen source opened old) where
  pub own_block_still : (after : StoreState N) → after.shape ≡ old.shape → OwnIsBlock opened.edge.form after.shape
  own_block_still after same = cases opened.edge.form can.own
    where
      cases : (form : EdgeForm) → MatchForm form (λ _. Unit {0}) (λ own. OwnIsOpen own source opened.edge.other_at old old) → OwnIsBlock form after.shape
      cases Plain _ = tt
      cases (Labelled l) _ = tt
      cases (Heavy own) is = subst (λ (shape : Shape). IsBlock shape own) (sym same) is.block

  pub own_may_still : {ends : Ends} {after : StoreState N} → WritesEnds source opened.edge.other_at ends old after → MatchForm opened.edge.form (λ _. Unit {0}) (MayWrite after)
  own_may_still {ends} {after} wrote = cases opened.edge.form can.own
    where
      cases : (form : EdgeForm) → MatchForm form (λ _. Unit {0}) (λ own. OwnIsOpen own source opened.edge.other_at old old) → MatchForm form (λ _. Unit {0}) (MayWrite after)
      cases Plain _ = tt
      cases (Labelled l) _ = tt
      cases (Heavy own) is = may_write_after own wrote is.may

  pub gives_form : {after : StoreState N} (new : StoreState N) (form : EdgeForm) → FormFits form → WritesEnds source opened.edge.other_at (ends_formed source form opened.edge opened.ends) old after → ClearsOwn opened.edge.form after new
      → GivesForm source form opened new
  gives_form {after} new form fits wrote cleared =
      let now = formed_now can form fits wrote in
      let all = cases opened.edge.form can.own cleared now.0 now.1 in
      record { formed = all.0; ordered = all.1.0; emptied = all.1.1 }
    where
      Formed : StoreState N → Type 0
      Formed state = HasEnds source opened.edge.other_at (ends_formed source form opened.edge opened.ends) state

      cases : (was : EdgeForm) → MatchForm was (λ _. Unit {0}) (λ own. OwnIsOpen own source opened.edge.other_at old old) → MatchForm was (λ _. new ≡ after) (λ own. WritesObject own [] after new) → Formed after → IsByRisingObject after.writes
          → Formed new × (IsByRisingObject new.writes × MatchForm was (λ _. Unit {0}) (λ own. (store : Contents) → content_of (overlay store new.writes) own ≡ []))
      cases Plain _ same has ordered = (subst Formed (sym same) has, (subst (λ (s : StoreState N). IsByRisingObject s.writes) (sym same) ordered, tt))
      cases (Labelled l) _ same has ordered = (subst Formed (sym same) has, (subst (λ (s : StoreState N). IsByRisingObject s.writes) (sym same) ordered, tt))
      cases (Heavy own) is wrote_own has ordered = (
        ends_still ordered wrote_own (λ same. is.not_source (sym same)) (λ same. is.not_target (sym same)) has,
        (subst IsByRisingObject (sym wrote_own.writes) (in_order-with_words after.writes own [] ordered), own_now ordered wrote_own),
      )

  own_is_open : (own : Place) → opened.edge.form ≡ Heavy own → OwnIsOpen own source opened.edge.other_at old old
  own_is_open own is = subst (λ (form : EdgeForm). MatchForm form (λ _. Unit {0}) (λ own. OwnIsOpen own source opened.edge.other_at old old)) is can.own

  pub own_is_block : (own : Place) → opened.edge.form ≡ Heavy own → IsBlock old.shape own
  own_is_block own is = (own_is_open own is).block

  pub own_may : (own : Place) → opened.edge.form ≡ Heavy own → MayWrite old own
  own_may own is = (own_is_open own is).may

  -- the edge's own object has other words
  pub gives_same : {new : StoreState N} (id : ℕ) (own : Place) (words : List ℕ) → opened.edge.form ≡ Heavy own → WritesObject own words old new
      → Reaches (λ place. IsAtRecord source opened.edge place ⊎ (place ≡ own)) (λ rank. rank ≡ home_of old.shape id) old new → GivesObject source id words opened old new
  gives_same {new} id own words is wrote reaches =
      let it = own_is_open own is in
      record {
        own = own;
        block = it.block;
        not_source = it.not_source;
        not_target = it.not_target;
        formed = ends_still can.ordered wrote (λ same. it.not_source (sym same)) (λ same. it.not_target (sym same))
            (subst (λ (form : EdgeForm). HasEnds source opened.edge.other_at (ends_formed source form opened.edge opened.ends) old) is (has_same can));
        ordered = subst IsByRisingObject (sym wrote.writes) (in_order-with_words old.writes own words can.ordered);
        has_words = own_now can.ordered wrote;
        origin = subst (λ (form : EdgeForm). MatchForm form (λ _. IsMadeOn id own old new) (λ was. own ≡ was)) (sym is) refl;
        reaches = reaches;
      }

  -- it has one that was made
  pub gives_made : {home : ℕ} {own : Place} {mid after new : StoreState N} (id : ℕ) (words : List ℕ) → MatchForm opened.edge.form (λ _. Unit {0}) (λ _. ⊥) → MakesObject home old mid own → home ≡ home_of old.shape id
      → IsByRisingObject mid.writes → WritesEnds source opened.edge.other_at (ends_formed source (Heavy own) opened.edge opened.ends) mid after → WritesObject own words after new
      → Reaches (λ place. IsAtRecord source opened.edge place ⊎ (place ≡ own)) (λ rank. rank ≡ home_of old.shape id) old new → GivesObject source id words opened old new
  gives_made {home} {own} {mid} {after} {new} id words light made is ordered wrote wrote_own reaches =
      let now = formed_now (open_made made ordered light can) (Heavy own) (heavy_fits can.ranges made.block) wrote in
      let not_source = apart_made made source can.may_source in
      let not_target = apart_made made opened.edge.other_at can.may_target in
      record {
        own = own;
        block = made.block;
        not_source = λ same. not_source (sym same);
        not_target = λ same. not_target (sym same);
        formed = ends_still now.1 wrote_own not_source not_target now.0;
        ordered = subst IsByRisingObject (sym wrote_own.writes) (in_order-with_words after.writes own words now.1);
        has_words = own_now now.1 wrote_own;
        origin = made_on opened.edge.form light (record {
          place = record { home = made.rank ∙ is; block = made.block.1; unreserved = made.unreserved };
          empty = λ contents agrees. made_empty made contents (subst (λ (r : Contents). Agrees r contents) (wrote_own.reads ∙ wrote.reads) agrees);
        });
        reaches = reaches;
      }
    where
      made_on : (form : EdgeForm) → MatchForm form (λ _. Unit {0}) (λ _. ⊥) → IsMadeOn id own old new → MatchForm form (λ _. IsMadeOn id own old new) (λ was. own ≡ was)
      made_on Plain _ it = it
      made_on (Labelled l) _ it = it
      made_on (Heavy at) never it = absurd never

-- ---- refusals

-- an object that is reached is told, or is one of a rank on which one is made
pub fell_or_home : {N S E : Type 0} {fits : Shape → Entry N → Type 0} {state : S → StoreState N} {explains : S → S → E → Type 0} {says : E → Said} {Reached One : Shape → Place → Type 0} {Makes : Shape → ℕ → Type 0} {old new : S} {why : E}
    → ((place : Place) → Reached (state old).shape place → One (state old).shape place ⊎ Makes (state old).shape place.rank)
    → Fell fits state explains says Reached Makes old new why → Fell fits state explains says One Makes old new why
fell_or_home either fell = record {
  keeps = fell.keeps;
  refused = record {
    aborted = fell.refused.aborted;
    names = elim fell.refused.names [
      | inl nothing ↦ inl nothing
      | inr (inl (object, is, inl reached)) ↦ inr (inl (object, is, elim (either object reached) [ inl one ↦ inl one | inr home ↦ inr (inr home) ]))
      | inr (inl (object, is, inr (inl read))) ↦ inr (inl (object, is, inr (inl read)))
      | inr (inl (object, is, inr (inr home))) ↦ inr (inl (object, is, inr (inr home)))
      | inr (inr home) ↦ inr (inr home)
    ];
    told = fell.refused.told;
    full = fell.refused.full;
    passing = fell.refused.passing;
  };
  explained = fell.explained;
  explained_still = fell.explained_still;
}
