-- A new edge between two vertices, or from one to itself.
use Rattle.std.proofs.Common.{◌≡◌, ◌∙◌, ℕ, Bool, true, false, cond, ◌||◌, eqb, length, Option, Result, Ok, Err, IfOk, refl, sym, ap, subst}
use Rattle.std.specs.Bool.{MatchBool}
use Rattle.std.specs.Result.{IsOkAnd}
use Rattle.gdi_kinds.specs.declared.reply.Reply.{Reply}
use Rattle.gdi_kinds.specs.declared.reply.Reply.TheVariants.{EdgeIs, TooLarge}
use Rattle.rma_layout.specs.Placement.{IsBlock, Place}
use Rattle.object_words.specs.Contents.{Contents, Agrees, IsByRisingObject, overlay}
use Rattle.graph_model.specs.EdgeCalls.{ordinals_end}
use Rattle.graph_model.specs.Sizes.{is_too_large}
use Rattle.object_store.specs.State.{StoreState}
use Rattle.object_store.specs.Works.{Looks}
use Rattle.object_store.proofs.Working.{stays-then}
use Rattle.holder_codec.specs.declared.edge_record.EdgeRecord.{EdgeRecord}
use Rattle.holder_codec.specs.declared.vertex_holder.VertexHolder.{VertexHolder}
use Rattle.holder_codec.specs.Knowing.{MayBeAt}
use Rattle.holder_codec.specs.Represents.{light_form}
use Rattle.holder_codec.specs.Vertex.{vertex_words}
use Rattle.held_objects.specs.declared.change.Change.{Change}
use Rattle.held_objects.specs.declared.change.Change.TheVariants.{Refused, Made}
use Rattle.held_objects.specs.Changes.{Holds, IfMade, any}
use Rattle.held_objects.proofs.Knows.{knows_after, still}
use Rattle.vertex_ops.specs.Vertices.{HeldVertex, IsOrderly, KnowsVertex, holder_for}
use Rattle.edge_ops.specs.declared.ends.Ends.{Ends}
use Rattle.edge_ops.specs.HeldEdges.{HoldsOut, KnowsOut, leads_to}
use Rattle.edge_ops.specs.Ends.{HeldEnds, HoldsEnds, MakesEdge, as_ends, into_of, labels_of, out_of, reply_to_make, with_edge, with_in, with_out}
use Rattle.edge_ops.specs.Ending.{AreHolders, AreOf, FindsEnds, SettlesEnds, WritesEnds, are_too_large, ends_made, holder_with_in, holder_with_out, new_edge, target_of}
use Rattle.edge_ops.proofs.EdgeMade.{made_is_out, out_held}
use Rattle.edge_ops.proofs.Finding.{found_is}
use Rattle.edge_ops.proofs.EndsWritten.{ends_hold, in_order_now, made_alike, orderly_both, same_itself, too_large_either, are_of_made}

module _ {N : Type 0} {source target : Place} {old mid : StoreState N} {ends : Ends} (found : FindsEnds source target old mid ends) (label : Option ℕ) (undirected : Bool) where
  abbrev out : EdgeRecord
  out = record { inward = false; undirected = undirected; ordinal = ends.source.next; other = (target_of ends).id; other_at = target; form = light_form (labels_of label) }

  abbrev into : EdgeRecord
  into = record { inward = true; undirected = undirected; ordinal = ends.source.next; other = ends.source.id; other_at = source; form = light_form (labels_of label) }

  abbrev made : Ends
  made = ends_made (holder_with_out out) (holder_with_in into) ends

  abbrev is_last : Bool
  is_last = eqb ends.source.next ordinals_end

  -- whatever vertices are there, the ends are of them
  module _ (store : Contents) (held : HeldEnds) (agrees : Agrees mid.reads store) (has : HoldsEnds source target (overlay store old.writes) held) where
    source_is : ends.source ≡ holder_for held.source
    source_is = found_is found.source_found store held.source agrees has.at_source

    target_is : target_of ends ≡ holder_for held.target
    target_is = found_is found.target_found store held.target agrees has.at_target

    out_is : out ≡ out_of target (labels_of label) undirected held
    out_is i = record { inward = false; undirected = undirected; ordinal = (source_is i).next; other = (target_is i).id; other_at = target; form = light_form (labels_of label) }

    into_is : into ≡ into_of source (labels_of label) undirected held
    into_is i = record { inward = true; undirected = undirected; ordinal = (source_is i).next; other = (source_is i).id; other_at = source; form = light_form (labels_of label) }

    alike : (holder_for (with_edge source target (labels_of label) undirected held).source ≡ made.source) × (holder_for (with_edge source target (labels_of label) undirected held).target ≡ target_of made)
    alike =
        subst (λ (p : EdgeRecord × EdgeRecord). (holder_for (with_edge source target (labels_of label) undirected held).source ≡ (ends_made (holder_with_out p.0) (holder_with_in p.1) ends).source)
        × (holder_for (with_edge source target (labels_of label) undirected held).target ≡ target_of (ends_made (holder_with_out p.0) (holder_with_in p.1) ends))) (λ i. (sym out_is i, sym into_is i))
        (made_alike source target (with_out (out_of target (labels_of label) undirected held)) (with_in (into_of source (labels_of label) undirected held)) (holder_with_out (out_of target (labels_of label) undirected held)) (holder_with_in (into_of source (labels_of label) undirected held))
        (λ _. refl) (λ _. refl) ends held found.are_of source_is target_is)

    answer_is : reply_to_make source target (labels_of label) undirected held ≡ cond (is_last || are_too_large made) TooLarge (EdgeIs ends.source.id ends.source.next)
    answer_is =
        (λ i. cond ((eqb (sym source_is i).next ordinals_end || is_too_large (length (vertex_words (alike.0 i)))) || is_too_large (length (vertex_words (alike.1 i)))) TooLarge (EdgeIs (sym source_is i).id (sym source_is i).next))
        ∙ ap (λ b. cond b TooLarge (EdgeIs ends.source.id ends.source.next)) (grouped is_last (is_too_large (length (vertex_words made.source))) (is_too_large (length (vertex_words (target_of made)))) ∙ ap (λ b. is_last || b) (sym (too_large_either made)))
      where
        grouped : (a b c : Bool) → ((a || b) || c) ≡ (a || (b || c))
        grouped true b c = refl
        grouped false b c = refl

    orderly : (object : Place) (one : HeldVertex) → IsOrderly one → IsOrderly (as_ends source target (with_out (out_of target (labels_of label) undirected held)) (with_in (into_of source (labels_of label) undirected held)) object one)
    orderly =
        orderly_both source target (with_out (out_of target (labels_of label) undirected held)) (with_in (into_of source (labels_of label) undirected held)) (holder_with_out (out_of target (labels_of label) undirected held)) (holder_with_in (into_of source (labels_of label) undirected held))
        (λ _. refl) (λ _. refl) (λ _ is. record { labels = is.labels; props = is.props; some = is.some }) (λ _ is. record { labels = is.labels; props = is.props; some = is.some })

  -- ---- nothing is made

  module _ {new : StoreState N} {reply : Reply} (over : (is_last || are_too_large made) ≡ true) (replied : reply ≡ TooLarge) (left : new ≡ mid) (from : KnowsVertex source any old) (to : KnowsVertex target any old) where
    looks : Looks old new
    looks = subst (Looks old) (sym left) found.source_found.looks

    pub makes_nothing : MakesEdge source target (labels_of label) undirected old new reply
    makes_nothing = record {
      answer = λ store held agrees has.
          replied ∙ sym (answer_is store held (subst (λ (s : StoreState N). Agrees s.reads store) left agrees) has ∙ ap (λ b. cond b TooLarge (EdgeIs ends.source.id ends.source.next)) over);
      made = λ other. absurd (other replied);
      unchanged = λ _. looks;
      source_known = still looks from;
      target_known = still looks to;
      out_known = λ id ordinal is. absurd (let other : EdgeIs id ordinal ≡ TooLarge = sym is ∙ replied in cc other);
    }

  -- ---- the edge is made

  module _ {new : StoreState N} {reply : Reply} (under : (is_last || are_too_large made) ≡ false) (replied : reply ≡ EdgeIs ends.source.id ends.source.next) (holders : AreHolders made) (small : are_too_large made ≡ false)
      (wrote : WritesEnds source target made mid new) (from : KnowsVertex source any old) (to : KnowsVertex target any old) (block : IsBlock old.shape target) where
    ordered : IsByRisingObject mid.writes
    ordered = subst IsByRisingObject (sym found.source_found.looks.writes) found.source_found.in_order

    are : AreOf source target made
    are = are_of_made source target (holder_with_out out) (holder_with_in into) ends found.are_of

    agreed : (store : Contents) → Agrees new.reads store → Agrees mid.reads store
    agreed store agrees = subst (λ (reads : Contents). Agrees reads store) wrote.reads agrees

    hold : (store : Contents) (held : HeldEnds) → Agrees mid.reads store → HoldsEnds source target (overlay store old.writes) held → HoldsEnds source target (overlay store new.writes) (with_edge source target (labels_of label) undirected held)
    hold store held agrees has =
        let same = alike store held agrees has in
        ends_hold ordered are holders small wrote (with_edge source target (labels_of label) undirected held) same.0 same.1
        (orderly store held agrees has source held.source has.at_source.fits) (orderly store held agrees has target held.target has.at_target.fits) store

    held_then : (store : Contents) → MayBeAt old.shape old.reads store → Agrees new.reads store → (held : HeldEnds) × HoldsEnds source target (overlay store new.writes) (with_edge source target (labels_of label) undirected held)
    held_then store may agrees =
        let one = from.always store may in
        let other = to.always store may in
        let held : HeldEnds = record { source = one.part; target = other.part } in
        (held, hold store held (agreed store agrees) (record { at_source = one.has; at_target = other.has }))

    -- the edge that was made is there
    out_then : (store : Contents) → MayBeAt old.shape old.reads store → Agrees new.reads store → Holds (HoldsOut old.shape source ends.source.next) (leads_to target) old.shape (overlay store new.writes)
    out_then store may agrees =
        let one = from.always store may in
        let other = to.always store may in
        let held : HeldEnds = record { source = one.part; target = other.part } in
        let has : HoldsEnds source target (overlay store old.writes) held = record { at_source = one.has; at_target = other.has } in
        let next : held.source.vertex.next ≡ ends.source.next = sym (ap (λ (h : VertexHolder). h.next) (source_is store held (agreed store agrees) has)) in
        record {
          part = out_held source target undirected held (labels_of label);
          has = subst (λ n. HoldsOut old.shape source n (overlay store new.writes) (out_held source target undirected held (labels_of label))) next
              (made_is_out source target undirected held label old.shape (overlay store new.writes) block (hold store held (agreed store agrees) has));
          passed = same_itself target;
        }

    pub makes_it : MakesEdge source target (labels_of label) undirected old new reply
    makes_it = record {
      answer = λ store held agrees has. replied ∙ sym (answer_is store held (agreed store agrees) has ∙ ap (λ b. cond b TooLarge (EdgeIs ends.source.id ends.source.next)) under);
      made = λ _ store held agrees has. hold store held (agreed store agrees) has;
      unchanged = λ too. absurd (let is : EdgeIs ends.source.id ends.source.next ≡ TooLarge = sym replied ∙ too in cc);
      source_known = knows_after (stays-then found.source_found.looks.stays wrote.stays) (in_order_now ordered are holders small wrote) (λ store may agrees.
          let is = held_then store may agrees in
          record { part = (with_edge source target (labels_of label) undirected is.0).source; has = is.1.at_source; passed = refl });
      target_known = knows_after (stays-then found.source_found.looks.stays wrote.stays) (in_order_now ordered are holders small wrote) (λ store may agrees.
          let is = held_then store may agrees in
          record { part = (with_edge source target (labels_of label) undirected is.0).target; has = is.1.at_target; passed = refl });
      out_known = λ id ordinal is.
          let same : EdgeIs ends.source.id ends.source.next ≡ EdgeIs id ordinal = sym replied ∙ is in
          let next : ends.source.next ≡ ordinal = cc same in
          subst (λ n. KnowsOut source n (leads_to target) new) next (knows_after (stays-then found.source_found.looks.stays wrote.stays) (in_order_now ordered are holders small wrote) out_then);
    }

  pub makes : {new : StoreState N} {reply : Reply} (change : Change Ends) → change ≡ new_edge source target (labels_of label) undirected ends → IfMade AreHolders change
      → SettlesEnds source target (EdgeIs ends.source.id ends.source.next) mid new change reply → KnowsVertex source any old → KnowsVertex target any old → IsBlock old.shape target → MakesEdge source target (labels_of label) undirected old new reply
  makes {new} {reply} change is holders settled from to block =
      cases is_last refl (subst (IfMade AreHolders) is holders) (subst (λ (c : Change Ends). SettlesEnds source target (EdgeIs ends.source.id ends.source.next) mid new c reply) is settled)
    where
      cases : (last : Bool) → is_last ≡ last → IfMade AreHolders (cond last (Refused TooLarge) (Made made))
          → SettlesEnds source target (EdgeIs ends.source.id ends.source.next) mid new (cond last (Refused TooLarge) (Made made)) reply → MakesEdge source target (labels_of label) undirected old new reply
      cases true last _ did = makes_nothing (ap (λ b. b || are_too_large made) last) did.0 did.1 from to
      cases false last are did = sized (are_too_large made) refl did
        where
          sized : (large : Bool) → are_too_large made ≡ large
              → MatchBool large ((reply ≡ TooLarge) × (new ≡ mid)) ((reply ≡ EdgeIs ends.source.id ends.source.next) × WritesEnds source target made mid new) → MakesEdge source target (labels_of label) undirected old new reply
          sized true large left = makes_nothing (ap (λ b. b || are_too_large made) last ∙ large) left.0 left.1 from to
          sized false large wrote = makes_it (ap (λ b. b || are_too_large made) last ∙ large) wrote.0 are large wrote.1 from to block

  -- the same of what the parts of the call answer
  pub makes_ok : (new : StoreState N) {from : VertexHolder} {E F : Type 0} → ends.source ≡ from → (result : Result Reply E) (change : Result (Change Ends) F) → IfOk change (λ one. one ≡ new_edge source target (labels_of label) undirected ends) → IfOk change (IfMade AreHolders)
      → IfOk result (λ reply. IsOkAnd change (λ one. SettlesEnds source target (EdgeIs from.id from.next) mid new one reply)) → KnowsVertex source any old → KnowsVertex target any old → IsBlock old.shape target
      → IfOk result (λ reply. MakesEdge source target (labels_of label) undirected old new reply)
  makes_ok new same (Err why) change is holders settled from to block = tt
  makes_ok new same (Ok reply) (Ok one) is holders settled from to block =
      makes one is holders (subst (λ (h : VertexHolder). SettlesEnds source target (EdgeIs h.id h.next) mid new one reply) (sym same) settled) from to block
  makes_ok new same (Ok reply) (Err none) is holders settled from to block = absurd settled
