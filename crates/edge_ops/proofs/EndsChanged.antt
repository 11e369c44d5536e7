-- What is made of two ends once they are written, and what stays of a vertex while another object is written.
use Rattle.std.proofs.Common.{◌≡◌, ◌≢◌, ◌∙◌, ℕ, ◌≤◌, false, cond, List, length, sym, ap, subst}
use Rattle.rma_layout.specs.Placement.{Place}
use Rattle.object_words.specs.Contents.{Contents, Agrees, IsByRisingObject, content_of, overlay}
use Rattle.graph_model.specs.Sizes.{most_words}
use Rattle.object_store.specs.State.{StoreState}
use Rattle.object_store.specs.Calls.{WritesObject}
use Rattle.object_store.proofs.Working.{content_put}
use Rattle.holder_codec.specs.declared.vertex_holder.VertexHolder.{VertexHolder}
use Rattle.vertex_ops.specs.Vertices.{HeldVertex, HoldsVertex, IsOrderly, holder_for}
use Rattle.edge_ops.specs.declared.ends.Ends.{Ends}
use Rattle.edge_ops.specs.Ends.{HeldEnds, HoldsEnds, ends_after}
use Rattle.edge_ops.specs.Ending.{AreHolders, FindsEnds, WritesEnds, are_too_large, ends_made}
use Rattle.edge_ops.proofs.EndsWritten.{are_of_made, ends_hold, made_alike, orderly_both, untied}
use Rattle.edge_ops.proofs.Finding.{found_is}

module _ {N : Type 0} {source target : Place} {old mid new : StoreState N} {ends : Ends} (found : FindsEnds source target old mid ends)
    (as_source as_target : HeldVertex → HeldVertex) (source_holder target_holder : VertexHolder → VertexHolder)
    (like_source : (held : HeldVertex) → holder_for (as_source held) ≡ source_holder (holder_for held)) (like_target : (held : HeldVertex) → holder_for (as_target held) ≡ target_holder (holder_for held))
    (keeps_source : (held : HeldVertex) → IsOrderly held → IsOrderly (as_source held)) (keeps_target : (held : HeldVertex) → IsOrderly held → IsOrderly (as_target held))
    (holders : AreHolders (ends_made source_holder target_holder ends)) (small : are_too_large (ends_made source_holder target_holder ends) ≡ false)
    (wrote : WritesEnds source target (ends_made source_holder target_holder ends) mid new) where
  ordered : IsByRisingObject mid.writes
  ordered = subst IsByRisingObject (sym found.source_found.looks.writes) found.source_found.in_order

  pub ends_changed : (store : Contents) (held : HeldEnds) → Agrees mid.reads store → HoldsEnds source target (overlay store old.writes) held
      → HoldsEnds source target (overlay store new.writes) (ends_after source target as_source as_target held)
  ends_changed store held agrees has =
      let alike = made_alike source target as_source as_target source_holder target_holder like_source like_target ends held found.are_of
      (found_is found.source_found store held.source agrees has.at_source) (found_is found.target_found store held.target agrees has.at_target) in
      let orderly = orderly_both source target as_source as_target source_holder target_holder like_source like_target keeps_source keeps_target in
      ends_hold ordered (are_of_made source target source_holder target_holder ends found.are_of) holders small wrote (ends_after source target as_source as_target held) alike.0 alike.1
      (orderly source held.source has.at_source.fits) (orderly target held.target has.at_target.fits) store

-- contents with the same words in an object hold the same vertex there
pub held_as : (object : Place) (one other : Contents) (vertex : HeldVertex) → content_of other object ≡ content_of one object → HoldsVertex object one vertex → HoldsVertex object other vertex
held_as object one other vertex same has = record {
  fits = has.fits;
  holder = has.holder;
  words = same ∙ has.words;
  within = subst (λ (ws : List ℕ). length ws ≤ most_words) (sym same) has.within;
}

module _ {N : Type 0} {own : Place} {words : List ℕ} {old new : StoreState N} (ordered : IsByRisingObject old.writes) (wrote : WritesObject own words old new) where
  -- another object has the words that it had
  pub same_elsewhere : (object : Place) → object ≢ own → (store : Contents) → content_of (overlay store new.writes) object ≡ content_of (overlay store old.writes) object
  same_elsewhere object apart store =
      ap (λ (w : Contents). content_of (overlay store w) object) wrote.writes
      ∙ (content_put store old.writes own words object ordered ∙ ap (λ b. cond b words (content_of (overlay store old.writes) object)) (untied object own apart))

  pub ends_stay : (source target : Place) → source ≢ own → target ≢ own → (store : Contents) (held : HeldEnds) → HoldsEnds source target (overlay store old.writes) held → HoldsEnds source target (overlay store new.writes) held
  ends_stay source target not_source not_target store held has = record {
    at_source = held_as source (overlay store old.writes) (overlay store new.writes) held.source (same_elsewhere source not_source store) has.at_source;
    at_target = held_as target (overlay store old.writes) (overlay store new.writes) held.target (same_elsewhere target not_target store) has.at_target;
  }
