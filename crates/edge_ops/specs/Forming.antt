-- Another form for an edge at both its ends, and other words for its own object. The contracts of private functions alone
-- cite this page.
use Rattle.std.specs.Prelude.{◌≡◌, ◌≢◌, ◌≤◌, ℕ, Bool, true, false, List, [], length, Some, ◌⊎◌}
use Rattle.rma_layout.specs.Shape.{Shape}
use Rattle.rma_layout.specs.Ranges.{IsInRange}
use Rattle.rma_layout.specs.Placement.{Place, IsBlock, home_of}
use Rattle.object_words.specs.Contents.{Contents, Agrees, IsByRisingObject, content_of, overlay}
use Rattle.graph_model.specs.Sizes.{is_too_large, most_words}
use Rattle.object_store.specs.State.{StoreState}
use Rattle.object_store.specs.Calls.{MayWrite}
use Rattle.object_store.specs.Works.{Reaches}
use Rattle.holder_codec.specs.declared.edge_form.EdgeForm.{EdgeForm}
use Rattle.holder_codec.specs.declared.edge_form.EdgeForm.TheVariants.{Heavy}
use Rattle.holder_codec.specs.declared.edge_holder.EdgeHolder.{EdgeHolder}
use Rattle.holder_codec.specs.declared.edge_record.EdgeRecord.{EdgeRecord}
use Rattle.holder_codec.specs.EdgeObject.{edge_object_words}
use Rattle.holder_codec.specs.Edges.{FormFits, RecordFits}
use Rattle.holder_codec.specs.Represents.{IsUnreserved, light_form}
use Rattle.holder_codec.specs.Vertex.{vertex_words}
use Rattle.edge_ops.specs.declared.ends.Ends.{Ends}
use Rattle.edge_ops.specs.declared.opened.Opened.{Opened}
use Rattle.edge_ops.specs.declared.wanted.Wanted.{Wanted}
use Rattle.edge_ops.specs.declared.wanted.Wanted.TheVariants as wanted
use Rattle.edge_ops.specs.Ending.{AreHolders, AreOf, are_too_large, ends_made, holder_with_in, target_of}
use Rattle.edge_ops.specs.HeldEdges.{in_key, out_key}
use Rattle.edge_ops.specs.Keeping.{has_own, is_taken}
use Rattle.edge_ops.specs.Opening.{IsAtRecord, MatchForm, OwnIsOpen}
use Rattle.edge_ops.specs.Records.{record_for}

-- what an edge with these labels and properties has at its ends and beside them
abbrev pub IsWanted : EdgeHolder → Wanted → Type 0
IsWanted holder (wanted.Form form) = (has_own holder ≡ false) × (form ≡ light_form holder.labels) × FormFits form
IsWanted holder (wanted.Object words) = (has_own holder ≡ true) × (words ≡ edge_object_words holder) × (length words ≤ most_words)
IsWanted holder wanted.TooLarge = (has_own holder ≡ true) × (is_too_large (length (edge_object_words holder)) ≡ true)

-- the record at the target, by that at the source
abbrev pub into_record : Place → ℕ → EdgeRecord → EdgeRecord
into_record source id edge = record edge { inward = true; other = id; other_at = source }

abbrev pub with_form : EdgeForm → EdgeRecord → EdgeRecord
with_form form edge = record edge { form = form }

-- the ends with a form in both records of the edge
abbrev pub ends_formed : Place → EdgeForm → EdgeRecord → Ends → Ends
ends_formed source form edge ends = ends_made (holder_with_in (with_form form edge)) (holder_with_in (into_record source ends.source.id (with_form form edge))) ends

abbrev pub AtRecordOrHome : Place → ℕ → EdgeRecord → Shape → Place → Type 0
AtRecordOrHome source id edge shape place = IsAtRecord source edge place ⊎ IsUnreserved shape (home_of shape id) place

module _ {N : Type 0} where
  -- the objects of both ends have these words
  pub record HasEnds (source target : Place) (ends : Ends) (state : StoreState N) : Type 0 where
    pub at_source : (store : Contents) → Agrees state.reads store → content_of (overlay store state.writes) source ≡ vertex_words ends.source
    pub at_target : (store : Contents) → Agrees state.reads store → content_of (overlay store state.writes) target ≡ vertex_words (target_of ends)

  -- an edge with both its ends may be written
  pub record IsOpen (source : Place) (opened : Opened) (state : StoreState N) : Type 0 where
    pub ranges : IsInRange state.shape
    pub ordered : IsByRisingObject state.writes
    pub source_block : IsBlock state.shape source
    pub target_block : IsBlock state.shape opened.edge.other_at
    pub outward : opened.edge.inward ≡ false
    pub fits : RecordFits opened.edge
    pub holders : AreHolders opened.ends
    pub are : AreOf source opened.edge.other_at opened.ends
    pub small : are_too_large opened.ends ≡ false
    pub here : record_for opened.ends.source.edges (out_key opened.edge.ordinal) ≡ Some opened.edge
    pub there : record_for (target_of opened.ends).edges (in_key opened.ends.source.id opened.edge.ordinal) ≡ Some (into_record source opened.ends.source.id opened.edge)
    pub may_source : MayWrite state source
    pub may_target : MayWrite state opened.edge.other_at
    pub own : MatchForm opened.edge.form (λ _. Unit {0}) (λ own. OwnIsOpen own source opened.edge.other_at state state)
    pub has : HasEnds source opened.edge.other_at opened.ends state

  -- both records have the form, and an own object is empty
  pub record GivesForm (source : Place) (form : EdgeForm) (opened : Opened) (new : StoreState N) : Type 0 where
    pub formed : HasEnds source opened.edge.other_at (ends_formed source form opened.edge opened.ends) new
    pub ordered : IsByRisingObject new.writes
    pub emptied : MatchForm opened.edge.form (λ _. Unit {0}) (λ own. (store : Contents) → content_of (overlay store new.writes) own ≡ [])

  -- an object that was made on the home rank of an identifier
  pub record IsMadeOn (id : ℕ) (own : Place) (old new : StoreState N) : Type 0 where
    pub place : IsUnreserved old.shape (home_of old.shape id) own
    pub empty : (contents : Contents) → Agrees new.reads contents → content_of contents own ≡ []

  -- the edge's own object has the words, and it is the one that it had, or was made
  pub record GivesObject (source : Place) (id : ℕ) (words : List ℕ) (opened : Opened) (old new : StoreState N) : Type 0 where
    pub own : Place
    pub block : IsBlock old.shape own
    pub not_source : own ≢ source
    pub not_target : own ≢ opened.edge.other_at
    pub formed : HasEnds source opened.edge.other_at (ends_formed source (Heavy own) opened.edge opened.ends) new
    pub ordered : IsByRisingObject new.writes
    pub has_words : (store : Contents) → content_of (overlay store new.writes) own ≡ words
    pub origin : MatchForm opened.edge.form (λ _. IsMadeOn id own old new) (λ was. own ≡ was)
    pub reaches : Reaches (λ place. IsAtRecord source opened.edge place ⊎ (place ≡ own)) (λ rank. rank ≡ home_of old.shape id) old new

  abbrev pub Gives : Place → EdgeHolder → Opened → StoreState N → StoreState N → Wanted → Type 0
  Gives source holder opened old new (wanted.Form form) = GivesForm source form opened new × Reaches (IsAtRecord source opened.edge) (λ _. ⊥) old new
  Gives source holder opened old new (wanted.Object words) = GivesObject source holder.source words opened old new
  Gives source holder opened old new wanted.TooLarge = new ≡ old

  -- the edge has these labels and properties, unless its own object would be too large
  pub record GivesEdge (source : Place) (holder : EdgeHolder) (opened : Opened) (old new : StoreState N) (kept : Bool) : Type 0 where
    pub wanted : Wanted
    pub is : IsWanted holder wanted
    pub gives : Gives source holder opened old new wanted
    pub answer : kept ≡ is_taken holder
