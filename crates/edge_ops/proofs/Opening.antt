-- The objects at an edge, once they are read.
use Rattle.std.proofs.Common.{◌≡◌, ◌≢◌, ◌∙◌, ℕ, ◌≤◌, Bool, true, false, ◌||◌, List, [], length, Option, Some, None, refl, sym, ap, subst, cond, IsSome, inl, inr, arith}
use Rattle.std.specs.Bool.{MatchBool}
use Rattle.std.specs.Option.{MatchOption, option_map}
use Rattle.std.specs.Ordering.{eq_by_cmp}
use Rattle.gdi_kinds.specs.declared.reply.Reply.{Reply}
use Rattle.gdi_kinds.specs.declared.reply.Reply.TheVariants.{TooLarge}
use Rattle.std.proofs.lemmas.Bool.Decides.{nat_tests}
use Rattle.rma_layout.specs.Placement.{Place, IsBlock, IsReserved}
use Rattle.rma_layout.specs.Shape.{Shape}
use Rattle.object_words.specs.Contents.{Contents, content_of, overlay, place_cmp, with_words, words_at}
use Rattle.object_words.proofs.Places.{words_at-with_words}
use Rattle.graph_model.specs.Sizes.{is_too_large, most_words}
use Rattle.object_store.specs.State.{StoreState, committed}
use Rattle.object_store.specs.Calls.{MayWrite}
use Rattle.object_store.specs.Works.{Reaches}
use Rattle.holder_codec.specs.declared.edge_form.EdgeForm.{EdgeForm}
use Rattle.holder_codec.specs.declared.edge_form.EdgeForm.TheVariants.{Plain, Labelled, Heavy}
use Rattle.holder_codec.specs.declared.edge_holder.EdgeHolder.{EdgeHolder}
use Rattle.holder_codec.specs.declared.edge_record.EdgeRecord.{EdgeRecord}
use Rattle.holder_codec.specs.declared.vertex_holder.VertexHolder.{VertexHolder}
use Rattle.holder_codec.specs.EdgeObject.{IsEdgeHolder, edge_object_words}
use Rattle.holder_codec.specs.Edges.{RecordFits}
use Rattle.holder_codec.specs.Vertex.{IsVertexHolder, vertex_words}
use Rattle.held_objects.specs.declared.change.Change.TheVariants.{Made}
use Rattle.held_objects.specs.Changes.{any}
use Rattle.held_objects.specs.Held.{FindsHolder}
use Rattle.held_objects.proofs.Changes.{may_write}
use Rattle.held_objects.proofs.Knows.{before}
use Rattle.vertex_ops.proofs.LabelSets.{some_words}
use Rattle.edge_ops.specs.declared.ends.Ends.{Ends}
use Rattle.edge_ops.specs.declared.opened.Opened.{Opened}
use Rattle.edge_ops.specs.HeldEdges.{HeldOut, HoldsOut, KnowsOut, out_key}
use Rattle.edge_ops.specs.Ending.{FindsBeside, FindsEnds, SettlesEnds, WritesEnds, are_too_large, target_of, written}
use Rattle.edge_ops.specs.Opening.{FindsEdge, IsAtRecord, MatchForm, OpensEnds, OpensNone, OpensSome, OwnIsBlock, OwnIsOpen, light_holder}
use Rattle.edge_ops.specs.Records.{record_for}
use Rattle.edge_ops.proofs.EdgesFound.{IsOfRecord, edge_there, own_held, target_is_block}
use Rattle.edge_ops.proofs.EndsWritten.{too_large_either}
use Rattle.edge_ops.proofs.Finding.{ends_found, find_later}

edge_some : (holder : EdgeHolder) → edge_object_words holder ≢ []
edge_some holder none = cc none

-- few enough words are taken
pub taken : (n : ℕ) → n ≤ most_words → is_too_large n ≡ false
taken n few = grind (arith, nat_tests)

neither : (a b : Bool) → a ≡ false → b ≡ false → (a || b) ≡ false
neither a b x y = ap (λ t. t || b) x ∙ y

-- what was found is there while the other end is read
beside_later : {N : Type 0} {H : Type 0} {IsHolder : H → Type 0} {words_of : H → List ℕ} {object source target : Place} {old next new : StoreState N} {held : H} {from : VertexHolder} (ends : Ends) → words_of held ≢ []
    → FindsHolder IsHolder words_of object old next held → FindsBeside source target from next new ends → FindsHolder IsHolder words_of object old new held
beside_later {N} {H} {IsHolder} {words_of} {object} {source} {target} {old} {next} {new} {held} {from} ends some found beside = cases ends.target beside.found
  where
    cases : (to : Option VertexHolder) → MatchOption to ((source ≡ target) × (new ≡ next)) (λ to. (source ≢ target) × FindsHolder IsVertexHolder vertex_words target next new to) → FindsHolder IsHolder words_of object old new held
    cases None is = subst (λ (s : StoreState N). FindsHolder IsHolder words_of object old s held) (sym is.1) found
    cases (Some to) is = find_later some found is.1.looks is.1.stands

-- and while the edge's own object is read
edge_later : {N : Type 0} {object : Place} {old mid next : StoreState N} {from : VertexHolder} (id : ℕ) (edge : EdgeRecord) (got : EdgeHolder)
    → FindsHolder IsVertexHolder vertex_words object old mid from → FindsEdge id edge mid next got → FindsHolder IsVertexHolder vertex_words object old next from
edge_later {N} {object} {old} {mid} {next} {from} id edge got found finds = cases edge.form finds
  where
    cases : (form : EdgeForm) → MatchForm form (λ labels. (got ≡ light_holder id edge labels) × (next ≡ mid)) (λ at. FindsHolder IsEdgeHolder edge_object_words at mid next got) → FindsHolder IsVertexHolder vertex_words object old next from
    cases Plain is = subst (λ (s : StoreState N). FindsHolder IsVertexHolder vertex_words object old s from) (sym is.1) found
    cases (Labelled l) is = subst (λ (s : StoreState N). FindsHolder IsVertexHolder vertex_words object old s from) (sym is.1) found
    cases (Heavy at) is = find_later (some_words from) found is.looks is.stands

module _ {N : Type 0} {source : Place} {ordinal : ℕ} {old mid next new : StoreState N} {from : VertexHolder} (found : FindsHolder IsVertexHolder vertex_words source old mid from) (known : KnowsOut source ordinal any old)
    (edge : EdgeRecord) (there : record_for from.edges (out_key ordinal) ≡ Some edge) (fits : RecordFits edge) (got : EdgeHolder) (finds : FindsEdge from.id edge mid next got) (ends : Ends)
    (beside : FindsBeside source edge.other_at from next new ends) where
  both : FindsEnds source edge.other_at old new ends
  both = ends_found (edge_later from.id edge got found finds) beside

  record_is : record_for ends.source.edges (out_key ordinal) ≡ Some edge
  record_is = ap (λ (h : VertexHolder). record_for h.edges (out_key ordinal)) beside.source_is ∙ there

  some_known : (held : HeldOut) × HoldsOut old.shape source ordinal (overlay (committed new) old.writes) held
  some_known =
      let is = known.always (committed new) (before both.source_found.looks.stays (committed new) both.source_found.stands) in
      (is.part, is.has)

  e : IsOfRecord old.shape source ordinal edge (overlay (committed new) old.writes) some_known.0
  e = edge_there both.source_found (committed new) some_known.0 both.source_found.stands.agrees some_known.1 edge record_is

  target_is : e.one.target_at ≡ edge.other_at
  target_is = ap (λ (r : EdgeRecord). r.other_at) e.of

  small : are_too_large ends ≡ false
  small =
      let at_source : length (vertex_words ends.source) ≤ most_words =
      subst (λ (ws : List ℕ). length ws ≤ most_words) (both.source_found.words (committed new) both.source_found.stands.agrees) some_known.1.at_source.within in
      let at_target : length (vertex_words (target_of ends)) ≤ most_words =
      subst (λ (ws : List ℕ). length ws ≤ most_words) (both.target_found.words (committed new) both.target_found.stands.agrees)
      (subst (λ (place : Place). length (content_of (overlay (committed new) old.writes) place) ≤ most_words) target_is e.holds.at_target.within) in
      too_large_either ends ∙ neither _ _ (taken (length (vertex_words ends.source)) at_source) (taken (length (vertex_words (target_of ends))) at_target)

  own_open : MatchForm edge.form (λ _. Unit {0}) (λ own. OwnIsOpen own source edge.other_at old new)
  own_open = cases edge.form refl finds
    where
      cases : (form : EdgeForm) → edge.form ≡ form → MatchForm form (λ labels. (got ≡ light_holder from.id edge labels) × (next ≡ mid)) (λ at. FindsHolder IsEdgeHolder edge_object_words at mid next got)
          → MatchForm form (λ _. Unit {0}) (λ own. OwnIsOpen own source edge.other_at old new)
      cases Plain form is = tt
      cases (Labelled l) form is = tt
      cases (Heavy own) form is =
          let held_own = own_held e own form in
          record {
            block = subst (IsBlock old.shape) held_own.1 held_own.0.block;
            may = may_write (edge_some got) (beside_later ends (edge_some got) is beside);
            not_source = λ same. held_own.0.not_source (held_own.1 ∙ same);
            not_target = λ same. held_own.0.not_target (held_own.1 ∙ (same ∙ sym target_is));
          }

  pub opens_some : Reaches (IsAtRecord source edge) (λ _. ⊥) old new → OpensSome source ordinal old new (record { edge = edge; ends = ends })
  opens_some reaches = record {
    record_is = record_is;
    fits = fits;
    block = target_is_block found known edge there;
    small = small;
    ends = both;
    own = own_open;
    reaches = reaches;
  }

-- what may be written may be written once the ends were
pub may_write_after : {N : Type 0} {source target : Place} {ends : Ends} {mid after : StoreState N} (own : Place) → WritesEnds source target ends mid after → MayWrite mid own → MayWrite after own
may_write_after {N} {source} {target} {ends} {mid} {after} own wrote may = elim may [
  | inl reserved ↦ inl (subst (λ (shape : Shape). IsReserved shape own.block) (sym wrote.stays.shape) reserved)
  | inr more ↦ elim more [
    | inl before ↦ inr (inl (subst (λ (w : Contents). IsSome (words_at w own)) (sym wrote.writes) (cases (option_map vertex_words ends.target) before)))
    | inr some ↦ inr (inr (subst (λ (r : Contents). content_of r own ≢ []) (sym wrote.reads) some))
  ]
]
  where
    still_some : (writes : Contents) (other : Place) (words : List ℕ) → IsSome (words_at writes own) → IsSome (words_at (with_words writes other words) own)
    still_some writes other words is =
        subst IsSome (sym (words_at-with_words writes other words own)) (elim (eq_by_cmp place_cmp own other) as (λ b. IsSome (cond b (Some words) (words_at writes own))) [ true ↦ refl | false ↦ is ])

    cases : (second : Option (List ℕ)) → IsSome (words_at mid.writes own) → IsSome (words_at (written source target (vertex_words ends.source) second mid.writes) own)
    cases None is = still_some mid.writes source (vertex_words ends.source) is
    cases (Some words) is = still_some (with_words mid.writes source (vertex_words ends.source)) target words (still_some mid.writes source (vertex_words ends.source) is)

-- ends that aren't too large are written
pub settled_small : {N : Type 0} {source target : Place} {wanted reply : Reply} {mid after : StoreState N} (made : Ends) → are_too_large made ≡ false → SettlesEnds source target wanted mid after (Made made) reply
    → (reply ≡ wanted) × WritesEnds source target made mid after
settled_small {source = source} {target = target} {wanted = wanted} {reply = reply} {mid = mid} {after = after} made small settled =
    subst (λ b. MatchBool b ((reply ≡ TooLarge) × (after ≡ mid)) ((reply ≡ wanted) × WritesEnds source target made mid after)) small settled

pub opened_is : {N : Type 0} {source : Place} {ordinal : ℕ} {old new : StoreState N} {answer : Option Opened} (opened : Opened) → answer ≡ Some opened → OpensEnds source ordinal old new answer → OpensSome source ordinal old new opened
opened_is {source = source} {ordinal = ordinal} {old = old} {new = new} opened is found = subst (OpensEnds source ordinal old new) is found

pub none_opened : {N : Type 0} {source : Place} {ordinal : ℕ} {old new : StoreState N} {answer : Option Opened} → answer ≡ None → OpensEnds source ordinal old new answer → OpensNone source ordinal old new
none_opened {source = source} {ordinal = ordinal} {old = old} {new = new} is found = subst (OpensEnds source ordinal old new) is found

module _ {N : Type 0} {source : Place} {ordinal : ℕ} {old mid : StoreState N} (after : StoreState N) (opened : Opened) (read : OpensSome source ordinal old mid opened) where
  -- the edge's own object may be written, also once the ends were
  pub own_still_block : after.shape ≡ mid.shape → OwnIsBlock opened.edge.form after.shape
  own_still_block same = cases opened.edge.form read.own
    where
      cases : (form : EdgeForm) → MatchForm form (λ _. Unit {0}) (λ own. OwnIsOpen own source opened.edge.other_at old mid) → OwnIsBlock form after.shape
      cases Plain _ = tt
      cases (Labelled l) _ = tt
      cases (Heavy own) is = subst (λ (shape : Shape). IsBlock shape own) (sym (same ∙ read.ends.source_found.looks.stays.shape)) is.block

  pub own_may_still : {ends : Ends} → WritesEnds source opened.edge.other_at ends mid after → MatchForm opened.edge.form (λ _. Unit {0}) (MayWrite after)
  own_may_still {ends} wrote = cases opened.edge.form read.own
    where
      cases : (form : EdgeForm) → MatchForm form (λ _. Unit {0}) (λ own. OwnIsOpen own source opened.edge.other_at old mid) → MatchForm form (λ _. Unit {0}) (MayWrite after)
      cases Plain _ = tt
      cases (Labelled l) _ = tt
      cases (Heavy own) is = may_write_after own wrote is.may
