-- The calls on names do to a store what they do to the graph.
use Rattle.std.proofs.Common.{◌≡◌, ◌≢◌, ◌∙◌, ℕ, suc, Bool, true, false, cond, List, [], ◌∷◌, ◌++◌, map, length, Some, None, refl, sym, ap, subst, arith, ◌⊎◌, inl, inr}
use Rattle.std.specs.Prelude.{is_some}
use Rattle.std.specs.List.{AllByRecursion}
use Rattle.std.proofs.lemmas.List.{map-append}
use Rattle.gdi_kinds.specs.declared.call.Call.{Call}
use Rattle.gdi_kinds.specs.declared.call.Call.TheVariants.{NewLabel, NewType}
use Rattle.gdi_kinds.specs.declared.reply.Reply.{Reply}
use Rattle.gdi_kinds.specs.declared.reply.Reply.TheVariants.{Done, Exists, TooLarge}
use Rattle.gdi_kinds.specs.declared.value.Kind.{Kind}
use Rattle.gdi_kinds.specs.Names.{IsName}
use Rattle.rma_layout.specs.Shape.{Shape}
use Rattle.rma_layout.specs.Ranges.{IsInRange}
use Rattle.rma_layout.specs.Placement.{IsReserved, Place, metadata}
use Rattle.object_words.specs.Contents.{Agrees, Contents, IsByRisingObject, content_of, overlay, words_at}
use Rattle.object_words.specs.Blocks.{made_objects}
use Rattle.object_words.proofs.Overlays.{content-overlay, put_over}
use Rattle.graph_model.specs.Calls.{graph_after_call, reply_to, steps_of}
use Rattle.graph_model.specs.Capacity.{Object, Reserved, OfVertex, OfHeavyEdge, is_object, make_of}
use Rattle.graph_model.specs.Graph.{Graph, Name, PropType}
use Rattle.graph_model.specs.Lookups.{label_number, type_number}
use Rattle.graph_model.specs.Maps.{place_where}
use Rattle.std.specs.Str.{bytes_eq}
use Rattle.std.specs.Option.{option_map}
use Rattle.graph_model.specs.Sizes.{is_too_large, words_of_names}
use Rattle.graph_model.specs.Steps.{Answer, Step, ◌>>=◌, answer_of, leaves, refused_if}
use Rattle.graph_model.specs.WellFormed.{IsWellFormed, VertexFits}
use Rattle.graph_model.proofs.CallsKeepWellFormed as well
use Rattle.graph_model.proofs.Entries.{All-filter, All-map}
use Rattle.object_store.specs.State.{StoreState}
use Rattle.object_store.specs.Works.{At, Reaches}
use Rattle.holder_codec.specs.declared.meta_holder.MetaHolder.{MetaHolder}
use Rattle.holder_codec.specs.declared.type_line.TypeLine.{TypeLine}
use Rattle.holder_codec.specs.Holders.{names_words}
use Rattle.holder_codec.specs.Meta.{type_of}
use Rattle.holder_codec.specs.Parts.{IsSameAt}
use Rattle.holder_codec.specs.Represents.{HasIndex, Represents, heavy_edges}
use Rattle.holder_codec.proofs.SizesAreLengths.{names_size}
use Rattle.held_objects.specs.declared.change.Change.TheVariants.{Made, Refused}
use Rattle.held_objects.specs.Knows.{Knows}
use Rattle.held_objects.specs.Changes.{Changes, IfMade, any}
use Rattle.held_objects.specs.Changes as held
use Rattle.object_view.specs.View.{IsOn}
use Rattle.meta_tables.specs.Names.{HasNames, KnowsNames, names_of, size}
use Rattle.meta_tables.specs.Names as meta
use Rattle.meta_tables.proofs.Naming.{represents_names}
use Rattle.graph_law.specs.Calls.{AppliesCall, DoesCall, Stands}
use Rattle.graph_law.specs.Reach.{IsReached}
use Rattle.graph_law.proofs.Doing as doing
use Rattle.graph_names.proofs.NamesChanged.{SameProps, index_with_label, names_changed, props_stay}

-- ---- how such a call ends

abbrev StepsTo : Graph → Graph → Bool → Bool → Step Answer
StepsTo g h there large = refused_if there Exists >>= (λ _. refused_if large TooLarge >>= (λ _. leaves h Done))

abbrev Left : Shape → Graph → Call → Reply → Type 0
Left shape g call reply = (graph_after_call shape g call ≡ g) × (reply ≡ reply_to shape g call) × (reply ≢ Done)

abbrev Changed : Shape → Graph → Graph → Call → Reply → Bool → Type 0
Changed shape g h call reply there = (graph_after_call shape g call ≡ h) × (reply ≡ reply_to shape g call) × (reply ≡ Done) × (there ≡ false)

exists_apart : Exists ≡ Done → ⊥
exists_apart never = cc

large_apart : TooLarge ≡ Done → ⊥
large_apart never = cc

ends : (shape : Shape) (g h : Graph) (call : Call) {reply : Reply} (there large : Bool) → steps_of shape g call ≡ StepsTo g h there large → reply ≡ cond there Exists (cond large TooLarge Done)
    → Left shape g call reply ⊎ Changed shape g h call reply there
ends shape g h call true large steps is = inl (ap (λ s. (answer_of g s).graph) steps, is ∙ sym (ap (λ s. (answer_of g s).reply) steps), λ done. exists_apart (sym is ∙ done))
ends shape g h call false true steps is = inl (ap (λ s. (answer_of g s).graph) steps, is ∙ sym (ap (λ s. (answer_of g s).reply) steps), λ done. large_apart (sym is ∙ done))
ends shape g h call false false steps is = inr (ap (λ s. (answer_of g s).graph) steps, is ∙ sym (ap (λ s. (answer_of g s).reply) steps), is, refl)

replied : (there : Bool) (made : MetaHolder) → held.reply_to size (cond there (Refused Exists) (Made made)) ≡ cond there Exists (cond (is_too_large (size made)) TooLarge Done)
replied true made = refl
replied false made = refl

types_back : (types : List PropType) → map type_of (map (λ type. record { name = type.name; kind = type.kind; many = type.many }) types) ≡ types
types_back [] = refl
types_back (type ∷ types) = ap (λ (ts : List PropType). type ∷ ts) (types_back types)

-- ---- what is known before

pub knows_names : {N : Type 0} {state : StoreState N} → Knows Stands state → KnowsNames any state
knows_names {N} {state} knows = record {
  always = λ store may.
      let stands = knows.always store may in
      record { part = names_of stands.graph; has = represents_names state.shape (overlay store state.writes) stands.graph stands.represents; passed = refl };
  ordered = knows.ordered;
}

-- ---- the store afterwards

there : (shape : Shape) (g : Graph) (labels : List Name) (types : List PropType) (rank : ℕ) (object : Object) → IsOn shape (record g { labels = labels; types = types }) rank object → is_object g object ≡ true
there shape g labels types rank (Reserved block) on = refl
there shape g labels types rank (OfVertex id) on = on.1
there shape g labels types rank (OfHeavyEdge source ordinal) on = on.1

module _ {N : Type 0} {old new : StoreState N} {Makes : ℕ → Type 0} (ranges : IsInRange old.shape) (reaches : Reaches (At metadata old.shape) Makes old new)
    (old_in_order : IsByRisingObject old.writes) (new_in_order : IsByRisingObject new.writes) where
  same : (store : Contents) (place : Place) → place ≢ metadata → IsSameAt (overlay store old.writes) (overlay store new.writes) place
  same store place apart =
      content-overlay store old.writes place old_in_order ∙ (ap (λ o. put_over o (content_of store place)) (left (reaches.writes place)) ∙ sym (content-overlay store new.writes place new_in_order))
    where
      left : (place ≡ metadata) ⊎ (words_at new.writes place ≡ words_at old.writes place) → words_at old.writes place ≡ words_at new.writes place
      left (inl here) = absurd (apart here)
      left (inr is) = sym is

  only_reserved : (place : Place) → IsReserved old.shape place.block ⊎ (words_at new.writes place ≡ words_at old.writes place)
  only_reserved place = of (reaches.writes place)
    where
      of : (place ≡ metadata) ⊎ (words_at new.writes place ≡ words_at old.writes place) → IsReserved old.shape place.block ⊎ (words_at new.writes place ≡ words_at old.writes place)
      of (inl here) = inl (subst (λ (p : Place). IsReserved old.shape p.block) (sym here) (omega arith))
      of (inr is) = inr is

  reached : (g : Graph) (call : Call) {contents : Contents} {k : Graph} (is : Represents old.shape contents k) (place : Place) → place ≡ metadata → IsReached old.shape g call is.vertices is.edges place
  reached g call is place here = record {
    rank = 0;
    object = Reserved 0;
    on = inl (omega (arith, ranges.ranks), omega arith);
    here = sym here;
    near = inl refl;
  }

  module _ {call : Call} {reply : Reply} (store : Contents) (g : Graph) (is : Represents old.shape (overlay store old.writes) g) (labels : List Name) (types : List PropType) where
    names_did : graph_after_call old.shape g call ≡ record g { labels = labels; types = types } → reply ≡ reply_to old.shape g call → IsWellFormed (record g { labels = labels; types = types })
        → (made : MetaHolder) → HasNames (overlay store new.writes) made → names_words made.labels (map type_of made.types) ≡ names_words labels types
        → HasIndex old.shape (overlay store old.writes) (length labels) g.vertices
        → AllByRecursion (λ entry. SameProps types g.types entry.1.props) g.vertices → AllByRecursion (λ entry. SameProps types g.types entry.1.props) (heavy_edges g.edges)
        → make_of old.shape g call ≡ None → DoesCall old.shape call reply store old.writes new.writes g is
    names_did after answer fits made holds spelled index vertex_props edge_props unmade = doing.does_to is (record g { labels = labels; types = types }) is.vertices is.edges after answer fits
        (names_changed old.shape (overlay store old.writes) (overlay store new.writes) g is.vertices is.edges is.represented (same store) labels types (holds.words ∙ spelled) holds.within index vertex_props edge_props)
        (λ rank object on. doing.stays_there store (there old.shape g labels types rank object on) refl)
        (λ rank _. doing.made_same old.shape store old.writes new.writes rank only_reserved ∙ doing.makes_no_more old.shape g call rank (made_objects old.shape store old.writes rank) unmade)

  -- what a call on names does
  module _ {call : Call} {reply : Reply}
      (did : (store : Contents) (g : Graph) (is : Represents old.shape (overlay store old.writes) g) → Agrees new.reads store → DoesCall old.shape call reply store old.writes new.writes g is)
      (unmade : (g : Graph) → make_of old.shape g call ≡ None) where
    applies : AppliesCall call old new reply
    applies = record {
      did = did;
      reads = λ store g is agrees place. elim (reaches.reads place) [ inl here ↦ inr (inl (reached g call is place here)) | inr unread ↦ inr (inr unread) ];
      writes = λ store g is agrees place. elim (reaches.writes place) [ inl here ↦ inr (inl (reached g call is place here)) | inr unwritten ↦ inr (inr unwritten) ];
      room = λ most told g is rank makes. absurd (nowhere rank (sym (unmade g) ∙ makes));
    }
      where
        nowhere : (rank : ℕ) → None ≡ Some rank → ⊥
        nowhere rank never = cc

  all : {X : Type 0} (P : X → Type 0) → ((x : X) → P x) → (xs : List X) → AllByRecursion P xs
  all P f [] = tt
  all P f (x ∷ xs) = (f x, all P f xs)

  pub label_applied : {name : Name} {reply : Reply} → IsName name → Changes HasNames size (meta.new_label name) old new reply → AppliesCall (NewLabel name) old new reply
  label_applied {name} {reply} is_name changes = applies did (λ g. refl)
    where
      did : (store : Contents) (g : Graph) (is : Represents old.shape (overlay store old.writes) g) → Agrees new.reads store → DoesCall old.shape (NewLabel name) reply store old.writes new.writes g is
      did store g is agrees =
          let h : Graph = record g { labels = g.labels ++ name ∷ [] } in
          let made : MetaHolder = record (names_of g) { labels = g.labels ++ name ∷ [] } in
          let held = represents_names old.shape (overlay store old.writes) g is in
          let spelled = ap (names_words (g.labels ++ name ∷ [])) (types_back g.types) in
          let sized : size made ≡ words_of_names h = ap length spelled ∙ names_size h in
          let answered = changes.answer store (names_of g) agrees held ∙ (replied (is_some (label_number g name)) made ∙ ap (λ n. cond (is_some (label_number g name)) Exists (cond (is_too_large n) TooLarge Done)) sized) in
          elim (ends old.shape g h (NewLabel name) (is_some (label_number g name)) (is_too_large (words_of_names h)) refl answered) [
            | inl left ↦ doing.leaves is left.0 left.1 (changes.unchanged left.2).writes
            | inr done ↦
                let holds = subst (λ b. IfMade (HasNames (overlay store new.writes)) (cond b (Refused Exists) (Made made))) done.3 (changes.changed done.2 store (names_of g) agrees held) in
                names_did store g is (g.labels ++ name ∷ []) g.types done.0 done.1 (well.new_label g name is.well_formed is_name done.3) made holds spelled
                (index_with_label old.shape (overlay store old.writes) g name is.well_formed is.represented.index)
                (all (λ entry. SameProps g.types g.types entry.1.props) (λ _. refl) g.vertices) (all (λ entry. SameProps g.types g.types entry.1.props) (λ _. refl) (heavy_edges g.edges)) refl
          ]

  pub type_applied : {name : Name} {kind : Kind} {many : Bool} {reply : Reply} → IsName name
      → Changes HasNames size (meta.new_type (record { name = name; kind = kind; many = many })) old new reply → AppliesCall (NewType name kind many) old new reply
  type_applied {name} {kind} {many} {reply} is_name changes = applies did (λ g. refl)
    where
      did : (store : Contents) (g : Graph) (is : Represents old.shape (overlay store old.writes) g) → Agrees new.reads store
          → DoesCall old.shape (NewType name kind many) reply store old.writes new.writes g is
      did store g is agrees =
          let type : PropType = record { name = name; kind = kind; many = many } in
          let line : TypeLine = record { name = name; kind = kind; many = many } in
          let h : Graph = record g { types = g.types ++ type ∷ [] } in
          let made : MetaHolder = record (names_of g) { types = (names_of g).types ++ line ∷ [] } in
          let held = represents_names old.shape (overlay store old.writes) g is in
          let spelled : names_words g.labels (map type_of made.types) ≡ names_words g.labels (g.types ++ type ∷ []) =
          ap (names_words g.labels) (map-append type_of (names_of g).types (line ∷ []) ∙ ap (λ (ts : List PropType). ts ++ type ∷ []) (types_back g.types)) in
          let sized : size made ≡ words_of_names h = ap length spelled ∙ names_size h in
          let found : is_some (meta.type_number name (names_of g)) ≡ is_some (type_number g name) = ap is_some (numbers g.types) in
          let answered = changes.answer store (names_of g) agrees held
          ∙ (replied (is_some (meta.type_number name (names_of g))) made
          ∙ (ap (λ n. cond (is_some (meta.type_number name (names_of g))) Exists (cond (is_too_large n) TooLarge Done)) sized
          ∙ ap (λ b. cond b Exists (cond (is_too_large (words_of_names h)) TooLarge Done)) found)) in
          elim (ends old.shape g h (NewType name kind many) (is_some (type_number g name)) (is_too_large (words_of_names h)) refl answered) [
            | inl left ↦ doing.leaves is left.0 left.1 (changes.unchanged left.2).writes
            | inr done ↦
                let holds = subst (λ b. IfMade (HasNames (overlay store new.writes)) (cond b (Refused Exists) (Made made))) (found ∙ done.3) (changes.changed done.2 store (names_of g) agrees held) in
                names_did store g is g.labels (g.types ++ type ∷ []) done.0 done.1 (well.new_type g name kind many is.well_formed is_name done.3) made holds spelled is.represented.index
                (All-map (λ entry. VertexFits g entry.0 entry.1) (λ entry. SameProps (g.types ++ type ∷ []) g.types entry.1.props) (λ entry fits. props_stay g type entry.1.props fits.props.1) g.vertices is.well_formed.each_vertex)
                (All-filter _ (λ entry. SameProps (g.types ++ type ∷ []) g.types entry.1.props) _ (λ entry _ fits. props_stay g type entry.1.props fits.props.1) g.edges is.well_formed.each_edge) refl
          ]
        where
          numbers : (types : List PropType) → place_where (λ (line : TypeLine). bytes_eq name line.name) (map (λ (one : PropType). record { name = one.name; kind = one.kind; many = one.many }) types) ≡ place_where (λ (one : PropType). bytes_eq name one.name) types
          numbers [] = refl
          numbers (one ∷ more) = ap (λ o. cond (bytes_eq name one.name) (Some 0) (option_map suc o)) (numbers more)
