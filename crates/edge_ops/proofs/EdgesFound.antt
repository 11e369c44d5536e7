-- What the record at the source of an edge, and the object of a heavy edge, tell of the edge.
use Rattle.std.proofs.Common.{◌≡◌, ◌∙◌, ℕ, ◌^◌, ◌<◌, Bool, true, false, cond, eqb, eq-eqb, ◌||◌, List, [], ◌∷◌, length, Option, Some, None, refl, sym, ap, subst, ◌⊎◌, inl, inr, arith}
use Rattle.std.specs.Option.{option_map, option_map_or, MatchOption}
use Rattle.std.specs.Prelude.{IsTrue, nat_lt}
use Rattle.std.specs.List.{AllByRecursion}
use Rattle.std.proofs.lemmas.Bool.{and_from}
use Rattle.std.proofs.lemmas.Bool.Decides.{nat_tests}
use Rattle.rma_layout.specs.Shape.{Shape}
use Rattle.rma_layout.specs.Placement.{Place, IsBlock}
use Rattle.object_words.specs.Contents.{Contents, Agrees, IsByRisingObject, content_of, overlay}
use Rattle.graph_model.specs.Graph.{PropType, Props, is_heavy}
use Rattle.graph_model.proofs.Entries.{same_value, nothing}
use Rattle.object_store.specs.State.{StoreState, committed}
use Rattle.object_store.specs.Works.{Looks, Reaches}
use Rattle.object_store.proofs.Works.{looks-then}
use Rattle.object_store.proofs.Working.{stays-same}
use Rattle.holder_codec.specs.declared.edge_form.EdgeForm.{EdgeForm}
use Rattle.holder_codec.specs.declared.edge_form.EdgeForm.TheVariants.{Plain, Labelled, Heavy}
use Rattle.holder_codec.specs.declared.edge_holder.EdgeHolder.{EdgeHolder}
use Rattle.holder_codec.specs.declared.edge_record.EdgeRecord.{EdgeRecord}
use Rattle.holder_codec.specs.declared.vertex_holder.VertexHolder.{VertexHolder}
use Rattle.holder_codec.specs.declared.held_prop.HeldProp.{HeldProp}
use Rattle.holder_codec.specs.Order.{is_rising}
use Rattle.holder_codec.specs.Edges.{RecordFits}
use Rattle.holder_codec.specs.EdgeObject.{IsEdgeHolder, edge_object_words}
use Rattle.holder_codec.specs.Holders.{held_props}
use Rattle.holder_codec.specs.Represents.{light_form}
use Rattle.holder_codec.specs.Vertex.{IsVertexHolder, LabelFits, vertex_words}
use Rattle.holder_codec.proofs.EdgeObjectLaws.{edge_same}
use Rattle.held_objects.specs.Changes.{Holds, any}
use Rattle.held_objects.specs.Held.{FindsHolder, IsSpelled}
use Rattle.held_objects.specs.Knows.{Knows}
use Rattle.held_objects.proofs.Knows.{before, knows_after, still}
use Rattle.vertex_ops.specs.Vertices.{HoldsVertex, KnowsVertex}
use Rattle.edge_ops.specs.Records.{record_for}
use Rattle.edge_ops.specs.HeldEdges.{AtEdge, Footprint, HeldEdge, HeldOut, HoldsEdge, HoldsOut, HoldsOwn, IsBeyond, KnowsOut, edge_holder_for, form_of_held, is_edge_to, out_key, record_at_source}
use Rattle.edge_ops.specs.Loading.{LoadsEdge, edge_found}
use Rattle.edge_ops.specs.Opening.{FindsEdge, IsAtRecord, IsOwnSpelled, MatchForm, OwnIsBlock, light_holder}
use Rattle.edge_ops.proofs.Finding.{found_is}

-- ---- forms

pub heavy_is : (held : HeldEdge) (at : Place) → form_of_held held ≡ Heavy at → (is_heavy held.edge ≡ true) × (held.own_at ≡ at)
heavy_is held at is = cases (is_heavy held.edge) refl is
  where
    light : (labels : List ℕ) → light_form labels ≡ Heavy at → ⊥
    light [] e = cc e
    light (l ∷ ls) e = cc e

    cases : (heavy : Bool) → is_heavy held.edge ≡ heavy → cond heavy (Heavy held.own_at) (light_form held.edge.labels) ≡ Heavy at → (is_heavy held.edge ≡ true) × (held.own_at ≡ at)
    cases true heavy e = (heavy, cc e)
    cases false heavy e = absurd (light held.edge.labels e)

-- an edge with a light form isn't heavy
pub light_alone : (held : HeldEdge) (form : EdgeForm) → form_of_held held ≡ form → MatchForm form (λ _. is_heavy held.edge ≡ true → ⊥) (λ _. Unit {0})
light_alone held Plain is = λ heavy. let same : Heavy held.own_at ≡ Plain = ap (λ b. cond b (Heavy held.own_at) (light_form held.edge.labels)) (sym heavy) ∙ is in cc same
light_alone held (Labelled l) is = λ heavy. let same : Heavy held.own_at ≡ Labelled l = ap (λ b. cond b (Heavy held.own_at) (light_form held.edge.labels)) (sym heavy) ∙ is in cc same
light_alone held (Heavy at) is = tt

-- an edge that isn't heavy has no property, and its form has its labels
light_parts : (Light : List ℕ → Type 0) (Other : Place → Type 0) (labels : List ℕ) (props : Props) → (nat_lt 1 (length labels) || nat_lt 0 (length props)) ≡ false
    → MatchForm (light_form labels) Light Other → (props ≡ []) × Light labels
light_parts Light Other [] [] few is = (refl, is)
light_parts Light Other (l ∷ []) [] few is = (refl, is)
light_parts Light Other (l ∷ m ∷ ls) [] few is = absurd (grind (arith, nat_tests, few))
light_parts Light Other [] (p ∷ ps) few is = absurd (grind (arith, nat_tests, few))
light_parts Light Other (l ∷ []) (p ∷ ps) few is = absurd (grind (arith, nat_tests, few))
light_parts Light Other (l ∷ m ∷ ls) (p ∷ ps) few is = absurd (grind (arith, nat_tests, few))

module _ {N : Type 0} (types : List PropType) (id ordinal : ℕ) (one : HeldEdge) {mid new : StoreState N} {got : EdgeHolder} where
  -- what is found is the edge
  pub edge_is : FindsEdge id (record_at_source ordinal one) mid new got
      → (IsSpelledAs : (at : Place) → FindsHolder IsEdgeHolder edge_object_words at mid new got → is_heavy one.edge ≡ true → one.own_at ≡ at → got ≡ edge_holder_for types id ordinal one.edge)
      → got ≡ edge_holder_for types id ordinal one.edge
  edge_is found spelled = cases (is_heavy one.edge) refl found
    where
      cases : (heavy : Bool) → is_heavy one.edge ≡ heavy
          → MatchForm (cond heavy (Heavy one.own_at) (light_form one.edge.labels)) (λ ls. (got ≡ light_holder id (record_at_source ordinal one) ls) × (new ≡ mid)) (λ at. FindsHolder IsEdgeHolder edge_object_words at mid new got)
          → got ≡ edge_holder_for types id ordinal one.edge
      cases true heavy is = spelled one.own_at is heavy refl
      cases false heavy is =
          let parts = light_parts (λ ls. (got ≡ light_holder id (record_at_source ordinal one) ls) × (new ≡ mid)) (λ at. FindsHolder IsEdgeHolder edge_object_words at mid new got) one.edge.labels one.edge.props heavy is in
          parts.1.0 ∙ ap (λ (props : Props). record { source = id; ordinal = ordinal; target = one.edge.target; labels = one.edge.labels; props = held_props types props }) (sym parts.0)

-- what a light edge is has a spelling
pub light_is_holder : (id : ℕ) (edge : EdgeRecord) (labels : List ℕ) (props : List HeldProp) → id < 2 ^ 64 → RecordFits edge → AllByRecursion LabelFits labels → IsTrue (is_rising nat_lt labels) → props ≡ []
    → IsEdgeHolder (record { source = id; ordinal = edge.ordinal; target = edge.other; labels = labels; props = props })
light_is_holder id edge labels props small fits fit rise none =
    subst (λ (ps : List HeldProp). IsEdgeHolder (record { source = id; ordinal = edge.ordinal; target = edge.other; labels = labels; props = ps })) (sym none)
    (record { source = small; ordinal = fits.ordinal; target = fits.other; labels = fit; labels_rise = rise; props = tt; props_rise = refl })

pub spelled_by_form : {N : Type 0} {form : EdgeForm} {at : Place} {state : StoreState N} → form ≡ Heavy at → Knows (IsOwnSpelled form) state → Knows (IsSpelled IsEdgeHolder edge_object_words at) state
spelled_by_form {state = state} is known = subst (λ (form : EdgeForm). Knows (IsOwnSpelled form) state) is known

-- it is only looked at
pub edge_looks : {N : Type 0} {mid new : StoreState N} (id : ℕ) (edge : EdgeRecord) (got : EdgeHolder) → FindsEdge id edge mid new got → Looks mid new
edge_looks {N} {mid} {new} id edge got found = cases edge.form found
  where
    same : (new ≡ mid) → Looks mid new
    same is = subst (Looks mid) (sym is) (record { stays = stays-same; writes = refl })

    cases : (form : EdgeForm) → MatchForm form (λ labels. (got ≡ light_holder id edge labels) × (new ≡ mid)) (λ at. FindsHolder IsEdgeHolder edge_object_words at mid new got) → Looks mid new
    cases Plain is = same is.1
    cases (Labelled l) is = same is.1
    cases (Heavy at) is = is.looks

pub out_any : {N : Type 0} {source : Place} {ordinal : ℕ} {passes : HeldOut → Bool} {state : StoreState N} → KnowsOut source ordinal passes state → KnowsOut source ordinal any state
out_any known = record {
  always = λ store may.
      let is = known.always store may in
      record { part = is.part; has = is.has; passed = refl };
  ordered = known.ordered;
}

pub source_known : {N : Type 0} {source : Place} {ordinal : ℕ} {passes : HeldOut → Bool} {state : StoreState N} → KnowsOut source ordinal passes state → KnowsVertex source any state
source_known known = record {
  always = λ store may.
      let is = known.always store may in
      record { part = is.part.source; has = is.has.at_source; passed = refl };
  ordered = known.ordered;
}

-- ---- an edge by its record

-- an edge of which this is the record at its source
pub record IsOfRecord (shape : Shape) (source : Place) (ordinal : ℕ) (edge : EdgeRecord) (contents : Contents) (held : HeldOut) : Type 0 where
  pub one : HeldEdge
  pub is : held.found ≡ Some one
  pub of : record_at_source ordinal one ≡ edge
  pub holds : HoldsEdge shape source ordinal contents held.source one

module _ {shape : Shape} {source : Place} {ordinal : ℕ} {edge : EdgeRecord} {contents : Contents} {held : HeldOut} (e : IsOfRecord shape source ordinal edge contents held) where
  -- the objects that the record tells are at the edge
  pub beyond_is : (place : Place) → (place ≡ edge.other_at) ⊎ (edge.form ≡ Heavy place) → IsBeyond held place
  beyond_is place is = subst (λ (o : Option HeldEdge). MatchOption o ⊥ (λ one. (place ≡ one.target_at) ⊎ ((is_heavy one.edge ≡ true) × (place ≡ one.own_at)))) (sym e.is) (either is)
    where
      either : (place ≡ edge.other_at) ⊎ (edge.form ≡ Heavy place) → (place ≡ e.one.target_at) ⊎ ((is_heavy e.one.edge ≡ true) × (place ≡ e.one.own_at))
      either (inl target) = inl (target ∙ sym (ap (λ (r : EdgeRecord). r.other_at) e.of))
      either (inr own) =
          let heavy = heavy_is e.one place (ap (λ (r : EdgeRecord). r.form) e.of ∙ own) in
          inr (heavy.0, sym heavy.1)

  -- a heavy edge's own object, by the form of the record
  pub own_held : (at : Place) → edge.form ≡ Heavy at → HoldsOwn shape source ordinal contents held.source e.one × (e.one.own_at ≡ at)
  own_held at is =
      let heavy = heavy_is e.one at (ap (λ (r : EdgeRecord). r.form) e.of ∙ is) in
      (e.holds.heavy heavy.0, heavy.1)

  pub own_spelled : IsOwnSpelled edge.form shape contents
  own_spelled = cases edge.form refl
    where
      cases : (form : EdgeForm) → edge.form ≡ form → MatchForm form (λ _. Unit {0}) (λ at. IsSpelled IsEdgeHolder edge_object_words at shape contents)
      cases Plain _ = tt
      cases (Labelled l) _ = tt
      cases (Heavy at) is =
          let own = own_held at is in
          record {
            held = edge_holder_for held.source.types held.source.id ordinal e.one.edge;
            is = own.0.own.holder;
            words = subst (λ (at : Place). content_of contents at ≡ edge_object_words (edge_holder_for held.source.types held.source.id ordinal e.one.edge)) own.1 own.0.own.words;
          }

  pub own_block : OwnIsBlock edge.form shape
  own_block = cases edge.form refl
    where
      cases : (form : EdgeForm) → edge.form ≡ form → OwnIsBlock form shape
      cases Plain _ = tt
      cases (Labelled l) _ = tt
      cases (Heavy at) is =
          let own = own_held at is in
          subst (IsBlock shape) own.1 own.0.block

  pub footprint_is : {N : Type 0} {old new : StoreState N} {Makes : ℕ → Type 0} → Reaches (IsAtRecord source edge) Makes old new → Footprint source held old new
  footprint_is {N} {old} {new} reaches = record { reads = λ place. told place (reaches.reads place); writes = λ place. told place (reaches.writes place) }
    where
      told : {C : Type 0} (place : Place) → IsAtRecord source edge place ⊎ C → (place ≡ source) ⊎ IsBeyond held place ⊎ C
      told place (inl (inl is)) = inl is
      told place (inl (inr is)) = inr (inl (beyond_is place is))
      told place (inr same) = inr (inr same)

pub ordered_mid : {N : Type 0} {source : Place} {old mid : StoreState N} {from : VertexHolder} → FindsHolder IsVertexHolder vertex_words source old mid from → IsByRisingObject mid.writes
ordered_mid found = subst IsByRisingObject (sym found.looks.writes) found.in_order

module _ {N : Type 0} {source : Place} {ordinal : ℕ} {old mid : StoreState N} {from : VertexHolder} (found : FindsHolder IsVertexHolder vertex_words source old mid from) where
  module _ (store : Contents) (held : HeldOut) (agrees : Agrees mid.reads store) (has : HoldsOut old.shape source ordinal (overlay store old.writes) held) where
    record_is : record_for from.edges (out_key ordinal) ≡ option_map (record_at_source ordinal) held.found
    record_is = ap (λ (h : VertexHolder). record_for h.edges (out_key ordinal)) (found_is found store held.source agrees has.at_source) ∙ has.record_here

    pub edge_there : (edge : EdgeRecord) → record_for from.edges (out_key ordinal) ≡ Some edge → IsOfRecord old.shape source ordinal edge (overlay store old.writes) held
    edge_there edge there = cases held.found refl (sym record_is ∙ there) has.edge
      where
        cases : (o : Option HeldEdge) → held.found ≡ o → option_map (record_at_source ordinal) o ≡ Some edge → MatchOption o (Unit {0}) (HoldsEdge old.shape source ordinal (overlay store old.writes) held.source)
            → IsOfRecord old.shape source ordinal edge (overlay store old.writes) held
        cases None is none holds = nothing edge none
        cases (Some one) is some holds = record { one = one; is = is; of = same_value (record_at_source ordinal one) edge some; holds = holds }

    pub none_there : record_for from.edges (out_key ordinal) ≡ None → held.found ≡ None
    none_there none = cases held.found refl (sym record_is ∙ none)
      where
        cases : (o : Option HeldEdge) → held.found ≡ o → option_map (record_at_source ordinal) o ≡ None → held.found ≡ None
        cases None is _ = is
        cases (Some one) is some = nothing (record_at_source ordinal one) (sym some)

  module _ (known : KnowsOut source ordinal any old) where
    pub own_known : (edge : EdgeRecord) → record_for from.edges (out_key ordinal) ≡ Some edge → Knows (IsOwnSpelled edge.form) mid
    own_known edge there =
        knows_after found.looks.stays (ordered_mid found) (λ store may agrees.
        let is = known.always store may in
        subst (λ (writes : Contents). IsOwnSpelled edge.form old.shape (overlay store writes)) (sym found.looks.writes)
        (own_spelled (edge_there store is.part agrees is.has edge there)))

    -- some edge of the record is there
    pub some_edge : (edge : EdgeRecord) → record_for from.edges (out_key ordinal) ≡ Some edge → (held : HeldOut) × IsOfRecord old.shape source ordinal edge (overlay (committed mid) old.writes) held
    some_edge edge there =
        let is = known.always (committed mid) (before found.looks.stays (committed mid) found.stands) in
        (is.part, edge_there (committed mid) is.part found.stands.agrees is.has edge there)

    pub own_is_block : (edge : EdgeRecord) → record_for from.edges (out_key ordinal) ≡ Some edge → OwnIsBlock edge.form mid.shape
    own_is_block edge there = subst (OwnIsBlock edge.form) (sym found.looks.stays.shape) (own_block (some_edge edge there).1)

    pub target_is_block : (edge : EdgeRecord) → record_for from.edges (out_key ordinal) ≡ Some edge → IsBlock old.shape edge.other_at
    target_is_block edge there =
        let e = (some_edge edge there).1 in
        subst (IsBlock old.shape) (ap (λ (r : EdgeRecord). r.other_at) e.of) e.holds.block

    pub target_known : (edge : EdgeRecord) → record_for from.edges (out_key ordinal) ≡ Some edge → KnowsVertex edge.other_at any mid
    target_known edge there =
        knows_after found.looks.stays (ordered_mid found) (λ store may agrees.
        let is = known.always store may in
        let e = edge_there store is.part agrees is.has edge there in
        subst (λ (writes : Contents). Holds (HoldsVertex edge.other_at) any old.shape (overlay store writes)) (sym found.looks.writes)
        (record { part = e.one.target; has = subst (λ (place : Place). HoldsVertex place (overlay store old.writes) e.one.target) (ap (λ (r : EdgeRecord). r.other_at) e.of) e.holds.at_target; passed = refl }))

    -- the objects that the record tells are at the edge in a store at which the transaction may be
    pub record_reached : (edge : EdgeRecord) → record_for from.edges (out_key ordinal) ≡ Some edge → (place : Place) → IsAtRecord source edge place → AtEdge source ordinal old old.shape place
    record_reached edge there place (inl is) = inl is
    record_reached edge there place (inr is) =
        let store = committed mid in
        let may = before found.looks.stays store found.stands in
        let held = known.always store may in
        inr (record {
          store = store;
          may = may;
          held = held.part;
          holds = held.has;
          beyond = beyond_is (edge_there store held.part found.stands.agrees held.has edge there) place is;
        })

    -- ---- what is loaded

    pub loads_none : {Makes : ℕ → Type 0} → record_for from.edges (out_key ordinal) ≡ None → Reaches (λ place. place ≡ source) Makes old mid → LoadsEdge source ordinal old mid None
    loads_none none reaches = record {
      looks = found.looks;
      found = λ store held agrees has. sym (ap (option_map (edge_found held ordinal)) (none_there store held agrees has none));
      footprint = λ store held agrees has. record { reads = λ place. or_beyond (reaches.reads place); writes = λ place. or_beyond (reaches.writes place) };
      known = still found.looks known;
      source_known = still found.looks (source_known known);
      there = tt;
      kept = λ passes. still found.looks;
    }
      where
        or_beyond : {A B C : Type 0} → A ⊎ C → A ⊎ B ⊎ C
        or_beyond (inl a) = inl a
        or_beyond (inr c) = inr (inr c)

    module _ (edge : EdgeRecord) (there : record_for from.edges (out_key ordinal) ≡ Some edge) (new : StoreState N) (got : EdgeHolder) (finds : FindsEdge from.id edge mid new got) where
      agreed : (store : Contents) → Agrees new.reads store → Agrees mid.reads store
      agreed store agrees place words is = agrees place words ((edge_looks from.id edge got finds).stays.reads place words is)

      looks_on : Looks old new
      looks_on = looks-then found.looks (edge_looks from.id edge got finds)

      module _ (store : Contents) (held : HeldOut) (agrees : Agrees mid.reads store) (agrees_new : Agrees new.reads store) (has : HoldsOut old.shape source ordinal (overlay store old.writes) held) where
        e : IsOfRecord old.shape source ordinal edge (overlay store old.writes) held
        e = edge_there store held agrees has edge there

        got_is : got ≡ edge_holder_for held.source.types held.source.id ordinal e.one.edge
        got_is =
            let id_is : from.id ≡ held.source.id = ap (λ (h : VertexHolder). h.id) (found_is found store held.source agrees has.at_source) in
            let finds_it : FindsEdge held.source.id (record_at_source ordinal e.one) mid new got =
            subst (λ (id : ℕ). FindsEdge id (record_at_source ordinal e.one) mid new got) id_is (subst (λ (r : EdgeRecord). FindsEdge from.id r mid new got) (sym e.of) finds) in
            edge_is held.source.types held.source.id ordinal e.one finds_it (λ at own heavy place.
            let spelled = (e.holds.heavy heavy).own in
            edge_same got (edge_holder_for held.source.types held.source.id ordinal e.one.edge) own.is spelled.holder
            (sym (own.words store agrees_new) ∙ (ap (λ (w : Contents). content_of (overlay store w) at) found.looks.writes ∙ (ap (λ (p : Place). content_of (overlay store old.writes) p) (sym place) ∙ spelled.words))))

        found_here : Some (record { undirected = edge.undirected; holder = got }) ≡ option_map (edge_found held ordinal) held.found
        found_here = (λ i. Some (record { undirected = (sym e.of i).undirected; holder = got_is i })) ∙ ap (option_map (edge_found held ordinal)) (sym e.is)

        named_here : is_edge_to got.source got.target held ≡ true
        named_here =
            and_from (eqb held.source.id got.source) (option_map_or (λ one. eqb one.edge.target got.target) held.found false) (eq-eqb held.source.id got.source (sym (ap (λ (h : EdgeHolder). h.source) got_is)))
            (ap (λ (o : Option HeldEdge). option_map_or (λ one. eqb one.edge.target got.target) o false) e.is ∙ eq-eqb e.one.edge.target got.target (sym (ap (λ (h : EdgeHolder). h.target) got_is)))

      pub loads_some : {Makes : ℕ → Type 0} → Reaches (IsAtRecord source edge) Makes old new → LoadsEdge source ordinal old new (Some (record { undirected = edge.undirected; holder = got }))
      loads_some reaches = record {
        looks = looks_on;
        found = λ store held agrees has. found_here store held (agreed store agrees) agrees has;
        footprint = λ store held agrees has. footprint_is (edge_there store held (agreed store agrees) has edge there) reaches;
        known = still looks_on known;
        source_known = still looks_on (source_known known);
        there =
            knows_after looks_on.stays (subst IsByRisingObject (sym looks_on.writes) found.in_order) (λ store may agrees.
            let is = known.always store may in
            subst (λ (writes : Contents). Holds (HoldsOut old.shape source ordinal) (is_edge_to got.source got.target) old.shape (overlay store writes)) (sym looks_on.writes)
            (record { part = is.part; has = is.has; passed = named_here store is.part (agreed store agrees) agrees is.has }));
        kept = λ passes. still looks_on;
      }
