-- All edges of a vertex are gone from both their ends, and their own objects are empty.
use Rattle.std.proofs.Common.{◌≡◌, ◌≢◌, ◌∙◌, ℕ, ◌≤◌, zero, suc, Bool, true, false, cond, map, List, [], ◌∷◌, length, refl, sym, ap, subst, ◌⊎◌, inl, inr, arith}
use Rattle.std.specs.Prelude.{not}
use Rattle.std.specs.List.{Contains, filter}
use Rattle.std.specs.List.Sorted.{IsPermutation}
use Rattle.rma_layout.specs.Shape.{Shape}
use Rattle.rma_layout.specs.Placement.{IsBlock, Place, same_place}
use Rattle.object_words.specs.Contents.{Contents, Agrees, IsByRisingObject, content_of, overlay, words_at}
use Rattle.object_words.proofs.Overlays.{content-overlay, put_over}
use Rattle.graph_model.specs.Sizes.{most_words}
use Rattle.object_store.specs.State.{StoreState, committed}
use Rattle.object_store.specs.Calls.{WritesObject}
use Rattle.object_store.specs.Works.{Reaches}
use Rattle.holder_codec.specs.declared.edge_form.EdgeForm.{EdgeForm}
use Rattle.holder_codec.specs.declared.edge_form.EdgeForm.TheVariants.{Plain, Labelled, Heavy}
use Rattle.holder_codec.specs.declared.edge_record.EdgeRecord.{EdgeRecord}
use Rattle.holder_codec.specs.declared.vertex_holder.VertexHolder.{VertexHolder}
use Rattle.holder_codec.specs.EdgeObject.{IsEdgeHolder, edge_object_words}
use Rattle.holder_codec.specs.Vertex.{IsVertexHolder, vertex_words}
use Rattle.held_objects.specs.Changes.{Holds, any}
use Rattle.held_objects.specs.Held.{FindsHolder, IsSpelled}
use Rattle.held_objects.specs.Knows.{Knows}
use Rattle.held_objects.proofs.Changes.{read_part}
use Rattle.held_objects.proofs.Knows.{before, knows_after}
use Rattle.holder_codec.proofs.Lengths.{length-vertex_words, vertex_same}
use Rattle.std.proofs.lemmas.List.Sorted.{Contains-permutation, IsPermutation-sym}
use Rattle.vertex_ops.specs.Vertices.{HoldsVertex, IsOrderly, KnowsVertex, holder_for}
use Rattle.edge_ops.specs.CuttingAll.{AtEdges, HeldAround, HoldsAround, HoldsFar, CutsAll, IsAround, IsCutOff, KnowsAround, apart_from}
use Rattle.edge_ops.specs.Opening.{IsOwnSpelled}
use Rattle.edge_ops.specs.Parting.{ClearsOwns, IsOwnAmong, OpensOwns, OwnIsKnown, PartsEnds, far_ends, is_among}
use Rattle.edge_ops.proofs.EdgeForms.{own_now}
use Rattle.edge_ops.proofs.EdgesParted.{among_contains}
use Rattle.edge_ops.proofs.EndsChanged.{held_as, same_elsewhere}
use Rattle.edge_ops.proofs.EndsWritten.{same_apart, same_itself}
use Rattle.edge_ops.proofs.EdgesFound.{ordered_mid}
use Rattle.edge_ops.proofs.Finding.{found_is}

pub around_vertex : {N : Type 0} {at : Place} {state : StoreState N} → KnowsAround at state → KnowsVertex at any state
around_vertex known = record {
  always = λ store may.
      let k = known.always store may in
      record { part = k.part.vertex; has = k.has.here; passed = refl };
  ordered = known.ordered;
}

module _ {N : Type 0} {at : Place} {old mid : StoreState N} {holder : VertexHolder} (found : FindsHolder IsVertexHolder vertex_words at old mid holder) (known : KnowsAround at old) where
  module _ (store : Contents) (held : HeldAround) (agrees : Agrees mid.reads store) (has : HoldsAround old.shape at (overlay store old.writes) held) where
    edges_are : holder.edges ≡ held.vertex.edges
    edges_are = ap (λ (h : VertexHolder). h.edges) (found_is found store held.vertex agrees has.here)

    pub among_held : (edge : EdgeRecord) → Contains holder.edges edge → Contains held.vertex.edges edge
    among_held edge is = subst (λ (es : List EdgeRecord). Contains es edge) edges_are is

    pub far_there : (edge : EdgeRecord) → Contains holder.edges edge → HoldsFar old.shape at (overlay store old.writes) held edge
    far_there edge is = has.each edge (among_held edge is)

  some_around : Holds (λ contents held. HoldsAround old.shape at contents held) any old.shape (overlay (committed mid) old.writes)
  some_around = known.always (committed mid) (before found.looks.stays (committed mid) found.stands)

  some_far : (edge : EdgeRecord) → Contains holder.edges edge → HoldsFar old.shape at (overlay (committed mid) old.writes) some_around.part edge
  some_far = far_there (committed mid) some_around.part found.stands.agrees some_around.has

  -- what the calls on the objects at the edges need
  pub own_known : (edge : EdgeRecord) → Contains holder.edges edge → OwnIsKnown edge.form mid
  own_known edge is = cases edge.form refl
    where
      nothing_known : (form : EdgeForm) → ((store : Contents) → IsOwnSpelled form old.shape (overlay store mid.writes)) → Knows (IsOwnSpelled form) mid
      nothing_known form always = knows_after found.looks.stays (ordered_mid found) (λ store _ _. always store)

      cases : (form : EdgeForm) → edge.form ≡ form → OwnIsKnown form mid
      cases Plain form = record { block = tt; spelled = nothing_known Plain (λ _. tt) }
      cases (Labelled l) form = record { block = tt; spelled = nothing_known (Labelled l) (λ _. tt) }
      cases (Heavy own) form = record {
        block = subst (λ (shape : Shape). IsBlock shape own) (sym found.looks.stays.shape) ((some_far edge is).own own form).block;
        spelled = knows_after found.looks.stays (ordered_mid found) (λ store may agrees.
            let k = known.always store may in
            subst (λ (w : Contents). IsSpelled IsEdgeHolder edge_object_words own old.shape (overlay store w)) (sym found.looks.writes) ((far_there store k.part agrees k.has edge is).own own form).spelled);
      }

  pub end_block : (edge : EdgeRecord) → Contains holder.edges edge → IsBlock old.shape edge.other_at
  end_block edge is = (some_far edge is).block

  pub end_known : (edge : EdgeRecord) → Contains holder.edges edge → KnowsVertex edge.other_at any mid
  end_known edge is =
      knows_after found.looks.stays (ordered_mid found) (λ store may agrees.
      let k = known.always store may in
      let it = far_there store k.part agrees k.has edge is in
      subst (λ (w : Contents). Holds (HoldsVertex edge.other_at) any old.shape (overlay store w)) (sym found.looks.writes) (record { part = k.part.others edge.other; has = it.far; passed = refl }))

  pub own_not_here : (edge : EdgeRecord) (own : Place) → Contains holder.edges edge → edge.form ≡ Heavy own → own ≢ at
  own_not_here edge own is form = ((some_far edge is).own own form).not_here

  pub own_not_far : (edge other : EdgeRecord) (own : Place) → Contains holder.edges edge → edge.form ≡ Heavy own → Contains holder.edges other → own ≢ other.other_at
  own_not_far edge other own is form there = ((some_far edge is).own own form).not_far other (among_held (committed mid) some_around.part found.stands.agrees some_around.has other there)

  pub edge_reached : (edge : EdgeRecord) → Contains holder.edges edge → (place : Place) → (place ≡ edge.other_at) ⊎ (edge.form ≡ Heavy place) → AtEdges at old old.shape place
  edge_reached edge is place there = inr (record {
    store = committed mid;
    may = before found.looks.stays (committed mid) found.stands;
    held = some_around.part;
    holds = some_around.has;
    around = record { edge = edge; is = among_held (committed mid) some_around.part found.stands.agrees some_around.has edge is; there = there };
  })

-- ---- the objects at the other ends

none_of : {X : Type 0} (y : X) → Contains {X = X} [] y → ⊥
none_of y (k, within, is) = omega (arith, within)

cons_here : {X : Type 0} (x : X) (xs : List X) → Contains (x ∷ xs) x
cons_here x xs = (0, omega arith, refl)

cons_later : {X : Type 0} (x y : X) (xs : List X) → Contains xs y → Contains (x ∷ xs) y
cons_later x y xs (k, within, is) = (suc k, omega (arith, within), is)

cons_cases : {X : Type 0} (x y : X) (xs : List X) → Contains (x ∷ xs) y → (x ≡ y) ⊎ Contains xs y
cons_cases x y xs (zero, within, is) = inl is
cons_cases x y xs (suc k, within, is) = inr (k, omega (arith, within), is)

abbrev is_away : Place → EdgeRecord → Bool
is_away at edge = not (same_place edge.other_at at)

pub far_contains : (at : Place) (es : List EdgeRecord) (edge : EdgeRecord) → Contains es edge → edge.other_at ≢ at → Contains (far_ends at es) edge.other_at
far_contains at [] edge is away = absurd (none_of edge is)
far_contains at (e ∷ es) edge is away = cases (is_away at e) refl (cons_cases e edge es is) (λ later. far_contains at es edge later away)
  where
    cases : (b : Bool) → is_away at e ≡ b → (e ≡ edge) ⊎ Contains es edge → (Contains es edge → Contains (far_ends at es) edge.other_at) → Contains (map (λ edge. edge.other_at) (cond b (e ∷ filter (is_away at) es) (filter (is_away at) es))) edge.other_at
    cases true far (inl here) rest = subst (λ (r : EdgeRecord). Contains (e.other_at ∷ far_ends at es) r.other_at) here (cons_here e.other_at (far_ends at es))
    cases true far (inr later) rest = cons_later e.other_at edge.other_at (far_ends at es) (rest later)
    cases false far (inl here) rest =
        let no : true ≡ false = sym (ap not (same_apart e.other_at at (λ same. away (ap (λ (r : EdgeRecord). r.other_at) (sym here) ∙ same)))) ∙ far in
        absurd (cc no)
    cases false far (inr later) rest = rest later

pub far_from : (at : Place) (es : List EdgeRecord) (place : Place) → Contains (far_ends at es) place → (edge : EdgeRecord) × Contains es edge × (edge.other_at ≡ place) × (place ≢ at)
far_from at [] place is = absurd (none_of place is)
far_from at (e ∷ es) place is = cases (is_away at e) refl is (far_from at es place)
  where
    cases : (b : Bool) → is_away at e ≡ b → Contains (map (λ edge. edge.other_at) (cond b (e ∷ filter (is_away at) es) (filter (is_away at) es))) place
        → (Contains (far_ends at es) place → (edge : EdgeRecord) × Contains es edge × (edge.other_at ≡ place) × (place ≢ at)) → (edge : EdgeRecord) × Contains (e ∷ es) edge × (edge.other_at ≡ place) × (place ≢ at)
    cases true far is rest = elim (cons_cases e.other_at place (far_ends at es) is) [
      | inl here ↦ (
        e,
        cons_here e es,
        here,
        λ same.
            let no : false ≡ true = sym (ap not (ap (λ (p : Place). same_place p at) (here ∙ same) ∙ same_itself at)) ∙ far in
            absurd (cc no),
      )
      | inr later ↦ let it = rest later in (it.0, cons_later e it.0 es it.1, it.2, it.3)
    ]
    cases false far is rest = let it = rest is in (it.0, cons_later e it.0 es it.1, it.2, it.3)

module _ {N : Type 0} {at : Place} {old mid : StoreState N} {holder : VertexHolder} (found : FindsHolder IsVertexHolder vertex_words at old mid holder) (known : KnowsAround at old) where
  pub bare_few : length (vertex_words (record holder { edges = [] })) ≤ most_words
  bare_few =
      let it = read_part holder_for IsOrderly vertex_same found (around_vertex known) in
      let before = length-vertex_words holder in
      let after = length-vertex_words (record holder { edges = [] }) in
      let small = it.4 in
      omega (arith, before, after, small)

  pub owns_reached : (es : List EdgeRecord) → es ≡ holder.edges → (place : Place) → IsOwnAmong es place → AtEdges at old old.shape place
  owns_reached es same place is = edge_reached found known is.0 (subst (λ (l : List EdgeRecord). Contains l is.0) same is.1) place (inr is.2)

  pub end_of : (es : List EdgeRecord) → es ≡ holder.edges → (ends places : List Place) → places ≡ ends → IsPermutation (far_ends at es) ends → (place : Place) → Contains places place
      → (edge : EdgeRecord) × Contains holder.edges edge × (edge.other_at ≡ place) × (place ≢ at)
  end_of es same ends places listed order place is =
      let ordered = subst (λ (l : List EdgeRecord). IsPermutation (far_ends at l) ends) same order in
      far_from at holder.edges place (Contains-permutation ends (far_ends at holder.edges) place (IsPermutation-sym (far_ends at holder.edges) ends ordered) (subst (λ (l : List Place). Contains l place) listed is))

  pub ends_reached : (es : List EdgeRecord) → es ≡ holder.edges → (ends places : List Place) → places ≡ ends → IsPermutation (far_ends at es) ends → (place : Place) → Contains places place → AtEdges at old old.shape place
  ends_reached es same ends places listed order place is =
      let it = end_of es same ends places listed order place is in
      edge_reached found known it.0 it.1 place (inl (sym it.2))

  pub own_not_end : (es : List EdgeRecord) → es ≡ holder.edges → (ends places : List Place) → places ≡ ends → IsPermutation (far_ends at es) ends → (edge : EdgeRecord) → Contains holder.edges edge → (own : Place) → edge.form ≡ Heavy own → Contains places own → ⊥
  own_not_end es same ends places listed order edge there own form is =
      let it = end_of es same ends places listed order own is in
      own_not_far found known edge it.0 own there form it.1 (sym it.2)

-- ---- once all is written

module _ {N : Type 0} {at : Place} {old mid m1 m2 m3 new : StoreState N} {holder : VertexHolder} {ends : List Place} (found : FindsHolder IsVertexHolder vertex_words at old mid holder) (known : KnowsAround at old)
    (opens : OpensOwns holder.edges mid m1) (order : IsPermutation (far_ends at holder.edges) ends) (parts : PartsEnds holder.id ends m1 m2) (cleared : ClearsOwns holder.edges m2 m3)
    (parted_reaches : Reaches (Contains ends) (λ _. ⊥) m1 m2) (cleared_reaches : Reaches (IsOwnAmong holder.edges) (λ _. ⊥) m2 m3) (ordered2 : IsByRisingObject m2.writes) (ordered3 : IsByRisingObject m3.writes)
    (is : IsVertexHolder (record holder { edges = [] })) (wrote : WritesObject at (vertex_words (record holder { edges = [] })) m3 new) where
  agreed2 : (store : Contents) → Agrees new.reads store → Agrees m2.reads store
  agreed2 store agrees = subst (λ (r : Contents). Agrees r store) (wrote.reads ∙ cleared.reads) agrees

  agreed : (store : Contents) → Agrees new.reads store → Agrees mid.reads store
  agreed store agrees place words was = agreed2 store agrees place words (parted_reaches.stays.reads place words (opens.looks.stays.reads place words was))

  is_far : (edge : EdgeRecord) → Contains holder.edges edge → edge.other_at ≢ at → is_among edge.other_at ends ≡ true
  is_far edge there away = among_contains edge.other_at ends (Contains-permutation (far_ends at holder.edges) ends edge.other_at order (far_contains at holder.edges edge there away))

  -- what an object that isn't the vertex' has at last
  still2 : (place : Place) → place ≢ at → ((edge : EdgeRecord) → Contains holder.edges edge → edge.form ≢ Heavy place) → (store : Contents) → content_of (overlay store new.writes) place ≡ content_of (overlay store m2.writes) place
  still2 place away not_own store =
      let left : words_at m3.writes place ≡ words_at m2.writes place = elim (cleared_reaches.writes place) [ inl own ↦ absurd (not_own own.0 own.1 own.2) | inr same ↦ same ] in
      same_elsewhere ordered3 wrote place away store
      ∙ (content-overlay store m3.writes place ordered3 ∙ (ap (λ o. put_over o (content_of store place)) left ∙ sym (content-overlay store m2.writes place ordered2)))

  module _ (store : Contents) (held : HeldAround) (agrees : Agrees new.reads store) (has : HoldsAround old.shape at (overlay store old.writes) held) where
    vertex_is : holder ≡ holder_for held.vertex
    vertex_is = found_is found store held.vertex (agreed store agrees) has.here

    of_holder : (edge : EdgeRecord) → Contains held.vertex.edges edge → Contains holder.edges edge
    of_holder edge there = subst (λ (es : List EdgeRecord). Contains es edge) (sym (ap (λ (h : VertexHolder). h.edges) vertex_is)) there

    here_now : HoldsVertex at (overlay store new.writes) (record held.vertex { edges = [] })
    here_now =
        let now = own_now ordered3 wrote store in
        record {
          fits = record { labels = has.here.fits.labels; props = has.here.fits.props; some = has.here.fits.some };
          holder = subst (λ (h : VertexHolder). IsVertexHolder (record h { edges = [] })) vertex_is is;
          words = now ∙ ap (λ (h : VertexHolder). vertex_words (record h { edges = [] })) vertex_is;
          within = subst (λ (ws : List ℕ). length ws ≤ most_words) (sym now) (bare_few found known);
        }

    far_now : (edge : EdgeRecord) → Contains held.vertex.edges edge → edge.other_at ≢ at → HoldsVertex edge.other_at (overlay store new.writes) (apart_from held.vertex.id (held.others edge.other))
    far_now edge there away =
        let mine = of_holder edge there in
        let vertex = held.others edge.other in
        let first = subst (λ (w : Contents). HoldsVertex edge.other_at (overlay store w) (held.others edge.other)) (sym (opens.looks.writes ∙ found.looks.writes)) (has.each edge there).far in
        let second = parts.after edge.other_at store vertex (agreed2 store agrees) first in
        let third = subst (λ b. HoldsVertex edge.other_at (overlay store m2.writes) (cond b (apart_from holder.id (held.others edge.other)) (held.others edge.other))) (is_far edge mine away) second in
        let apart : (other : EdgeRecord) → Contains holder.edges other → other.form ≢ Heavy edge.other_at = λ other own form. own_not_far found known other edge edge.other_at own form mine refl in
        held_as edge.other_at (overlay store m2.writes) (overlay store new.writes) (apart_from held.vertex.id (held.others edge.other)) (still2 edge.other_at away apart store)
        (subst (λ id. HoldsVertex edge.other_at (overlay store m2.writes) (apart_from id (held.others edge.other))) (ap (λ (h : VertexHolder). h.id) vertex_is) third)

    own_gone : (edge : EdgeRecord) (own : Place) → Contains held.vertex.edges edge → edge.form ≡ Heavy own → content_of (overlay store new.writes) own ≡ []
    own_gone edge own there form =
        let mine = of_holder edge there in
        same_elsewhere ordered3 wrote own (own_not_here found known edge own mine form) store
        ∙ (content-overlay store m3.writes own ordered3 ∙ ap (λ o. put_over o (content_of store own)) (cleared.cleared edge own mine form))

    pub is_cut_off : IsCutOff at (overlay store new.writes) held
    is_cut_off = record { here = here_now; far = far_now; own = own_gone }

  -- ---- the whole call

  pub cuts_all : Reaches (λ place. (place ≡ at) ⊎ ((edge : EdgeRecord) × Contains holder.edges edge × ((place ≡ edge.other_at) ⊎ (edge.form ≡ Heavy place)))) (λ _. ⊥) old new → IsByRisingObject new.writes → CutsAll at old new
  cuts_all reaches ordered = record {
    cut = λ store held agrees has. is_cut_off store held agrees has;
    reads = λ store held agrees has place. told store held agrees has place (reaches.reads place);
    writes = λ store held agrees has place. told store held agrees has place (reaches.writes place);
    known = knows_after reaches.stays ordered (λ store may agrees.
        let k = known.always store may in
        record { part = record k.part.vertex { edges = [] }; has = here_now store k.part agrees k.has; passed = refl });
  }
    where
      told : {C : Type 0} (store : Contents) (held : HeldAround) → Agrees new.reads store → HoldsAround old.shape at (overlay store old.writes) held → (place : Place)
          → ((place ≡ at) ⊎ ((edge : EdgeRecord) × Contains holder.edges edge × ((place ≡ edge.other_at) ⊎ (edge.form ≡ Heavy place)))) ⊎ C → (place ≡ at) ⊎ IsAround held place ⊎ C
      told store held agrees has place (inl (inl here)) = inl here
      told store held agrees has place (inl (inr it)) = inr (inl (record { edge = it.0; is = among_held found known store held (agreed store agrees) has it.0 it.1; there = it.2 }))
      told store held agrees has place (inr same) = inr (inr same)
