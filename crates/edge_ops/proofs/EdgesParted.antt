-- A vertex without its edges from and to another one.
use Rattle.std.proofs.Common.{◌≡◌, ◌≢◌, ◌∙◌, ℕ, ◌≤◌, Bool, true, false, cond, eqb, List, [], ◌∷◌, ◌++◌, length, take, Option, Some, ◌+◌, refl, sym, ap, subst, ◌⊎◌, inl, inr, arith}
use Rattle.std.specs.Prelude.{IsTrue, not, ◌||◌}
use Rattle.std.specs.Option.{MatchOption}
use Rattle.std.specs.Ordering.{is_lt}
use Rattle.std.specs.declared.cmp.Ordering.{Ordering}
use Rattle.std.specs.declared.cmp.Ordering.TheVariants.{Less, Equal, Greater}
use Rattle.std.proofs.lemmas.Bool.{and_from, and_parts}
use Rattle.std.proofs.lemmas.List.Folds.{list_any-append, list_any_at}
use Rattle.std.specs.List.{AllByRecursion, Contains, filter}
use Rattle.rma_layout.specs.Placement.{Place, same_place}
use Rattle.object_words.specs.Contents.{Contents, Agrees, IsByRisingObject, content_of, overlay, words_at}
use Rattle.object_words.proofs.Overlays.{content-overlay, put_over}
use Rattle.object_words.proofs.Places.{in_order-with_words}
use Rattle.graph_model.specs.Sizes.{most_words}
use Rattle.graph_model.proofs.Entries.{All-filter, All-map}
use Rattle.graph_model.proofs.Sets.{length-filter-le}
use Rattle.object_store.specs.State.{StoreState}
use Rattle.object_store.specs.Calls.{WritesObject}
use Rattle.object_store.specs.Works.{Reaches}
use Rattle.object_store.proofs.Working.{stays-then}
use Rattle.holder_codec.specs.declared.edge_record.EdgeRecord.{EdgeRecord}
use Rattle.holder_codec.specs.declared.vertex_holder.VertexHolder.{VertexHolder}
use Rattle.holder_codec.specs.Edges.{RecordFits, is_record_before}
use Rattle.holder_codec.specs.Order.{is_rising}
use Rattle.holder_codec.specs.Vertex.{IsVertexHolder, vertex_words}
use Rattle.holder_codec.proofs.Lengths.{length-vertex_words, vertex_same}
use Rattle.held_objects.specs.Changes.{any}
use Rattle.held_objects.specs.Held.{FindsHolder}
use Rattle.held_objects.proofs.Changes.{part_looks_at, read_part}
use Rattle.held_objects.proofs.Knows.{knows_after, still_elsewhere}
use Rattle.vertex_ops.specs.Vertices.{HeldVertex, HoldsVertex, IsOrderly, KnowsVertex, holder_for}
use Rattle.edge_ops.specs.CuttingAll.{apart_from}
use Rattle.edge_ops.specs.Parting.{PartsEnd, PartsEnds, holder_apart, is_among}
use Rattle.edge_ops.proofs.EdgeForms.{own_now}
use Rattle.edge_ops.proofs.EndsChanged.{held_as}
use Rattle.edge_ops.proofs.EndsWritten.{place_is, same_itself}
use Rattle.edge_ops.specs.Records.{key_of, key_cmp}
use Rattle.edge_ops.proofs.Finding.{found_is}
use Rattle.edge_ops.proofs.Keys.{before_is, key_total}

-- ---- records that are left are in order

tail_rises : (x : EdgeRecord) (xs : List EdgeRecord) → is_rising is_record_before (x ∷ xs) ≡ true → is_rising is_record_before xs ≡ true
tail_rises x [] rising = refl
tail_rises x (y ∷ ys) rising = (and_parts (is_record_before x y) (is_rising is_record_before (y ∷ ys)) rising).1

rising-cons : (x : EdgeRecord) (xs : List EdgeRecord) → AllByRecursion (λ y. is_record_before x y ≡ true) xs → is_rising is_record_before xs ≡ true → is_rising is_record_before (x ∷ xs) ≡ true
rising-cons x [] all rising = refl
rising-cons x (y ∷ ys) all rising = and_from (is_record_before x y) (is_rising is_record_before (y ∷ ys)) all.0 rising

less_is : (o : Ordering) → is_lt o ≡ true → o ≡ Less
less_is Less is = refl
less_is Equal is = absurd (cc is)
less_is Greater is = absurd (cc is)

before_trans : (x y z : EdgeRecord) → is_record_before x y ≡ true → is_record_before y z ≡ true → is_record_before x z ≡ true
before_trans x y z one other =
    before_is x z
    ∙ ap is_lt (key_total.trans (key_of x) (key_of y) (key_of z) (less_is (key_cmp (key_of x) (key_of y)) (sym (before_is x y) ∙ one)) (less_is (key_cmp (key_of y) (key_of z)) (sym (before_is y z) ∙ other)))

all_after : (x : EdgeRecord) (xs : List EdgeRecord) → is_rising is_record_before (x ∷ xs) ≡ true → AllByRecursion (λ y. is_record_before x y ≡ true) xs
all_after x [] rising = tt
all_after x (y ∷ ys) rising =
    let parts = and_parts (is_record_before x y) (is_rising is_record_before (y ∷ ys)) rising in
    (parts.0, All-map (λ z. is_record_before y z ≡ true) (λ z. is_record_before x z ≡ true) (λ z after. before_trans x y z parts.0 after) ys (all_after y ys parts.1))

rising-filter : (p : EdgeRecord → Bool) (xs : List EdgeRecord) → is_rising is_record_before xs ≡ true → is_rising is_record_before (filter p xs) ≡ true
rising-filter p [] rising = refl
rising-filter p (x ∷ xs) rising =
    let rest = rising-filter p xs (tail_rises x xs rising) in
    elim (p x) as (λ b. is_rising is_record_before (cond b (x ∷ filter p xs) (filter p xs)) ≡ true) [
      | true ↦ rising-cons x (filter p xs) (All-filter (λ y. is_record_before x y ≡ true) (λ y. is_record_before x y ≡ true) p (λ _ _ after. after) xs (all_after x xs rising)) rest
      | false ↦ rest
    ]

pub holder_parted : (holder : VertexHolder) (id : ℕ) (edges : List EdgeRecord) → edges ≡ filter (λ edge. not (eqb edge.other id)) holder.edges → IsVertexHolder holder → IsVertexHolder (record holder { edges = edges })
holder_parted holder id edges is holds = record {
  id = holds.id;
  next = holds.next;
  labels = holds.labels;
  labels_rise = holds.labels_rise;
  props = holds.props;
  props_rise = holds.props_rise;
  edges = subst (AllByRecursion RecordFits) (sym is) (All-filter RecordFits RecordFits (λ e. not (eqb e.other id)) (λ _ _ fits. fits) holder.edges holds.edges);
  edges_rise = subst (λ (es : List EdgeRecord). IsTrue (is_rising is_record_before es)) (sym is) (rising-filter (λ e. not (eqb e.other id)) holder.edges holds.edges_rise);
}

-- fewer records are no more words
pub apart_few : (id : ℕ) (holder : VertexHolder) → length (vertex_words holder) ≤ most_words → length (vertex_words (holder_apart id holder)) ≤ most_words
apart_few id holder few =
    let before = length-vertex_words holder in
    let after = length-vertex_words (holder_apart id holder) in
    let fewer = length-filter-le (λ e. not (eqb e.other id)) holder.edges in
    omega (arith, before, after, fewer, few)

module _ {N : Type 0} {end : Place} {old mid : StoreState N} {holder : VertexHolder} (id : ℕ) (found : FindsHolder IsVertexHolder vertex_words end old mid holder) (known : KnowsVertex end any old) where
  pub found_few : length (vertex_words (holder_apart id holder)) ≤ most_words
  found_few =
      let it = read_part holder_for IsOrderly vertex_same found known in
      apart_few id holder it.4

  module _ {new : StoreState N} (is : IsVertexHolder (holder_apart id holder)) (wrote : WritesObject end (vertex_words (holder_apart id holder)) mid new) where
    ordered : IsByRisingObject mid.writes
    ordered = subst IsByRisingObject (sym found.looks.writes) found.in_order

    after : (store : Contents) (vertex : HeldVertex) → Agrees new.reads store → HoldsVertex end (overlay store old.writes) vertex → HoldsVertex end (overlay store new.writes) (apart_from id vertex)
    after store vertex agrees has =
        let same : holder ≡ holder_for vertex = found_is found store vertex (subst (λ (r : Contents). Agrees r store) wrote.reads agrees) has in
        let now = own_now ordered wrote store in
        record {
          fits = record { labels = has.fits.labels; props = has.fits.props; some = has.fits.some };
          holder = subst (λ (h : VertexHolder). IsVertexHolder (holder_apart id h)) same is;
          words = now ∙ ap (λ (h : VertexHolder). vertex_words (holder_apart id h)) same;
          within = subst (λ (ws : List ℕ). length ws ≤ most_words) (sym now) found_few;
        }

    pub parts_end : PartsEnd id end old new
    parts_end = record {
      after = after;
      known = knows_after (stays-then found.looks.stays wrote.stays) (subst IsByRisingObject (sym wrote.writes) (in_order-with_words mid.writes end (vertex_words (holder_apart id holder)) ordered)) (λ store may agrees.
          let k = known.always store may in
          record { part = apart_from id k.part; has = after store k.part agrees k.has; passed = refl });
    }

-- ---- several of them

filter_again : {X : Type 0} (p : X → Bool) (xs : List X) → filter p (filter p xs) ≡ filter p xs
filter_again p [] = refl
filter_again {X} p (x ∷ xs) = cases (p x) refl (filter_again p xs)
  where
    cases : (b : Bool) → p x ≡ b → filter p (filter p xs) ≡ filter p xs → filter p (cond b (x ∷ filter p xs) (filter p xs)) ≡ cond b (x ∷ filter p xs) (filter p xs)
    cases true is rest = ap (λ b. cond b (x ∷ filter p (filter p xs)) (filter p (filter p xs))) is ∙ ap (λ (ys : List X). x ∷ ys) rest
    cases false is rest = rest

apart_again : (id : ℕ) (b : Bool) (vertex : HeldVertex) → apart_from id (cond b (apart_from id vertex) vertex) ≡ apart_from id vertex
apart_again id true vertex = ap (λ (es : List EdgeRecord). record vertex { edges = es }) (filter_again (λ edge. not (eqb edge.other id)) vertex.edges)
apart_again id false vertex = refl

among_more : (place end : Place) (done : List Place) → is_among place (done ++ end ∷ []) ≡ (is_among place done || same_place end place)
among_more place end done = list_any-append (λ other. same_place other place) done (end ∷ []) ∙ ap (λ b. is_among place done || b) (or_false (same_place end place))
  where
    or_false : (b : Bool) → (b || false) ≡ b
    or_false true = refl
    or_false false = refl

module _ {N : Type 0} {id : ℕ} {done : List Place} {old : StoreState N} where
  -- one that was among them already
  pub parts_again : {now : StoreState N} (end : Place) → is_among end done ≡ true → PartsEnds id done old now → PartsEnds id (done ++ end ∷ []) old now
  parts_again {now} end was parts = record {
    after = λ place store vertex agrees has. subst (λ b. HoldsVertex place (overlay store now.writes) (cond b (apart_from id vertex) vertex)) (sym (same place)) (parts.after place store vertex agrees has);
    known = parts.known;
  }
    where
      same : (place : Place) → is_among place (done ++ end ∷ []) ≡ is_among place done
      same place = among_more place end done ∙ cases (same_place end place) refl
        where
          cases : (b : Bool) → same_place end place ≡ b → (is_among place done || b) ≡ is_among place done
          cases true is = let here : is_among place done ≡ true = subst (λ (p : Place). is_among p done ≡ true) (place_is end place is) was in ap (λ b. b || true) here ∙ sym here
          cases false is = elim (is_among place done) as (λ b. (b || false) ≡ b) [ true ↦ refl | false ↦ refl ]

  pub parts_more : {mid new : StoreState N} (end : Place) → PartsEnds id done old mid → PartsEnd id end mid new → Reaches (λ place. place ≡ end) (λ _. ⊥) mid new → IsByRisingObject mid.writes → IsByRisingObject new.writes
      → PartsEnds id (done ++ end ∷ []) old new
  parts_more {mid} {new} end parts did reaches mid_ordered new_ordered = record {
    after = λ place store vertex agrees has.
        let before = parts.after place store vertex (agreed store agrees) has in
        after_case place store vertex agrees before (same_place end place) refl;
    known = λ place k. known_case place (parts.known place k) (same_place place end) refl;
  }
    where
      agreed : (store : Contents) → Agrees new.reads store → Agrees mid.reads store
      agreed store agrees place words is = agrees place words (reaches.stays.reads place words is)

      elsewhere : (place : Place) → place ≢ end → (store : Contents) → content_of (overlay store new.writes) place ≡ content_of (overlay store mid.writes) place
      elsewhere place apart store =
          let left : words_at new.writes place ≡ words_at mid.writes place = elim (reaches.writes place) [ inl here ↦ absurd (apart here) | inr same ↦ same ] in
          content-overlay store new.writes place new_ordered ∙ (ap (λ o. put_over o (content_of store place)) left ∙ sym (content-overlay store mid.writes place mid_ordered))

      after_case : (place : Place) (store : Contents) (vertex : HeldVertex) → Agrees new.reads store → HoldsVertex place (overlay store mid.writes) (cond (is_among place done) (apart_from id vertex) vertex)
          → (same : Bool) → same_place end place ≡ same → HoldsVertex place (overlay store new.writes) (cond (is_among place (done ++ end ∷ [])) (apart_from id vertex) vertex)
      after_case place store vertex agrees before true is =
          let here = place_is end place is in
          let all : is_among place (done ++ end ∷ []) ≡ true = among_more place end done ∙ (ap (λ b. is_among place done || b) is ∙ elim (is_among place done) as (λ b. (b || true) ≡ true) [ true ↦ refl | false ↦ refl ]) in
          let before_here = subst (λ (p : Place). HoldsVertex p (overlay store mid.writes) (cond (is_among place done) (apart_from id vertex) vertex)) (sym here) before in
          let now = subst (λ (p : Place). HoldsVertex p (overlay store new.writes) (apart_from id (cond (is_among place done) (apart_from id vertex) vertex))) here (did.after store (cond (is_among place done) (apart_from id vertex) vertex) agrees before_here) in
          subst (λ b. HoldsVertex place (overlay store new.writes) (cond b (apart_from id vertex) vertex)) (sym all)
          (subst (λ (v : HeldVertex). HoldsVertex place (overlay store new.writes) v) (apart_again id (is_among place done) vertex) now)
      after_case place store vertex agrees before false is =
          let as_before : is_among place (done ++ end ∷ []) ≡ is_among place done = among_more place end done ∙ (ap (λ b. is_among place done || b) is ∙ elim (is_among place done) as (λ b. (b || false) ≡ b) [ true ↦ refl | false ↦ refl ]) in
          let away : place ≢ end = λ same. let no : true ≡ false = sym (same_itself end) ∙ (ap (λ (p : Place). same_place end p) (sym same) ∙ is) in absurd (cc no) in
          subst (λ b. HoldsVertex place (overlay store new.writes) (cond b (apart_from id vertex) vertex)) (sym as_before)
          (held_as place (overlay store mid.writes) (overlay store new.writes) (cond (is_among place done) (apart_from id vertex) vertex) (elsewhere place away store) before)

      known_case : (place : Place) → KnowsVertex place any mid → (same : Bool) → same_place place end ≡ same → KnowsVertex place any new
      known_case place k true is = subst (λ (p : Place). KnowsVertex p any new) (sym (place_is place end is)) did.known
      known_case place k false is =
          still_elsewhere (part_looks_at any) (λ other here there. apart place is (sym here ∙ there)) reaches new_ordered k
        where
          apart : (one : Place) → same_place one end ≡ false → one ≡ end → ⊥
          apart one is same = let no : true ≡ false = sym (same_itself end) ∙ (ap (λ (p : Place). same_place p end) (sym same) ∙ is) in absurd (cc no)

pub parts_none : {N : Type 0} {id : ℕ} {old new : StoreState N} → new ≡ old → PartsEnds id [] old new
parts_none {old = old} same = record {
  after = λ place store vertex agrees has. subst (λ (s : StoreState _). HoldsVertex place (overlay store s.writes) vertex) (sym same) has;
  known = λ place k. subst (λ (s : StoreState _). KnowsVertex place any s) (sym same) k;
}

-- one after the others
pub parts_next : {N : Type 0} {id : ℕ} {old mid new : StoreState N} (ends : List Place) (i : ℕ) (end : Place) (last : Option Place) → take (i + 1) ends ≡ take i ends ++ end ∷ [] → PartsEnds id (take i ends) old mid
    → MatchOption last (Unit {0}) (λ one. is_among one (take i ends) ≡ true) → PartsEnd id end mid new ⊎ ((last ≡ Some end) × (new ≡ mid)) → Reaches (λ place. place ≡ end) (λ _. ⊥) mid new
    → IsByRisingObject mid.writes → IsByRisingObject new.writes → PartsEnds id (take (i + 1) ends) old new × (is_among end (take (i + 1) ends) ≡ true)
parts_next {N} {id} {old} {mid} {new} ends i end last more parts was did reaches mid_ordered new_ordered = (
  subst (λ (done : List Place). PartsEnds id done old new) (sym more) (either did),
  ap (is_among end) more ∙ (among_more end end (take i ends) ∙ (ap (λ b. is_among end (take i ends) || b) (same_itself end) ∙ elim (is_among end (take i ends)) as (λ b. (b || true) ≡ true) [ true ↦ refl | false ↦ refl ])),
)
  where
    either : PartsEnd id end mid new ⊎ ((last ≡ Some end) × (new ≡ mid)) → PartsEnds id (take i ends ++ end ∷ []) old new
    either (inl done) = parts_more end parts done reaches mid_ordered new_ordered
    either (inr again) =
        subst (λ (s : StoreState N). PartsEnds id (take i ends ++ end ∷ []) old s) (sym again.1)
        (parts_again end (subst (λ (o : Option Place). MatchOption o (Unit {0}) (λ one. is_among one (take i ends) ≡ true)) again.0 was) parts)

pub among_contains : (place : Place) (places : List Place) → Contains places place → is_among place places ≡ true
among_contains place places (k, within, is) = list_any_at (λ other. same_place other place) places k place within (ap (λ (p : Place). same_place p place) is ∙ same_itself place)
