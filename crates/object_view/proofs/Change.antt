-- A change of what represents a graph represents the graph after it.
use Rattle.std.proofs.Common.{◌≡◌, ◌≢◌, ◌∙◌, ℕ, Bool, true, false, ◌&&◌, List, [], ◌∷◌, refl, sym, ap, subst, eq-eqb, arith, ◌⊎◌, inl, inr}
use Rattle.std.specs.Prelude.{◌==◌}
use Rattle.std.specs.List.{AllByRecursion}
use Rattle.std.proofs.lemmas.Bool.{and_parts, and_from, eqb-true, false≢true}
use Rattle.rma_layout.specs.Shape.{Shape}
use Rattle.rma_layout.specs.Ranges.{IsInRange}
use Rattle.rma_layout.specs.Placement.{Place, IsReserved, same_place}
use Rattle.object_words.specs.Contents.{Contents, content_of, is_empty}
use Rattle.object_words.proofs.Places.{same_places}
use Rattle.graph_model.specs.Graph.{Graph, vertex_at, edge_at}
use Rattle.graph_model.specs.WellFormed.{IsWellFormed}
use Rattle.graph_model.specs.Capacity.{Object, Reserved, OfVertex, OfHeavyEdge}
use Rattle.graph_model.proofs.Entries.{All-map}
use Rattle.holder_codec.specs.Represents.{VertexObjects, EdgeObjects, IsUnreserved}
use Rattle.object_view.specs.View.{IsOn, place_in, words_in, IsAllowed, IsUnheld, IsViewed}
use Rattle.object_view.specs.Change.{RankObject, same_object, IsNotAmong, IsTouched, IsGone, IsChange}
use Rattle.holder_codec.proofs.Maps.{All-both}
use Rattle.object_view.proofs.Objects.{is_on_rank}
use Rattle.object_view.proofs.Used.{vertex_filled, edge_filled}

-- one that passes, or none
by_match : {X R : Type 0} (m : X → Bool) (P : X → Type 0) (xs : List X) → AllByRecursion P xs → ((x : X) → m x ≡ true → P x → R) → (AllByRecursion (λ x. m x ≡ false) xs → R) → R
by_match m P [] all found missed = missed tt
by_match {X} {R} m P (x ∷ xs) all found missed =
    elim (m x) as (λ b. m x ≡ b → R) [ true ↦ λ is. found x is all.0 | false ↦ λ is. by_match m P xs all.1 found (λ rest. missed (is, rest)) ] refl

object_told : (one other : Object) → same_object one other ≡ true → one ≡ other
object_told (Reserved a) (Reserved b) is = ap Reserved (eqb-true a b is)
object_told (OfVertex a) (OfVertex b) is = ap OfVertex (eqb-true a b is)
object_told (OfHeavyEdge s o) (OfHeavyEdge t n) is =
    let parts = and_parts (s == t) (o == n) is in
    λ i. OfHeavyEdge (eqb-true s t parts.0 i) (eqb-true o n parts.1 i)
object_told (Reserved a) (OfVertex b) is = absurd (false≢true is)
object_told (Reserved a) (OfHeavyEdge t n) is = absurd (false≢true is)
object_told (OfVertex a) (Reserved b) is = absurd (false≢true is)
object_told (OfVertex a) (OfHeavyEdge t n) is = absurd (false≢true is)
object_told (OfHeavyEdge s o) (Reserved b) is = absurd (false≢true is)
object_told (OfHeavyEdge s o) (OfVertex b) is = absurd (false≢true is)

abbrev is_it : ℕ → Object → RankObject → Bool
is_it rank object t = t.0 == rank && same_object t.1 object

told : (rank : ℕ) (object : Object) (t : RankObject) → is_it rank object t ≡ true → t ≡ (rank, object)
told rank object t is =
    let parts = and_parts (t.0 == rank) (same_object t.1 object) is in
    λ i. (eqb-true t.0 rank parts.0 i, object_told t.1 object parts.1 i)

isnt : (b : Bool) → (b ≡ true → ⊥) → b ≡ false
isnt true not = absurd (not refl)
isnt false not = refl

object_itself : (object : Object) → same_object object object ≡ true
object_itself (Reserved a) = eq-eqb a a refl
object_itself (OfVertex a) = eq-eqb a a refl
object_itself (OfHeavyEdge s o) = and_from (s == s) (o == o) (eq-eqb s s refl) (eq-eqb o o refl)

module _ (shape : Shape) (one other : Contents) (g : Graph) (well : IsWellFormed g) (vertices : VertexObjects) (edges : EdgeObjects) (ranges : IsInRange shape) (v : IsViewed shape one g vertices edges)
    (h : Graph) (vertices_after : VertexObjects) (edges_after : EdgeObjects) (touched gone : List RankObject) (c : IsChange shape one other g vertices edges h vertices_after edges_after touched gone) where
  abbrev before : ℕ → Object → Place
  before rank object = place_in vertices edges rank object

  abbrev after : ℕ → Object → Place
  after rank object = place_in vertices_after edges_after rank object

  rank_of : (rank : ℕ) (object : Object) → IsOn shape g rank object → (before rank object).rank ≡ rank
  rank_of rank object on = ap (λ (p : Place). p.rank) (is_on_rank shape g well 0 (omega (arith, ranges.ranks)) one vertices edges ranges v rank object on)

  -- the objects of two ranks are apart
  all_apart : (rank q : ℕ) (a b : Object) → IsOn shape g rank a → IsOn shape g q b → before rank a ≡ before q b → ◌≡◌ {A = RankObject} (rank, a) (q, b)
  all_apart rank q a b on_a on_b same =
      let ranks : rank ≡ q = sym (rank_of rank a on_a) ∙ ap (λ (p : Place). p.rank) same ∙ rank_of q b on_b in
      let on : IsOn shape g q a = subst (λ r. IsOn shape g r a) ranks on_a in
      let objects = v.apart q a b on on_b (moved ranks a ∙ same) in
      λ i. (ranks i, objects i)
    where
      moved : {r s : ℕ} → r ≡ s → (object : Object) → before s object ≡ before r object
      moved is object = ap (λ n. before n object) (sym is)

  -- what is there isn't an empty free block
  not_empty : (rank q : ℕ) (object : Object) (place : Place) → IsOn shape g rank object → before rank object ≡ place → IsUnreserved shape q place → content_of one place ≡ [] → ⊥
  not_empty rank q (Reserved block) place on here free empty = free.unreserved (subst (λ (p : Place). IsReserved shape p.block) here on.1)
  not_empty rank q (OfVertex id) place on here free empty =
      false≢true (sym (vertex_filled g vertices edges id (vertex_at g id) on.1) ∙ ap is_empty (sym (v.each rank (OfVertex id) on).words ∙ ap (content_of one) here ∙ empty))
  not_empty rank q (OfHeavyEdge source ordinal) place on here free empty =
      false≢true (sym (edge_filled g.types source ordinal (edge_at g source ordinal) on.1) ∙ ap is_empty (sym (v.each rank (OfHeavyEdge source ordinal) on).words ∙ ap (content_of one) here ∙ empty))

  -- what is there isn't gone
  not_gone : (rank : ℕ) (object : Object) → IsOn shape h rank object → IsNotAmong gone rank object
  not_gone rank object on = All-map (IsGone shape other g h vertices edges) _ (λ t is. isnt (is_it rank object t) (λ it. is.isnt (subst (λ (u : RankObject). IsOn shape h u.0 u.1) (sym (told rank object t it)) on))) gone c.each_gone

  stays : (rank : ℕ) (object : Object) → IsOn shape g rank object → IsOn shape h rank object → after rank object ≡ before rank object
  stays rank object was on = (c.kept rank object was (not_gone rank object on)).1

  abbrev Origin : ℕ → Object → Type 0
  Origin rank object = IsOn shape g rank object ⊎ (IsUnreserved shape rank (after rank object) × content_of one (after rank object) ≡ [])

  origin : (rank : ℕ) (object : Object) → IsOn shape h rank object → Origin rank object
  origin rank object on = by_match {R = Origin rank object} (is_it rank object) (λ t. IsOn shape h t.0 t.1 → IsTouched shape one other g h vertices_after edges_after t) touched c.each_touched
      (λ t it is. (subst (λ (u : RankObject). IsOn shape h u.0 u.1 → IsTouched shape one other g h vertices_after edges_after u) (told rank object t it) is on).from)
      (λ none. inl (c.others rank object on none).0)

  -- an object that isn't touched is at another place than those that are, or are gone
  apart_from_new : (rank : ℕ) (object : Object) (t : RankObject) → IsOn shape g rank object → IsOn shape h rank object → is_it rank object t ≡ false → IsOn shape h t.0 t.1 → Origin t.0 t.1 → after t.0 t.1 ≢ after rank object
  apart_from_new rank object t was on differs on_t (inl was_t) same =
      let it = all_apart t.0 rank t.1 object was_t was (sym (stays t.0 t.1 was_t on_t) ∙ same ∙ stays rank object was on) in
      false≢true (sym differs ∙ ap (λ u. is_it rank object u) it ∙ and_from (rank == rank) (same_object object object) (eq-eqb rank rank refl) (object_itself object))
  apart_from_new rank object t was on differs on_t (inr new) same = not_empty rank t.0 object (after t.0 t.1) was (sym (stays rank object was on) ∙ sym same) new.0 new.1

  apart_from_gone : (rank : ℕ) (object : Object) (t : RankObject) → IsOn shape h rank object → IsGone shape other g h vertices edges t → Origin rank object → before t.0 t.1 ≢ after rank object
  apart_from_gone rank object t on is (inl was) same =
      let it = all_apart t.0 rank t.1 object is.was was (same ∙ stays rank object was on) in
      is.isnt (subst (λ (u : RankObject). IsOn shape h u.0 u.1) (sym it) on)
  apart_from_gone rank object t on is (inr new) same = not_empty t.0 rank t.1 (after rank object) is.was same new.0 new.1

  allowed_there : (rank : ℕ) (object : Object) → IsOn shape h rank object → Origin rank object → IsAllowed shape rank object (after rank object)
  allowed_there rank object on (inl was) = subst (λ p. IsAllowed shape rank object p) (sym (stays rank object was on)) (v.each rank object was).place
  allowed_there rank (Reserved block) on (inr new) = tt
  allowed_there rank (OfVertex id) on (inr new) = new.0
  allowed_there rank (OfHeavyEdge source ordinal) on (inr new) = new.0

  words_there : (rank : ℕ) (object : Object) → IsOn shape h rank object → content_of other (after rank object) ≡ words_in shape h vertices_after edges_after rank object
  words_there rank object on = by_match (is_it rank object) (λ t. IsOn shape h t.0 t.1 → IsTouched shape one other g h vertices_after edges_after t) touched c.each_touched
      (λ t it is. (subst (λ (u : RankObject). IsOn shape h u.0 u.1 → IsTouched shape one other g h vertices_after edges_after u) (told rank object t it) is on).words)
      (λ none.
      let was = c.others rank object on none in
      let same = c.same (after rank object)
      (All-both (λ t. is_it rank object t ≡ false) (λ t. IsOn shape h t.0 t.1 → IsTouched shape one other g h vertices_after edges_after t) (λ t. IsOn shape h t.0 t.1 → after t.0 t.1 ≢ after rank object)
      (λ t differs is on_t. apart_from_new rank object t was.0 on differs on_t (is on_t).from) touched none c.each_touched)
      (All-map (IsGone shape other g h vertices edges) (λ t. before t.0 t.1 ≢ after rank object) (λ t is. apart_from_gone rank object t on is (inl was.0)) gone c.each_gone) in
      sym same ∙ ap (content_of one) (stays rank object was.0 on) ∙ (v.each rank object was.0).words ∙ sym was.1)

  apart_there : (rank : ℕ) (a b : Object) → IsOn shape h rank a → IsOn shape h rank b → Origin rank a → Origin rank b → after rank a ≡ after rank b → a ≡ b
  apart_there rank a b on_a on_b (inl was_a) (inl was_b) same = v.apart rank a b was_a was_b (sym (stays rank a was_a on_a) ∙ same ∙ stays rank b was_b on_b)
  apart_there rank a b on_a on_b (inl was_a) (inr new_b) same = absurd (not_empty rank rank a (after rank b) was_a (sym (stays rank a was_a on_a) ∙ same) new_b.0 new_b.1)
  apart_there rank a b on_a on_b (inr new_a) (inl was_b) same = absurd (not_empty rank rank b (after rank a) was_b (sym (stays rank b was_b on_b) ∙ sym same) new_a.0 new_a.1)
  apart_there rank a b on_a on_b (inr new_a) (inr new_b) same = c.new_apart rank a b on_a on_b
      (λ was. not_empty rank rank a (after rank a) was (sym (stays rank a was on_a)) new_a.0 new_a.1)
      (λ was. not_empty rank rank b (after rank b) was (sym (stays rank b was on_b)) new_b.0 new_b.1) same

  rest_there : (place : Place) → IsUnheld shape h vertices_after edges_after place → content_of other place ≡ []
  rest_there place unheld = by_match (λ t. same_place (before t.0 t.1) place) (IsGone shape other g h vertices edges) gone c.each_gone
      (λ t at_it is. ap (content_of other) (sym (place_told (before t.0 t.1) at_it)) ∙ is.empty)
      (λ none. let not_at : AllByRecursion (λ t. before t.0 t.1 ≢ place) gone = All-map _ _ (λ t off here. place_differs (before t.0 t.1) off here) gone none in
      sym (c.same place (All-map (λ t. IsOn shape h t.0 t.1 → IsTouched shape one other g h vertices_after edges_after t) (λ t. IsOn shape h t.0 t.1 → after t.0 t.1 ≢ place) (λ t _ on. unheld t.0 t.1 on) touched c.each_touched) not_at)
      ∙ v.rest place (λ rank object was here. was_unheld not_at rank object was here))
    where
      place_told : (p : Place) → same_place p place ≡ true → p ≡ place
      place_told p is = let parts = and_parts (p.rank == place.rank) (p.block == place.block) is in same_places p place (eqb-true p.rank place.rank parts.0) (eqb-true p.block place.block parts.1)

      place_differs : (p : Place) → same_place p place ≡ false → p ≡ place → ⊥
      place_differs p off here = false≢true (sym off ∙ and_from (p.rank == place.rank) (p.block == place.block) (eq-eqb p.rank place.rank (ap (λ (q : Place). q.rank) here)) (eq-eqb p.block place.block (ap (λ (q : Place). q.block) here)))

      was_unheld : AllByRecursion (λ t. before t.0 t.1 ≢ place) gone → (rank : ℕ) (object : Object) → IsOn shape g rank object → before rank object ≢ place
      was_unheld not_at rank object was here =
          let stayed = c.kept rank object was (All-map (λ t. before t.0 t.1 ≢ place) _ (λ t apart. isnt (is_it rank object t) (λ it. apart (ap (λ (u : RankObject). before u.0 u.1) (told rank object t it) ∙ here))) gone not_at) in
          unheld rank object stayed.0 (stayed.1 ∙ here)

  pub changed_view : IsViewed shape other h vertices_after edges_after
  changed_view = record {
    vertex_keys = c.vertex_keys;
    edge_keys = c.edge_keys;
    each = λ rank object on. record { place = allowed_there rank object on (origin rank object on); words = words_there rank object on };
    apart = λ rank a b on_a on_b same. apart_there rank a b on_a on_b (origin rank a on_a) (origin rank b on_b) same;
    rest = rest_there;
    within = c.within;
  }
