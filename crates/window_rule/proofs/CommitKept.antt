-- An entry is committed.
use Rattle.std.proofs.Common.{◌≡◌, ◌≢◌, ℕ, zero, suc, ◌+◌, ◌≤◌, not, ◌&&◌, Bool, true, false, cond, List, [], ◌∷◌, ◌++◌, set, get_or, refl, sym, ap, ◌∙◌, subst, inl, inr, arith, Option, Some, None, eq-eqb, ne_eqb, is_some}
use Rattle.std.specs.Option.{unwrap_or}
use Rattle.std.proofs.lemmas.Bool.{cases_eq}
use mathlib.Core.Option.{some}
use lib.ListN.{get_elem?}
use Rattle.rma_layout.specs.Shape.{Shape}
use Rattle.rma_layout.specs.Placement.{Place, IsBlock}
use Rattle.object_words.specs.Blocks.{one_if, is_reserved, growth, on_rank as place_on, total_below, contents_need}
use Rattle.object_words.specs.Contents.{content_of, words_at, is_empty, IsByRisingObject}
use Rattle.object_words.specs.Entries.{Entry, store_after, HasBlocks}
use Rattle.object_words.proofs.Overlays.{content-overlay}
use Rattle.object_words.proofs.Histories.{contents_after-push}
use Rattle.window_rule.specs.View.{View, Dirt}
use Rattle.window_rule.specs.Dirty.{dirt_of}
use Rattle.window_rule.specs.Objects.{Objects, chain_length}
use Rattle.window_rule.specs.ContentsHold.{ContentsAgree, DirtHolds, IsDirtOrNone}
use Rattle.window_rule.specs.RoomHolds.{sum_below}
use Rattle.window_rule.specs.Commit.{attached_of, need_of, need_from, released, released_from}
use Rattle.window_rule.specs.Lawful.{dirts_of}
use Rattle.window_rule.proofs.Counting.{sum_below-same}
use Rattle.window_rule.proofs.Sums.{sum_below-add}
use Rattle.window_rule.proofs.ViewsKept.{part_before, part_after, part_other}

-- sums of specs and of proofs are one
pub total_is_sum : (n : ℕ) (f : ℕ → ℕ) → total_below n f ≡ sum_below n f
unfolding total_below
total_is_sum zero f = refl
total_is_sum (suc n) f = ap (λ k. k + f n) (total_is_sum n f)

-- the store after one more entry, object by object
pub store-push : {N : Type 0} (history : List (Entry N)) (entry : Entry N) (object : Place)
    → IsByRisingObject entry.writes
    → content_of (store_after (history ++ entry ∷ [])) object ≡ unwrap_or
    (words_at entry.writes object) (content_of (store_after history) object)
store-push history entry object h =
    ap (λ c. content_of c object) (contents_after-push [] history entry)
    ∙ content-overlay (store_after history) entry.writes object h

abbrev wanted : Shape → Place → List ℕ → Option (List ℕ) → ℕ
wanted shape object kept writes =
    one_if (not (is_reserved shape object.block) && is_empty kept && is_some writes) + cond
    (is_some writes) (growth shape object.block kept (unwrap_or writes [])) 0

and_false : (a b : Bool) → one_if (a && b && false) ≡ 0
and_false true true = refl
and_false true false = refl
and_false false b = refl

and_true : (a b : Bool) → one_if (a && b && true) ≡ one_if (a && b)
and_true true true = refl
and_true true false = refl
and_true false b = refl

wanted-from : (shape : Shape) (object : Place) (kept : List ℕ) (writes : Option (List ℕ))
    → wanted shape object kept writes ≡ need_from shape object kept writes
wanted-from shape object kept None = omega
    (arith, and_false (not (is_reserved shape object.block)) (is_empty kept))
wanted-from shape object kept (Some after) = ap (λ k. k + growth shape object.block kept after)
    (and_true (not (is_reserved shape object.block)) (is_empty kept))

released-mine : (id : ℕ) → released id (Some id) ≡ None
released-mine id = ap (λ t. cond t None (Some id)) (eq-eqb id id refl)

released-other : (id j : ℕ) → j ≢ id → released id (Some j) ≡ Some j
released-other id j ne = ap (λ t. cond t None (Some j)) (ne_eqb j id ne)

not_mine : (id : ℕ) (writer : Option ℕ) → released id writer ≢ Some id
not_mine id None e = cc e
not_mine id (Some j) e =
    elim (cases_eq j id) [
      | inl same ↦ let none : None ≡ Some id = sym
          (ap (λ k. released id (Some k)) same ∙ released-mine id) ∙ e in cc none
      | inr ne ↦ ne (let both : Some j ≡ Some id = sym (released-other id j ne) ∙ e in cc both)
    ]

stays : (id j : ℕ) (writer : Option ℕ) → j ≢ id → writer ≢ Some j → released id writer ≢ Some j
stays id j None ne not e = cc e
stays id j (Some k) ne not e =
    elim (cases_eq k id) [
      | inl same ↦ let none : None ≡ Some j = sym
          (ap (λ i. released id (Some i)) same ∙ released-mine id) ∙ e in cc none
      | inr other ↦ not (sym (released-other id k other) ∙ e)
    ]

module _ {N : Type 0} (shape : Shape) (history : List (Entry N)) (objects : Objects)
    (views : List (View N)) (id : ℕ) (before after : View N)
    (there : get_elem? views id ≡ some before)
    (entry : Entry N) (in_order : IsByRisingObject entry.writes) (writes : (object : Place)
    → words_at entry.writes object ≡ attached_of (dirt_of before.dirty object))
    (attached : (object : Place) (dirt : Dirt) → dirt_of before.dirty object ≡ Some dirt
    → dirt.attached ≢ None) (clean : after.dirty ≡ [])
    (contents : ContentsAgree shape (store_after history) objects)
    (dirt : DirtHolds (store_after history) objects (dirts_of views)) where
  abbrev longer : List (Entry N)
  longer = history ++ entry ∷ []

  mine : (object : Place)
      → IsDirtOrNone (content_of (store_after history) object) (objects object) id
      (dirt_of before.dirty object)
  mine object = subst
      (λ d. IsDirtOrNone (content_of (store_after history) object) (objects object) id
      (dirt_of d object)) (part_before (λ (v : View N). v.dirty) views id before before [] there)
      (dirt id object)

  -- an object that the view had no dirt of keeps its content in the store
  pub stored-other : (object : Place) → dirt_of before.dirty object ≡ None
      → content_of (store_after longer) object ≡ content_of (store_after history) object
  stored-other object none = store-push history entry object in_order
      ∙ ap (λ w. unwrap_or w (content_of (store_after history) object))
      (writes object ∙ ap attached_of none)

  -- one that it had attached words to has these words
  stored-mine : (object : Place) (one : Dirt) (content : List ℕ)
      → dirt_of before.dirty object ≡ Some one → one.attached ≡ Some content
      → content_of (store_after longer) object ≡ content
  stored-mine object one content is words = store-push history entry object in_order
      ∙ ap (λ w. unwrap_or w (content_of (store_after history) object))
      (writes object ∙ (ap attached_of is ∙ words))

  of_mine : (object : Place) (found : Option Dirt) (content : Option (List ℕ))
      → (objects object).writer ≡ Some id → dirt_of before.dirty object ≡ found
      → attached_of found ≡ content
      → IsDirtOrNone (content_of (store_after history) object) (objects object) id found
      → (objects object).content ≡ Some (content_of (store_after longer) object)
  of_mine object None content e is words h = absurd (h e)
  of_mine object (Some one) None e is words h = absurd (attached object one is words)
  of_mine object (Some one) (Some content) e is words h = h.content
      ∙ (words ∙ ap Some (sym (stored-mine object one content is words)))

  none_of : (object : Place) (found : Option Dirt) → (objects object).writer ≢ Some id
      → IsDirtOrNone (content_of (store_after history) object) (objects object) id found
      → found ≡ None
  none_of object None ne h = refl
  none_of object (Some one) ne h = absurd (ne h.writer)

  agree_at : (object : Place) → IsBlock shape object → (writer : Option ℕ)
      → (objects object).writer ≡ writer → released id writer ≡ None
      → (objects object).content ≡ Some (content_of (store_after longer) object)
  agree_at object block None e none =
      contents object block e
      ∙ ap Some (sym (stored-other object
      (none_of object (dirt_of before.dirty object)
      (λ some_id. let c : None ≡ Some id = sym e ∙ some_id in cc c) (mine object))))
  agree_at object block (Some j) e none =
      elim (cases_eq j id) [
        | inl same ↦ of_mine object (dirt_of before.dirty object)
            (attached_of (dirt_of before.dirty object)) (e ∙ ap Some same) refl refl (mine object)
        | inr ne ↦ absurd (let c : Some j ≡ None = sym (released-other id j ne) ∙ none in cc c)
      ]

  pub contents_agree : ContentsAgree shape (store_after longer) (released_from objects id)
  contents_agree object block none = agree_at object block (objects object).writer refl none

  others : (object : Place) (j : ℕ) (found : Option Dirt) → j ≢ id
      → IsDirtOrNone (content_of (store_after history) object) (objects object) j found
      → IsDirtOrNone (content_of (store_after longer) object)
      (released_from objects id object) j found
  others object j None ne h = stays id j (objects object).writer ne h
  others object j (Some one) ne h = record {
    writer = ap (released id) h.writer ∙ released-other id j ne;
    chain = h.chain;
    content = h.content;
    kept = h.kept ∙ sym
        (stored-other object
        (none_of object (dirt_of before.dirty object)
        (λ e. ne (let c : Some j ≡ Some id = sym h.writer ∙ e in cc c)) (mine object)));
  }

  pub dirt_holds : DirtHolds (store_after longer) (released_from objects id)
      (dirts_of (set views id after))
  dirt_holds j object =
      elim (cases_eq j id) [
        | inl same ↦
            subst (λ k. IsDirtOrNone (content_of (store_after longer) object)
            (released_from objects id object) k
            (dirt_of (get_or (dirts_of (set views id after)) k []) object)) (sym same)
            (subst (λ d. IsDirtOrNone (content_of (store_after longer) object)
            (released_from objects id object) id (dirt_of d object))
            (sym (part_after (λ (v : View N). v.dirty) views id before after [] there ∙ clean))
            (not_mine id (objects object).writer))
        | inr ne ↦
            subst (λ d. IsDirtOrNone (content_of (store_after longer) object)
            (released_from objects id object) j (dirt_of d object))
            (sym (part_other (λ (v : View N). v.dirty) views id before after [] there j ne))
            (others object j (dirt_of (get_or (dirts_of views) j []) object) ne (dirt j object))
      ]

  -- what the entry needs is what the view's dirt asks for
  need_at : (object : Place) (found : Option Dirt)
      → words_at entry.writes object ≡ attached_of found
      → IsDirtOrNone (content_of (store_after history) object) (objects object) id found
      → wanted shape object (content_of (store_after history) object)
      (words_at entry.writes object) ≡ need_of shape object found
  need_at object None w h = ap (wanted shape object (content_of (store_after history) object)) w
      ∙ wanted-from shape object (content_of (store_after history) object) None
  need_at object (Some one) w h =
      ap (wanted shape object (content_of (store_after history) object)) w
      ∙ (wanted-from shape object (content_of (store_after history) object) one.attached
      ∙ ap (λ k. need_from shape object k one.attached) (sym h.kept))

  needed_is : (rank : ℕ)
      → contents_need shape (store_after history) entry.writes rank ≡ sum_below shape.blocks
      (λ b. need_of shape (place_on rank b) (dirt_of before.dirty (place_on rank b)))
  needed_is rank =
      let store = store_after history in
      let made = λ (b : ℕ). one_if
      (not (is_reserved shape b) && is_empty (content_of store (place_on rank b)) && is_some
      (words_at entry.writes (place_on rank b))) in
      let grown = λ (b : ℕ). cond (is_some (words_at entry.writes (place_on rank b)))
      (growth shape b (content_of store (place_on rank b))
      (content_of entry.writes (place_on rank b))) 0 in
      omega (
        arith,
        total_is_sum shape.blocks made,
        total_is_sum shape.blocks grown,
        sum_below-add shape.blocks made grown (λ b. made b + grown b) (λ b. refl),
        sum_below-same shape.blocks (λ b. made b + grown b)
            (λ b. need_of shape (place_on rank b) (dirt_of before.dirty (place_on rank b)))
            (λ b below. need_at (place_on rank b) (dirt_of before.dirty (place_on rank b))
            (writes (place_on rank b)) (mine (place_on rank b))),
      )

  -- so each rank has the blocks that the entry needs
  pub has_room : (rank : ℕ)
      → sum_below shape.blocks
      (λ b. chain_length shape (place_on rank b)
      (content_of (store_after history) (place_on rank b)))
      + sum_below shape.blocks
      (λ b. need_of shape (place_on rank b) (dirt_of before.dirty (place_on rank b)))
      ≤ shape.blocks
      → HasBlocks shape (store_after history) entry.writes rank
  has_room rank enough =
      omega (
        arith,
        needed_is rank,
        total_is_sum shape.blocks
            (λ b. chain_length shape (place_on rank b)
            (content_of (store_after history) (place_on rank b))),
      )
