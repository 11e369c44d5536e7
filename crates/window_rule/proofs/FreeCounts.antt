-- How long the free list of a rank is, as a view that is alone knows it.
use Rattle.std.proofs.Common.{◌≡◌, ◌≢◌, ℕ, zero, suc, ◌+◌, ◌<◌, List, [], ◌∷◌, map, length, get_or, refl, sym, ap, ◌∙◌, subst, ◌⊎◌, inl, inr, arith, Option, Some, None}
use Rattle.std.proofs.lemmas.Bool.{cases_eq}
use Rattle.std.proofs.lemmas.List.{length-map}
use mathlib.Core.Option.{some, some-injective}
use lib.ListN.{get_elem?}
use Rattle.object_words.specs.Entries.{Entry, store_after}
use Rattle.object_words.specs.Blocks.{on_rank as place_on, contents_use}
use Rattle.object_words.specs.Contents.{content_of}
use Rattle.rma_layout.specs.declared.word.Word.TheVariants.{Commit}
use Rattle.rma_layout.specs.Shape.{Shape}
use Rattle.window_rule.specs.View.{View, spent}
use Rattle.window_rule.specs.Dirty.{dirt_of}
use Rattle.window_rule.specs.Words.{Words, sizes_in, data_in, nexts_in, heads_in}
use Rattle.window_rule.specs.Objects.{IsKept, chain_length}
use Rattle.window_rule.specs.ContentsHold.{IsDirtOrNone}
use Rattle.window_rule.specs.RightsHold.{IsAlone}
use Rattle.window_rule.specs.RoomHolds.{sum_below, count_on}
use Rattle.window_rule.specs.Partition.{places_of}
use Rattle.window_rule.specs.Permits.{Moment}
use Rattle.window_rule.specs.Lawful.{owns_of, dirts_of}
use Rattle.window_rule.proofs.Counting.{sum_below-same}
use Rattle.window_rule.proofs.RoomKept.{sum_below-only, count_all}
use Rattle.window_rule.proofs.RightsKept.{others_are_spent}
use Rattle.window_rule.proofs.ViewsKept.{part_before}
use Rattle.window_rule.proofs.CommitKept.{total_is_sum}
use Rattle.window_rule.proofs.CommitSteps.{below_length}
use Rattle.window_rule.proofs.SplitSteps.{prefix_of_none}
use Rattle.window_rule.proofs.Coverage.{free_blocks_are_counted}

-- what stands at a number of the views, or the default past them
at_or_past : {V A : Type 0} (part : V → A) (views : List V) (d : A) (j : ℕ)
    → (get_or (map part views) j d ≡ d)
    ⊎ ((v : V) × (get_elem? views j ≡ some v) × (get_or (map part views) j d ≡ part v))
at_or_past part [] d j = inl refl
at_or_past part (v ∷ vs) d zero = inr (v, refl, refl)
at_or_past part (v ∷ vs) d (suc j) = at_or_past part vs d j

is_none : (writer : Option ℕ) → ((j : ℕ) → writer ≢ Some j) → writer ≡ None
is_none None h = refl
is_none (Some j) h = absurd (h j refl)

module _ {N : Type 0} (fits : Shape → Entry N → Type 0) (shape : Shape) (words : Words)
    (views : List (View N)) (id : ℕ) (before : View N)
    (now : Moment fits shape words views id before) (rank : ℕ) (on : rank < shape.ranks)
    (alone : IsAlone shape before) (clean : before.dirty ≡ []) where
  other_spent : (j : ℕ) (view : View N) → j ≢ id → get_elem? views j ≡ some view → view ≡ spent
  other_spent j view ne at = now.lawful.holds.spent j view at
      (others_are_spent shape
      (words Commit) views id j before view now.lawful.holds.rights now.there alone ne at)

  nothing_dirty : (j : ℕ) → get_or (dirts_of views) j [] ≡ []
  nothing_dirty j =
      elim (at_or_past (λ (v : View N). v.dirty) views [] j) [
        | inl past ↦ past
        | inr found ↦ elim (cases_eq j id) [
          | inl same ↦
              let is : found.0 ≡ before = some-injective _ _
              (sym found.1 ∙ (ap (get_elem? views) same ∙ now.there)) in
              found.2 ∙ (ap (λ (v : View N). v.dirty) is ∙ clean)
          | inr ne ↦ found.2 ∙ ap (λ (v : View N). v.dirty) (other_spent j found.0 ne found.1)
        ]
      ]

  others_own : (j : ℕ) → j ≢ id → get_or (owns_of views) j [] ≡ []
  others_own j ne =
      elim (at_or_past (λ (v : View N). v.private) views [] j) [
        | inl past ↦ past
        | inr found ↦ found.2 ∙ ap (λ (v : View N). v.private) (other_spent j found.0 ne found.1)
      ]

  all_seen : before.seen ≡ now.lawful.ground.history
  all_seen =
      let held = now.lawful.holds.history.held in
      elim (cases_eq held.0 id) [
        | inl same ↦
            let is : held.1 ≡ before = some-injective _ _
            (sym held.2 ∙ (ap (get_elem? views) same ∙ now.there)) in
            sym (ap (λ (v : View N). v.seen) is) ∙ held.3
        | inr ne ↦
            let none : [] ≡ now.lawful.ground.history = sym
            (ap (λ (v : View N). v.seen) (other_spent held.0 held.1 ne held.2)) ∙ held.3 in
            let begins = (now.lawful.holds.history.each id before now.there).begins in
            prefix_of_none before.seen begins.0 (begins.1 ∙ sym none) ∙ none
      ]

  chain_is_full : (b : ℕ) → b < shape.blocks
      → count_on rank (now.lawful.ground.objects (place_on rank b)).chain ≡ chain_length shape
      (place_on rank b) (content_of (store_after now.lawful.ground.history) (place_on rank b))
  chain_is_full b below =
      let h = now.lawful.holds in
      let object = place_on rank b in
      let writer : (now.lawful.ground.objects object).writer ≡ None = is_none
      (now.lawful.ground.objects object).writer (λ j.
      subst (λ d. IsDirtOrNone (content_of (store_after now.lawful.ground.history) object)
      (now.lawful.ground.objects object) j (dirt_of d object)) (nothing_dirty j)
      (h.dirt j object)) in
      let kept = subst (IsKept shape (sizes_in words) (data_in words) object
      (now.lawful.ground.objects object).chain) (h.contents object (on, below) writer)
      (h.objects object (on, below)) in
      count_all rank (now.lawful.ground.objects object).chain (h.lie object).one_rank ∙ kept.blocks

  pub free_count : length (now.lawful.ground.free rank) + contents_use shape
      (store_after before.seen) rank + count_on rank (places_of before.private) ≡ shape.blocks
  free_count =
      let h = now.lawful.holds in
      let used = λ (b : ℕ). chain_length shape (place_on rank b)
      (content_of (store_after now.lawful.ground.history) (place_on rank b)) in
      let owned = λ (j : ℕ). count_on rank (places_of (get_or (owns_of views) j [])) in
      let seen : contents_use shape (store_after before.seen) rank ≡ contents_use shape
      (store_after now.lawful.ground.history) rank = ap
      (λ s. contents_use shape (store_after s) rank) all_seen in
      let sum : contents_use shape
      (store_after now.lawful.ground.history) rank ≡ sum_below shape.blocks used =
      total_is_sum shape.blocks used in
      let mine : owned id ≡ count_on rank (places_of before.private) = ap
      (λ l. count_on rank (places_of l))
      (part_before (λ (v : View N). v.private) views id before before [] now.there) in
      let here : id < length (owns_of views) = let same : length (owns_of views) ≡ length views =
      length-map views (λ (v : View N). v.private) in omega
      (arith, below_length views id before now.there) in
      omega (
        arith,
        free_blocks_are_counted shape (heads_in words) (nexts_in words) now.lawful.ground.free
            (owns_of views) now.lawful.ground.objects now.lawful.ground.owner h.blocks h.free h.lie
            rank on,
        count_all rank (now.lawful.ground.free rank) (h.free.lists rank).one_rank,
        sum_below-same shape.blocks
            (λ b. count_on rank (now.lawful.ground.objects (place_on rank b)).chain)
            used chain_is_full,
        sum_below-only (length (owns_of views)) owned id here
            (λ j ne. ap (λ l. count_on rank (places_of l)) (others_own j ne)),
      )
