-- The free-list word of a block of a view's own is stored.
use Rattle.std.proofs.Common.{◌≡◌, ◌≢◌, ℕ, ◌+◌, ◌^◌, ◌<◌, ◌≤◌, cond, Bool, true, false, List, [], ◌∷◌, set, get_or, refl, sym, ap, ◌∙◌, subst, inl, inr, arith, Some}
use Rattle.std.specs.List.{AllByRecursion}
use Rattle.std.proofs.lemmas.Bool.{cases_Bool, cases_eq}
use Rattle.object_words.specs.Entries.{Entry}
use Rattle.object_words.specs.Blocks.{one_if}
use Rattle.rma_layout.specs.declared.word.Word.TheVariants.{FreeList}
use Rattle.rma_layout.specs.Shape.{Shape}
use Rattle.rma_layout.specs.Placement.{Place, same_place}
use Rattle.window_rule.specs.View.{View, OwnBlock}
use Rattle.window_rule.specs.Words.{Words, with_word, nexts_in}
use Rattle.window_rule.specs.Objects.{AreThreaded}
use Rattle.window_rule.specs.ContentsHold.{IsOwnKnown}
use Rattle.window_rule.specs.RoomHolds.{sum_below, asked_at, kept_at, count_on}
use Rattle.window_rule.specs.Partition.{Holder, FreeOf, OwnOf, Within, part_of, places_of, times}
use Rattle.window_rule.specs.Permits.{Moment, Permits}
use Rattle.window_rule.specs.Pool.{MayLink, Links, linked, with_link}
use Rattle.window_rule.specs.Lawful.{IsLawful, owns_of}
use Rattle.window_rule.proofs.ViewsKept.{part_before, part_after, part_other}
use Rattle.window_rule.proofs.PartitionKept.{apart}
use Rattle.window_rule.proofs.PoolKept.{pool_step_keeps}

pub places-linked : (block : Place) (next : ℕ) (own : List OwnBlock)
    → places_of (with_link block next own) ≡ places_of own
places-linked block next [] = refl
places-linked block next (one ∷ more) =
    let first : (b : Bool)
    → (cond b (record one { next = Some next }) one).block ≡ one.block = λ b. elim b as
    (λ b. (cond b (record one { next = Some next }) one).block ≡ one.block)
    [ true ↦ refl | false ↦ refl ] in
    λ k. first (same_place one.block block) k ∷ places-linked block next more k

module _ (nexts : Place → ℕ) (block : Place) (next : ℕ) where
  abbrev linked_nexts : Place → ℕ
  linked_nexts other = cond (same_place other block) next (nexts other)

  pub threads_stay : (list : List Place) → times block list ≡ 0 → AreThreaded nexts list
      → AreThreaded linked_nexts list
  threads_stay [] none h = tt
  threads_stay (one ∷ more) none h = (
    elim (cases_Bool (same_place one block)) [
      | inl same ↦
          let one_is : one_if (same_place one block) ≡ 1 = ap one_if same in
          absurd (omega arith)
      | inr differ ↦ ap (λ b. cond b next (nexts one)) differ ∙ h.0
    ],
    threads_stay more (omega arith) h.1,
  )

  -- blocks of another view
  pub known_stay : (own : List OwnBlock) → times block (places_of own) ≡ 0
      → AllByRecursion (IsOwnKnown nexts) own → AllByRecursion (IsOwnKnown linked_nexts) own
  known_stay [] none h = tt
  known_stay (one ∷ more) none h = (
    (λ n e. elim (cases_Bool (same_place one.block block)) [
      | inl same ↦
          let one_is : one_if (same_place one.block block) ≡ 1 = ap one_if same in
          absurd (omega arith)
      | inr differ ↦ ap (λ b. cond b next (nexts one.block)) differ ∙ h.0 n e
    ]),
    known_stay more (omega arith) h.1,
  )

  -- and of the view that steps
  pub known_linked : (own : List OwnBlock) → AllByRecursion (IsOwnKnown nexts) own
      → AllByRecursion (IsOwnKnown linked_nexts) (with_link block next own)
  known_linked [] h = tt
  known_linked (one ∷ more) h = (
    elim (cases_Bool (same_place one.block block)) [
      | inl same ↦
          subst (λ b. IsOwnKnown linked_nexts (cond b (record one { next = Some next }) one))
          (sym same)
          (λ n e. ap (λ b. cond b next (nexts one.block)) same ∙ (cc e))
      | inr differ ↦
          subst (λ b. IsOwnKnown linked_nexts (cond b (record one { next = Some next }) one))
          (sym differ)
          (λ n e. ap (λ b. cond b next (nexts one.block)) differ ∙ h.0 n e)
    ],
    known_linked more h.1,
  )

module _ {N : Type 0} (fits : Shape → Entry N → Type 0) (shape : Shape) (block : Place) (next : ℕ)
    (before : View N) (may : MayLink before block next)
    (words : Words) (views : List (View N)) (id : ℕ)
    (now : Moment fits shape words views id before) where
  abbrev after : View N
  after = linked block next before

  abbrev part : Holder → List Place
  part = part_of now.lawful.ground.free (owns_of views) now.lawful.ground.objects

  abbrev own_of : View N → List OwnBlock
  own_of v = v.private

  mine : 0 < times block (part (OwnOf id))
  mine = omega (
    arith,
    may.own,
    ap (λ l. times block (places_of l)) (part_before own_of views id before before [] now.there),
  )

  not_in : (holder : Holder) → OwnOf id ≢ holder → times block (part holder) ≡ 0
  not_in holder ne = apart shape part now.lawful.ground.owner
      (OwnOf id) holder block now.lawful.holds.blocks ne mine

  same_part : (holder : Holder)
      → part_of now.lawful.ground.free
      (owns_of (set views id after)) now.lawful.ground.objects holder ≡ part holder
  same_part (FreeOf rank) = refl
  same_part (Within object) = refl
  same_part (OwnOf j) =
      elim (cases_eq j id) [
        | inl same ↦
            ap (λ k. places_of (get_or (owns_of (set views id after)) k [])) same
            ∙ (ap places_of (part_after own_of views id before after [] now.there)
            ∙ (places-linked block next before.private
            ∙ (ap places_of (sym (part_before own_of views id before after [] now.there))
            ∙ ap (λ k. places_of (get_or (owns_of views) k [])) (sym same))))
        | inr ne ↦ ap places_of (part_other own_of views id before after [] now.there j ne)
      ]

  pub link_keeps : IsLawful fits shape (with_word words (FreeList block) next) (set views id after)
  link_keeps =
      let h = now.lawful.holds in record {
        ground = now.lawful.ground;
        holds = pool_step_keeps fits shape words
            (with_word words (FreeList block) next)
            views id before after now now.lawful.ground.free now.lawful.ground.owner (record {
              words_beside = record {
                locks = refl;
                sizes = refl;
                cells = refl;
                stamps = refl;
                gate = refl;
                commit = refl;
              };
              view_beside = refl;
              lists = record {
                links = λ other. elim (same_place other block) as
                    (λ (b : Bool). cond b next (words (FreeList other)) < 2 ^ 20)
                    [ true ↦ may.link | false ↦ h.free.links other ];
                lists = λ rank. record {
                  first = (h.free.lists rank).first;
                  threaded = threads_stay (nexts_in words) block next (now.lawful.ground.free rank)
                      (not_in (FreeOf rank) (λ e. cc e)) (h.free.lists rank).threaded;
                  one_rank = (h.free.lists rank).one_rank;
                };
              };
              blocks = record {
                each = λ holder b. ap (times b) (same_part holder)
                    ∙ h.blocks.each holder b;
                reserved = h.blocks.reserved;
              };
              mine_known = known_linked (nexts_in words) block next before.private
                  (h.own id before now.there);
              theirs_known = λ j view ne at was. known_stay (nexts_in words) block next view.private
                  (sym (ap (λ l. times block (places_of l))
                  (part_before own_of views j view view [] at))
                  ∙ not_in (OwnOf j) (λ e. ne (let same : id ≡ j = cc e in sym same))) was;
              mine_cells = λ b i word has e. h.cells id before now.there b i word (elim has [
                | inl own ↦ inl (omega (arith, ap (times b) (places-linked block next before.private)))
                | inr of_dirt ↦ inr of_dirt
              ]) e;
              stock = λ rank. subst
                  (λ places. sum_below shape.blocks
                  (asked_at shape before.dirty rank) ≤ count_on rank places + sum_below shape.blocks
                  (kept_at before.dirty rank)) (sym (places-linked block next before.private))
                  (h.room id before now.there rank);
              mine_noted = h.notes id before now.there;
              theirs_noted = λ j view ne at not_alone was. was;
            });
      }

pub link_permitted : {N : Type 0} (fits : Shape → Entry N → Type 0) (shape : Shape) (block : Place)
    (next : ℕ) (before : View N) → MayLink before block next
    → Permits fits shape (FreeList block) (λ _. next) before (λ _. Links block before next)
link_permitted fits shape block next before may = record {
  goes = λ words views id now small.
      record {
        after = linked block next before;
        lawful = link_keeps fits shape block next before may words views id now;
        same_rights = refl;
        told = refl;
      };
}
