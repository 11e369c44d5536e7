-- A block is given back to a free list.
use Rattle.std.proofs.Common.{◌≡◌, ℕ, ◌+◌, ◌/◌, ◌%◌, ◌^◌, ◌<◌, ◌==◌, cond, List, [], ◌∷◌, set, refl, sym, ap, ◌∙◌, subst, inl, inr, arith, Some}
use Rattle.std.specs.List.{AllByRecursion}
use Rattle.std.proofs.lemmas.Bool.{cases_Bool}
use prog.Atomic.{either}
use Rattle.object_words.specs.Entries.{Entry}
use Rattle.object_words.specs.Blocks.{one_if}
use Rattle.rma_layout.specs.declared.word.Word.TheVariants.{Head}
use Rattle.rma_layout.specs.Shape.{Shape}
use Rattle.rma_layout.specs.Placement.{Place, same_place}
use Rattle.window_rule.specs.View.{View, OwnBlock}
use Rattle.window_rule.specs.Words.{Words, with_word, nexts_in}
use Rattle.window_rule.specs.Objects.{number_to, first_of, tag_of}
use Rattle.window_rule.specs.ContentsHold.{IsOwnKnown}
use Rattle.window_rule.specs.RoomHolds.{HasStock}
use Rattle.window_rule.specs.Partition.{places_of, times}
use Rattle.window_rule.specs.Permits.{Moment, Permits, Goes}
use Rattle.window_rule.specs.Pool.{MayPush, Pushes, pushed, next_head, own_of, without_own}
use Rattle.window_rule.specs.Lawful.{IsLawful}
use Rattle.window_rule.proofs.Sums.{sum_below-zero}
use Rattle.window_rule.proofs.WordFunctions.{same_place-tells}
use Rattle.window_rule.proofs.HeadSteps.{head_moves, exchange_goes}

-- what is known of a block that is found, and where it lies
pub record IsFound (P : OwnBlock → Type 0) (all : List OwnBlock) (block : Place)
    (own : OwnBlock) : Type 0 where
  pub block_is : own.block ≡ block
  pub holds : P own
  pub rest : AllByRecursion P (without_own all block)
  pub counted : (b : Place)
      → times b (places_of (without_own all block)) + one_if (same_place block b) ≡ times b
      (places_of all)

pub found_own : (P : OwnBlock → Type 0) (all : List OwnBlock) (block : Place) (own : OwnBlock)
    → own_of all block ≡ Some own → AllByRecursion P all → IsFound P all block own
found_own P [] block own e h = absurd (cc e)
found_own P (one ∷ more) block own e h =
    elim (cases_Bool (same_place one.block block)) [
      | inl same ↦
          let found : Some one ≡ Some own = sym
          (ap (λ b. cond b (Some one) (own_of more block)) same) ∙ e in
          let is : one ≡ own = cc found in
          let here : one.block ≡ block = same_place-tells one.block block same in
          let left : without_own (one ∷ more) block ≡ more = ap
          (λ b. cond b more (one ∷ without_own more block)) same in
          record {
            block_is = sym (ap (λ (o : OwnBlock). o.block) is) ∙ here;
            holds = subst P is h.0;
            rest = subst (AllByRecursion P) (sym left) h.1;
            counted = λ b. let a : times b (places_of (without_own (one ∷ more) block)) ≡ times b
                (places_of more) = ap (λ l. times b (places_of l)) left in
                let c : one_if (same_place one.block b) ≡ one_if (same_place block b) = ap
                (λ p. one_if (same_place p b)) here in omega arith;
          }
      | inr differ ↦
          let rest = found_own P more block own
          (sym (ap (λ b. cond b (Some one) (own_of more block)) differ) ∙ e) h.1 in
          let left : without_own (one ∷ more) block ≡ one ∷ without_own more block = ap
          (λ b. cond b more (one ∷ without_own more block)) differ in
          record {
            block_is = rest.block_is;
            holds = rest.holds;
            rest = subst (AllByRecursion P) (sym left) (h.0, rest.rest);
            counted = λ b. let a : times b (places_of (without_own (one ∷ more) block)) ≡ times b
                (places_of (one ∷ without_own more block)) = ap (λ l. times b (places_of l)) left in
                omega (arith, rest.counted b);
          }
    ]

module _ {N : Type 0} (fits : Shape → Entry N → Type 0) (shape : Shape) (block : Place)
    (head new : ℕ) (before : View N) (may : MayPush shape before block head)
    (new_is : new ≡ next_head head block.block) where
  module _ (words : Words) (views : List (View N)) (id : ℕ)
      (now : Moment fits shape words views id before) where
    small_block : block.block < 2 ^ 20
    small_block = omega (arith, may.block_is.1, now.in_range.blocks.1)

    tag_is : next_head head block.block / 2 ^ 20 ≡ tag_of head + 1
    tag_is = omega (arith, small_block)

    first_is : next_head head block.block % 2 ^ 20 ≡ block.block
    first_is = omega (arith, small_block)

    push_made : words (Head block.rank) ≡ head
        → IsLawful fits shape (with_word words (Head block.rank) new)
        (set views id (pushed block before))
    push_made hit =
        let h = now.lawful.holds in
        let free = now.lawful.ground.free block.rank in
        let list = h.free.lists block.rank in
        let found = found_own (IsOwnKnown (nexts_in words)) before.private block may.own may.found
        (h.own id before now.there) in
        let leads : nexts_in words block ≡ number_to free = ap (nexts_in words) (sym found.block_is)
        ∙ (found.holds (first_of head) may.linked ∙ (ap first_of (sym hit) ∙ list.first)) in
        head_moves fits shape words views id before now block.rank new
        (without_own before.private block) before.cells (block ∷ free) (record {
          rises = ap tag_of new_is ∙ (tag_is ∙ ap (λ n. tag_of n + 1) (sym hit));
          first = ap first_of new_is ∙ first_is;
          threaded = (leads, list.threaded);
          one_rank = (refl, list.one_rank);
          conserved = λ b. omega (arith, found.counted b);
          known = found.rest;
          cells_known = λ b i word has e. h.cells id before now.there b i word (elim has [
            | inl own ↦ inl (omega (arith, found.counted b))
            | inr of_dirt ↦ inr of_dirt
          ]) e;
          stock = λ r. subst
              (λ d. HasStock shape
              (record { private = without_own before.private block; dirty = d })) (sym may.clean)
              (λ rank. omega (arith, sum_below-zero shape.blocks)) r;
        })

    push_goes : Goes fits shape
        (with_word words (Head block.rank)
        (either (words (Head block.rank) == head) new (words (Head block.rank)))) views id before
        (Pushes shape block.rank head (first_of new) before (words (Head block.rank)))
    push_goes =
        subst (λ n. Goes fits shape
        (with_word words (Head block.rank)
        (either (words (Head block.rank) == head) new (words (Head block.rank))))
        views id before (Pushes shape block.rank head n before (words (Head block.rank))))
        (sym (ap first_of new_is ∙ first_is))
        (exchange_goes fits shape words views id before now block.rank head new
        (pushed block before) may.knows refl push_made)

  pub push_permitted : Permits fits shape (Head block.rank)
      (λ found. either (found == head) new found) before
      (Pushes shape block.rank head (first_of new) before)
  push_permitted = record { goes = λ words views id now small. push_goes words views id now }

-- the same where rank and block were asked for
pub push_permitted_at : {N : Type 0} (fits : Shape → Entry N → Type 0) (shape : Shape)
    (block : Place) (rank number head new : ℕ) (before : View N) → MayPush shape before block head
    → rank ≡ block.rank → number ≡ block.block
    → new ≡ next_head head number
    → Permits fits shape (Head rank) (λ found. either (found == head) new found) before
    (Pushes shape rank head (first_of new) before)
push_permitted_at fits shape block rank number head new before may rank_is number_is new_is =
    subst (λ r. Permits fits shape (Head r) (λ found. either (found == head) new found) before
    (Pushes shape r head (first_of new) before)) (sym rank_is)
    (push_permitted fits shape block head new before may (new_is ∙ ap (next_head head) number_is))
