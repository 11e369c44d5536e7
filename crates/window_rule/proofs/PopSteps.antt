-- A block is taken from a free list.
use Rattle.std.proofs.Common.{◌≡◌, ◌≢◌, ℕ, ◌+◌, ◌/◌, ◌%◌, ◌^◌, ◌==◌, cond, List, [], ◌∷◌, set, refl, sym, ap, ◌∙◌, subst, inl, inr, arith, Some, None}
use Rattle.std.specs.List.{AllByRecursion}
use Rattle.std.proofs.lemmas.List.Sums.{sum_by-cons}
use prog.Atomic.{either}
use Rattle.object_words.specs.Entries.{Entry}
use Rattle.object_words.specs.Blocks.{one_if, on_rank}
use Rattle.rma_layout.specs.declared.word.Word.TheVariants.{Head}
use Rattle.rma_layout.specs.Shape.{Shape}
use Rattle.rma_layout.specs.Placement.{Place, same_place}
use Rattle.window_rule.specs.View.{View, OwnBlock}
use Rattle.window_rule.specs.Words.{Words, with_word, nexts_in}
use Rattle.window_rule.specs.Objects.{AreThreaded, number_to, behind, first_of, tag_of}
use Rattle.window_rule.specs.Partition.{FreeOf, OwnOf, places_of, times, part_of}
use Rattle.window_rule.specs.Permits.{Moment, Permits, Goes}
use Rattle.window_rule.specs.Pool.{MayBeFree, MayPop, Pops, popped, next_head}
use Rattle.window_rule.specs.Lawful.{IsLawful, owns_of}
use Rattle.window_rule.proofs.LockLemmas.{place_by_parts, place_cases, same_place-refl, same_place-false}
use Rattle.window_rule.specs.Known.{cell_of, without_cells}
use Rattle.window_rule.proofs.Cells.{cell-gone, cell-stays}
use Rattle.window_rule.proofs.ViewsKept.{part_before}
use Rattle.window_rule.proofs.PartitionKept.{apart}
use Rattle.window_rule.proofs.FreeBlocks.{free_block}
use Rattle.window_rule.proofs.HeadSteps.{head_moves, exchange_goes, note_holds}

-- a list that begins at a block, as what it is of
pub record BeginsWith (nexts : Place → ℕ) (rank : ℕ) (list : List Place)
    (first : Place) : Type 0 where
  pub rest : List Place
  pub list_is : list ≡ first ∷ rest
  pub leads : nexts first ≡ number_to rest
  pub threaded : AreThreaded nexts rest
  pub one_rank : AllByRecursion (λ (block : Place). block.rank ≡ rank) rest

pub begins_with : (nexts : Place → ℕ) (rank first : ℕ) (list : List Place) → first ≡ number_to list
    → first ≢ 0 → AreThreaded nexts list
    → AllByRecursion (λ (block : Place). block.rank ≡ rank) list
    → BeginsWith nexts rank list (on_rank rank first)
begins_with nexts rank first [] e some t r = absurd (some e)
begins_with nexts rank first (block ∷ rest) e some t r =
    let is : block ≡ on_rank rank first = place_by_parts block (on_rank rank first) r.0 (sym e) in
    record {
      rest = rest;
      list_is = ap (λ b. b ∷ rest) is;
      leads = ap nexts (sym is)
          ∙ t.0;
      threaded = t.1;
      one_rank = r.1;
    }

module _ {N : Type 0} (fits : Shape → Entry N → Type 0) (shape : Shape) (rank head next new : ℕ)
    (before : View N) (may : MayPop shape before rank head next)
    (new_is : new ≡ next_head head next) where
  module _ (words : Words) (views : List (View N)) (id : ℕ)
      (now : Moment fits shape words views id before) where
    abbrev block : Place
    block = on_rank rank (first_of head)

    abbrev own : List OwnBlock
    own = record { block = block; next = Some next } ∷ before.private

    pop_made : words (Head rank) ≡ head
        → IsLawful fits shape (with_word words (Head rank) new)
        (set views id (popped rank block next before))
    pop_made hit =
        let h = now.lawful.holds in
        let list = h.free.lists rank in
        let link = may.link in
        let begins = begins_with (nexts_in words) rank (first_of head) (now.lawful.ground.free rank)
        (ap first_of (sym hit) ∙ list.first) may.some_block list.threaded list.one_rank in
        let next_is : next ≡ number_to begins.rest =
        (note_holds fits shape words views id before now rank head may.knows hit).1 next
        may.knows_next ∙ ap (λ l. number_to (behind l)) begins.list_is in
        head_moves fits shape words views id before now rank new own
        (without_cells before.cells block) begins.rest (record {
          rises = ap tag_of new_is
              ∙ (let t : next_head head next / 2 ^ 20 ≡ tag_of head + 1 = omega arith in t
              ∙ ap (λ n. tag_of n + 1) (sym hit));
          first = ap first_of new_is
              ∙ (let t : next_head head next % 2 ^ 20 ≡ next = omega arith in t ∙ next_is);
          threaded = begins.threaded;
          one_rank = begins.one_rank;
          conserved = λ b. let all : times b (now.lawful.ground.free rank) ≡ one_if
              (same_place block b) + times b begins.rest = ap (times b) begins.list_is in
              omega arith;
          known = ((λ n e. begins.leads ∙ (sym next_is ∙ cc e)), h.own id before now.there);
          cells_known = λ b i word has e. elim (place_cases b block) [
            | inl same ↦ absurd
                (let gone : None ≡ Some word = sym
                (ap (λ q. cell_of (without_cells before.cells block) q i) same
                ∙ cell-gone before.cells block i) ∙ e in cc gone)
            | inr ne ↦ h.cells id before now.there b i word (elim has [
              | inl own ↦ let not_it : one_if (same_place block b) ≡ 0 = ap one_if
                  (same_place-false block b (λ s. ne (sym s))) in inl (omega arith)
              | inr of_dirt ↦ inr of_dirt
            ]) (sym (cell-stays before.cells block b i ne) ∙ e)
          ];
          stock = λ r. omega (
            arith,
            h.room id before now.there r,
            sum_by-cons (λ (p : Place). cond (p.rank == r) 1 0) block (places_of before.private),
          );
        })

    -- the block was with no view
    pop_fresh : words (Head rank) ≡ head → times block (places_of before.private) ≡ 0
    pop_fresh hit =
        let h = now.lawful.holds in
        let list = h.free.lists rank in
        let begins = begins_with (nexts_in words) rank (first_of head) (now.lawful.ground.free rank)
        (ap first_of (sym hit) ∙ list.first) may.some_block list.threaded list.one_rank in
        let here : one_if (same_place block block) ≡ 1 = ap one_if (same_place-refl block) in
        let there : times block (now.lawful.ground.free rank) ≡ one_if
        (same_place block block) + times block begins.rest = ap (times block) begins.list_is in
        sym (ap (λ l. times block (places_of l))
        (part_before (λ (v : View N). v.private) views id before before [] now.there))
        ∙ apart shape (part_of now.lawful.ground.free (owns_of views) now.lawful.ground.objects)
        now.lawful.ground.owner (FreeOf rank) (OwnOf id) block h.blocks (λ e. cc e)
        (omega arith)

    -- and in a free list
    pop_free : words (Head rank) ≡ head → MayBeFree shape rank block
    pop_free hit =
        let h = now.lawful.holds in
        let list = h.free.lists rank in
        let begins = begins_with (nexts_in words) rank (first_of head) (now.lawful.ground.free rank)
        (ap first_of (sym hit) ∙ list.first) may.some_block list.threaded list.one_rank in
        let here : one_if (same_place block block) ≡ 1 = ap one_if (same_place-refl block) in
        let there : times block (now.lawful.ground.free rank) ≡ one_if
        (same_place block block) + times block begins.rest = ap (times block) begins.list_is in
        free_block shape (part_of now.lawful.ground.free (owns_of views) now.lawful.ground.objects)
        now.lawful.ground.owner h.blocks rank list.one_rank block (omega arith)

    pop_goes : Goes fits shape
        (with_word words (Head rank) (either (words (Head rank) == head) new (words (Head rank))))
        views id before (Pops shape rank head next before (words (Head rank)))
    pop_goes =
        let gone = exchange_goes fits shape words views id before now rank head new
        (popped rank (on_rank rank (first_of head)) next before) may.knows refl pop_made in
        record {
          after = gone.after;
          lawful = gone.lawful;
          same_rights = gone.same_rights;
          told = record { exchanges = gone.told; fresh = pop_fresh; free = pop_free };
        }

  pub pop_permitted : Permits fits shape (Head rank)
      (λ found. either (found == head) new found) before
      (Pops shape rank head (first_of new) before)
  pop_permitted = record {
    goes = λ words views id now small.
        let link = may.link in
        let first : first_of new ≡ next = ap first_of new_is
        ∙ (let t : next_head head next % 2 ^ 20 ≡ next = omega arith in t) in
        subst (λ n. Goes fits shape
        (with_word words (Head rank)
        (either (words (Head rank) == head) new (words (Head rank)))) views id before
        (Pops shape rank head n before (words (Head rank)))) (sym first)
        (pop_goes words views id now);
  }
