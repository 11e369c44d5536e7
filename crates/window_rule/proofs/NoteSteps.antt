-- A head and the word of its block are loaded, and the tag of a head is renewed.
use Rattle.std.proofs.Common.{◌≡◌, ◌≢◌, ℕ, ◌/◌, ◌^◌, ◌<◌, cond, List, [], ◌∷◌, set, refl, sym, ap, ◌∙◌, subst, inl, inr, arith, eq-eqb, ne_eqb, Some}
use Rattle.std.specs.List.{AllByRecursion}
use Rattle.std.proofs.lemmas.Bool.{cases_eq}
use Rattle.object_words.specs.Entries.{Entry}
use Rattle.object_words.specs.Blocks.{on_rank}
use Rattle.rma_layout.specs.declared.word.Word.TheVariants.{Head, FreeList, Commit}
use Rattle.rma_layout.specs.Shape.{Shape}
use Rattle.rma_layout.specs.Placement.{Place}
use Rattle.window_rule.specs.View.{View, HeadNote, spent}
use Rattle.window_rule.specs.Words.{Words, with_word, nexts_in, data_in, heads_in}
use Rattle.window_rule.specs.Objects.{number_to, behind, first_of, tag_of}
use Rattle.window_rule.specs.NotesHold.{AreNoted, IsNoted, IsCurrent, notebook_of}
use Rattle.window_rule.specs.RoomHolds.{HasStock}
use Rattle.window_rule.specs.ContentsHold.{AreCells}
use Rattle.window_rule.specs.Permits.{Moment, Permits, Goes}
use Rattle.window_rule.specs.Pool.{Heads, headed, nexted, note_of, MayRenew, renewed, without_bound}
use Rattle.window_rule.specs.Partition.{part_of, places_of, times}
use Rattle.window_rule.specs.Lawful.{IsLawful, owns_of}
use Rattle.window_rule.proofs.Frames.{IsPartition-same}
use Rattle.window_rule.proofs.RightsKept.{others_are_spent}
use Rattle.window_rule.proofs.LengthRead.{load_goes}
use Rattle.window_rule.proofs.NotesKept.{All-without, note_is, IsNoted-else}
use Rattle.window_rule.proofs.PoolKept.{beside_pool, pool_step_keeps}
use Rattle.window_rule.proofs.PopSteps.{begins_with}
use Rattle.window_rule.proofs.FreeCounts.{free_count}
use Rattle.window_rule.proofs.FreeBlocks.{free_blocks, own_block_is, bound_holds}
use Rattle.window_rule.proofs.ViewsKept.{part_before}

-- a noted list begins with the block
pub record IsNotedBlock {N : Type 0} (view : View N) (block : Place) : Type 0 where
  pub note : HeadNote
  pub noted : note_of view.notes block.rank ≡ Some note
  pub first : first_of note.head ≡ block.block
  pub some_block : block.block ≢ 0

pub bounds_without : (P : ℕ × ℕ → Type 0) (Q : ℕ × ℕ → Type 0) (rank : ℕ) (bounds : List (ℕ × ℕ))
    → ((one : ℕ × ℕ) → one.0 ≢ rank → P one → Q one) → AllByRecursion P bounds
    → AllByRecursion Q (without_bound bounds rank)
bounds_without P Q rank [] f h = tt
bounds_without P Q rank (one ∷ more) f h =
    elim (cases_eq one.0 rank) [
      | inl same ↦ subst
          (λ b. AllByRecursion Q (cond b (without_bound more rank) (one ∷ without_bound more rank)))
          (sym (eq-eqb one.0 rank same)) (bounds_without P Q rank more f h.1)
      | inr ne ↦ subst (λ b. AllByRecursion Q
          (cond b (without_bound more rank) (one ∷ without_bound more rank)))
          (sym (ne_eqb one.0 rank ne)) (f one ne h.0, bounds_without P Q rank more f h.1)
    ]

module _ {N : Type 0} (fits : Shape → Entry N → Type 0) (shape : Shape) (words : Words)
    (views : List (View N)) (id : ℕ) (before : View N)
    (now : Moment fits shape words views id before) where
  -- a load that changes the notes
  pub notes_change : (after : View N) → beside_pool after ≡ beside_pool before
      → after.private ≡ before.private → after.cells ≡ before.cells
      → AreNoted shape (heads_in words) now.lawful.ground.free (notebook_of after)
      → IsLawful fits shape words (set views id after)
  notes_change after beside private cells noted =
      let h = now.lawful.holds in record {
        ground = now.lawful.ground;
        holds = pool_step_keeps fits shape words words views id before after now
            now.lawful.ground.free now.lawful.ground.owner (record {
              words_beside = record {
                locks = refl;
                sizes = refl;
                cells = refl;
                stamps = refl;
                gate = refl;
                commit = refl;
              };
              view_beside = beside;
              lists = h.free;
              blocks = IsPartition-same shape views id before after now.there now.lawful.ground.free
                  now.lawful.ground.objects now.lawful.ground.owner private h.blocks;
              mine_known = subst (AllByRecursion _) (sym private) (h.own id before now.there);
              theirs_known = λ j view ne at was. was;
              mine_cells = subst (AreCells (data_in words))
                  (λ k. record {
                    private = sym private k;
                    dirty = sym (ap (λ v. v.dirty) beside) k;
                    cells = sym cells k;
                  }) (h.cells id before now.there);
              stock = subst (HasStock shape)
                  (λ k. record { private = sym private k; dirty = sym (ap (λ v. v.dirty) beside) k })
                  (h.room id before now.there);
              mine_noted = noted;
              theirs_noted = λ j view ne at not_alone was. was;
            });
      }

  pub head_goes : (rank : ℕ) → rank < shape.ranks
      → Goes fits shape words views id before (Heads shape rank before (words (Head rank)))
  head_goes rank on =
      let h = now.lawful.holds in
      let was = h.notes id before now.there in record {
        after = headed rank (words (Head rank)) (now.lawful.ground.free rank) before;
        lawful = notes_change
            (headed rank (words (Head rank)) (now.lawful.ground.free rank) before) refl refl refl
            (record {
              notes = (
                record {
                  tag = omega arith;
                  same = λ e. record { head = refl; list = refl; next = λ n e. absurd (cc e) };
                },
                All-without _ _ rank before.notes (λ note ne is. is) was.notes,
              );
              alone = λ alone. let sure = was.alone alone in record {
                now = (refl, All-without _ _ rank before.notes (λ note ne is. is) sure.now);
                bounds = (
                  omega arith,
                  bounds_without _ _ rank before.bounds (λ one ne is. is) sure.bounds,
                );
              };
            });
        same_rights = refl;
        told = record {
          list = now.lawful.ground.free rank;
          view = refl;
          first = (h.free.lists rank).first;
          free = free_blocks shape (part_of now.lawful.ground.free (owns_of views) now.lawful.ground.objects)
              now.lawful.ground.owner h.blocks rank (h.free.lists rank).one_rank;
          mine = λ block there. own_block_is shape
              (part_of now.lawful.ground.free (owns_of views) now.lawful.ground.objects)
              now.lawful.ground.owner h.blocks id block
              (subst (λ l. 0 < times block (places_of l))
              (sym (part_before (λ (v : View N). v.private) views id before before [] now.there))
              there);
          bounded = λ alone bound is. bound_holds (heads_in words) before.bounds rank bound
              (was.alone alone).bounds is;
          counted = free_count fits shape words views id before now rank on;
        };
      }

  -- the word of the block of a head that is current
  current_next : (block : Place) (note : HeadNote) → note.rank ≡ block.rank
      → first_of note.head ≡ block.block → block.block ≢ 0
      → IsCurrent (heads_in words) now.lawful.ground.free note
      → words (FreeList block) ≡ number_to (behind note.list)
  current_next block note rank first not_nil current =
      let list = now.lawful.holds.free.lists note.rank in
      let begins = begins_with (nexts_in words) note.rank (first_of note.head)
      (now.lawful.ground.free note.rank) (ap first_of current.head ∙ list.first)
      (λ none. not_nil (sym first ∙ none)) list.threaded list.one_rank in
      let is : block ≡ on_rank note.rank (first_of note.head) = λ k.
      record { rank = sym rank k; block = sym first k } in
      ap (nexts_in words) is
      ∙ (begins.leads ∙ ap (λ l. number_to (behind l)) (sym (current.list ∙ begins.list_is)))

  pub next_goes : (block : Place) → (may : IsNotedBlock before block)
      → Goes fits shape words views id before
      (λ after. after ≡ nexted may.note (words (FreeList block)) before)
  next_goes block may =
      let h = now.lawful.holds in
      let was = h.notes id before now.there in
      let is = note_is (IsNoted (heads_in words) now.lawful.ground.free)
      before.notes block.rank may.note may.noted was.notes in record {
        after = nexted may.note (words (FreeList block)) before;
        lawful = notes_change (nexted may.note (words (FreeList block)) before) refl refl refl
            (record {
              notes = (
                record {
                  tag = is.0.tag;
                  same = λ e. let c = is.0.same e in
                      record {
                        head = c.head;
                        list = c.list;
                        next = λ n found. (let w : words (FreeList block) ≡ n = cc found in sym w)
                            ∙ current_next block may.note is.1 may.first may.some_block c;
                      };
                },
                All-without _ _ may.note.rank before.notes (λ note ne is. is) was.notes,
              );
              alone = λ alone. let sure = was.alone alone in record {
                now = (
                  (note_is (λ (note : HeadNote). note.head ≡ heads_in words note.rank)
                      before.notes block.rank may.note may.noted sure.now).0,
                  All-without _ _ may.note.rank before.notes (λ note ne is. is) sure.now,
                );
                bounds = sure.bounds;
              };
            });
        same_rights = refl;
        told = refl;
      }

  -- where the view is alone, no other has notes, so the tag may fall
  renew_keeps : (rank head : ℕ) → MayRenew shape before rank head
      → IsLawful fits shape (with_word words (Head rank) (first_of head))
      (set views id (renewed rank before))
  renew_keeps rank head may =
      let h = now.lawful.holds in
      let after = renewed rank before in
      let new_words = with_word words (Head rank) (first_of head) in
      let was = h.notes id before now.there in
      let sure = was.alone may.alone in
      let is = note_is (λ (note : HeadNote). note.head ≡ heads_in words note.rank)
      before.notes rank may.knows.note may.knows.noted sure.now in
      let head_is : words (Head rank) ≡ head = sym
      (sym may.knows.head_is ∙ (is.0 ∙ ap (heads_in words) is.1)) in
      let here : heads_in new_words rank ≡ first_of head = ap
      (λ b. cond b (first_of head) (words (Head rank))) (eq-eqb rank rank refl) in
      let others : (other : ℕ) → other ≢ rank
      → heads_in new_words other ≡ heads_in words other = λ other ne. ap
      (λ b. cond b (first_of head) (words (Head other))) (ne_eqb other rank ne) in record {
        ground = now.lawful.ground;
        holds = pool_step_keeps fits shape words new_words views id before after now
            now.lawful.ground.free now.lawful.ground.owner (record {
              words_beside = record {
                locks = refl;
                sizes = refl;
                cells = refl;
                stamps = refl;
                gate = refl;
                commit = refl;
              };
              view_beside = refl;
              lists = record {
                links = h.free.links;
                lists = λ other. let list = h.free.lists other in elim (cases_eq other rank) [
                  | inl same ↦
                      let first : first_of (first_of head) ≡ first_of head = omega arith in
                      record {
                        first = ap (λ r. first_of (heads_in new_words r)) same
                            ∙ (ap first_of here
                            ∙ (first ∙ (ap first_of (sym head_is)
                            ∙ (ap (λ r. first_of (heads_in words r)) (sym same) ∙ list.first))));
                        threaded = list.threaded;
                        one_rank = list.one_rank;
                      }
                  | inr ne ↦ record {
                    first = ap first_of (others other ne)
                        ∙ list.first;
                    threaded = list.threaded;
                    one_rank = list.one_rank;
                  }
                ];
              };
              blocks = IsPartition-same shape views id before after now.there now.lawful.ground.free
                  now.lawful.ground.objects now.lawful.ground.owner refl h.blocks;
              mine_known = h.own id before now.there;
              theirs_known = λ j view ne at was. was;
              mine_cells = h.cells id before now.there;
              stock = h.room id before now.there;
              mine_noted = record {
                notes = All-without _ _ rank before.notes
                    (IsNoted-else (heads_in words)
                    (heads_in new_words) now.lawful.ground.free now.lawful.ground.free rank others
                    (λ other ne. refl)) was.notes;
                alone = λ alone. record {
                  now = All-without _ _ rank before.notes
                      (λ note ne is. is ∙ sym (others note.rank ne)) sure.now;
                  bounds = (
                    (let none : first_of head / 2 ^ 20 ≡ 0 = omega arith in let t : tag_of
                        (heads_in new_words rank) ≡ 0 = ap tag_of here ∙ none in omega arith),
                    bounds_without _ _ rank before.bounds
                        (λ one ne is. let t : tag_of (heads_in new_words one.0) ≡ tag_of
                        (heads_in words one.0) = ap tag_of (others one.0 ne) in omega arith)
                        sure.bounds,
                  );
                };
              };
              theirs_noted = λ j view ne at not_alone was.
                  let nobody : view ≡ spent = h.spent j view at
                  (others_are_spent shape
                  (words Commit) views id j before view h.rights now.there may.alone ne at) in
                  record {
                    notes = subst
                        (λ v. AllByRecursion
                        (IsNoted (heads_in new_words) now.lawful.ground.free) v.notes) (sym nobody) tt;
                    alone = λ alone. absurd (not_alone alone);
                  };
            });
      }

  pub renew_goes : (rank head : ℕ) → MayRenew shape before rank head
      → Goes fits shape (with_word words (Head rank) (first_of head)) views id before
      (λ after. after ≡ renewed rank before)
  renew_goes rank head may =
      record {
        after = renewed rank before;
        lawful = renew_keeps rank head may;
        same_rights = refl;
        told = refl;
      }

module _ {N : Type 0} (fits : Shape → Entry N → Type 0) (shape : Shape) (before : View N) where
  pub head_permitted : (rank : ℕ) → rank < shape.ranks
      → Permits fits shape (Head rank) (λ found. found) before (Heads shape rank before)
  head_permitted rank on =
      record {
        goes = λ words views id now small. load_goes fits shape words
            (Head rank) views id before (Heads shape rank before (words (Head rank)))
            (head_goes fits shape words views id before now rank on);
      }

  pub renew_permitted : (rank head : ℕ) → MayRenew shape before rank head
      → Permits fits shape (Head rank) (λ _. first_of head) before
      (λ _ after. after ≡ renewed rank before)
  renew_permitted rank head may =
      record {
        goes = λ words views id now small.
            renew_goes fits shape words views id before now rank head may;
      }
