-- An exchange on the head of a rank.
use Rattle.std.proofs.Common.{◌≡◌, ◌≢◌, ℕ, ◌+◌, ◌==◌, cond, Bool, List, [], set, refl, sym, ap, ◌∙◌, subst, inl, inr, arith, Some, eq-eqb, ne_eqb}
use Rattle.std.specs.List.{AllByRecursion}
use Rattle.std.proofs.lemmas.Bool.{cases_eq}
use prog.Atomic.{either}
use Rattle.object_words.specs.Entries.{Entry}
use Rattle.rma_layout.specs.declared.word.Word.TheVariants.{Head}
use Rattle.rma_layout.specs.Shape.{Shape}
use Rattle.rma_layout.specs.Placement.{Place}
use Rattle.window_rule.specs.View.{View, Cell, HeadNote, OwnBlock}
use Rattle.window_rule.specs.Words.{Words, with_word, data_in, nexts_in, heads_in}
use Rattle.window_rule.specs.Objects.{IsFreeList, AreThreaded, number_to, behind, first_of, tag_of, with_list}
use Rattle.window_rule.specs.ContentsHold.{IsOwnKnown, AreCells}
use Rattle.window_rule.specs.RoomHolds.{HasStock}
use Rattle.window_rule.specs.Partition.{Holder, FreeOf, OwnOf, Within, IsPartition, part_of, places_of, times}
use Rattle.window_rule.specs.NotesHold.{IsNoted}
use Rattle.window_rule.specs.Permits.{Moment, Goes}
use Rattle.window_rule.specs.Pool.{without_note, raised, missed, Exchanges, KnowsHead}
use Rattle.window_rule.specs.Lawful.{Ground, IsLawful, owns_of}
use Rattle.window_rule.proofs.ViewsKept.{part_before, part_after, part_other}
use Rattle.window_rule.proofs.PartitionKept.{IsPartition-between, owner_after}
use Rattle.window_rule.proofs.Frames.{IsPartition-same}
use Rattle.window_rule.proofs.LengthRead.{with_word-again}
use Rattle.window_rule.proofs.NotesKept.{All-map, All-without, note_is, IsNoted-rise, IsSure-rise, IsSure-less}
use Rattle.window_rule.proofs.PoolKept.{pool_step_keeps}

module _ (free : ℕ → List Place) (rank : ℕ) (list : List Place) where
  pub list_here : with_list free rank list rank ≡ list
  list_here = ap (λ b. cond b list (free rank)) (eq-eqb rank rank refl)

  pub list_else : (other : ℕ) → other ≢ rank → with_list free rank list other ≡ free other
  list_else other ne = ap (λ b. cond b list (free other)) (ne_eqb other rank ne)

-- blocks go between a free list and the view that steps
pub record IsHeadMove {N : Type 0} (shape : Shape) (words : Words) (ground : Ground N)
    (before : View N) (rank new : ℕ) (own : List OwnBlock) (cells : List Cell)
    (list : List Place) : Type 0 where
  pub rises : tag_of new ≡ tag_of (words (Head rank)) + 1
  pub first : first_of new ≡ number_to list
  pub threaded : AreThreaded (nexts_in words) list
  pub one_rank : AllByRecursion (λ (block : Place). block.rank ≡ rank) list
  pub conserved : (block : Place)
      → times block (places_of own) + times block list ≡ times block
      (places_of before.private) + times block (ground.free rank)
  pub known : AllByRecursion (IsOwnKnown (nexts_in words)) own
  pub cells_known : AreCells (data_in words)
      (record { private = own; dirty = before.dirty; cells = cells })
  pub stock : HasStock shape (record { private = own; dirty = before.dirty })

module _ {N : Type 0} (fits : Shape → Entry N → Type 0) (shape : Shape) (words : Words)
    (views : List (View N)) (id : ℕ) (before : View N)
    (now : Moment fits shape words views id before) (rank : ℕ) where
  module _ (new : ℕ) (own : List OwnBlock) (cells : List Cell) (list : List Place)
      (move : IsHeadMove shape words now.lawful.ground before rank new own cells list) where
    abbrev after : View N
    after = record before {
      private = own;
      cells = cells;
      notes = without_note before.notes rank;
      bounds = raised rank before.bounds;
    }

    abbrev new_words : Words
    new_words = with_word words (Head rank) new

    abbrev free : ℕ → List Place
    free = with_list now.lawful.ground.free rank list

    head_here : heads_in new_words rank ≡ new
    head_here = ap (λ b. cond b new (words (Head rank))) (eq-eqb rank rank refl)

    head_else : (other : ℕ) → other ≢ rank → heads_in new_words other ≡ heads_in words other
    head_else other ne = ap (λ b. cond b new (words (Head other))) (ne_eqb other rank ne)

    lists_stand : (other : ℕ) → IsFreeList (heads_in new_words) (nexts_in words) other (free other)
    lists_stand other =
        elim (cases_eq other rank) [
          | inl same ↦
              subst (λ r. IsFreeList (heads_in new_words) (nexts_in words) r (free r)) (sym same)
              (subst (IsFreeList (heads_in new_words) (nexts_in words) rank)
              (sym (list_here now.lawful.ground.free rank list)) (record {
                first = ap first_of head_here ∙ move.first;
                threaded = move.threaded;
                one_rank = move.one_rank;
              }))
          | inr ne ↦
              let was = now.lawful.holds.free.lists other in
              subst (IsFreeList (heads_in new_words) (nexts_in words) other)
              (sym (list_else now.lawful.ground.free rank list other ne)) (record {
                first = ap first_of (head_else other ne) ∙ was.first;
                threaded = was.threaded;
                one_rank = was.one_rank;
              })
        ]

    abbrev part : Holder → List Place
    part = part_of now.lawful.ground.free (owns_of views) now.lawful.ground.objects

    abbrev moved : Holder → List Place
    moved = part_of free (owns_of (set views id after)) now.lawful.ground.objects

    abbrev own_of : View N → List OwnBlock
    own_of v = v.private

    own_before : part (OwnOf id) ≡ places_of before.private
    own_before = ap places_of (part_before own_of views id before after [] now.there)

    own_moved : moved (OwnOf id) ≡ places_of own
    own_moved = ap places_of (part_after own_of views id before after [] now.there)

    elsewhere : (holder : Holder) → holder ≢ OwnOf id → holder ≢ FreeOf rank
        → moved holder ≡ part holder
    elsewhere (FreeOf other) not_own not_free = list_else now.lawful.ground.free rank list other
        (λ e. not_free (ap FreeOf e))
    elsewhere (OwnOf j) not_own not_free = ap places_of
        (part_other own_of views id before after [] now.there j (λ e. not_own (ap OwnOf e)))
    elsewhere (Within object) not_own not_free = refl

    blocks_kept : IsPartition shape moved
        (owner_after moved (OwnOf id) (FreeOf rank) now.lawful.ground.owner)
    blocks_kept = IsPartition-between shape part moved now.lawful.ground.owner (OwnOf id)
        (FreeOf rank) (record {
          differ = λ e. cc e;
          conserved = λ block. omega (
            arith,
            move.conserved block,
            ap (times block) own_before,
            ap (times block) own_moved,
            ap (times block) (list_here now.lawful.ground.free rank list),
          );
          elsewhere = elsewhere;
        }) (λ block e. cc e) (λ block e. cc e) now.lawful.holds.blocks

    rises : tag_of (heads_in new_words rank) ≡ tag_of (heads_in words rank) + 1
    rises = ap tag_of head_here ∙ move.rises

    noted : (note : HeadNote) → IsNoted (heads_in words) now.lawful.ground.free note
        → IsNoted (heads_in new_words) free note
    noted = IsNoted-rise (heads_in words)
        (heads_in new_words) now.lawful.ground.free free rank head_else
        (list_else now.lawful.ground.free rank list) (omega (arith, rises))

    pub head_moves : IsLawful fits shape new_words (set views id after)
    head_moves = record {
      ground = record now.lawful.ground {
        free = free;
        owner = owner_after moved (OwnOf id) (FreeOf rank) now.lawful.ground.owner;
      };
      holds = pool_step_keeps fits shape words new_words views id before after now free
          (owner_after moved (OwnOf id) (FreeOf rank) now.lawful.ground.owner) (record {
            words_beside = record {
              locks = refl;
              sizes = refl;
              cells = refl;
              stamps = refl;
              gate = refl;
              commit = refl;
            };
            view_beside = refl;
            lists = record { lists = lists_stand; links = now.lawful.holds.free.links };
            blocks = blocks_kept;
            mine_known = move.known;
            theirs_known = λ j view ne at was. was;
            mine_cells = move.cells_known;
            stock = move.stock;
            mine_noted = let was = now.lawful.holds.notes id before now.there in record {
              notes = All-without _ _ rank before.notes (λ note ne h. noted note h) was.notes;
              alone = λ alone. IsSure-rise (heads_in words)
                  (heads_in new_words) now.lawful.ground.free free rank head_else
                  (list_else now.lawful.ground.free rank list)
                  rises before.rights before.notes before.bounds (was.alone alone);
            };
            theirs_noted = λ j view ne at not_alone was.
                record {
                  notes = All-map _ _ view.notes noted was.notes;
                  alone = λ alone. absurd (not_alone alone);
                };
          });
    }

  -- an exchange that found another head leaves the words
  pub miss_keeps : (head : ℕ)
      → IsLawful fits shape words (set views id (missed rank head (words (Head rank)) before))
  miss_keeps head =
      let after = missed rank head (words (Head rank)) before in
      let h = now.lawful.holds in record {
        ground = now.lawful.ground;
        holds = pool_step_keeps fits shape words words views id before after now
            now.lawful.ground.free now.lawful.ground.owner (record {
              words_beside = record {
                locks = refl;
                sizes = refl;
                cells = refl;
                stamps = refl;
                gate = refl;
                commit = refl;
              };
              view_beside = refl;
              lists = h.free;
              blocks = IsPartition-same shape views id before after now.there now.lawful.ground.free
                  now.lawful.ground.objects now.lawful.ground.owner refl h.blocks;
              mine_known = h.own id before now.there;
              theirs_known = λ j view ne at was. was;
              mine_cells = h.cells id before now.there;
              stock = h.room id before now.there;
              mine_noted = let was = h.notes id before now.there in record {
                notes = All-without _ _ rank before.notes (λ note ne is. is) was.notes;
                alone = λ alone. IsSure-less
                    (heads_in words) rank before.rights before.notes before.bounds (was.alone alone);
              };
              theirs_noted = λ j view ne at not_alone was. was;
            });
      }

  -- where the view has the head noted: made if the head is that, and else nothing moved
  pub exchange_goes : (head new : ℕ) (done : View N) → KnowsHead before rank head
      → done.rights ≡ before.rights
      → (words (Head rank) ≡ head
      → IsLawful fits shape (with_word words (Head rank) new) (set views id done))
      → Goes fits shape
      (with_word words (Head rank) (either (words (Head rank) == head) new (words (Head rank))))
      views id before
      (λ after. Exchanges shape head before (words (Head rank)) after done
      (missed rank head (words (Head rank)) before))
  exchange_goes head new done knows same_rights made =
      let found = words (Head rank) in
      elim (cases_eq found head) [
        | inl hit ↦ record {
          after = done;
          lawful = subst (λ (test : Bool). IsLawful fits shape
              (with_word words (Head rank) (either test new found)) (set views id done))
              (sym (eq-eqb found head hit)) (made hit);
          same_rights = same_rights;
          told = record { took = λ _. refl; failed = λ miss. absurd (miss hit); alone = λ _. hit };
        }
        | inr miss ↦ record {
          after = missed rank head found before;
          lawful = subst (λ (test : Bool). IsLawful fits shape
              (with_word words (Head rank) (either test new found))
              (set views id (missed rank head found before))) (sym (ne_eqb found head miss))
              (subst (λ w. IsLawful fits shape w (set views id (missed rank head found before)))
              (sym (with_word-again words (Head rank))) (miss_keeps head));
          same_rights = refl;
          told = record {
            took = λ hit. absurd (miss hit);
            failed = λ _. refl;
            alone = λ alone.
                let sure = (now.lawful.holds.notes id before now.there).alone alone in
                let is = note_is (λ (note : HeadNote). note.head ≡ heads_in words note.rank)
                before.notes rank knows.note knows.noted sure.now in
                sym (sym knows.head_is ∙ (is.0 ∙ ap (heads_in words) is.1));
          };
        }
      ]

  -- what the view knows of the head that it has found again
  pub note_holds : (head : ℕ) (knows : KnowsHead before rank head) → words (Head rank) ≡ head
      → (knows.note.list ≡ now.lawful.ground.free rank)
      × ((next : ℕ) → knows.note.next ≡ Some next
      → next ≡ number_to (behind (now.lawful.ground.free rank)))
  note_holds head knows hit =
      let is = note_is (IsNoted (heads_in words) now.lawful.ground.free)
      before.notes rank knows.note knows.noted
      (now.lawful.holds.notes id before now.there).notes in
      let same : knows.note.head ≡ heads_in words knows.note.rank = knows.head_is
      ∙ (sym hit ∙ ap (heads_in words) (sym is.1)) in
      let current = is.0.same (ap tag_of same) in
      let list : knows.note.list ≡ now.lawful.ground.free rank = current.list
      ∙ ap now.lawful.ground.free is.1 in
      (list, λ next e. current.next next e ∙ ap (λ l. number_to (behind l)) list)
