-- A joined view tells what it was joined of.
use Rattle.std.proofs.Common.{◌≡◌, ℕ, List, [], set, refl, sym, ap, ◌∙◌, subst, inl, inr, arith}
use Rattle.std.proofs.lemmas.Bool.{cases_eq}
use mathlib.Core.Option.{some-injective}
use lib.ListN.{get_elem?}
use Rattle.atomic_table.proofs.Lists.{set_else}
use Rattle.object_words.specs.Entries.{Entry, store_after}
use Rattle.rma_layout.specs.declared.word.Word.TheVariants.{Commit, Gate}
use Rattle.rma_layout.specs.Shape.{Shape}
use Rattle.window_rule.specs.View.{View}
use Rattle.window_rule.specs.Words.{Words, locks_in, data_in, nexts_in, heads_in, stamps_in}
use Rattle.window_rule.specs.LocksHold.{LocksHold}
use Rattle.window_rule.specs.HistoryHolds.{AreHeard, past_of, HistoryHolds, IsChronicle, chronicle_of}
use Rattle.window_rule.specs.ContentsHold.{AreHeld, holdings_of}
use Rattle.window_rule.specs.Permits.{Moment, Permits, Goes}
use Rattle.window_rule.specs.Splits.{settled, Settles}
use Rattle.window_rule.specs.Lawful.{locks_of}
use Rattle.window_rule.proofs.Sums.{map-set_same}
use Rattle.window_rule.proofs.SpentKept.{SpentHold-live}
use Rattle.window_rule.proofs.ViewsKept.{EachView-set, EachView-same, set_here_at, part_before}
use Rattle.window_rule.proofs.Frames.{MemoryHolds-same, RightsHold-same, GateHolds-same, IsPartition-same, DirtHolds-same, OwnBlocksHold-same, CellsHold-same, RoomHolds-same, NotesHold-same, StampsHold-opened}
use Rattle.window_rule.specs.Words.{is_block}
use Rattle.window_rule.specs.Partition.{OwnOf, times, places_of}
use Rattle.window_rule.proofs.PartitionKept.{share-le}
use Rattle.window_rule.proofs.LengthRead.{load_goes}

module _ {N : Type 0} (fits : Shape → Entry N → Type 0) (shape : Shape) (before : View N)
    (words : Words) (views : List (View N)) (id : ℕ)
    (now : Moment fits shape words views id before) where
  abbrev after : View N
  after = settled before

  history_holds : HistoryHolds fits shape (words Commit) now.lawful.ground.history
      (set views id after)
  history_holds = let h = now.lawful.holds.history in record {
    counted = h.counted;
    legal = h.legal;
    fitting = h.fitting;
    ranked = h.ranked;
    held = elim (cases_eq h.held.0 id) [
      | inl here ↦
          let is : h.held.1 ≡ before = some-injective _ _
          (sym h.held.2 ∙ (ap (get_elem? views) here ∙ now.there)) in (
            id,
            after,
            set_here_at views id before after now.there,
            sym (ap (λ (v : View N). v.seen) is) ∙ h.held.3,
          )
      | inr ne ↦ (h.held.0, h.held.1, set_else views id h.held.0 after ne ∙ h.held.2, h.held.3)
    ];
    heard = EachView-set (past_of {N = N}) views id before after now.there (λ _. AreHeard)
        (λ _. AreHeard) tt (λ j view ne at was. was) h.heard;
    each = EachView-same (chronicle_of {N = N}) views id before after now.there
        (λ _. IsChronicle now.lawful.ground.history) refl h.each;
  }

  settle_goes : Goes fits shape words views id before (Settles before)
  settle_goes =
      let h = now.lawful.holds in
      let ground = now.lawful.ground in
      let there = now.there in record {
        after = after;
        lawful = record {
          ground = ground;
          holds = record {
            rights = RightsHold-same shape views id before after there (words Commit) refl h.rights;
            spent = SpentHold-live views id after now.live h.spent;
            locks = subst (LocksHold shape (locks_in words))
                (sym (map-set_same locks_of views id before after there refl)) h.locks;
            gate = GateHolds-same shape views id before after there (words Gate) refl h.gate;
            history = history_holds;
            objects = h.objects;
            lie = h.lie;
            free = h.free;
            blocks = IsPartition-same shape views id before after there ground.free ground.objects
                ground.owner refl h.blocks;
            contents = h.contents;
            dirt = DirtHolds-same shape views id before after there
                (store_after ground.history) ground.objects refl h.dirt;
            holdings = EachView-same (holdings_of {N = N}) views id before after there
                (λ _. AreHeld ground.objects) refl h.holdings;
            own = OwnBlocksHold-same shape views id before after there (nexts_in words) refl h.own;
            memory = MemoryHolds-same shape views id before after there refl h.memory;
            cells = CellsHold-same shape views id before after there (data_in words) refl h.cells;
            room = RoomHolds-same shape views id before after there refl h.room;
            notes = NotesHold-same shape views id before after there
                (heads_in words) ground.free refl h.notes;
            stamps = StampsHold-opened shape views id before after there (stamps_in words)
                (words Commit) ground.opener refl (λ o. o) h.stamps;
          };
        };
        same_rights = refl;
        told = record {
          view = refl;
          heard = now.lawful.holds.history.heard id before there;
          once = λ block. omega (
            arith,
            h.blocks.each (OwnOf id) block,
            share-le (is_block shape block) (ground.owner block) (OwnOf id),
            ap (λ l. times block (places_of l))
                (part_before (λ (v : View N). v.private) views id before before [] there),
          );
        };
      }

pub settle_permitted : {N : Type 0} (fits : Shape → Entry N → Type 0) (shape : Shape)
    (before : View N) → Permits fits shape Commit (λ found. found) before (λ _. Settles before)
settle_permitted fits shape before = record {
  goes = λ words views id now small. load_goes fits shape words Commit views id before
      (Settles before) (settle_goes fits shape before words views id now);
}
