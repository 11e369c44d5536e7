-- The commit word is loaded: a view sees all of the history.
use Rattle.std.proofs.Common.{ℕ, List, [], append-nil, set, refl, sym, subst}
use Rattle.rma_layout.specs.declared.word.Word.TheVariants.{Commit, Gate}
use Rattle.rma_layout.specs.Shape.{Shape}
use Rattle.object_words.specs.Entries.{Entry, store_after}
use Rattle.window_rule.specs.View.{View}
use Rattle.window_rule.specs.Words.{Words, locks_in, data_in, nexts_in, heads_in, stamps_in}
use Rattle.window_rule.specs.LocksHold.{LocksHold}
use Rattle.window_rule.specs.HistoryHolds.{AreHeard, past_of, HistoryHolds, IsChronicle, chronicle_of}
use Rattle.window_rule.specs.ContentsHold.{AreHeld, holdings_of}
use Rattle.window_rule.specs.MemoryHolds.{Remembers, memory_of}
use Rattle.window_rule.specs.Permits.{Moment, Permits, Goes}
use Rattle.window_rule.specs.Lengths.{placed, Places}
use Rattle.window_rule.specs.Lawful.{Ground, locks_of}
use Rattle.window_rule.proofs.Sums.{map-set_same}
use Rattle.window_rule.proofs.OwnEntries.{own_in_history}
use Rattle.window_rule.proofs.SpentKept.{SpentHold-live}
use Rattle.window_rule.proofs.ViewsKept.{EachView-set, set_here_at}
use Rattle.window_rule.proofs.Frames.{RightsHold-same, GateHolds-same, IsPartition-same, DirtHolds-same, OwnBlocksHold-same, CellsHold-same, RoomHolds-same, NotesHold-same, StampsHold-opened}
use Rattle.window_rule.proofs.LengthRead.{load_goes, still_known}

-- a view sees all of the history
module _ {N : Type 0} (fits : Shape → Entry N → Type 0) (shape : Shape) (before : View N)
    (words : Words) (views : List (View N)) (id : ℕ)
    (now : Moment fits shape words views id before) where
  abbrev ground : Ground N
  ground = now.lawful.ground

  abbrev after : View N
  after = placed ground.history before

  chronicle_after : HistoryHolds fits shape (words Commit) ground.history (set views id after)
  chronicle_after = let h = now.lawful.holds.history in record {
    counted = h.counted;
    heard = EachView-set (past_of {N = N}) views id before after now.there (λ _. AreHeard)
        (λ _. AreHeard) tt (λ j view ne at was. was) h.heard;
    legal = h.legal;
    fitting = h.fitting;
    ranked = h.ranked;
    held = (id, after, set_here_at views id before after now.there, refl);
    each = EachView-set (chronicle_of {N = N}) views id before after now.there
        (λ _. IsChronicle ground.history) (λ _. IsChronicle ground.history)
        (record {
          begins = ([], append-nil ground.history);
          own = own_in_history ground.history (chronicle_of before) (h.each id before now.there);
          rest = tt;
        }) (λ j view ne at was. was) h.each;
  }

  place_goes : Goes fits shape words views id before (Places before (words Commit))
  place_goes =
      let h = now.lawful.holds in
      let there = now.there in record {
        after = after;
        lawful = record {
          ground = ground;
          holds = record {
            rights = RightsHold-same shape views id before after there (words Commit) refl h.rights;
            spent = SpentHold-live views id after now.live h.spent;
            locks = subst (LocksHold shape (locks_in words))
                (sym (map-set_same locks_of views id before after there refl)) h.locks;
            gate = GateHolds-same shape views id before after there (words Gate) refl h.gate;
            history = chronicle_after;
            objects = h.objects;
            lie = h.lie;
            free = h.free;
            blocks = IsPartition-same shape views id before after there ground.free ground.objects
                ground.owner refl h.blocks;
            contents = h.contents;
            dirt = DirtHolds-same shape views id before after there
                (store_after ground.history) ground.objects refl h.dirt;
            holdings = EachView-set (holdings_of {N = N}) views id before after there
                (λ _. AreHeld ground.objects) (λ _. AreHeld ground.objects)
                (h.holdings id before there) (λ j view ne at was. was) h.holdings;
            memory = EachView-set (memory_of {N = N}) views id before after there
                (λ _. Remembers shape) (λ _. Remembers shape)
                (still_known fits shape before words views id ground h there)
                (λ j view ne at was. was) h.memory;
            own = OwnBlocksHold-same shape views id before after there (nexts_in words) refl h.own;
            cells = CellsHold-same shape views id before after there (data_in words) refl h.cells;
            room = RoomHolds-same shape views id before after there refl h.room;
            notes = NotesHold-same shape views id before after there
                (heads_in words) ground.free refl h.notes;
            stamps = StampsHold-opened shape views id before after there (stamps_in words)
                (words Commit) ground.opener refl (λ o. o) h.stamps;
          };
        };
        same_rights = refl;
        told = record {
          history = ground.history;
          goes_on = (h.history.each id before there).begins;
          view = refl;
          found_is = h.history.counted;
        };
      }

pub place_permitted : {N : Type 0} (fits : Shape → Entry N → Type 0) (shape : Shape)
    (before : View N) → Permits fits shape Commit (λ found. found) before (Places before)
place_permitted fits shape before = record {
  goes = λ words views id now word_fits. load_goes fits shape words Commit views id before
      (Places before (words Commit)) (place_goes fits shape before words views id now);
}
