-- The steps on heads and free-list words: what they leave as it is.
use Rattle.std.proofs.Common.{◌≡◌, ◌≢◌, ℕ, List, [], map, set, sym, ap, ◌∙◌, subst}
use Rattle.std.specs.List.{AllByRecursion}
use mathlib.Core.Option.{some}
use lib.ListN.{get_elem?}
use Rattle.object_words.specs.Entries.{Entry, store_after}
use Rattle.rma_layout.specs.declared.word.Word.TheVariants.{Commit, Gate}
use Rattle.rma_layout.specs.Shape.{Shape}
use Rattle.rma_layout.specs.Placement.{Place}
use Rattle.window_rule.specs.View.{View}
use Rattle.window_rule.specs.Words.{Words, locks_in, sizes_in, data_in, nexts_in, heads_in, stamps_in}
use Rattle.window_rule.specs.RightsHold.{RightsHold, stake_of}
use Rattle.window_rule.specs.LocksHold.{LocksHold}
use Rattle.window_rule.specs.GateHolds.{GateHolds}
use Rattle.window_rule.specs.HistoryHolds.{HistoryHolds, chronicle_of, past_of}
use Rattle.window_rule.specs.Objects.{ObjectsStand, FreeListsStand}
use Rattle.window_rule.specs.ContentsHold.{AreHeld, holdings_of, IsOwnKnown, AreCells, stash_of}
use Rattle.window_rule.specs.MemoryHolds.{memory_of}
use Rattle.window_rule.specs.RoomHolds.{HasStock, stock_of}
use Rattle.window_rule.specs.Partition.{Holder, IsPartition, part_of}
use Rattle.window_rule.specs.NotesHold.{AreNoted, StandsAlone, notebook_of}
use Rattle.window_rule.specs.StampsHold.{StampsHold, IsOpenState, open_state_of}
use Rattle.window_rule.specs.Permits.{Moment}
use Rattle.window_rule.specs.Lawful.{Holds, Ground, locks_of, owns_of}
use Rattle.window_rule.proofs.Sums.{map-set_same}
use Rattle.window_rule.proofs.SpentKept.{SpentHold-live}
use Rattle.window_rule.proofs.RightsKept.{others_are_spent}
use Rattle.window_rule.proofs.ViewsKept.{EachView-set, EachView-same}
use Rattle.window_rule.proofs.Frames.{MemoryHolds-same, RightsHold-same, GateHolds-same, HistoryHolds-same, DirtHolds-same, StampsHold-opened}

abbrev pub beside_pool : {N : Type 0} → View N → View N
beside_pool view =
    record view { private = []; cells = []; notes = []; bounds = []; misses = []; looks = [] }

-- only heads and free-list words differ
pub record AreBeside (words after : Words) : Type 0 where
  pub locks : locks_in after ≡ locks_in words
  pub sizes : sizes_in after ≡ sizes_in words
  pub cells : data_in after ≡ data_in words
  pub stamps : stamps_in after ≡ stamps_in words
  pub gate : after Gate ≡ words Gate
  pub commit : after Commit ≡ words Commit

pub record IsPoolStep {N : Type 0} (shape : Shape) (words words_after : Words)
    (views : List (View N)) (id : ℕ) (before after : View N) (ground : Ground N) (free : ℕ
    → List Place) (owner : Place → Holder) : Type 0 where
  pub words_beside : AreBeside words words_after
  pub view_beside : beside_pool after ≡ beside_pool before
  pub lists : FreeListsStand (heads_in words_after) (nexts_in words_after) free
  pub blocks : IsPartition shape (part_of free (owns_of (set views id after)) ground.objects) owner
  pub mine_known : AllByRecursion (IsOwnKnown (nexts_in words_after)) after.private
  pub theirs_known : (j : ℕ) (view : View N) → j ≢ id → get_elem? views j ≡ some view
      → AllByRecursion (IsOwnKnown (nexts_in words)) view.private
      → AllByRecursion (IsOwnKnown (nexts_in words_after)) view.private
  pub mine_cells : AreCells (data_in words) (stash_of after)
  pub stock : HasStock shape (stock_of after)
  pub mine_noted : AreNoted shape (heads_in words_after) free (notebook_of after)
  pub theirs_noted : (j : ℕ) (view : View N) → j ≢ id → get_elem? views j ≡ some view
      → ¬ StandsAlone shape view.rights
      → AreNoted shape (heads_in words) ground.free (notebook_of view)
      → AreNoted shape (heads_in words_after) free (notebook_of view)

module _ {N : Type 0} (fits : Shape → Entry N → Type 0) (shape : Shape) (words words_after : Words)
    (views : List (View N)) (id : ℕ) (before after : View N)
    (now : Moment fits shape words views id before)
    (free : ℕ → List Place) (owner : Place → Holder)
    (step : IsPoolStep shape words words_after views id before after now.lawful.ground free
    owner) where
  abbrev same : beside_pool after ≡ beside_pool before
  same = step.view_beside

  -- where another view steps, none is alone
  pub none_alone : (j : ℕ) (view : View N) → j ≢ id → get_elem? views j ≡ some view
      → ¬ StandsAlone shape view.rights
  none_alone j view ne at alone = now.live
      (others_are_spent shape (words Commit) views j id view before now.lawful.holds.rights at alone
      (λ e. ne (sym e)) now.there)

  pub pool_step_keeps : Holds fits shape words_after (set views id after)
      (record now.lawful.ground { free = free; owner = owner })
  pool_step_keeps =
      let h = now.lawful.holds in
      let ground = now.lawful.ground in
      let there = now.there in
      let w = step.words_beside in record {
        rights = subst (λ c. RightsHold shape c (map stake_of (set views id after))) (sym w.commit)
            (RightsHold-same shape views id before after there (words Commit)
            (ap stake_of same) h.rights);
        spent = SpentHold-live views id after
            (λ none. now.live (sym (ap (λ v. v.rights) same) ∙ none)) h.spent;
        locks = subst (λ l. LocksHold shape l (map locks_of (set views id after))) (sym w.locks)
            (subst (LocksHold shape (locks_in words))
            (sym (map-set_same locks_of views id before after there (ap (λ v. v.locks) same)))
            h.locks);
        gate = subst (λ g. GateHolds g (map (λ (v : View N). v.gate) (set views id after)))
            (sym w.gate) (GateHolds-same shape views id before after there (words Gate)
            (ap (λ v. v.gate) same) h.gate);
        history = subst (λ c. HistoryHolds fits shape c ground.history (set views id after))
            (sym w.commit) (HistoryHolds-same shape views id before after there fits
            (words Commit) ground.history (ap chronicle_of same) (ap past_of same) h.history);
        objects = subst (λ s. ObjectsStand shape s (data_in words_after) ground.objects)
            (sym w.sizes) (subst (λ c. ObjectsStand shape (sizes_in words) c ground.objects)
            (sym w.cells) h.objects);
        lie = h.lie;
        free = step.lists;
        blocks = step.blocks;
        contents = h.contents;
        dirt = DirtHolds-same shape views id before after there
            (store_after ground.history) ground.objects (ap (λ v. v.dirty) same) h.dirt;
        holdings = EachView-same (holdings_of {N = N}) views id before after there
            (λ _. AreHeld ground.objects) (ap (holdings_of {N = N}) same) h.holdings;
        own = EachView-set (λ (v : View N). v.private) views id before after there
            (λ _. AllByRecursion (IsOwnKnown (nexts_in words)))
            (λ _. AllByRecursion (IsOwnKnown (nexts_in words_after)))
            step.mine_known step.theirs_known h.own;
        memory = MemoryHolds-same shape views id before after there (ap memory_of same) h.memory;
        cells = subst (λ c. (j : ℕ) (view : View N) → get_elem? (set views id after) j ≡ some view
            → AreCells c (stash_of view)) (sym w.cells)
            (EachView-set (stash_of {N = N}) views id before after there
            (λ _. AreCells (data_in words)) (λ _. AreCells (data_in words)) step.mine_cells
            (λ j view ne at was. was) h.cells);
        room = EachView-set (stock_of {N = N}) views id before after there (λ _. HasStock shape)
            (λ _. HasStock shape) step.stock (λ j view ne at was. was) h.room;
        notes = EachView-set (notebook_of {N = N}) views id before after there
            (λ _. AreNoted shape (heads_in words) ground.free)
            (λ _. AreNoted shape (heads_in words_after) free) step.mine_noted
            (λ j view ne at. step.theirs_noted j view ne at (none_alone j view ne at)) h.notes;
        stamps = subst (λ s. StampsHold shape s (words_after Commit) ground.opener
            (set views id after)) (sym w.stamps)
            (subst (λ c. StampsHold shape (stamps_in words) c ground.opener (set views id after))
            (sym w.commit)
            (StampsHold-opened shape views id before after there (stamps_in words)
            (words Commit) ground.opener (ap (λ v. v.stamps.opened) same)
            (subst IsOpenState (sym (ap open_state_of same))) h.stamps));
      }
