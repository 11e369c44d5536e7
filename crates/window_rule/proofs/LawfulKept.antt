-- The whole invariant: which steps keep it, and what it says of the counts of an object.
use Rattle.std.proofs.Common.{◌≡◌, ◌≢◌, ℕ, ◌≤◌, List, [], ◌∷◌, map, length, set, refl, sym, ap, ◌∙◌, subst, arith, Option, Some, None, ◌⊎◌, inl, inr}
use mathlib.Core.Option.{some}
use lib.ListN.{get_elem?}
use Rattle.object_words.specs.Entries.{Entry}
use Rattle.rma_layout.specs.declared.word.Word.TheVariants.{Lock, Commit, Gate}
use Rattle.rma_layout.specs.Shape.{Shape}
use Rattle.rma_layout.specs.Placement.{Place, IsBlock}
use Rattle.window_rule.specs.Words.{Words, with_word, data_in, nexts_in, heads_in, stamps_in}
use Rattle.window_rule.specs.Permits.{Moment}
use Rattle.object_words.specs.Entries.{store_after}
use Rattle.window_rule.specs.Known.{known_of}
use Rattle.window_rule.specs.View.{View, Hold, Marked, Locks, Known, spent}
use Rattle.window_rule.specs.Dirty.{dirt_of}
use Rattle.window_rule.specs.Objects.{Objects}
use Rattle.window_rule.specs.ContentsHold.{Lasts, AreHeld, holdings_of, stash_of}
use Rattle.window_rule.specs.HistoryHolds.{chronicle_of, past_of}
use Rattle.window_rule.specs.MemoryHolds.{Remembers, memory_of}
use Rattle.object_words.specs.Contents.{content_of}
use Rattle.window_rule.specs.RoomHolds.{stock_of}
use Rattle.window_rule.specs.NotesHold.{notebook_of}
use Rattle.window_rule.specs.StampsHold.{opened_of, open_state_of, IsOpenState}
use Rattle.window_rule.proofs.ViewsKept.{EachView-set}
use Rattle.window_rule.proofs.Frames.{RightsHold-same, GateHolds-same, HistoryHolds-same, IsPartition-same, DirtHolds-same, OwnBlocksHold-same, CellsHold-same, RoomHolds-same, NotesHold-same, StampsHold-opened}
use Rattle.window_rule.specs.Locks.{hold_of, in_all, shares_of, lasting_of}
use Rattle.window_rule.specs.RightsHold.{Stake, stake_of, IsAlone}
use Rattle.window_rule.specs.Lawful.{IsLawful, locks_of}
use Rattle.window_rule.proofs.Sums.{sum_by-mono, sum_by-of_map, sum_of_one}
use Rattle.window_rule.proofs.LockLemmas.{place_cases, shares_of-le, lasting-le-shares}
use Rattle.window_rule.proofs.RightsKept.{rights_are_counted, others_are_spent}
use Rattle.window_rule.proofs.SpentKept.{SpentHold-live}
use Rattle.window_rule.proofs.LocksKept.{Recounts, LocksHold-at}

-- what the steps on lock words leave of a view: they change the locks, what was read, and what no
-- part reads
abbrev pub beside_locks : {N : Type 0} → View N → View N
beside_locks view = record view { locks = []; known = []; refusals = []; takes = 0 }

-- what a step on the lock word of an object has to keep
pub record IsLockStep {N : Type 0} (all : List Locks) (before after : View N) (object : Place)
    (word : ℕ) : Type 0 where
  pub beside : beside_locks after ≡ beside_locks before
  pub others : (other : Place) → other ≢ object
      → hold_of after.locks other ≡ hold_of before.locks other
  pub counts : Recounts object all word (hold_of before.locks object) (hold_of after.locks object)
  -- nothing new is known, and what is known of the object lasts
  pub known : (other : Place) (reading : Known) → known_of after.known other ≡ Some reading
      → known_of before.known other ≡ Some reading
  pub lasts : (reading : Known) → known_of after.known object ≡ Some reading
      → Lasts (hold_of before.locks object) → Lasts (hold_of after.locks object)
  -- an object that is dirty or open stays marked
  pub marked : hold_of before.locks object ≡ Some Marked
      → (dirt_of before.dirty object ≢ None) ⊎ (opened_of before.stamps.opened object ≢ None)
      → hold_of after.locks object ≡ Some Marked

module _ {N : Type 0} (all : List Locks) (before after : View N) (object : Place) (word : ℕ)
    (step : IsLockStep all before after object word) where
  same_dirty : after.dirty ≡ before.dirty
  same_dirty = ap (λ v. v.dirty) step.beside

  lasts_all : (other : Place) (reading : Known) → known_of after.known other ≡ Some reading
      → Lasts (hold_of before.locks other) → Lasts (hold_of after.locks other)
  lasts_all other reading is lasts =
      elim (place_cases other object) [
        | inl same ↦
            subst (λ p. Lasts (hold_of after.locks p)) (sym same)
            (step.lasts reading (sym (ap (known_of after.known) same) ∙ is)
            (subst (λ p. Lasts (hold_of before.locks p)) same lasts))
        | inr ne ↦ subst Lasts (sym (step.others other ne)) lasts
      ]

  marked_all : (other : Place)
      → (dirt_of before.dirty other ≢ None) ⊎ (opened_of before.stamps.opened other ≢ None)
      → hold_of before.locks other ≡ Some Marked → hold_of after.locks other ≡ Some Marked
  marked_all other why mark =
      elim (place_cases other object) [
        | inl same ↦
            ap (hold_of after.locks) same
            ∙ step.marked (sym (ap (hold_of before.locks) same) ∙ mark)
            (subst (λ p. (dirt_of before.dirty p ≢ None)
            ⊎ (opened_of before.stamps.opened p ≢ None)) same why)
        | inr ne ↦ step.others other ne ∙ mark
      ]

  pub held_after : (objects : Objects) → AreHeld objects (holdings_of before)
      → AreHeld objects (holdings_of after)
  held_after objects h = record {
    read = λ other reading is. let was = h.read other reading (step.known other reading is) in (
      was.0,
      ap (λ d. dirt_of d other) same_dirty ∙ was.1,
      elim was.2 [
        | inl lasts ↦ inl (lasts_all other reading is lasts)
        | inr whole ↦ inr (ap (λ v. v.gate) step.beside ∙ whole)
      ],
    );
    marked = λ other dirt is.
        let was : dirt_of before.dirty other ≡ Some dirt = sym
        (ap (λ d. dirt_of d other) same_dirty) ∙ is in
        let both = h.marked other dirt was in (
          marked_all other (inl (λ none. let e : None ≡ Some dirt = sym none ∙ was in cc e)) both.0,
          ap (λ v. v.gate) step.beside ∙ both.1,
        );
  }

  pub opening_after : IsOpenState (open_state_of before) → IsOpenState (open_state_of after)
  opening_after h = record {
    marked = λ other written is.
        let was : opened_of before.stamps.opened other ≡ Some written = sym
        (ap (λ v. opened_of v.stamps.opened other) step.beside) ∙ is in
        marked_all other (inr (λ none. let e : None ≡ Some written = sym none ∙ was in cc e))
        (h.marked other written was);
    dirty = λ other dirt is none.
        h.dirty other dirt (sym (ap (λ d. dirt_of d other) same_dirty) ∙ is)
        (sym (ap (λ v. opened_of v.stamps.opened other) step.beside) ∙ none);
  }

shares_by_rights : {N : Type 0} (view : View N) (object : Place) (rights : List ℕ)
    → view.rights ≡ rights → (rights ≡ [] → view ≡ spent)
    → shares_of (hold_of view.locks object) ≤ length rights
shares_by_rights {N} view object [] e h =
    let nothing : shares_of (hold_of view.locks object) ≡ 0 = ap
    (λ (v : View N). shares_of (hold_of v.locks object)) (h refl) in
    omega arith
shares_by_rights {N} view object (right ∷ more) e h = omega
    (arith, shares_of-le (hold_of view.locks object))

module _ {N : Type 0} (fits : Shape → Entry N → Type 0) (shape : Shape) (words : Words)
    (views : List (View N)) (id : ℕ) where
  -- a step on a lock word
  pub lock_step_keeps : (before after : View N) (object : Place) (new : ℕ)
      → IsBlock shape object → Moment fits shape words views id before
      → IsLockStep (map locks_of views) before after object new
      → IsLawful fits shape (with_word words (Lock object) new) (set views id after)
  lock_step_keeps before after object new block now step =
      let h = now.lawful.holds in
      let ground = now.lawful.ground in
      let there = now.there in
      let same = step.beside in record {
        ground = ground;
        holds = record {
          rights = RightsHold-same shape views id before after there (words Commit)
              (ap stake_of same) h.rights;
          spent = SpentHold-live views id after
              (λ none. now.live (sym (ap (λ v. v.rights) same) ∙ none)) h.spent;
          locks = LocksHold-at shape words object new views id before after block there step.others
              step.counts h.locks;
          gate = GateHolds-same shape views id before after there (words Gate)
              (ap (λ v. v.gate) same) h.gate;
          history = HistoryHolds-same shape views id before after there fits
              (words Commit) ground.history (ap chronicle_of same) (ap past_of same) h.history;
          objects = h.objects;
          lie = h.lie;
          free = h.free;
          blocks = IsPartition-same shape views id before after there ground.free ground.objects
              ground.owner (ap (λ v. v.private) same) h.blocks;
          contents = h.contents;
          dirt = DirtHolds-same shape views id before after there
              (store_after ground.history) ground.objects (ap (λ v. v.dirty) same) h.dirt;
          holdings = EachView-set (holdings_of {N = N}) views id before after there
              (λ _. AreHeld ground.objects) (λ _. AreHeld ground.objects)
              (held_after (map locks_of views) before after object new step ground.objects
              (h.holdings id before there)) (λ j view ne at was. was) h.holdings;
          own = OwnBlocksHold-same shape views id before after there (nexts_in words)
              (ap (λ v. v.private) same) h.own;
          memory = EachView-set (memory_of {N = N}) views id before after there
              (λ _. Remembers shape) (λ _. Remembers shape)
              (λ other known is. let was = h.memory id before there other known
              (step.known other known is) in
              (was.0, ap (λ v. content_of (store_after v.seen) other) same ∙ was.1))
              (λ j view ne at was. was) h.memory;
          cells = CellsHold-same shape views id before after there (data_in words)
              (ap stash_of same) h.cells;
          room = RoomHolds-same shape views id before after there (ap stock_of same) h.room;
          notes = NotesHold-same shape views id before after there (heads_in words) ground.free
              (ap notebook_of same) h.notes;
          stamps = StampsHold-opened shape views id before after there (stamps_in words)
              (words Commit) ground.opener (ap (λ v. v.stamps.opened) same)
              (opening_after (map locks_of views) before after object new step) h.stamps;
        };
      }

  -- a view has no share where it has no right, so there are no more shares of an object than ranks
  pub shares-le-ranks : (object : Place) → IsLawful fits shape words views
      → in_all shares_of object (map locks_of views) ≤ shape.ranks
  shares-le-ranks object h =
      let each = sum_by-mono (λ (v : View N). shares_of (hold_of v.locks object))
      (λ (v : View N). length v.rights) views
      (λ j v there. shares_by_rights v object v.rights refl (h.holds.spent j v there)) in
      omega (
        arith,
        each,
        sum_by-of_map locks_of (λ locks. shares_of (hold_of locks object)) views,
        sum_by-of_map stake_of (λ (stake : Stake). length stake.rights) views,
        rights_are_counted shape (words Commit) (map stake_of views) h.holds.rights,
      )

  -- beside a view that is alone no other has a lock
  pub alone_counts : (view : View N) (object : Place) (count : Option Hold → ℕ)
      → IsLawful fits shape words views → get_elem? views id ≡ some view → IsAlone shape view
      → count None ≡ 0
      → in_all count object (map locks_of views) ≡ count (hold_of view.locks object)
  alone_counts view object count h there alone zero_at_none =
      sum_by-of_map locks_of (λ locks. count (hold_of locks object)) views
      ∙ sum_of_one (λ (v : View N). count (hold_of v.locks object)) views id view there
      (λ j other ne found.
      let no_right = others_are_spent shape
      (words Commit) views id j view other h.holds.rights there alone ne found in
      ap (λ (v : View N). count (hold_of v.locks object)) (h.holds.spent j other found no_right)
      ∙ zero_at_none)

  -- lasting shares are shares
  pub lasting-le : (object : Place)
      → in_all lasting_of object (map locks_of views) ≤ in_all shares_of object (map locks_of views)
  lasting-le object =
      sum_by-mono (λ locks. lasting_of (hold_of locks object))
      (λ locks. shares_of (hold_of locks object)) (map locks_of views)
      (λ j locks there. lasting-le-shares (hold_of locks object))
