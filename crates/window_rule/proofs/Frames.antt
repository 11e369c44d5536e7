-- The parts that a step leaves as they are, since it changes nothing of a view that they read.
use Rattle.std.proofs.Common.{◌≡◌, ℕ, List, [], map, set, get_or, sym, ap, ◌∙◌, subst, inl, inr, Option}
use Rattle.std.specs.List.{AllByRecursion}
use Rattle.std.proofs.lemmas.Bool.{cases_eq}
use mathlib.Core.Option.{some, some-injective}
use lib.ListN.{get_elem?}
use Rattle.atomic_table.proofs.Lists.{set_else}
use Rattle.object_words.specs.Entries.{Entry}
use Rattle.object_words.specs.Contents.{Contents}
use Rattle.rma_layout.specs.Shape.{Shape}
use Rattle.rma_layout.specs.Placement.{Place}
use Rattle.window_rule.specs.View.{View}
use Rattle.window_rule.specs.RightsHold.{RightsHold, stake_of}
use Rattle.window_rule.specs.GateHolds.{GateHolds}
use Rattle.window_rule.specs.View.{Chronicle}
use Rattle.window_rule.specs.HistoryHolds.{AreHeard, past_of, HistoryHolds, chronicle_of, IsChronicle}
use Rattle.window_rule.specs.Objects.{Objects}
use Rattle.window_rule.specs.ContentsHold.{DirtHolds, OwnBlocksHold, IsOwnKnown, CellsHold, AreCells, stash_of}
use Rattle.window_rule.specs.MemoryHolds.{Remembers, memory_of, MemoryHolds}
use Rattle.window_rule.specs.RoomHolds.{RoomHolds, HasStock, stock_of}
use Rattle.window_rule.specs.Partition.{IsPartition, Holder, part_of}
use Rattle.window_rule.specs.NotesHold.{NotesHold, AreNoted, notebook_of}
use Rattle.window_rule.specs.StampsHold.{StampsHold, IsOpened, IsOpenState, opened_of, open_state_of}
use Rattle.window_rule.specs.Lawful.{owns_of, dirts_of}
use Rattle.window_rule.proofs.Sums.{map-set_same}
use Rattle.window_rule.proofs.ViewsKept.{EachView-set, EachView-same, set_here_at}

module _ {N : Type 0} (shape : Shape) (views : List (View N)) (id : ℕ) (before after : View N)
    (there : get_elem? views id ≡ some before) where
  abbrev new_views : List (View N)
  new_views = set views id after

  pub RightsHold-same : (commits : ℕ) → stake_of after ≡ stake_of before
      → RightsHold shape commits (map stake_of views)
      → RightsHold shape commits (map stake_of new_views)
  RightsHold-same commits same h = subst (RightsHold shape commits)
      (sym (map-set_same stake_of views id before after there same)) h

  pub GateHolds-same : (word : ℕ) → after.gate ≡ before.gate
      → GateHolds word (map (λ (v : View N). v.gate) views)
      → GateHolds word (map (λ (v : View N). v.gate) new_views)
  GateHolds-same word same h = subst (GateHolds word)
      (sym (map-set_same (λ (v : View N). v.gate) views id before after there same)) h

  pub HistoryHolds-same : (fits : Shape → Entry N → Type 0) (commits : ℕ) (history : List (Entry N))
      → chronicle_of after ≡ chronicle_of before → past_of after ≡ past_of before
      → HistoryHolds fits shape commits history views
      → HistoryHolds fits shape commits history new_views
  HistoryHolds-same fits commits history same past h = record {
    counted = h.counted;
    heard = EachView-same (past_of {N = N}) views id before after there
        (λ _. AreHeard) past h.heard;
    legal = h.legal;
    fitting = h.fitting;
    ranked = h.ranked;
    held = elim (cases_eq h.held.0 id) [
      | inl here ↦
          let is : h.held.1 ≡ before = some-injective _ _
          (sym h.held.2 ∙ (ap (get_elem? views) here ∙ there)) in (
            id,
            after,
            set_here_at views id before after there,
            ap (λ (c : Chronicle N). c.seen) same
                ∙ (sym (ap (λ (v : View N). v.seen) is) ∙ h.held.3),
          )
      | inr ne ↦ (h.held.0, h.held.1, set_else views id h.held.0 after ne ∙ h.held.2, h.held.3)
    ];
    each = EachView-same (chronicle_of {N = N}) views id before after there
        (λ _. IsChronicle history) same h.each;
  }

  pub IsPartition-same : (free : ℕ → List Place) (objects : Objects) (owner : Place → Holder)
      → after.private ≡ before.private
      → IsPartition shape (part_of free (owns_of views) objects) owner
      → IsPartition shape (part_of free (owns_of new_views) objects) owner
  IsPartition-same free objects owner same h =
      subst (λ owns. IsPartition shape (part_of free owns objects) owner)
      (sym (map-set_same (λ (v : View N). v.private) views id before after there same)) h

  pub DirtHolds-same : (store : Contents) (objects : Objects) → after.dirty ≡ before.dirty
      → DirtHolds store objects (dirts_of views) → DirtHolds store objects (dirts_of new_views)
  DirtHolds-same store objects same h = subst (DirtHolds store objects)
      (sym (map-set_same (λ (v : View N). v.dirty) views id before after there same)) h

  pub OwnBlocksHold-same : (nexts : Place → ℕ) → after.private ≡ before.private
      → OwnBlocksHold nexts views → OwnBlocksHold nexts new_views
  OwnBlocksHold-same nexts same h = EachView-same
      (λ (v : View N). v.private) views id before after there
      (λ _. AllByRecursion (IsOwnKnown nexts)) same h

  pub CellsHold-same : (cells : Place → ℕ → ℕ) → stash_of after ≡ stash_of before
      → CellsHold cells views → CellsHold cells new_views
  CellsHold-same cells same h = EachView-same (stash_of {N = N}) views id before after there
      (λ _. AreCells cells) same h

  pub MemoryHolds-same : memory_of after ≡ memory_of before → MemoryHolds shape views
      → MemoryHolds shape new_views
  MemoryHolds-same same h = EachView-same (memory_of {N = N}) views id before after there
      (λ _. Remembers shape) same h

  pub RoomHolds-same : stock_of after ≡ stock_of before → RoomHolds shape views
      → RoomHolds shape new_views
  RoomHolds-same same h = EachView-same (stock_of {N = N}) views id before after there
      (λ _. HasStock shape) same h

  pub NotesHold-same : (heads : ℕ → ℕ) (free : ℕ → List Place)
      → notebook_of after ≡ notebook_of before → NotesHold shape heads free views
      → NotesHold shape heads free new_views
  NotesHold-same heads free same h = EachView-same (notebook_of {N = N}) views id before after there
      (λ _. AreNoted shape heads free) same h

  -- the view's open objects stay, but perhaps not its locks and its dirt
  pub StampsHold-opened : (stamps : Place → ℕ) (commits : ℕ) (opener : Place → Option ℕ)
      → after.stamps.opened ≡ before.stamps.opened
      → (IsOpenState (open_state_of before) → IsOpenState (open_state_of after))
      → StampsHold shape stamps commits opener views
      → StampsHold shape stamps commits opener new_views
  StampsHold-opened stamps commits opener same opening h = record {
    bound = h.bound;
    closed = h.closed;
    odd = h.odd;
    opened = λ j object block. subst
        (λ all. IsOpened commits (stamps object) j (opener object)
        (opened_of (get_or all j []) object))
        (sym (map-set_same (λ (v : View N). v.stamps.opened) views id before after there same))
        (h.opened j object block);
    each = EachView-set (open_state_of {N = N}) views id before after there (λ _. IsOpenState)
        (λ _. IsOpenState) (opening (h.each id before there)) (λ j view ne at was. was) h.each;
  }
