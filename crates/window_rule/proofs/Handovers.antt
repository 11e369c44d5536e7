-- Two views change at once, and what one gives up the other has. The whole invariant is kept.
use Rattle.std.proofs.Common.{◌≡◌, ◌≢◌, ℕ, ◌+◌, ◌<◌, ◌≤◌, List, [], map, set, refl, sym, ap, ◌∙◌, subst, ◌⊎◌, inl, inr, arith, None}
use Rattle.std.specs.List.{AllByRecursion, sum_by}
use Rattle.std.proofs.lemmas.Bool.{cases_eq}
use mathlib.Core.Option.{some, some-injective}
use lib.ListN.{get_elem?}
use lib.Seq.{map-set}
use Rattle.atomic_table.proofs.Lists.{at_map, at_set, set_else}
use Rattle.object_words.specs.Entries.{Entry, store_after}
use Rattle.rma_layout.specs.declared.word.Word.TheVariants.{Commit, Gate}
use Rattle.rma_layout.specs.Shape.{Shape}
use Rattle.rma_layout.specs.Placement.{Place}
use Rattle.window_rule.specs.View.{View, OwnBlock, spent}
use Rattle.window_rule.specs.Words.{Words, locks_in, data_in, nexts_in, heads_in, stamps_in}
use Rattle.window_rule.specs.EachView.{EachView}
use Rattle.window_rule.specs.RightsHold.{RightsHold, Stake, stake_of, right_count, AreRanks}
use Rattle.window_rule.specs.SpentHold.{SpentHold}
use Rattle.window_rule.specs.LocksHold.{LocksHold}
use Rattle.window_rule.specs.HistoryHolds.{AreHeard, past_of, HistoryHolds, IsChronicle, chronicle_of}
use Rattle.window_rule.specs.ContentsHold.{AreHeld, holdings_of, IsOwnKnown, AreCells, stash_of}
use Rattle.window_rule.specs.MemoryHolds.{Remembers, memory_of}
use Rattle.window_rule.specs.RoomHolds.{HasStock, stock_of}
use Rattle.window_rule.specs.Partition.{Holder, FreeOf, OwnOf, Within, IsPartition, part_of, places_of, times}
use Rattle.window_rule.specs.NotesHold.{AreNoted, notebook_of}
use Rattle.window_rule.specs.StampsHold.{IsOpenState, open_state_of}
use Rattle.window_rule.specs.Lawful.{Holds, Ground, locks_of, owns_of}
use Rattle.window_rule.proofs.Sums.{map-set_same, sum_by-set_at}
use Rattle.window_rule.proofs.SpentKept.{SpentHold-live}
use Rattle.window_rule.proofs.ViewsKept.{EachView-set, set_here_at, part_before, part_after, part_other}
use Rattle.window_rule.proofs.PartitionKept.{IsPartition-between, owner_after}
use Rattle.window_rule.proofs.Frames.{GateHolds-same, DirtHolds-same, StampsHold-opened}

-- what stays of each of the two views: all but the rights and commits, the blocks of its own, the
-- notes and the history
abbrev pub beside_hand : {N : Type 0} → View N → View N
beside_hand view = record view {
  rights = [];
  allowance = 0;
  private = [];
  cells = [];
  known = [];
  notes = [];
  bounds = [];
  refusals = [];
  misses = [];
  looks = [];
  takes = 0;
  stamps = record view.stamps { notes = []; place = None; changes = [] };
  seen = [];
  own = [];
  heard = [];
}

pub record IsHandover {N : Type 0} (shape : Shape) (words : Words) (ground : Ground N)
    (one other one_after other_after : View N) : Type 0 where
  pub beside_one : beside_hand one_after ≡ beside_hand one
  pub beside_other : beside_hand other_after ≡ beside_hand other
  pub live : one_after.rights ≢ []
  pub spent : other_after.rights ≡ [] → other_after ≡ spent
  pub rights : (rank : ℕ) → rank < shape.ranks
      → right_count rank one_after.rights + right_count rank other_after.rights
      ≡ right_count rank one.rights + right_count rank other.rights
  pub one_ranks : AreRanks shape.ranks one_after.rights
  pub other_ranks : AreRanks shape.ranks other_after.rights
  pub allowance : one_after.allowance + other_after.allowance ≤ one.allowance + other.allowance
  pub blocks : (block : Place)
      → times block (places_of one_after.private) + times block
      (places_of other_after.private) ≡ times block (places_of one.private) + times block
      (places_of other.private)
  pub one_known : AllByRecursion (IsOwnKnown (nexts_in words)) one_after.private
  pub other_known : AllByRecursion (IsOwnKnown (nexts_in words)) other_after.private
  pub one_cells : AreCells (data_in words) (stash_of one_after)
  pub other_cells : AreCells (data_in words) (stash_of other_after)
  pub one_held : AreHeld ground.objects (holdings_of one_after)
  pub other_held : AreHeld ground.objects (holdings_of other_after)
  pub one_memory : Remembers shape (memory_of one_after)
  pub other_memory : Remembers shape (memory_of other_after)
  pub one_stock : HasStock shape (stock_of one_after)
  pub other_stock : HasStock shape (stock_of other_after)
  pub one_notes : AreNoted shape (heads_in words) ground.free (notebook_of one_after)
  pub other_notes : AreNoted shape (heads_in words) ground.free (notebook_of other_after)
  pub one_chronicle : IsChronicle ground.history (chronicle_of one_after)
  pub other_chronicle : IsChronicle ground.history (chronicle_of other_after)
  pub one_heard : AreHeard (past_of one_after)
  pub other_heard : AreHeard (past_of other_after)
  pub longest : (one.seen ≡ ground.history) ⊎ (other.seen ≡ ground.history)
      → one_after.seen ≡ ground.history

own_differ : (i j : ℕ) → j ≢ i → OwnOf i ≢ OwnOf j
own_differ i j ne e = ne (let same : i ≡ j = cc e in sym same)

module _ {N : Type 0} (fits : Shape → Entry N → Type 0) (shape : Shape) (words : Words)
    (views : List (View N)) (ground : Ground N) (h : Holds fits shape words views ground)
    (id j : ℕ) (one other one_after other_after : View N) (here : get_elem? views id ≡ some one)
    (there : get_elem? views j ≡ some other) (ne : j ≢ id)
    (hand : IsHandover shape words ground one other one_after other_after) where
  abbrev middle : List (View N)
  middle = set views id one_after

  abbrev new_views : List (View N)
  new_views = set middle j other_after

  there_still : get_elem? middle j ≡ some other
  there_still = set_else views id j one_after ne ∙ there

  -- a fact of each view
  each_view : {A : Type 0} (part : View N → A) (P : A → Type 0) → P (part one_after)
      → P (part other_after) → EachView part (λ _. P) views → EachView part (λ _. P) new_views
  each_view part P mine theirs was =
      EachView-set part middle j other other_after there_still (λ _. P) (λ _. P) theirs
      (λ i view not at p. p)
      (EachView-set part views id one one_after here (λ _. P) (λ _. P) mine
      (λ i view not at p. p) was)

  -- a part of a view that neither changes
  same_map : {A : Type 0} (part : View N → A) → part one_after ≡ part one
      → part other_after ≡ part other → map part new_views ≡ map part views
  same_map part mine theirs = map-set_same part middle j other other_after there_still theirs
      ∙ map-set_same part views id one one_after here mine

  stakes_sum : (f : Stake → ℕ)
      → sum_by f (map stake_of new_views) + f (stake_of one) + f (stake_of other) ≡ sum_by f
      (map stake_of views) + f (stake_of one_after) + f (stake_of other_after)
  stakes_sum f =
      let first = sum_by-set_at f (map stake_of views) id (stake_of one) (stake_of one_after)
      (at_map stake_of views id one here) in
      let second = sum_by-set_at f (map stake_of middle) j (stake_of other) (stake_of other_after)
      (at_map stake_of middle j other there_still) in
      let a : sum_by f (map stake_of middle) ≡ sum_by f
      (set (map stake_of views) id (stake_of one_after)) = ap (sum_by f)
      (map-set stake_of views id one_after) in
      let b : sum_by f (map stake_of new_views) ≡ sum_by f
      (set (map stake_of middle) j (stake_of other_after)) = ap (sum_by f)
      (map-set stake_of middle j other_after) in
      omega arith

  rights_hold : RightsHold shape (words Commit) (map stake_of new_views)
  rights_hold = record {
    each_once = λ rank below. omega (
      arith,
      h.rights.each_once rank below,
      hand.rights rank below,
      stakes_sum (λ (s : Stake). right_count rank s.rights),
    );
    few_commits = omega
        (arith, h.rights.few_commits, hand.allowance, stakes_sum (λ (s : Stake). s.allowance));
    are_ranks = λ i stake at.
        elim (at_set (map stake_of middle) j i (stake_of other_after) stake
        (ap (λ l. get_elem? l i) (sym (map-set stake_of middle j other_after)) ∙ at)) [
          | inl same ↦ subst (λ (s : Stake). AreRanks shape.ranks s.rights) same.1 hand.other_ranks
          | inr not_j ↦ elim
              (at_set (map stake_of views) id i (stake_of one_after) stake
              (ap (λ l. get_elem? l i) (sym (map-set stake_of views id one_after)) ∙ not_j.1)) [
                | inl same ↦ subst (λ (s : Stake). AreRanks shape.ranks s.rights) same.1 hand.one_ranks
                | inr else ↦ h.rights.are_ranks i stake else.1
              ]
        ];
  }

  spent_hold : SpentHold new_views
  spent_hold i view at none =
      elim (at_set middle j i other_after view at) [
        | inl same ↦ sym same.1 ∙ hand.spent (ap (λ (v : View N). v.rights) same.1 ∙ none)
        | inr else ↦ SpentHold-live views id one_after hand.live h.spent i view else.1 none
      ]

  history_holds : HistoryHolds fits shape (words Commit) ground.history new_views
  history_holds = record {
    counted = h.history.counted;
    heard = each_view (past_of {N = N}) AreHeard hand.one_heard hand.other_heard h.history.heard;
    legal = h.history.legal;
    fitting = h.history.fitting;
    ranked = h.history.ranked;
    each = each_view (chronicle_of {N = N})
        (IsChronicle ground.history) hand.one_chronicle hand.other_chronicle h.history.each;
    held =
        let mine : get_elem? new_views id ≡ some one_after = set_else middle j id other_after
        (λ e. ne (sym e)) ∙ set_here_at views id one one_after here in
        elim (cases_eq h.history.held.0 id) [
          | inl same ↦
              let is : h.history.held.1 ≡ one = some-injective _ _
              (sym h.history.held.2 ∙ (ap (get_elem? views) same ∙ here)) in (
                id,
                one_after,
                mine,
                hand.longest (inl (sym (ap (λ (v : View N). v.seen) is) ∙ h.history.held.3)),
              )
          | inr not_id ↦ elim (cases_eq h.history.held.0 j) [
            | inl same ↦
                let is : h.history.held.1 ≡ other = some-injective _ _
                (sym h.history.held.2 ∙ (ap (get_elem? views) same ∙ there)) in (
                  id,
                  one_after,
                  mine,
                  hand.longest (inr (sym (ap (λ (v : View N). v.seen) is) ∙ h.history.held.3)),
                )
            | inr not_j ↦ (
              h.history.held.0,
              h.history.held.1,
              set_else middle j h.history.held.0 other_after not_j
                  ∙ (set_else views id h.history.held.0 one_after not_id ∙ h.history.held.2),
              h.history.held.3,
            )
          ]
        ];
  }

  abbrev part : Holder → List Place
  part = part_of ground.free (owns_of views) ground.objects

  abbrev moved : Holder → List Place
  moved = part_of ground.free (owns_of new_views) ground.objects

  abbrev private_of : View N → List OwnBlock
  private_of v = v.private

  one_before : part (OwnOf id) ≡ places_of one.private
  one_before = ap places_of (part_before private_of views id one one [] here)

  other_before : part (OwnOf j) ≡ places_of other.private
  other_before = ap places_of (part_before private_of views j other other [] there)

  one_moved : moved (OwnOf id) ≡ places_of one_after.private
  one_moved = ap places_of
      (part_other private_of middle j other other_after [] there_still id (λ e. ne (sym e))
      ∙ part_after private_of views id one one_after [] here)

  other_moved : moved (OwnOf j) ≡ places_of other_after.private
  other_moved = ap places_of (part_after private_of middle j other other_after [] there_still)

  conserved : (block : Place)
      → times block (moved (OwnOf id)) + times block (moved (OwnOf j)) ≡ times block
      (part (OwnOf id)) + times block (part (OwnOf j))
  conserved block =
      omega (
        arith,
        hand.blocks block,
        ap (times block) one_before,
        ap (times block) other_before,
        ap (times block) one_moved,
        ap (times block) other_moved,
      )

  elsewhere : (holder : Holder) → holder ≢ OwnOf id → holder ≢ OwnOf j → moved holder ≡ part holder
  elsewhere (FreeOf rank) not_one not_other = refl
  elsewhere (Within object) not_one not_other = refl
  elsewhere (OwnOf i) not_one not_other =
      ap places_of (part_other private_of middle j other other_after [] there_still i
      (λ e. not_other (ap OwnOf e))
      ∙ part_other private_of views id one one_after [] here i (λ e. not_one (ap OwnOf e)))

  pub handed : Ground N
  handed = record ground { owner = owner_after moved (OwnOf id) (OwnOf j) ground.owner }

  blocks_kept : IsPartition shape moved (owner_after moved (OwnOf id) (OwnOf j) ground.owner)
  blocks_kept = IsPartition-between shape part moved ground.owner (OwnOf id) (OwnOf j)
      (record { differ = own_differ id j ne; conserved = conserved; elsewhere = elsewhere })
      (λ block e. cc e) (λ block e. cc e) h.blocks

  pub handover_keeps : Holds fits shape words new_views
      (record ground { owner = owner_after moved (OwnOf id) (OwnOf j) ground.owner })
  handover_keeps = record {
    rights = rights_hold;
    spent = spent_hold;
    locks = subst (LocksHold shape (locks_in words))
        (sym (same_map locks_of (ap (λ v. v.locks) hand.beside_one)
        (ap (λ v. v.locks) hand.beside_other))) h.locks;
    gate = GateHolds-same shape middle j other other_after there_still (words Gate)
        (ap (λ v. v.gate) hand.beside_other)
        (GateHolds-same shape views id one one_after here (words Gate)
        (ap (λ v. v.gate) hand.beside_one) h.gate);
    history = history_holds;
    objects = h.objects;
    lie = h.lie;
    free = h.free;
    blocks = blocks_kept;
    contents = h.contents;
    dirt = DirtHolds-same shape middle j other other_after there_still
        (store_after ground.history) ground.objects (ap (λ v. v.dirty) hand.beside_other)
        (DirtHolds-same shape views id one one_after here
        (store_after ground.history) ground.objects (ap (λ v. v.dirty) hand.beside_one) h.dirt);
    holdings = each_view (holdings_of {N = N})
        (AreHeld ground.objects) hand.one_held hand.other_held h.holdings;
    own = each_view private_of
        (AllByRecursion (IsOwnKnown (nexts_in words))) hand.one_known hand.other_known h.own;
    memory = each_view (memory_of {N = N})
        (Remembers shape) hand.one_memory hand.other_memory h.memory;
    cells = each_view (stash_of {N = N})
        (AreCells (data_in words)) hand.one_cells hand.other_cells h.cells;
    room = each_view (stock_of {N = N}) (HasStock shape) hand.one_stock hand.other_stock h.room;
    notes = each_view (notebook_of {N = N})
        (AreNoted shape (heads_in words) ground.free) hand.one_notes hand.other_notes h.notes;
    stamps = StampsHold-opened shape middle j other other_after there_still (stamps_in words)
        (words Commit) ground.opener (ap (λ v. v.stamps.opened) hand.beside_other)
        (subst IsOpenState (sym (ap (open_state_of {N = N}) hand.beside_other)))
        (StampsHold-opened shape views id one one_after here (stamps_in words)
        (words Commit) ground.opener (ap (λ v. v.stamps.opened) hand.beside_one)
        (subst IsOpenState (sym (ap (open_state_of {N = N}) hand.beside_one))) h.stamps);
  }
