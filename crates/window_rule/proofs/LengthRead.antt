-- The length of an object is loaded.
use Rattle.std.proofs.Common.{◌≡◌, ℕ, Bool, true, false, cond, List, [], append-nil, map, set, get_or, refl, sym, ap, ◌∙◌, subst, ◌⊎◌, inl, inr, Some, None}
use Rattle.std.proofs.lemmas.Bool.{cases_eq}
use mathlib.Core.Option.{some}
use lib.ListN.{get_elem?}
use Rattle.rma_layout.specs.declared.word.Word.{Word}
use Rattle.rma_layout.specs.declared.word.Word.TheVariants.{Length, Commit, Gate}
use Rattle.rma_layout.specs.Shape.{Shape}
use Rattle.rma_layout.specs.Placement.{Place, IsBlock}
use Rattle.atomic_table.proofs.Lists.{at_map}
use Rattle.object_words.specs.Contents.{content_of}
use Rattle.object_words.specs.Entries.{Entry, store_after}
use Rattle.window_rule.specs.View.{View, Known, AsWhole}
use Rattle.window_rule.specs.Locks.{hold_of}
use Rattle.window_rule.specs.Dirty.{dirt_of}
use Rattle.window_rule.specs.Words.{Words, same_word, with_word, locks_in, sizes_in, data_in, nexts_in, heads_in, stamps_in}
use Rattle.window_rule.specs.Known.{known_of, without_known}
use Rattle.window_rule.specs.LocksHold.{LocksHold}
use Rattle.window_rule.specs.HistoryHolds.{AreHeard, past_of, HistoryHolds, IsChronicle, chronicle_of}
use Rattle.window_rule.specs.Objects.{IsKept, IsKeptIn}
use Rattle.window_rule.specs.ContentsHold.{Lasts, IsKnown, IsDirtOrNone, AreHeld, holdings_of}
use Rattle.window_rule.specs.MemoryHolds.{Remembers, memory_of}
use Rattle.window_rule.specs.Permits.{Moment, Permits, Goes}
use Rattle.window_rule.specs.Lengths.{measured, MayRead, Measures}
use Rattle.window_rule.specs.Lawful.{Holds, Ground, locks_of, dirts_of}
use Rattle.window_rule.proofs.Sums.{map-set_same}
use Rattle.window_rule.proofs.OwnEntries.{own_in_history}
use Rattle.window_rule.proofs.SpentKept.{SpentHold-live}
use Rattle.window_rule.proofs.LockLemmas.{place_cases, same_place-refl, same_place-false}
use Rattle.window_rule.proofs.WordFunctions.{same_word-tells}
use Rattle.window_rule.proofs.Readings.{reading-stays}
use Rattle.window_rule.proofs.ViewsKept.{EachView-set, set_here_at, part_before}
use Rattle.window_rule.proofs.Exclusions.{mark_excludes, writer_excludes}
use Rattle.window_rule.proofs.DetachKept.{dirty_view, is_none}
use Rattle.window_rule.proofs.Frames.{RightsHold-same, GateHolds-same, IsPartition-same, DirtHolds-same, OwnBlocksHold-same, CellsHold-same, RoomHolds-same, NotesHold-same, StampsHold-opened}

-- a word that is stored as it was
again_at : (words : Words) (word other : Word) (b : Bool) → same_word other word ≡ b
    → cond b (words word) (words other) ≡ words other
again_at words word other true e = ap words (sym (same_word-tells other word e))
again_at words word other false e = refl

pub with_word-again : (words : Words) (word : Word) → with_word words word (words word) ≡ words
with_word-again words word i other = again_at words word other (same_word other word) refl i

-- a load may show that the invariant holds of the words as they are
pub load_goes : {N : Type 0} (fits : Shape → Entry N → Type 0) (shape : Shape) (words : Words)
    (word : Word) (views : List (View N)) (id : ℕ) (before : View N) (Told : View N → Type 0)
    → Goes fits shape words views id before Told
    → Goes fits shape (with_word words word (words word)) views id before Told
load_goes fits shape words word views id before Told h = subst
    (λ w. Goes fits shape w views id before Told) (sym (with_word-again words word)) h

-- an object that a view may read is with no writer
pub not_written : {N : Type 0} (fits : Shape → Entry N → Type 0) (shape : Shape) (object : Place)
    (before : View N) → IsBlock shape object → MayRead before object
    → (words : Words) (views : List (View N)) (id : ℕ) (ground : Ground N)
    → Holds fits shape words views ground → get_elem? views id ≡ some before
    → (ground.objects object).writer ≡ None
not_written {N} fits shape object before block may words views id ground h there =
    let nobody : (j : ℕ)
    → dirt_of (get_or (dirts_of views) j []) object ≡ None = λ j. elim (cases_eq j id) [
      | inl same ↦ ap (λ k. dirt_of (get_or (dirts_of views) k []) object) same
          ∙ (ap (λ d. dirt_of d object)
          (part_before (λ (v : View N). v.dirty) views id before before [] there) ∙ may.clean)
      | inr ne ↦ is_none (dirt_of (get_or (dirts_of views) j []) object) (λ dirt e.
          let found = dirty_view views j object dirt e in
          let marked = (h.holdings j found.0 found.1).marked object dirt found.2 in
          elim may.lasting [
            | inl lasts ↦ mark_excludes shape (locks_in words)
                (map locks_of views) j id found.0.locks before.locks object h.locks block
                (at_map locks_of views j found.0 found.1) (at_map locks_of views id before there)
                (λ same. ne (sym same)) marked.0 lasts
            | inr whole ↦ writer_excludes (words Gate)
                (map (λ (v : View N). v.gate) views) j id before.gate h.gate
                (at_map (λ (v : View N). v.gate) views j found.0 found.1 ∙ ap some marked.1)
                (at_map (λ (v : View N). v.gate) views id before there) whole
          ])
    ] in
    is_none (ground.objects object).writer
    (λ j e. subst (IsDirtOrNone (content_of (store_after ground.history) object)
    (ground.objects object) j) (nobody j) (h.dirt j object) e)

-- what a view knows is so in the store of all entries
pub still_known : {N : Type 0} (fits : Shape → Entry N → Type 0) (shape : Shape) (before : View N)
    (words : Words) (views : List (View N)) (id : ℕ) (ground : Ground N)
    → Holds fits shape words views ground → get_elem? views id ≡ some before
    → (object : Place) (known : Known) → known_of before.known object ≡ Some known
    → IsBlock shape object × (content_of (store_after ground.history) object ≡ known.content)
still_known fits shape before words views id ground h there object known is =
    let block = (h.memory id before there object known is).0 in
    let held = (h.holdings id before there).read object known is in
    let no_writer = not_written fits shape object before block
    (record { clean = held.1; lasting = held.2 }) words views id ground h there in
    let same : Some (content_of (store_after ground.history) object) ≡ Some known.content = sym
    (h.contents object block no_writer) ∙ held.0.content_is in
    (block, cc same)

module _ {N : Type 0} (fits : Shape → Entry N → Type 0) (shape : Shape) (object : Place)
    (block : IsBlock shape object) (before : View N) (may : MayRead before object)
    (words : Words) (views : List (View N)) (id : ℕ)
    (now : Moment fits shape words views id before) where
  abbrev ground : Ground N
  ground = now.lawful.ground

  abbrev told_now : Known
  told_now = record {
    chain = (ground.objects object).chain;
    content = content_of (store_after ground.history) object;
  }

  abbrev after : View N
  after = measured object told_now ground.history before

  stored : (ground.objects object).content ≡ Some told_now.content
  stored = now.lawful.holds.contents object block
      (not_written fits shape object before block may words views id ground now.lawful.holds
      now.there)

  stood : IsKeptIn shape (sizes_in words) (data_in words) object told_now.chain told_now.content
  stood = subst (IsKept shape (sizes_in words) (data_in words) object told_now.chain) stored
      (now.lawful.holds.objects object block)

  read_after : AreHeld ground.objects (holdings_of before)
      → AreHeld ground.objects (holdings_of after)
  read_after h = record {
    marked = h.marked;
    read = λ other known is. elim (place_cases other object) [
      | inl same ↦
          let found : Some told_now ≡ Some known = sym
          (ap (λ t. cond t (Some told_now)
          (known_of (without_known before.known object) object)) (same_place-refl object))
          ∙ (sym (ap (known_of after.known) same) ∙ is) in
          let new : told_now ≡ known = cc found in
          subst (λ q. IsKnown (ground.objects q).chain (ground.objects q).content known
          × (dirt_of before.dirty q ≡ None)
          × (Lasts (hold_of before.locks q) ⊎ (before.gate ≡ AsWhole))) (sym same) (
            subst (IsKnown (ground.objects object).chain (ground.objects object).content) new
                (record { chain_is = refl; content_is = stored }),
            may.clean,
            may.lasting,
          )
      | inr ne ↦
          h.read other known
          (sym (reading-stays before.known object other ne)
          ∙ (sym (ap (λ t. cond t (Some told_now)
          (known_of (without_known before.known object) other))
          (same_place-false object other (λ e. ne (sym e)))) ∙ is))
    ];
  }

  remembers_after : Remembers shape (memory_of after)
  remembers_after other known is =
      elim (place_cases other object) [
        | inl same ↦
            let found : Some told_now ≡ Some known = sym
            (ap (λ t. cond t (Some told_now)
            (known_of (without_known before.known object) object)) (same_place-refl object))
            ∙ (sym (ap (known_of after.known) same) ∙ is) in
            let new : told_now ≡ known = cc found in
            subst (λ q. IsBlock shape q
            × (content_of (store_after ground.history) q ≡ known.content)) (sym same)
            (block, ap (λ (k : Known). k.content) new)
        | inr ne ↦
            still_known fits shape before words views id ground now.lawful.holds now.there
            other known
            (sym (reading-stays before.known object other ne)
            ∙ (sym (ap (λ t. cond t (Some told_now)
            (known_of (without_known before.known object) other))
            (same_place-false object other (λ e. ne (sym e)))) ∙ is))
      ]

  chronicle_after : HistoryHolds fits shape (words Commit) ground.history (set views id after)
  chronicle_after = let h = now.lawful.holds.history in record {
    counted = h.counted;
    heard = EachView-set (past_of {N = N}) views id before after now.there (λ _. AreHeard)
        (λ _. AreHeard) tt (λ j view ne at was. was) h.heard;
    legal = h.legal;
    fitting = h.fitting;
    ranked = h.ranked;
    held = (id, after, set_here_at views id before after now.there, refl);
    each = EachView-set (chronicle_of {N = N}) views id before after now.there
        (λ _. IsChronicle ground.history) (λ _. IsChronicle ground.history)
        (record {
          begins = ([], append-nil ground.history);
          own = own_in_history ground.history (chronicle_of before) (h.each id before now.there);
          rest = tt;
        }) (λ j view ne at was. was) h.each;
  }

  length_goes : Goes fits shape words views id before
      (Measures object before (words (Length object)))
  length_goes =
      let h = now.lawful.holds in
      let there = now.there in record {
        after = after;
        lawful = record {
          ground = ground;
          holds = record {
            rights = RightsHold-same shape views id before after there (words Commit) refl h.rights;
            spent = SpentHold-live views id after now.live h.spent;
            locks = subst (LocksHold shape (locks_in words))
                (sym (map-set_same locks_of views id before after there refl)) h.locks;
            gate = GateHolds-same shape views id before after there (words Gate) refl h.gate;
            history = chronicle_after;
            objects = h.objects;
            lie = h.lie;
            free = h.free;
            blocks = IsPartition-same shape views id before after there ground.free ground.objects
                ground.owner refl h.blocks;
            contents = h.contents;
            dirt = DirtHolds-same shape views id before after there
                (store_after ground.history) ground.objects refl h.dirt;
            holdings = EachView-set (holdings_of {N = N}) views id before after there
                (λ _. AreHeld ground.objects) (λ _. AreHeld ground.objects)
                (read_after (h.holdings id before there)) (λ j view ne at was. was) h.holdings;
            own = OwnBlocksHold-same shape views id before after there (nexts_in words) refl h.own;
            memory = EachView-set (memory_of {N = N}) views id before after there
                (λ _. Remembers shape) (λ _. Remembers shape) remembers_after
                (λ j view ne at was. was) h.memory;
            cells = CellsHold-same shape views id before after there (data_in words) refl h.cells;
            room = RoomHolds-same shape views id before after there refl h.room;
            notes = NotesHold-same shape views id before after there
                (heads_in words) ground.free refl h.notes;
            stamps = StampsHold-opened shape views id before after there (stamps_in words)
                (words Commit) ground.opener refl (λ o. o) h.stamps;
          };
        };
        same_rights = refl;
        told = record {
          known = told_now;
          history = ground.history;
          goes_on = (h.history.each id before there).begins;
          view = refl;
          found_is = stood.size;
        };
      }

pub length_permitted : {N : Type 0} (fits : Shape → Entry N → Type 0) (shape : Shape)
    (object : Place) (before : View N) → IsBlock shape object → MayRead before object
    → Permits fits shape (Length object) (λ found. found) before (Measures object before)
length_permitted fits shape object before block may = record {
  goes = λ words views id now word_fits. load_goes fits shape words (Length object) views id before
      (Measures object before (words (Length object)))
      (length_goes fits shape object block before may words views id now);
}
