-- Each step on the gate keeps the invariant, and answers as it says.
use Rattle.std.proofs.Common.{◌≡◌, ◌≢◌, ℕ, ◌+◌, ◌-◌, ◌/◌, ◌%◌, ◌^◌, ◌≤◌, ◌⊎◌, inl, inr, true, cond, List, [], ◌∷◌, map, set, refl, sym, ap, ◌∙◌, subst, arith, Option, Some, None}
use Rattle.std.specs.List.{sum_by}
use Rattle.std.proofs.lemmas.Bool.{cases_eq, cases_Bool, false≢true}
use Rattle.object_words.specs.Contents.{content_of}
use Rattle.object_words.specs.Entries.{Entry, store_after}
use Rattle.rma_layout.specs.declared.word.Word.TheVariants.{Gate, Commit}
use Rattle.rma_layout.specs.Shape.{Shape}
use Rattle.rma_layout.specs.Placement.{Place, same_place}
use Rattle.lock_words.specs.declared.want.Want.{Want}
use Rattle.lock_words.specs.declared.want.Want.TheVariants.{Writer, Whole}
use Rattle.window_rule.specs.View.{View, Known, Dirt, Hold, Shared, Marked, Returning, Locks, GatePlace, Outside, AsWriter, AsWhole, WriterReturning, WholeReturning, OfGate}
use Rattle.window_rule.specs.Words.{Words, with_word, locks_in, data_in, nexts_in, heads_in, stamps_in}
use Rattle.window_rule.specs.Locks.{hold_of}
use Rattle.window_rule.specs.Dirty.{dirt_of}
use Rattle.window_rule.specs.Known.{known_of}
use Rattle.window_rule.specs.RightsHold.{stake_of, IsAlone}
use Rattle.window_rule.specs.LocksHold.{LocksHold}
use Rattle.window_rule.specs.GateHolds.{GateHolds, writers_of, wholes_of, lasting_writers_of, lasting_wholes_of}
use Rattle.window_rule.specs.HistoryHolds.{chronicle_of, past_of}
use Rattle.window_rule.specs.Objects.{Objects}
use Rattle.window_rule.specs.ContentsHold.{AreHeld, Lasts, holdings_of, stash_of}
use Rattle.window_rule.specs.MemoryHolds.{Remembers, memory_of}
use Rattle.window_rule.specs.RoomHolds.{stock_of}
use Rattle.window_rule.specs.NotesHold.{notebook_of}
use Rattle.window_rule.specs.StampsHold.{IsOpenState, open_state_of}
use Rattle.window_rule.specs.Steps.{refused}
use Rattle.window_rule.specs.Gate.{is_lasting, under_locks, entered, outside, EntersAsWriter, EntersAsWhole, LeavesGate, LeavesWhole}
use Rattle.window_rule.specs.Lawful.{IsLawful, locks_of}
use Rattle.window_rule.specs.Permits.{Moment, Permits}
use Rattle.window_rule.proofs.Sums.{map-set_same}
use Rattle.window_rule.proofs.SpentKept.{SpentHold-live}
use Rattle.window_rule.proofs.LockLemmas.{place_cases, same_place-refl, same_place-false}
use Rattle.window_rule.proofs.ViewsKept.{EachView-set}
use Rattle.window_rule.proofs.Frames.{RightsHold-same, HistoryHolds-same, IsPartition-same, DirtHolds-same, OwnBlocksHold-same, CellsHold-same, RoomHolds-same, NotesHold-same, StampsHold-opened}
use Rattle.window_rule.proofs.GateKept.{GateRecounts, GateHolds-at, gate_of, lasting_writers-le, lasting_wholes-le, places-le-ranks, alone_places}

-- what the steps on the gate leave of a view: they change its place, what it knows, and what was
-- refused
abbrev beside_gate : {N : Type 0} → View N → View N
beside_gate view = record view { gate = Outside; known = []; refusals = [] }

-- what a step on the gate has to keep
record IsGateStep {N : Type 0} (all : List GatePlace) (before after : View N)
    (word : ℕ) : Type 0 where
  beside : beside_gate after ≡ beside_gate before
  counts : GateRecounts all word before.gate after.gate
  -- nothing new is known, and what is known lasts
  known : (object : Place) (one : Known) → known_of after.known object ≡ Some one
      → known_of before.known object ≡ Some one
  lasts : (object : Place) (one : Known) → known_of after.known object ≡ Some one
      → before.gate ≡ AsWhole
      → Lasts (hold_of before.locks object) ⊎ (after.gate ≡ AsWhole)
  -- a view with dirt keeps its place
  writing : (object : Place) (dirt : Dirt) → dirt_of before.dirty object ≡ Some dirt
      → before.gate ≡ AsWriter → after.gate ≡ AsWriter

held_after : {N : Type 0} (all : List GatePlace) (before after : View N) (word : ℕ)
    (objects : Objects) → IsGateStep all before after word
    → AreHeld objects (holdings_of before) → AreHeld objects (holdings_of after)
held_after all before after word objects step h = record {
  read = λ object one is.
      let was = h.read object one (step.known object one is) in
      let locks : before.locks ≡ after.locks = sym (ap (λ v. v.locks) step.beside) in
      let kept : Lasts (hold_of before.locks object)
      → Lasts (hold_of after.locks object) = subst (λ l. Lasts (hold_of l object)) locks in (
        was.0,
        ap (λ v. dirt_of v.dirty object) step.beside ∙ was.1,
        elim was.2 [
          | inl lasts ↦ inl (kept lasts)
          | inr whole ↦ elim (step.lasts object one is whole) [
            | inl lasts ↦ inl (kept lasts)
            | inr still ↦ inr still
          ]
        ],
      );
  marked = λ object dirt is.
      let was : dirt_of before.dirty object ≡ Some dirt = sym
      (ap (λ v. dirt_of v.dirty object) step.beside) ∙ is in
      let both = h.marked object dirt was in
      (ap (λ v. hold_of v.locks object) step.beside ∙ both.0, step.writing object dirt was both.1);
}

lasting_tells : (hold : Option Hold) → is_lasting hold ≡ true → Lasts hold
lasting_tells None e = absurd (false≢true e)
lasting_tells (Some Shared) e = tt
lasting_tells (Some Marked) e = tt
lasting_tells (Some Returning) e = absurd (false≢true e)

lasting_is : (hold : Option Hold) → Lasts hold → is_lasting hold ≡ true
lasting_is None e = absurd e
lasting_is (Some Shared) e = refl
lasting_is (Some Marked) e = refl
lasting_is (Some Returning) e = absurd e

-- what is known under locks was known, and is of an object that is locked
under_locks-tells : (locks : Locks) (known : List (Place × Known)) (object : Place) (one : Known)
    → known_of (under_locks locks known) object ≡ Some one
    → (known_of known object ≡ Some one) × Lasts (hold_of locks object)
under_locks-tells locks [] object one is = absurd (cc is)
under_locks-tells locks (first ∷ more) object one is =
    let Goal : Type 0 =
    (cond (same_place first.0 object) (Some first.1) (known_of more object) ≡ Some one)
    × Lasts (hold_of locks object) in
    elim (cases_Bool (is_lasting (hold_of locks first.0))) [
      | inl lasting ↦
          let found : cond (same_place first.0 object) (Some first.1)
          (known_of (under_locks locks more) object) ≡ Some one =
          sym (ap (λ t. known_of
          (cond t (first ∷ under_locks locks more) (under_locks locks more)) object)
          lasting) ∙ is in
          elim (place_cases first.0 object) [
            | inl same ↦
                let here : same_place first.0 object ≡ true = ap (λ p. same_place p object) same
                ∙ same_place-refl object in (
                  ap (λ t. cond t (Some first.1) (known_of more object)) here
                      ∙ (sym (ap (λ t. cond t (Some first.1)
                      (known_of (under_locks locks more) object)) here) ∙ found),
                  subst (λ p. Lasts (hold_of locks p)) same
                      (lasting_tells (hold_of locks first.0) lasting),
                )
            | inr ne ↦
                let rest = under_locks-tells locks more object one
                (sym (ap (λ t. cond t (Some first.1) (known_of (under_locks locks more) object))
                (same_place-false first.0 object ne)) ∙ found) in (
                  ap (λ t. cond t (Some first.1) (known_of more object))
                      (same_place-false first.0 object ne) ∙ rest.0,
                  rest.1,
                )
          ]
      | inr passing ↦
          let rest = under_locks-tells locks more object one
          (sym (ap (λ t. known_of
          (cond t (first ∷ under_locks locks more) (under_locks locks more)) object) passing)
          ∙ is) in
          let ne : first.0 ≢ object = λ same.
          false≢true (sym passing
          ∙ lasting_is (hold_of locks first.0)
          (subst (λ p. Lasts (hold_of locks p)) (sym same) rest.1)) in (
            ap (λ t. cond t (Some first.1) (known_of more object))
                (same_place-false first.0 object ne) ∙ rest.0,
            rest.1,
          )
    ]

module _ {N : Type 0} (fits : Shape → Entry N → Type 0) (shape : Shape) (words : Words)
    (views : List (View N)) (id : ℕ) (before : View N)
    (now : Moment fits shape words views id before) where
  -- a step on the gate
  gate_step_keeps : (after : View N) (new : ℕ) → IsGateStep (map gate_of views) before after new
      → IsLawful fits shape (with_word words Gate new) (set views id after)
  gate_step_keeps after new step =
      let h = now.lawful.holds in
      let ground = now.lawful.ground in
      let there = now.there in
      let same = step.beside in record {
        ground = ground;
        holds = record {
          rights = RightsHold-same shape views id before after there (words Commit)
              (ap stake_of same) h.rights;
          spent = SpentHold-live views id after
              (λ none. now.live (sym (ap (λ v. v.rights) same) ∙ none)) h.spent;
          locks = subst (LocksHold shape (locks_in words))
              (sym (map-set_same locks_of views id before after there (ap (λ v. v.locks) same)))
              h.locks;
          gate = GateHolds-at new views id before after there step.counts;
          history = HistoryHolds-same shape views id before after there fits
              (words Commit) ground.history (ap chronicle_of same) (ap past_of same) h.history;
          objects = h.objects;
          lie = h.lie;
          free = h.free;
          blocks = IsPartition-same shape views id before after there ground.free ground.objects
              ground.owner (ap (λ v. v.private) same) h.blocks;
          contents = h.contents;
          dirt = DirtHolds-same shape views id before after there
              (store_after ground.history) ground.objects (ap (λ v. v.dirty) same) h.dirt;
          holdings = EachView-set (holdings_of {N = N}) views id before after there
              (λ _. AreHeld ground.objects) (λ _. AreHeld ground.objects)
              (held_after (map gate_of views) before after new ground.objects step
              (h.holdings id before there)) (λ j view ne at was. was) h.holdings;
          memory = EachView-set (memory_of {N = N}) views id before after there
              (λ _. Remembers shape) (λ _. Remembers shape)
              (λ object one is.
              let was = h.memory id before there object one (step.known object one is) in
              (was.0, ap (λ v. content_of (store_after v.seen) object) same ∙ was.1))
              (λ j view ne at was. was) h.memory;
          own = OwnBlocksHold-same shape views id before after there (nexts_in words)
              (ap (λ v. v.private) same) h.own;
          cells = CellsHold-same shape views id before after there (data_in words)
              (ap stash_of same) h.cells;
          room = RoomHolds-same shape views id before after there (ap stock_of same) h.room;
          notes = NotesHold-same shape views id before after there (heads_in words) ground.free
              (ap notebook_of same) h.notes;
          stamps = StampsHold-opened shape views id before after there (stamps_in words)
              (words Commit) ground.opener (ap (λ v. v.stamps.opened) same)
              (subst IsOpenState (sym (ap open_state_of same))) h.stamps;
        };
      }

  -- the counts of the gate, and the view's part in them
  record Found : Type 0 where
    counted : GateHolds (words Gate) (map gate_of views)
    few : sum_by writers_of (map gate_of views) + sum_by wholes_of (map gate_of views) ≤ 64
    writers : sum_by lasting_writers_of (map gate_of views) ≤ sum_by writers_of (map gate_of views)
    wholes : sum_by lasting_wholes_of (map gate_of views) ≤ sum_by wholes_of (map gate_of views)
    alone_writers : IsAlone shape before
        → sum_by writers_of (map gate_of views) ≡ writers_of before.gate
    alone_wholes : IsAlone shape before
        → sum_by wholes_of (map gate_of views) ≡ wholes_of before.gate

  found_now : Found
  found_now = record {
    counted = now.lawful.holds.gate;
    few = omega (arith, places-le-ranks fits shape words views now.lawful, now.in_range.ranks);
    writers = lasting_writers-le (map gate_of views);
    wholes = lasting_wholes-le (map gate_of views);
    alone_writers = λ alone.
        alone_places fits shape words views now.lawful id before writers_of now.there alone refl;
    alone_wholes = λ alone.
        alone_places fits shape words views now.lawful id before wholes_of now.there alone refl;
  }

  -- a view that is not in the gate comes to have a place there
  enters : (after : View N) (new : ℕ) → beside_gate after ≡ beside_gate before
      → after.known ≡ before.known → before.gate ≡ Outside
      → GateRecounts (map gate_of views) new Outside after.gate
      → IsLawful fits shape (with_word words Gate new) (set views id after)
  enters after new beside known none recount = gate_step_keeps after new (record {
    beside = beside;
    counts = subst (λ place. GateRecounts (map gate_of views) new place after.gate)
        (sym none) recount;
    known = λ object one is. sym (ap (λ k. known_of k object) known) ∙ is;
    lasts = λ object one is whole. absurd (let e : Outside ≡ AsWhole = sym none ∙ whole in cc e);
    writing = λ object dirt is writer. absurd
        (let e : Outside ≡ AsWriter = sym none ∙ writer in cc e);
  })

module _ {N : Type 0} (fits : Shape → Entry N → Type 0) (shape : Shape) (before : View N) where
  pub writer_permitted : before.gate ≡ Outside
      → Permits fits shape Gate (λ word. (word + 1) % 2 ^ 64) before (EntersAsWriter shape before)
  writer_permitted none = record {
    goes = λ words views id now small.
        let facts = found_now fits shape words views id before now in
        let counted = facts.counted in
        let word = words Gate in
        let no_whole : wholes_of before.gate ≡ 0 = ap wholes_of none in
        elim (cases_eq (word / 2 ^ 32) 0) [
          | inr conflict ↦
              let after = refused OfGate Writer word (entered WriterReturning before) in record {
                after = after;
                lawful = enters fits shape words views id before now after
                    ((word + 1) % 2 ^ 64) refl refl none (λ w W lw lW ew eW elw elW. record {
                      word_is = omega (arith, counted.word_is, facts.few);
                      apart = λ some. omega (arith, counted.apart);
                    });
                same_rights = refl;
                told = record {
                  took = λ free. absurd (free conflict);
                  failed = λ _. refl;
                  alone = λ alone _. conflict
                      (omega (arith, facts.alone_wholes alone, counted.word_is, facts.few));
                };
              }
          | inl free ↦
              let after = entered AsWriter before in record {
                after = after;
                lawful = enters fits shape words views id before now after
                    ((word + 1) % 2 ^ 64) refl refl none (λ w W lw lW ew eW elw elW. record {
                      word_is = omega (arith, counted.word_is, facts.few);
                      apart = λ some. absurd (omega (arith, facts.wholes, counted.word_is));
                    });
                same_rights = refl;
                told = record {
                  took = λ _. refl;
                  failed = λ conflict. absurd (conflict free);
                  alone = λ _ conflict. conflict free;
                };
              }
        ];
  }

  pub whole_permitted : before.gate ≡ Outside
      → Permits fits shape Gate (λ word. (word + 2 ^ 32) % 2 ^ 64) before
      (EntersAsWhole shape before)
  whole_permitted none = record {
    goes = λ words views id now small.
        let facts = found_now fits shape words views id before now in
        let counted = facts.counted in
        let word = words Gate in
        let no_writer : writers_of before.gate ≡ 0 = ap writers_of none in
        elim (cases_eq (word % 2 ^ 32) 0) [
          | inr conflict ↦
              let after = refused OfGate Whole word (entered WholeReturning before) in record {
                after = after;
                lawful = enters fits shape words views id before now after
                    ((word + 2 ^ 32) % 2 ^ 64) refl refl none (λ w W lw lW ew eW elw elW. record {
                      word_is = omega (arith, counted.word_is, facts.few);
                      apart = λ some. omega (arith, counted.apart);
                    });
                same_rights = refl;
                told = record {
                  took = λ free. absurd (free conflict);
                  failed = λ _. refl;
                  alone = λ alone _. conflict
                      (omega (arith, facts.alone_writers alone, counted.word_is, facts.few));
                };
              }
          | inl free ↦
              let after = entered AsWhole before in record {
                after = after;
                lawful = enters fits shape words views id before now after
                    ((word + 2 ^ 32) % 2 ^ 64) refl refl none (λ w W lw lW ew eW elw elW. record {
                      word_is = omega (arith, counted.word_is, facts.few);
                      apart = λ some. omega (arith, facts.writers, facts.few, counted.word_is);
                    });
                same_rights = refl;
                told = record {
                  took = λ _. refl;
                  failed = λ conflict. absurd (conflict free);
                  alone = λ _ conflict. conflict free;
                };
              }
        ];
  }

  -- a writer's place is taken from the word
  writer_taken : writers_of before.gate ≡ 1 → wholes_of before.gate ≡ 0
      → ((object : Place) (dirt : Dirt) → dirt_of before.dirty object ≡ Some dirt
      → before.gate ≢ AsWriter)
      → Permits fits shape Gate (λ word. (word + (2 ^ 64 - 1)) % 2 ^ 64) before
      (λ _ after. LeavesGate before after)
  writer_taken one none clean = record {
    goes = λ words views id now small.
        let facts = found_now fits shape words views id before now in
        let counted = facts.counted in
        let no_lasting = lasting_wholes-le (before.gate ∷ []) in record {
          after = entered Outside before;
          lawful = gate_step_keeps fits shape words views id before now (entered Outside before)
              ((words Gate + (2 ^ 64 - 1)) % 2 ^ 64) (record {
                beside = refl;
                counts = λ w W lw lW ew eW elw elW. record {
                  word_is = omega (arith, counted.word_is, facts.few);
                  apart = λ some. omega (arith, counted.apart);
                };
                known = λ object known is. is;
                lasts = λ object known is whole. absurd
                    (let w : wholes_of before.gate ≡ 1 = ap wholes_of whole in omega arith);
                writing = λ object dirt is writer. absurd (clean object dirt is writer);
              });
          same_rights = refl;
          told = refl;
        };
  }

  pub writer_leave_permitted : before.gate ≡ AsWriter → before.dirty ≡ []
      → Permits fits shape Gate (λ word. (word + (2 ^ 64 - 1)) % 2 ^ 64) before
      (λ _ after. LeavesGate before after)
  writer_leave_permitted writer clean =
      writer_taken (ap writers_of writer) (ap wholes_of writer)
      (λ object dirt is _. let none : None ≡ Some dirt = sym (ap (λ d. dirt_of d object) clean)
      ∙ is in cc none)

  pub writer_return_permitted : before.gate ≡ WriterReturning
      → Permits fits shape Gate (λ word. (word + (2 ^ 64 - 1)) % 2 ^ 64) before
      (λ _ after. LeavesGate before after)
  writer_return_permitted returning =
      writer_taken (ap writers_of returning) (ap wholes_of returning)
      (λ object dirt is writer. let e : WriterReturning ≡ AsWriter = sym returning ∙ writer in cc e)

  -- a whole place is taken from the word
  whole_taken : (after : View N) → beside_gate after ≡ beside_gate before
      → after.rights ≡ before.rights → after.gate ≡ Outside
      → wholes_of before.gate ≡ 1 → writers_of before.gate ≡ 0
      → ((object : Place) (one : Known) → known_of after.known object ≡ Some one
      → known_of before.known object ≡ Some one)
      → ((object : Place) (one : Known) → known_of after.known object ≡ Some one
      → before.gate ≡ AsWhole → Lasts (hold_of before.locks object))
      → (Told : View N → Type 0) → Told after
      → Permits fits shape Gate (λ word. (word + (2 ^ 64 - 2 ^ 32)) % 2 ^ 64) before (λ _. Told)
  whole_taken after beside rights left one none known lasts Told told = record {
    goes = λ words views id now small.
        let facts = found_now fits shape words views id before now in
        let counted = facts.counted in record {
          after = after;
          lawful = gate_step_keeps fits shape words views id before now after
              ((words Gate + (2 ^ 64 - 2 ^ 32)) % 2 ^ 64) (record {
                beside = beside;
                counts = subst (GateRecounts (map gate_of views)
                    ((words Gate + (2 ^ 64 - 2 ^ 32)) % 2 ^ 64) before.gate) (sym left)
                    (λ w W lw lW ew eW elw elW. record {
                      word_is = omega (arith, counted.word_is, facts.few);
                      apart = λ some. omega (arith, counted.apart);
                    });
                known = known;
                lasts = λ object known is whole. inl (lasts object known is whole);
                writing = λ object dirt is writer. absurd
                    (let w : writers_of before.gate ≡ 1 = ap writers_of writer in omega arith);
              });
          same_rights = rights;
          told = told;
        };
  }

  pub whole_leave_permitted : before.gate ≡ AsWhole
      → Permits fits shape Gate (λ word. (word + (2 ^ 64 - 2 ^ 32)) % 2 ^ 64) before
      (λ _ after. LeavesWhole before after)
  whole_leave_permitted whole =
      whole_taken (outside before) refl refl refl (ap wholes_of whole) (ap writers_of whole)
      (λ object one is. (under_locks-tells before.locks before.known object one is).0)
      (λ object one is _. (under_locks-tells before.locks before.known object one is).1)
      (LeavesWhole before) refl

  pub whole_return_permitted : before.gate ≡ WholeReturning
      → Permits fits shape Gate (λ word. (word + (2 ^ 64 - 2 ^ 32)) % 2 ^ 64) before
      (λ _ after. LeavesGate before after)
  whole_return_permitted returning =
      whole_taken (entered Outside before) refl refl refl (ap wholes_of returning)
      (ap writers_of returning)
      (λ object one is. is)
      (λ object one is whole. absurd
      (let e : WholeReturning ≡ AsWhole = sym returning ∙ whole in cc e))
      (LeavesGate before) refl

-- once a refused place is given up, the view is as before but for the refusal
pub refused_is_outside : {N : Type 0} (want : Want) (word : ℕ) (place : GatePlace) (view : View N)
    → view.gate ≡ Outside
    → entered Outside
    (refused OfGate want word (entered place view)) ≡ refused OfGate want word view
refused_is_outside {N} want word place view none =
    let after : View N = refused OfGate want word view in
    ap (λ (gate : GatePlace). record after { gate = gate }) (sym none)
