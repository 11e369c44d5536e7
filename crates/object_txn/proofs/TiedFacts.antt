-- A transaction stays tied to its rank.
use Rattle.std.proofs.Common.{◌≡◌, ◌≢◌, ℕ, ◌≤◌, ◌^◌, Bool, cond, List, [], ◌∷◌, length, inl, inr, refl, sym, ap, ◌∙◌, subst, arith, Some, None}
use Rattle.rma_layout.specs.Shape.{Shape}
use Rattle.rma_layout.specs.Placement.{Place}
use Rattle.object_words.specs.Contents.{Contents, IsByRisingObject, content_of, with_words, words_at}
use Rattle.object_words.specs.Entries.{Entry}
use Rattle.object_words.proofs.Places.{in_order-with_words, words_at_here}
use Rattle.std.specs.Option.{unwrap_or}
use Rattle.window_rule.specs.View.{View, Marked, Known, Locks, Dirt, OwnBlock, GatePlace}
use Rattle.window_rule.specs.ContentsHold.{Lasts}
use Rattle.window_rule.specs.Known.{known_of, without_known}
use Rattle.window_rule.specs.Lengths.{measured, placed}
use Rattle.window_rule.specs.Locks.{hold_of}
use Rattle.window_rule.specs.Spares.{SpareEnds}
use Rattle.window_rule.specs.Partition.{times}
use Rattle.window_rule.proofs.LockLemmas.{place_cases, same_place-false}
use Rattle.window_rule.proofs.Readings.{reading-stays}
use Rattle.fabric.specs.Window.{WindowModel, RankModel}
use Rattle.block_pool.specs.Moves.{OnlyTaken}
use Rattle.object_moves.specs.Noted.{Chains}
use Rattle.object_store.specs.declared.phase.Phase.{Phase}
use Rattle.object_store.specs.declared.phase.Phase.TheVariants.{Idle, Writing}
use Rattle.object_txn.specs.declared.txn.Txn.{Txn}
use Rattle.object_txn.specs.Moves.{Locked}
use Rattle.object_txn.specs.Tied.{HasLocks, HasTaken, IsClosed, IsNone, IsTied, MayBeWritten, words_in}
use Rattle.object_txn.proofs.Maps.{words_at_other}

-- what the parts read of a view that no lock and no reading changes
pub record Rest : Type 0 where
  pub private : List OwnBlock
  pub dirty : List Dirt
  pub opened : List (Place × Bool)
  pub gate : GatePlace

abbrev pub rest_of : {N : Type 0} → View N → Rest
rest_of view = record { private = view.private; dirty = view.dirty; opened = view.stamps.opened; gate = view.gate }

module _ (before after : Rest) (same : after ≡ before) where
  pub taken_as_before : (shape : Shape) (was now : SpareEnds) (taken : List Place) → now ≡ was
      → HasTaken shape before.private was taken → HasTaken shape after.private now taken
  taken_as_before shape was now taken spares h =
      subst (λ (r : Rest). HasTaken shape r.private now taken) (sym same)
      (subst (λ (e : SpareEnds). HasTaken shape before.private e taken) (sym spares) h)

pub closed_as_before : {N : Type 0} (before after : View N) (phase : Phase) → rest_of after ≡ rest_of before
    → IsClosed before phase → IsClosed after phase
closed_as_before before after phase same h = record {
  clean = ap (λ (r : Rest). r.dirty) same ∙ h.clean;
  closed = ap (λ (r : Rest). r.opened) same ∙ h.closed;
  gate = ap (λ (r : Rest). r.gate) same ∙ h.gate;
}

module _ {N : Type 0} (window : WindowModel) (before after : RankModel N) where
  -- an object was locked, or was tried to
  pub tied_locked : (txn : Txn) (held : Locks) (object : Place) → after.window ≡ before.window → after.spares ≡ before.spares
      → HasLocks window.shape after.view.locks held → Locked object before.view after.view txn.held held → txn.phase ≢ Idle
      → IsTied window before txn → IsTied window after (record txn { held = held })
  tied_locked txn held object same spares locks locked begun tied = record {
    together = same ∙ tied.together;
    locks = locks;
    reads = record {
      known_is = λ other words e. ap words_in (locked.known other (elim (place_cases other object) [
        | inl here ↦ inr (λ none. cc (sym (tied.reads.locked other (ap (hold_of txn.held) here ∙ none)) ∙ e))
        | inr differ ↦ inl differ
      ])) ∙ tied.reads.known_is other words e;
      locked = λ other none. elim (place_cases other object) [
        | inr differ ↦ tied.reads.locked other (sym (locked.others other differ) ∙ none)
        | inl here ↦ elim locked.here [
          | inl as_before ↦ tied.reads.locked other (ap (hold_of txn.held) here ∙ (sym as_before ∙ (ap (hold_of held) (sym here) ∙ none)))
          | inr (inl was_none) ↦ tied.reads.locked other (ap (hold_of txn.held) here ∙ was_none)
          | inr (inr marked) ↦ absurd (cc (sym marked ∙ (ap (hold_of held) (sym here) ∙ none)))
        ]
      ];
      in_order = tied.reads.in_order;
    };
    writes = record {
      marked = λ other words e. elim (place_cases other object) [
        | inr differ ↦ locked.others other differ ∙ tied.writes.marked other words e
        | inl here ↦ elim locked.here [
          | inl as_before ↦ ap (hold_of held) here ∙ (as_before ∙ (ap (hold_of txn.held) (sym here) ∙ tied.writes.marked other words e))
          | inr (inl was_none) ↦ absurd (cc (sym was_none ∙ (ap (hold_of txn.held) (sym here) ∙ tied.writes.marked other words e)))
          | inr (inr marked) ↦ ap (hold_of held) here ∙ marked
        ]
      ];
      may = tied.writes.may;
      few_words = tied.writes.few_words;
      in_order = tied.writes.in_order;
    };
    taken = taken_as_before (rest_of before.view) (rest_of after.view) (ap rest_of locked.view) window.shape before.spares after.spares txn.taken.items spares tied.taken;
    closed = closed_as_before before.view after.view txn.phase (ap rest_of locked.view) tied.closed;
    phase = record { reads = tied.phase.reads; writes = tied.phase.writes; taken = tied.phase.taken; held = λ idle. absurd (begun idle) };
  }

  -- an object was loaded that wasn't read
  pub tied_loaded : (txn : Txn) (object : Place) (known : Known) (history : List (Entry N)) → after.window ≡ before.window → after.spares ≡ before.spares
      → after.view ≡ measured object known history before.view → words_at txn.reads object ≡ None
      → IsTied window before txn → IsTied window after txn
  tied_loaded txn object known history same spares view unread tied =
      let rest : rest_of after.view ≡ rest_of before.view = ap rest_of view in record {
        together = same ∙ tied.together;
        locks = record { same = λ other. ap (λ (v : View N). hold_of v.locks other) view ∙ tied.locks.same other; blocks = tied.locks.blocks };
        reads = record {
          known_is = λ other words e. ap words_in (ap (λ (v : View N). known_of v.known other) view
              ∙ known_other other (λ here. cc (sym unread ∙ (ap (words_at txn.reads) (sym here) ∙ e)))) ∙ tied.reads.known_is other words e;
          locked = tied.reads.locked;
          in_order = tied.reads.in_order;
        };
        writes = tied.writes;
        taken = taken_as_before (rest_of before.view) (rest_of after.view) rest window.shape before.spares after.spares txn.taken.items spares tied.taken;
        closed = closed_as_before before.view after.view txn.phase rest tied.closed;
        phase = tied.phase;
      }
    where
      known_other : (other : Place) → other ≢ object → known_of ((object, known) ∷ without_known before.view.known object) other ≡ known_of before.view.known other
      known_other other ne =
          ap (λ b. cond b (Some known) (known_of (without_known before.view.known object) other)) (same_place-false object other (λ e. ne (sym e)))
          ∙ reading-stays before.view.known object other ne

  -- more of the history was seen
  pub tied_placed : (txn : Txn) (history : List (Entry N)) → after.window ≡ before.window → after.spares ≡ before.spares
      → after.view ≡ placed history before.view → IsTied window before txn → IsTied window after txn
  tied_placed txn history same spares view tied =
      let rest : rest_of after.view ≡ rest_of before.view = ap rest_of view in record {
        together = same ∙ tied.together;
        locks = record { same = λ other. ap (λ (v : View N). hold_of v.locks other) view ∙ tied.locks.same other; blocks = tied.locks.blocks };
        reads = record {
          known_is = λ other words e. ap (λ (v : View N). words_in (known_of v.known other)) view ∙ tied.reads.known_is other words e;
          locked = tied.reads.locked;
          in_order = tied.reads.in_order;
        };
        writes = tied.writes;
        taken = taken_as_before (rest_of before.view) (rest_of after.view) rest window.shape before.spares after.spares txn.taken.items spares tied.taken;
        closed = closed_as_before before.view after.view txn.phase rest tied.closed;
        phase = tied.phase;
      }

  -- nothing was changed that the transaction knows of
  pub tied_same : (txn : Txn) → after.window ≡ before.window → after.spares ≡ before.spares → after.view ≡ before.view
      → IsTied window before txn → IsTied window after txn
  tied_same txn same spares view tied = record {
    together = same ∙ tied.together;
    locks = record { same = λ other. ap (λ (v : View N). hold_of v.locks other) view ∙ tied.locks.same other; blocks = tied.locks.blocks };
    reads = record {
      known_is = λ other words e. ap (λ (v : View N). words_in (known_of v.known other)) view ∙ tied.reads.known_is other words e;
      locked = tied.reads.locked;
      in_order = tied.reads.in_order;
    };
    writes = tied.writes;
    taken = taken_as_before (rest_of before.view) (rest_of after.view) (ap rest_of view) window.shape before.spares after.spares txn.taken.items spares tied.taken;
    closed = closed_as_before before.view after.view txn.phase (ap rest_of view) tied.closed;
    phase = tied.phase;
  }

-- a rank without a transaction is tied to none
pub tied_none : {N : Type 0} (window : WindowModel) (rank : RankModel N) (txn : Txn) → rank.window ≡ window
    → ((object : Place) → hold_of rank.view.locks object ≡ None) → IsClosed rank.view Idle → IsNone txn → IsTied window rank txn
tied_none window rank txn together free closed none = record {
  together = together;
  locks = record {
    same = λ object. free object ∙ sym (not_held object);
    blocks = λ object hold e. absurd (cc (sym (not_held object) ∙ e));
  };
  reads = record {
    known_is = λ object words e. absurd (cc (sym (unread object) ∙ e));
    locked = λ object _. unread object;
    in_order = subst IsByRisingObject (sym none.reads) refl;
  };
  writes = record {
    marked = λ object words e. absurd (cc (sym (unwritten object) ∙ e));
    may = λ object words e. absurd (cc (sym (unwritten object) ∙ e));
    few_words = λ object words e. absurd (cc (sym (unwritten object) ∙ e));
    in_order = subst IsByRisingObject (sym none.writes) refl;
  };
  taken = record {
    own = λ block h. absurd (omega (arith, h, nowhere block));
    no_spare = λ block h. absurd (omega (arith, h, nowhere block));
    blocks = λ block h. absurd (omega (arith, h, nowhere block));
    once = λ block. omega (arith, nowhere block);
  };
  closed = subst (IsClosed rank.view) (sym none.phase) closed;
  phase = record { reads = λ _. none.reads; writes = λ _. none.writes; taken = λ _. none.taken; held = λ _. none.held };
}
  where
    not_held : (object : Place) → hold_of txn.held object ≡ None
    not_held object = ap (λ (h : Locks). hold_of h object) none.held

    unread : (object : Place) → words_at txn.reads object ≡ None
    unread object = ap (λ (c : Contents). words_at c object) none.reads

    unwritten : (object : Place) → words_at txn.writes object ≡ None
    unwritten object = ap (λ (c : Contents). words_at c object) none.writes

    nowhere : (block : Place) → times block txn.taken.items ≡ 0
    nowhere block = ap (times block) none.taken

-- chains are noted beside
pub tied_beside : {N : Type 0} (window : WindowModel) (rank : RankModel N) (txn : Txn) (chains : Chains) → IsTied window rank txn
    → IsTied window rank (record txn { chains = chains })
tied_beside window rank txn chains tied = record {
  together = tied.together;
  locks = tied.locks;
  reads = tied.reads;
  writes = tied.writes;
  taken = tied.taken;
  closed = tied.closed;
  phase = record { reads = tied.phase.reads; writes = tied.phase.writes; taken = tied.phase.taken; held = tied.phase.held };
}

some_words : (one other : List ℕ) → Some one ≡ Some other → one ≡ other
some_words one other e = cc e

-- what was read of a locked object is noted
pub tied_noted : {N : Type 0} (window : WindowModel) (rank : RankModel N) (txn : Txn) (reads : Contents) (object : Place) (words : List ℕ)
    → reads ≡ with_words txn.reads object words → words_in (known_of rank.view.known object) ≡ Some words → Lasts (hold_of rank.view.locks object)
    → txn.phase ≢ Idle → words_at txn.writes object ≡ None → IsTied window rank txn → IsTied window rank (record txn { reads = reads })
tied_noted {N} window rank txn reads object words is known lasts begun unwritten tied =
    subst (λ (r : Contents). IsTied window rank (record txn { reads = r })) (sym is) (record {
      together = tied.together;
      locks = tied.locks;
      reads = record {
        known_is = λ other was e. elim (place_cases other object) [
          | inl here ↦ ap (λ (p : Place). words_in (known_of rank.view.known p)) here ∙ (known ∙ (sym (words_at_here txn.reads object words)
              ∙ (ap (words_at (with_words txn.reads object words)) (sym here) ∙ e)))
          | inr differ ↦ tied.reads.known_is other was (sym (words_at_other txn.reads object words other differ) ∙ e)
        ];
        locked = λ other none. elim (place_cases other object) [
          | inl here ↦ absurd (subst Lasts (tied.locks.same object ∙ (ap (hold_of txn.held) (sym here) ∙ none)) lasts)
          | inr differ ↦ words_at_other txn.reads object words other differ ∙ tied.reads.locked other none
        ];
        in_order = in_order-with_words txn.reads object words tied.reads.in_order;
      };
      writes = record {
        marked = tied.writes.marked;
        may = λ other was e unreserved none. may_still other (λ here. cc (sym unwritten ∙ (ap (words_at txn.writes) (sym here) ∙ e))) (tied.writes.may other was e unreserved none);
        few_words = tied.writes.few_words;
        in_order = tied.writes.in_order;
      };
      taken = tied.taken;
      closed = tied.closed;
      phase = record { reads = λ idle. absurd (begun idle); writes = tied.phase.writes; taken = tied.phase.taken; held = tied.phase.held };
    })
  where
    may_still : (other : Place) → other ≢ object → content_of txn.reads other ≢ [] → content_of (with_words txn.reads object words) other ≢ []
    may_still other ne some e = some (sym (ap (λ o. unwrap_or o []) (words_at_other txn.reads object words other ne)) ∙ e)

-- what is written to a marked object is noted
pub tied_written : {N : Type 0} (window : WindowModel) (rank : RankModel N) (txn : Txn) (writes : Contents) (object : Place) (words : List ℕ)
    → writes ≡ with_words txn.writes object words → hold_of txn.held object ≡ Some Marked
    → MayBeWritten window.shape txn.reads txn.taken.items object → length words ≤ 2 ^ 20 → txn.phase ≢ Idle
    → IsTied window rank txn → IsTied window rank (record txn { writes = writes })
tied_written {N} window rank txn writes object words is marked may few begun tied =
    subst (λ (w : Contents). IsTied window rank (record txn { writes = w })) (sym is) (record {
      together = tied.together;
      locks = tied.locks;
      reads = tied.reads;
      writes = record {
        marked = λ other was e. elim (place_cases other object) [
          | inl here ↦ ap (hold_of txn.held) here ∙ marked
          | inr differ ↦ tied.writes.marked other was (sym (words_at_other txn.writes object words other differ) ∙ e)
        ];
        may = λ other was e. elim (place_cases other object) [
          | inl here ↦ subst (MayBeWritten window.shape txn.reads txn.taken.items) (sym here) may
          | inr differ ↦ tied.writes.may other was (sym (words_at_other txn.writes object words other differ) ∙ e)
        ];
        few_words = λ other was e. elim (place_cases other object) [
          | inl here ↦ subst (λ (w : List ℕ). length w ≤ 2 ^ 20) (some_words words was (sym (words_at_here txn.writes object words)
              ∙ (ap (words_at (with_words txn.writes object words)) (sym here) ∙ e))) few
          | inr differ ↦ tied.writes.few_words other was (sym (words_at_other txn.writes object words other differ) ∙ e)
        ];
        in_order = in_order-with_words txn.writes object words tied.writes.in_order;
      };
      taken = tied.taken;
      closed = tied.closed;
      phase = record { reads = tied.phase.reads; writes = λ idle. absurd (begun idle); taken = tied.phase.taken; held = tied.phase.held };
    })

-- more blocks were taken
pub tied_taken : {N : Type 0} (window : WindowModel) (before after : RankModel N) (txn new : Txn) → after.window ≡ before.window
    → OnlyTaken before.view after.view → HasTaken window.shape after.view.private after.spares new.taken.items
    → ((block : Place) → times block txn.taken.items ≤ times block new.taken.items) → txn.phase ≡ Writing
    → new ≡ record txn { taken = new.taken } → IsTied window before txn → IsTied window after new
tied_taken {N} window before after txn new same only taken more writing is tied =
    subst (IsTied window after) (sym is) (record {
      together = same ∙ tied.together;
      locks = record { same = λ other. ap (λ (v : View N). hold_of v.locks other) only ∙ tied.locks.same other; blocks = tied.locks.blocks };
      reads = record {
        known_is = λ other words e. ap (λ (v : View N). words_in (known_of v.known other)) only ∙ tied.reads.known_is other words e;
        locked = tied.reads.locked;
        in_order = tied.reads.in_order;
      };
      writes = record {
        marked = tied.writes.marked;
        may = λ other was e unreserved none. tied.writes.may other was e unreserved (omega (arith, more other, none));
        few_words = tied.writes.few_words;
        in_order = tied.writes.in_order;
      };
      taken = taken;
      closed = record {
        clean = ap (λ (v : View N). v.dirty) only ∙ tied.closed.clean;
        closed = ap (λ (v : View N). v.stamps.opened) only ∙ tied.closed.closed;
        gate = ap (λ (v : View N). v.gate) only ∙ tied.closed.gate;
      };
      phase = record { reads = tied.phase.reads; writes = tied.phase.writes; taken = λ quiet. absurd (quiet writing); held = tied.phase.held };
    })
