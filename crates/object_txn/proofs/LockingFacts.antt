-- What a lock that was tried for leaves.
use Rattle.std.proofs.Common.{◌≡◌, ◌≢◌, ℕ, cond, List, [], ◌∷◌, ◌++◌, ◌⊎◌, inl, inr, refl, sym, ap, ◌∙◌, subst, arith, Some, None}
use Rattle.rma_layout.specs.Shape.{Shape}
use Rattle.rma_layout.specs.Placement.{Place, IsBlock, same_place}
use Rattle.lock_words.specs.declared.want.Want.{Want}
use Rattle.lock_words.specs.Conflicts.{Conflicts}
use Rattle.window_rule.specs.View.{View, Hold, Known, Locks, Refusal, Target}
use Rattle.window_rule.specs.Known.{known_of, without_known}
use Rattle.window_rule.specs.Locks.{hold_of, with_lock, without_lock}
use Rattle.window_rule.specs.RightsHold.{IsAlone}
use Rattle.window_rule.specs.Steps.{refused}
use Rattle.window_rule.proofs.LockLemmas.{hold_of-with_same, hold_of-with_other, place_cases, same_place-refl, same_place-false, without_lock-with_lock}
use Rattle.window_rule.proofs.Readings.{reading-stays}
use Rattle.object_txn.specs.Causes.{WasRefused}
use Rattle.object_txn.specs.Moves.{HeldAsBefore, Locked}
use Rattle.object_txn.specs.Tied.{HasLocks}

module _ (object : Place) (hold : Hold) (old new : Locks)
    (put : (other : Place) → hold_of new other ≡ cond (same_place object other) (Some hold) (hold_of old other)) where
  pub put_here : hold_of new object ≡ Some hold
  put_here = put object ∙ ap (λ b. cond b (Some hold) (hold_of old object)) (same_place-refl object)

  pub put_other : (other : Place) → other ≢ object → hold_of new other ≡ hold_of old other
  put_other other ne = put other ∙ ap (λ b. cond b (Some hold) (hold_of old other)) (same_place-false object other (λ e. ne (sym e)))

  -- the lock that was had is noted
  pub locks_put : (shape : Shape) (before after : Locks) → IsBlock shape object → after ≡ with_lock before object hold
      → HasLocks shape before old → HasLocks shape after new
  locks_put shape before after block is was = record {
    same = λ other. ap (λ (l : Locks). hold_of l other) is ∙ elim (place_cases other object) [
      | inl here ↦ ap (hold_of (with_lock before object hold)) here ∙ (hold_of-with_same before object hold ∙ (sym put_here ∙ ap (hold_of new) (sym here)))
      | inr differ ↦ hold_of-with_other before object other hold differ ∙ (was.same other ∙ sym (put_other other differ))
    ];
    blocks = λ other one e. elim (place_cases other object) [
      | inl here ↦ subst (IsBlock shape) (sym here) block
      | inr differ ↦ was.blocks other one (sym (put_other other differ) ∙ e)
    ];
  }

-- the locks are as they were
pub locks_same : (shape : Shape) (before after held : Locks) → after ≡ before → HasLocks shape before held → HasLocks shape after held
locks_same shape before after held is was = subst (λ (l : Locks). HasLocks shape l held) (sym is) was

-- a lock that was had is left again
pub locks_back : (shape : Shape) (before after held : Locks) (object : Place) (hold : Hold) → hold_of held object ≡ None
    → after ≡ without_lock (with_lock before object hold) object → HasLocks shape before held → HasLocks shape after held
locks_back shape before after held object hold absent is was =
    locks_same shape before after held (is ∙ without_lock-with_lock before object hold (was.same object ∙ absent)) was

module _ {N : Type 0} where
  abbrev changed : View N → View N → View N
  changed before v = record before { locks = v.locks; known = v.known; refusals = v.refusals; takes = v.takes }

  changed_by : (before after new : View N) → after ≡ new → new ≡ changed before new → after ≡ changed before after
  changed_by before after new is only = is ∙ (only ∙ ap (changed before) (sym is))

  -- nothing that is known was forgotten
  pub locked_keeping : (object : Place) (before after new : View N) (old held : Locks) → after ≡ new → new ≡ changed before new
      → new.known ≡ before.known → ((other : Place) → other ≢ object → hold_of held other ≡ hold_of old other)
      → HeldAsBefore old held object → Locked object before after old held
  locked_keeping object before after new old held is only known others here = record {
    view = changed_by before after new is only;
    known = λ other _. ap (λ (v : View N). known_of v.known other) is ∙ ap (λ (k : List (Place × Known)). known_of k other) known;
    others = others;
    here = here;
  }

  -- what was known of an object that wasn't held is forgotten
  pub locked_back : (object : Place) (before after new : View N) (old held : Locks) → after ≡ new → new ≡ changed before new
      → new.known ≡ without_known before.known object → hold_of old object ≡ None → held ≡ old → Locked object before after old held
  locked_back object before after new old held is only known absent same = record {
    view = changed_by before after new is only;
    known = λ other which. ap (λ (v : View N). known_of v.known other) is
        ∙ (ap (λ (k : List (Place × Known)). known_of k other) known ∙ reading-stays before.known object other (differs other which));
    others = λ other _. ap (λ (l : Locks). hold_of l other) same;
    here = inr (inl absent);
  }
    where
      differs : (other : Place) → (other ≢ object) ⊎ (hold_of old object ≢ None) → other ≢ object
      differs other (inl ne) = ne
      differs other (inr some) = absurd (some absent)

  -- a refused step is a cause
  pub was_refused : (shape : Shape) (target : Target) (want : Want) (word : ℕ) (before after tried_view : View N)
      → after ≡ refused target want word tried_view → tried_view.refusals ≡ before.refusals → Conflicts want word → ¬ IsAlone shape before
      → WasRefused shape target want word before after
  was_refused shape target want word before after tried_view is same conflicts not_alone = record {
    gained = record {
      more = record { target = target; want = want; word = word } ∷ [];
      is = ap (λ (l : List Refusal). l ++ record { target = target; want = want; word = word } ∷ []) (sym same)
          ∙ ap (λ (v : View N). v.refusals) (sym is);
    };
    this = (0, omega arith, refl);
    conflicts = conflicts;
    not_alone = not_alone;
  }
