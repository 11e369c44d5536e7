-- What each step makes of the view of the rank that makes it.
use Rattle.std.specs.Prelude.{◌≡◌, ℕ, ◌+◌, [], ◌∷◌, ◌++◌}
use Rattle.atomic_table.specs.Table.{Me}
use Rattle.rma_layout.specs.declared.word.Word.{Word}
use Rattle.rma_layout.specs.declared.word.Word.TheVariants.{Lock, Length, FreeList, Stamp, Data, Head, Gate, Commit}
use Rattle.rma_layout.specs.Shape.{Shape}
use Rattle.rma_layout.specs.Placement.{Place}
use Rattle.lock_words.specs.declared.want.Want.{Want}
use Rattle.lock_words.specs.declared.want.Want.TheVariants.{Share, Mark, Rise}
use Rattle.lock_words.specs.Conflicts.{Conflicts}
use Rattle.window_rule.specs.View.{View, Hold, Shared, Marked, Returning, Target, OfObject}
use Rattle.window_rule.specs.Locks.{with_lock, without_lock}
use Rattle.window_rule.specs.RightsHold.{IsAlone}
use Rattle.window_rule.specs.Known.{without_known}

module _ {N : Type 0} where
  -- the object is locked so, and nothing else of the view has changed
  abbrev pub locked : Place → Hold → View N → View N
  locked object hold view = record view { locks = with_lock view.locks object hold }

  -- the object is not locked any more, and what was read of it is forgotten
  abbrev pub unlocked : Place → View N → View N
  unlocked object view =
      record view {
        locks = without_lock view.locks object;
        known = without_known view.known object;
      }

  -- a share that was refused is taken back
  abbrev pub returned : Place → View N → View N
  returned object view = record view { locks = without_lock view.locks object }

  -- one more try to lock an object
  abbrev pub tried : View N → View N
  tried view = record view { takes = view.takes + 1 }

  -- a step on this target was refused for the word that it found
  abbrev pub refused : Target → Want → ℕ → View N → View N
  refused target want word view =
      record view {
        refusals =
            view.refusals ++ record { target = target; want = want; word = word } ∷ [];
      }

  -- a step that tries to have a lock or a place: it has what it wanted where the word does not
  -- conflict, and else it was refused.
  -- A view that is alone is never refused.
  pub record Tries (shape : Shape) (want : Want) (before : View N) (found : ℕ)
      (after granted refusal : View N) : Type 0 where
    pub took : ¬ Conflicts want found → after ≡ granted
    pub failed : Conflicts want found → after ≡ refusal
    pub alone : IsAlone shape before → ¬ Conflicts want found

module _ {N : Type 0} (shape : Shape) (object : Place) (before : View N) (found : ℕ)
    (after : View N) where
  -- a share is added. Where it is refused the word still counts it
  abbrev pub Shares : Type 0
  Shares = Tries shape Share before found after (tried (locked object Shared before))
      (refused (OfObject object) Share found (tried (locked object Returning before)))

  -- the mark is set in a word that was 0
  abbrev pub Marks : Type 0
  Marks = Tries shape Mark before found after (tried (locked object Marked before))
      (refused (OfObject object) Mark found (tried before))

  -- the mark is set in a word that was 1, in place of the share
  abbrev pub Rises : Type 0
  Rises = Tries shape Rise before found after (tried (locked object Marked before))
      (refused (OfObject object) Rise found (tried before))

-- a share or the mark is given up
abbrev pub Leaves : {N : Type 0} → Place → View N → View N → Type 0
Leaves object before after = after ≡ unlocked object before

abbrev pub Returns : {N : Type 0} → Place → View N → View N → Type 0
Returns object before after = after ≡ returned object before

-- what a step tells of the view, for a seat that keeps no slot
abbrev pub Tells : {S N : Type 0} → (View N → ℕ → View N → Type 0) → Me S (View N) → ℕ
    → Me S (View N) → Type 0
Tells Told before found after = Told before.0 found after.0 × (after.0.rights ≡ before.0.rights)
    × (after.1 ≡ before.1)

-- the object that a word is of
abbrev pub object_of : Word → Place
object_of (Lock object) = object
object_of (Length object) = object
object_of (FreeList block) = block
object_of (Stamp object) = object
object_of (Data block i) = block
object_of (Head rank) = record { rank = rank; block = 0 }
object_of Gate = record { rank = 0; block = 0 }
object_of Commit = record { rank = 0; block = 0 }

-- and which word of a block it is
abbrev pub index_of : Word → ℕ
index_of (Data block i) = i
index_of other = 0
