-- The part of the invariant on stamps.
use Rattle.std.specs.Prelude.{◌≡◌, ◌≢◌, ℕ, ◌+◌, ◌*◌, ◌%◌, ◌<◌, ◌≤◌, ◌⊎◌, Bool, true, List, [], ◌∷◌, take, map, get_or, Option, Some, None, if◌then◌else◌}
use Rattle.std.specs.List.{AllByRecursion}
use Rattle.window_rule.specs.EachView.{EachView}
use Rattle.rma_layout.specs.Shape.{Shape}
use Rattle.rma_layout.specs.Placement.{Place, IsBlock, same_place}
use Rattle.object_words.specs.Entries.{Entry, store_after}
use Rattle.object_words.specs.Contents.{content_of}
use Rattle.window_rule.specs.View.{View, Locks, Dirt, Stamps, StampNote, Change, Marked}
use Rattle.window_rule.specs.Locks.{hold_of}
use Rattle.window_rule.specs.Dirty.{dirt_of}
use Rattle.window_rule.specs.Objects.{Objects}
use Rattle.window_rule.specs.ContentsHold.{IsRead}

-- whether an object is open, and whether it was committed since
abbrev pub opened_of : List (Place × Bool) → Place → Option Bool
opened_of [] object = None
opened_of (one ∷ more) object =
    if same_place one.0 object then Some one.1 else opened_of more object

pub record OpenState (N : Type 0) : Type 0 where
  pub locks : Locks
  pub dirty : List Dirt
  pub opened : List (Place × Bool)

abbrev pub open_state_of : {N : Type 0} → View N → OpenState N
open_state_of view = record { locks = view.locks; dirty = view.dirty; opened = view.stamps.opened }

-- the stamp of an object that a view with this number has open, or has not
abbrev pub IsOpened : ℕ → ℕ → ℕ → Option ℕ → Option Bool → Type 0
IsOpened commits stamp id opener None = opener ≢ Some id
IsOpened commits stamp id opener (Some true) = (opener ≡ Some id) × (stamp < 2 * commits)
IsOpened commits stamp id opener (Some Bool.false) = opener ≡ Some id

-- an open object is marked, and a dirty one is open
pub record IsOpenState {N : Type 0} (one : OpenState N) : Type 0 where
  pub marked : (object : Place) (written : Bool) → opened_of one.opened object ≡ Some written
      → hold_of one.locks object ≡ Some Marked
  pub dirty : (object : Place) (dirt : Dirt) → dirt_of one.dirty object ≡ Some dirt
      → opened_of one.opened object ≢ None

-- what was read of an object under an even stamp: while the stamp is that, no view has the object
-- open, what was read is
-- so, and if a place was noted, the object is as it was after so many entries
pub record IsUnderStamp {N : Type 0} (stamps sizes : Place → ℕ) (cells : Place → ℕ → ℕ)
    (history : List (Entry N)) (objects : Objects) (place : Option ℕ)
    (note : StampNote) : Type 0 where
  pub even : note.stamp % 2 ≡ 0
  pub below : note.stamp ≤ stamps note.object
  pub read : note.stamp ≡ stamps note.object
      → IsRead sizes cells note.object (objects note.object).chain note.reading
  pub since : (n : ℕ) → place ≡ Some n → note.stamp ≡ stamps note.object
      → content_of (store_after (take n history)) note.object ≡ content_of
      (store_after history) note.object

pub record AreStampNotes {N : Type 0} (stamps sizes : Place → ℕ) (cells : Place → ℕ → ℕ)
    (history : List (Entry N)) (objects : Objects) (known : Stamps) : Type 0 where
  pub notes : AllByRecursion
      (IsUnderStamp stamps sizes cells history objects known.place) known.notes
  pub changes : AllByRecursion
      (λ (change : Change). (change.before ≢ change.after) ⊎ (change.after % 2 ≡ 1)) known.changes

abbrev pub StampNotesHold : {N : Type 0} → (Place → ℕ) → (Place → ℕ) → (Place → ℕ → ℕ)
    → List (Entry N) → Objects → List (View N) → Type 0
StampNotesHold {N} stamps sizes cells history objects views = EachView (λ (v : View N). v.stamps)
    (λ _. AreStampNotes stamps sizes cells history objects) views

abbrev pub opened_lists : {N : Type 0} → List (View N) → List (List (Place × Bool))
opened_lists {N} views = map (λ (v : View N). v.stamps.opened) views

-- opener: who has an object open
pub record StampsHold {N : Type 0} (shape : Shape) (stamps : Place → ℕ) (commits : ℕ)
    (opener : Place → Option ℕ) (views : List (View N)) : Type 0 where
  pub bound : (object : Place) → IsBlock shape object → stamps object ≤ 2 * commits + 1
  pub closed : (object : Place) → IsBlock shape object → opener object ≡ None
      → stamps object % 2 ≡ 0
  pub odd : (object : Place) (id : ℕ) → IsBlock shape object → opener object ≡ Some id
      → stamps object % 2 ≡ 1
  pub opened : (id : ℕ) (object : Place) → IsBlock shape object
      → IsOpened commits (stamps object) id (opener object)
      (opened_of (get_or (opened_lists views) id []) object)
  pub each : EachView (open_state_of {N = N}) (λ _. IsOpenState) views
