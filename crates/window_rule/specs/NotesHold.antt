-- The part of the invariant on notes: what views have loaded of heads.
use Rattle.std.specs.Prelude.{◌≡◌, ℕ, ◌<◌, ◌≤◌, List, Some}
use Rattle.std.specs.List.{AllByRecursion}
use Rattle.window_rule.specs.EachView.{EachView}
use Rattle.rma_layout.specs.Shape.{Shape}
use Rattle.rma_layout.specs.Placement.{Place}
use Rattle.window_rule.specs.View.{View, HeadNote}
use Rattle.window_rule.specs.RightsHold.{right_count}
use Rattle.window_rule.specs.Objects.{tag_of, number_to, behind}

pub record Notebook : Type 0 where
  pub rights : List ℕ
  pub notes : List HeadNote
  pub bounds : List (ℕ × ℕ)

abbrev pub notebook_of : {N : Type 0} → View N → Notebook
notebook_of view = record { rights = view.rights; notes = view.notes; bounds = view.bounds }

abbrev pub StandsAlone : Shape → List ℕ → Type 0
StandsAlone shape rights = (rank : ℕ) → rank < shape.ranks → 0 < right_count rank rights

-- what a note says is so now
pub record IsCurrent (heads : ℕ → ℕ) (free : ℕ → List Place) (note : HeadNote) : Type 0 where
  pub head : note.head ≡ heads note.rank
  pub list : note.list ≡ free note.rank
  pub next : (next : ℕ) → note.next ≡ Some next → next ≡ number_to (behind note.list)

-- the tag of a head never falls, and while it is the same the list is the same. So an exchange that
-- finds the noted head
-- finds the noted list
pub record IsNoted (heads : ℕ → ℕ) (free : ℕ → List Place) (note : HeadNote) : Type 0 where
  pub tag : tag_of note.head ≤ tag_of (heads note.rank)
  pub same : tag_of note.head ≡ tag_of (heads note.rank) → IsCurrent heads free note

-- what a view knows besides while it is alone: its notes are current, since nobody else steps
pub record IsSure (heads : ℕ → ℕ) (book : Notebook) : Type 0 where
  pub now : AllByRecursion (λ (note : HeadNote). note.head ≡ heads note.rank) book.notes
  pub bounds : AllByRecursion (λ (one : ℕ × ℕ). tag_of (heads one.0) ≤ one.1) book.bounds

pub record AreNoted (shape : Shape) (heads : ℕ → ℕ) (free : ℕ → List Place)
    (book : Notebook) : Type 0 where
  pub notes : AllByRecursion (IsNoted heads free) book.notes
  pub alone : StandsAlone shape book.rights → IsSure heads book

-- It reads the heads and the free lists, and the rights, notes and bounds of each view.
abbrev pub NotesHold : {N : Type 0} → Shape → (ℕ → ℕ) → (ℕ → List Place) → List (View N) → Type 0
NotesHold {N} shape heads free views = EachView (notebook_of {N = N})
    (λ _. AreNoted shape heads free) views
