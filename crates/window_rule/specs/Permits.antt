-- What a step on one word has to show.
use Rattle.std.specs.Prelude.{◌≡◌, ℕ, ◌^◌, ◌<◌, List, [], slice_set}
use mathlib.Core.Option.{some}
use lib.ListN.{get_elem?}
use Rattle.rma_layout.specs.declared.word.Word.{Word}
use Rattle.rma_layout.specs.Shape.{Shape}
use Rattle.rma_layout.specs.Ranges.{IsInRange}
use Rattle.object_words.specs.Entries.{Entry}
use Rattle.window_rule.specs.View.{View}
use Rattle.window_rule.specs.Words.{Words, with_word}
use Rattle.window_rule.specs.Lawful.{IsLawful}

-- a moment at which a live seat has this view, and a step of it finds this in a word
pub record Moment {N : Type 0} (fits : Shape → Entry N → Type 0) (shape : Shape) (words : Words)
    (views : List (View N)) (id : ℕ) (view : View N) : Type 0 where
  pub lawful : IsLawful fits shape words views
  pub there : get_elem? views id ≡ some view
  pub live : ¬ view.rights ≡ []
  pub in_range : IsInRange shape

-- the view after a step, with which the invariant holds again and what is told is true
pub record Goes {N : Type 0} (fits : Shape → Entry N → Type 0) (shape : Shape) (words : Words)
    (views : List (View N)) (id : ℕ) (before : View N) (Told : View N → Type 0) : Type 0 where
  pub after : View N
  pub lawful : IsLawful fits shape words (slice_set views id after)
  pub same_rights : after.rights ≡ before.rights
  pub told : Told after

-- whatever the words and the views are at the step
pub record Permits {N : Type 0} (fits : Shape → Entry N → Type 0) (shape : Shape) (word : Word)
    (change : ℕ → ℕ) (before : View N) (Told : ℕ → View N → Type 0) : Type 0 where
  pub goes : (words : Words) (views : List (View N)) (id : ℕ)
      → Moment fits shape words views id before → words word < 2 ^ 64
      → Goes fits shape (with_word words word (change (words word))) views id before
      (Told (words word))
