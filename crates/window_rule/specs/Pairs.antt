-- A worked transaction: two words are written into an object, and read.
use Rattle.std.specs.Prelude.{◌≡◌, ℕ, ◌+◌, List, [], ◌∷◌, ◌++◌, length, Option, Some, None}
use mathlib.Core.List.{IsPrefix}
use Rattle.rma_layout.specs.Placement.{Place}
use Rattle.object_words.specs.Contents.{Contents}
use Rattle.object_words.specs.Entries.{Entry}
use Rattle.window_rule.specs.View.{View, Outside}
use Rattle.window_rule.specs.Commit.{entry_by}

-- two words of one object
abbrev pub pair_contents : Place → ℕ → ℕ → Contents
pair_contents object first second = (object, first ∷ (second ∷ [])) ∷ []

-- the entry that writes two words, and has read nothing
abbrev pub pair_entry : {N : Type 0} → View N → Place → ℕ → ℕ → N → Entry N
pair_entry view object first second note =
    entry_by view [] (pair_contents object first second) note

-- the view is in no transaction
pub record IsAtRest {N : Type 0} (view : View N) : Type 0 where
  pub locks : view.locks ≡ []
  pub gate : view.gate ≡ Outside
  pub dirty : view.dirty ≡ []
  pub opened : view.stamps.opened ≡ []

-- the entry is the next one, of this number, and the view has seen all of the history
pub record IsNext {N : Type 0} (entry : Entry N) (before after : View N) (number : ℕ) : Type 0 where
  pub history : List (Entry N)
  pub goes_on : IsPrefix before.seen history
  pub number_is : number ≡ length history
  pub seen : after.seen ≡ history ++ entry ∷ []
  -- it may make one commit less
  pub allowance : after.allowance + 1 ≡ before.allowance

-- the two words of an object that has just two
abbrev pub pair_of : List ℕ → Option (ℕ × ℕ)
pair_of [] = None
pair_of (first ∷ []) = None
pair_of (first ∷ (second ∷ [])) = Some (first, second)
pair_of (first ∷ (second ∷ (third ∷ more))) = None
