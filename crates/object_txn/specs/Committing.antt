-- What a commit makes of the view of its rank.
use Rattle.std.specs.Prelude.{◌≡◌, ℕ, ◌-◌, ◌≤◌, List, [], ◌∷◌, ◌++◌, length}
use mathlib.Core.List.{IsPrefix}
use Rattle.object_words.specs.Entries.{Entry}
use Rattle.window_rule.specs.View.{View}

module _ {N : Type 0} where
  -- the rank stands for the same ranks, and forgets nothing of what stood in its way, be there commits or not
  pub record Recalls (before after : View N) : Type 0 where
    pub rights : after.rights ≡ before.rights
    pub seen : IsPrefix before.seen after.seen
    pub refusals : IsPrefix before.refusals after.refusals
    pub misses : IsPrefix before.misses after.misses
    pub looks : IsPrefix before.looks after.looks
    pub takes : before.takes ≤ after.takes

  -- the entry is the last of all that was seen, with this number. It is the rank's own, and one commit less is left
  pub record Enters (entry : Entry N) (before : View N) (number : ℕ) (after : View N) : Type 0 where
    pub history : List (Entry N)
    pub goes_on : IsPrefix before.seen history
    pub number_is : number ≡ length history
    pub seen : after.seen ≡ history ++ entry ∷ []
    pub own : after.own ≡ before.own ++ number ∷ []
    pub allowance : after.allowance ≡ before.allowance - 1
    pub recalls : Recalls before after
