-- What goes on from step to step of a rank.
use Rattle.std.specs.Prelude.{◌≡◌, ℕ, ◌≤◌, List}
use mathlib.Core.List.{IsPrefix}
use Rattle.object_words.specs.Entries.{Entry}
use Rattle.rma_layout.specs.Shape.{Shape}
use Rattle.window_rule.specs.View.{View, Refusal, Miss, Look}
use Rattle.window_rule.specs.Spares.{SpareEnds, HasSpares}

-- what a view has been through
pub record Trail (N : Type 0) : Type 0 where
  pub rights : List ℕ
  pub allowance : ℕ
  pub seen : List (Entry N)
  pub own : List ℕ
  pub refusals : List Refusal
  pub misses : List Miss
  pub looks : List Look
  pub takes : ℕ

abbrev pub trail_of : {N : Type 0} → View N → Trail N
trail_of view = record {
  rights = view.rights;
  allowance = view.allowance;
  seen = view.seen;
  own = view.own;
  refusals = view.refusals;
  misses = view.misses;
  looks = view.looks;
  takes = view.takes;
}

-- the rank stands for the same ranks, and has committed nothing. It has seen as much of the history
-- or more, and
-- forgets nothing of what stood in its way
pub record GoesOn {N : Type 0} (before after : Trail N) : Type 0 where
  pub rights : after.rights ≡ before.rights
  pub allowance : after.allowance ≡ before.allowance
  pub own : after.own ≡ before.own
  pub seen : IsPrefix before.seen after.seen
  pub refusals : IsPrefix before.refusals after.refusals
  pub misses : IsPrefix before.misses after.misses
  pub looks : IsPrefix before.looks after.looks
  pub takes : before.takes ≤ after.takes

-- one view comes after another by steps of which none is a commit
abbrev pub Follows : {N : Type 0} → View N → View N → Type 0
Follows before after = GoesOn (trail_of before) (trail_of after)

-- what a rank has as spares before a step, it has after it
abbrev pub SparesStay : {N : Type 0} → Shape → SpareEnds → View N → View N → Type 0
SparesStay shape ends before after = HasSpares shape before.private ends
    → HasSpares shape after.private ends

-- whatever spares a rank has, they stay
abbrev pub KeepsSpares : {N : Type 0} → View N → View N → Type 0
KeepsSpares before after = (shape : Shape) (ends : SpareEnds) → SparesStay shape ends before after

-- what a step tells, and that the view after it follows the one before
abbrev pub Going : {N : Type 0} → (View N → ℕ → View N → Type 0) → View N → ℕ → View N → Type 0
Going Told before found after = Told before found after × Follows before after

-- and that spares stay
abbrev pub Following : {N : Type 0} → (View N → ℕ → View N → Type 0) → View N → ℕ → View N → Type 0
Following Told before found after = Told before found after × Follows before after
    × KeepsSpares before after
