-- What is left when locks are left.
use Rattle.std.proofs.Common.{◌≡◌, inl, inr, ◌∷◌, sym, ap, ◌∙◌, Some, None}
use Rattle.rma_layout.specs.Placement.{Place}
use Rattle.window_rule.specs.View.{View, Hold, Locks}
use Rattle.window_rule.specs.Locks.{hold_of, without_lock}
use Rattle.window_rule.specs.Steps.{unlocked}
use Rattle.window_rule.proofs.LockLemmas.{same_place-refl, same_place-false, place_cases, hold_of-without_same, hold_of-without_other, choose}
use Rattle.object_moves.specs.Leaves.{OnlyLocks}

module _ (held more : Locks) (object : Place) (hold : Hold) (is : held ≡ (object, hold) ∷ more) where
  pub first_held : hold_of held object ≡ Some hold
  first_held = ap (λ h. hold_of h object) is
      ∙ ap (λ b. choose b hold (hold_of more object)) (same_place-refl object)

  beside : (other : Place) → (other ≡ object → ⊥) → hold_of held other ≡ hold_of more other
  beside other ne = ap (λ h. hold_of h other) is
      ∙ ap (λ b. choose b hold (hold_of more other)) (same_place-false object other (λ e. ne (sym e)))

  module _ (once : hold_of more object ≡ None) where
    -- the first object's lock was left, and the others stand
    pub leave_first : (locks : Locks) → ((other : Place) → hold_of locks other ≡ hold_of held other)
        → (other : Place) → hold_of (without_lock locks object) other ≡ hold_of more other
    leave_first locks tied other = elim (place_cases other object) [
      | inl same ↦ ap (hold_of (without_lock locks object)) same
          ∙ (hold_of-without_same locks object ∙ (sym once ∙ ap (hold_of more) (sym same)))
      | inr differ ↦ hold_of-without_other locks object other differ ∙ (tied other ∙ beside other differ)
    ]

    -- what is still held was held
    pub still_held : (other : Place) (mode : Hold) → hold_of more other ≡ Some mode → hold_of held other ≡ Some mode
    still_held other mode e = elim (place_cases other object) [
      | inl same ↦ absurd (cc (sym once ∙ (ap (hold_of more) (sym same) ∙ e)))
      | inr differ ↦ beside other differ ∙ e
    ]

module _ {N : Type 0} (first before after : View N) where
  pub only-then : (object : Place) → OnlyLocks first before → after ≡ unlocked object before → OnlyLocks first after
  only-then object one two =
      two ∙ (ap (unlocked object) one
      ∙ ap (λ (v : View N). record first { locks = v.locks; known = v.known }) (sym two))
