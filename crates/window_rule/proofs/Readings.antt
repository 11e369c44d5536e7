-- What is left of what a view has read once one object is forgotten.
use Rattle.std.proofs.Common.{◌≡◌, ◌≢◌, cond, List, [], ◌∷◌, refl, sym, ap, ◌∙◌, inl, inr, Some, None}
use Rattle.rma_layout.specs.Placement.{Place, same_place}
use Rattle.window_rule.specs.View.{Known}
use Rattle.window_rule.specs.Known.{known_of, without_known}
use Rattle.window_rule.proofs.LockLemmas.{same_place-refl, same_place-false, place_cases}

-- the reading of one object is forgotten
pub reading-gone : (known : List (Place × Known)) (object : Place)
    → known_of (without_known known object) object ≡ None
reading-gone [] object = refl
reading-gone (one ∷ more) object =
    elim (place_cases one.0 object) [
      | inl same ↦ ap (λ t. known_of
          (cond t (without_known more object) (one ∷ without_known more object)) object)
          (ap (λ p. same_place p object) same ∙ same_place-refl object) ∙ reading-gone more object
      | inr ne ↦
          ap (λ t. known_of
          (cond t (without_known more object) (one ∷ without_known more object)) object)
          (same_place-false one.0 object ne)
          ∙ (ap (λ t. cond t (Some one.1) (known_of (without_known more object) object))
          (same_place-false one.0 object ne) ∙ reading-gone more object)
    ]

pub reading-stays : (known : List (Place × Known)) (object other : Place) → other ≢ object
    → known_of (without_known known object) other ≡ known_of known other
reading-stays [] object other ne = refl
reading-stays (one ∷ more) object other ne =
    elim (place_cases one.0 object) [
      | inl same ↦
          ap (λ t. known_of
          (cond t (without_known more object) (one ∷ without_known more object)) other)
          (ap (λ p. same_place p object) same ∙ same_place-refl object)
          ∙ (reading-stays more object other ne
          ∙ sym (ap (λ t. cond t (Some one.1) (known_of more other))
          (same_place-false one.0 other (λ e. ne (sym e ∙ same)))))
      | inr differ ↦
          ap (λ t. known_of
          (cond t (without_known more object) (one ∷ without_known more object)) other)
          (same_place-false one.0 object differ)
          ∙ ap (λ r. cond (same_place one.0 other) (Some one.1) r)
          (reading-stays more object other ne)
    ]

pub reading-less : (known : List (Place × Known)) (object other : Place) (one : Known)
    → known_of (without_known known object) other ≡ Some one → known_of known other ≡ Some one
reading-less known object other one is =
    elim (place_cases other object) [
      | inl same ↦ absurd
          (let gone : None ≡ Some one = sym
          (ap (known_of (without_known known object)) same ∙ reading-gone known object)
          ∙ is in cc gone)
      | inr ne ↦ sym (reading-stays known object other ne) ∙ is
    ]
