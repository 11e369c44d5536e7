-- Lists of steps: what one more is.
use Rattle.std.proofs.Common.{◌≡◌, ℕ, Bool, true, ◌&&◌, List, [], ◌∷◌, ◌++◌, get_or, Some, if◌then◌else◌, sym, ap, ◌∙◌}
use Rattle.std.specs.List.{slice_get}
use Rattle.std.proofs.lemmas.List.{map_push}
use Rattle.graph_model.specs.Maps.{has}
use Rattle.graph_walks.specs.Steps.{steps_of}
use Rattle.graph_walks.proofs.Finding.{got, place-has}

pub step_added : (ids : List ℕ) (hops more : List (ℕ × ℕ)) (from to a b : ℕ) → slice_get ids a ≡ Some from → slice_get ids b ≡ Some to → more ≡ hops ++ (a, b) ∷ []
    → steps_of (record { ids = ids; hops = more }) ≡ steps_of (record { ids = ids; hops = hops }) ++ (if has ids from && has ids to then (from, to) ∷ [] else [])
step_added ids hops more from to a b at_a at_b is =
    let one = got ids a from at_a in
    let other = got ids b to at_b in
    let there : has ids from ≡ true = place-has ids a from one.0 one.1 in
    let here : has ids to ≡ true = place-has ids b to other.0 other.1 in
    ap (λ hs. steps_of (record { ids = ids; hops = hs })) is
    ∙ map_push (λ (hop : ℕ × ℕ). (get_or ids hop.0 0, get_or ids hop.1 0)) hops (a, b)
    ∙ ap (λ (n : ℕ). steps_of (record { ids = ids; hops = hops }) ++ (n, get_or ids b 0) ∷ []) one.1
    ∙ ap (λ (n : ℕ). steps_of (record { ids = ids; hops = hops }) ++ (from, n) ∷ []) other.1
    ∙ sym (ap (λ (c : Bool). steps_of (record { ids = ids; hops = hops }) ++ (if c then (from, to) ∷ [] else [])) (Rattle.std.proofs.lemmas.Bool.and_from _ _ there here))
