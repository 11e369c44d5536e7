-- Sums over the entries of a map by number: what putting an entry in changes, and taking one out.
use Rattle.std.proofs.Common.{◌≡◌, ℕ, ◌+◌, [], ◌∷◌, cond, Some, None, refl, sym, ap, ◌∙◌, arith}
use Rattle.std.specs.List.{sum_by}
use Rattle.std.specs.List.Sorted.{IsStrictlySortedBy}
use Rattle.std.specs.Option.{option_map_or}
use Rattle.std.specs.Ordering.{nat_cmp, is_eq}
use Rattle.std.specs.declared.cmp.Ordering.TheVariants.{Less, Equal, Greater}
use Rattle.std.specs.Cmp.{nat_cmp_total}
use Rattle.std.specs.Map.{keys_of, remove_entry}
use Rattle.std.specs.BTreeMap.{is_at}
use Rattle.std.specs.FinMap.{nat_cmp-IsAntisymmetric}
use Rattle.std.specs.FinMap.Entries.{by_order}
use Rattle.std.proofs.lemmas.List.Sums.{sum_by-cons}
use Rattle.std.proofs.lemmas.Map.{lookup-none}
use Rattle.std.proofs.lemmas.Map.Entries.{none_below_head}
use Rattle.std.proofs.lemmas.Map.Keys.{sorted_tail}
use Rattle.graph_model.specs.Maps.{Map, at, with_at}
use Rattle.graph_parts.proofs.OrderedMaps.{lookup-at}

module _ {X : Type 0} (f : ℕ × X → ℕ) where
  -- what the entry at a key weighs, nothing where there is none
  abbrev pub weight_at : Map ℕ X → ℕ → ℕ
  weight_at es k = option_map_or (λ x. f (k, x)) (at es k) 0

  pub weighed-with_at : (k : ℕ) (v : X) (es : Map ℕ X) → IsStrictlySortedBy nat_cmp (keys_of es) → sum_by f (with_at es k v) + weight_at es k ≡ sum_by f es + f (k, v)
  weighed-with_at k v [] rises = omega (arith, sum_by-cons f (k, v) [])
  weighed-with_at k v (e ∷ es) rises =
      elim (nat_cmp k e.0) as (λ r. nat_cmp k e.0 ≡ r → sum_by f (by_order r ((k, v) ∷ e ∷ es) ((e.0, v) ∷ es) (e ∷ with_at es k v)) + option_map_or (λ x. f (k, x)) (cond (is_eq r) (Some e.1) (at es k)) 0 ≡ sum_by f (e ∷ es) + f (k, v)) [
        | Less ↦ λ less.
            let none : at es k ≡ None = sym (lookup-at k es) ∙ lookup-none (is_at (nat_cmp k)) es (none_below_head nat_cmp_total k e es rises less).1 in
            omega (arith, sum_by-cons f (k, v) (e ∷ es), ap (λ o. option_map_or (λ x. f (k, x)) o 0) none)
        | Equal ↦ λ tied.
            let key = nat_cmp-IsAntisymmetric k e.0 tied in
            omega (arith, sum_by-cons f (e.0, v) es, sum_by-cons f e es, ap (λ q. f (q, v)) key, ap (λ q. f (q, e.1)) key)
        | Greater ↦ λ _. omega (arith, sum_by-cons f e (with_at es k v), sum_by-cons f e es, weighed-with_at k v es (sorted_tail nat_cmp e.0 _ rises))
      ] refl

  pub weighed-removed : (k : ℕ) (es : Map ℕ X) → sum_by f (remove_entry (is_at (nat_cmp k)) es) + weight_at es k ≡ sum_by f es
  weighed-removed k [] = refl
  weighed-removed k (e ∷ es) =
      elim (nat_cmp k e.0) as (λ r. nat_cmp k e.0 ≡ r → sum_by f (cond (is_eq r) es (e ∷ remove_entry (is_at (nat_cmp k)) es)) + option_map_or (λ x. f (k, x)) (cond (is_eq r) (Some e.1) (at es k)) 0 ≡ sum_by f (e ∷ es)) [
        | Less ↦ λ _. omega (arith, sum_by-cons f e (remove_entry (is_at (nat_cmp k)) es), sum_by-cons f e es, weighed-removed k es)
        | Equal ↦ λ tied. omega (arith, sum_by-cons f e es, ap (λ q. f (q, e.1)) (nat_cmp-IsAntisymmetric k e.0 tied))
        | Greater ↦ λ _. omega (arith, sum_by-cons f e (remove_entry (is_at (nat_cmp k)) es), sum_by-cons f e es, weighed-removed k es)
      ] refl
