-- What writing at one vertex does to an index.
use Rattle.std.proofs.Common.{◌≡◌, ℕ, true, false, cond, List, [], Option, Some, None, is_some, refl, ap, sym, ◌∙◌, eqb}
use Rattle.std.specs.List.Sorted.{IsStrictlySortedBy}
use Rattle.std.specs.Option.{unwrap_or}
use Rattle.std.specs.Ordering.{nat_cmp}
use Rattle.std.specs.Cmp.{nat_cmp_total}
use Rattle.std.specs.Map.{keys_of, lookup, set_value}
use Rattle.std.specs.BTreeMap.{insert_entry, is_at}
use Rattle.std.specs.FinMap.Entries.{find-put}
use Rattle.std.proofs.Common.{arith}
use Rattle.std.proofs.lemmas.Bool.{eqb-true}
use Rattle.std.proofs.lemmas.Bool.Decides.{nat_tests}
use Rattle.graph_model.specs.Maps.{Map, at, with_at}
use Rattle.graph_model.specs.Graph.{EdgeKey}
use Rattle.graph_model.proofs.Sets.{is_eq-nat_cmp}
use Rattle.edge_index.specs.Index.{keys_at}
use Rattle.edge_index.proofs.OrderedEntries.{lookup-find, insert_entry-put, set_value-put}

abbrev Index : Type 0
Index = Map ℕ (List EdgeKey)

keys-found : (index : Index) (id : ℕ) (found : Option (List EdgeKey)) → found ≡ lookup (is_at (nat_cmp id)) index → unwrap_or found [] ≡ keys_at index id
keys-found index id found is = ap (λ o. unwrap_or o []) (is ∙ lookup-find nat_cmp id index)

keys_at-put : (index : Index) (id q : ℕ) (ks : List EdgeKey) → keys_at (with_at index id ks) q ≡ cond (eqb id q) ks (keys_at index q)
keys_at-put index id q ks =
    ap (λ o. unwrap_or o []) (find-put nat_cmp nat_cmp_total q id ks index)
    ∙ ap (λ b. unwrap_or (cond b (Some ks) (at index q)) []) (is_eq-nat_cmp q id)
    ∙ elim (eqb id q) as (λ b. unwrap_or (cond b (Some ks) (at index q)) [] ≡ cond b ks (keys_at index q)) [ true ↦ refl | false ↦ refl ]

module _ (change : List EdgeKey → List EdgeKey) (old now new : Index) (id : ℕ) (seen : old ≡ now) where
  at_end : (ks : List EdgeKey) → new ≡ with_at old id ks → ks ≡ change (keys_at old id) → (q : ℕ) → keys_at new q ≡ cond (eqb id q) (change (keys_at now id)) (keys_at now q)
  at_end ks is changed q =
      ap (λ index. keys_at index q) is ∙ keys_at-put old id q ks ∙ ap (λ l. cond (eqb id q) l (keys_at old q)) changed
      ∙ ap (λ index. cond (eqb id q) (change (keys_at index id)) (keys_at index q)) seen

  -- where the vertex has edges
  pub written : (set ks : List EdgeKey) → IsStrictlySortedBy nat_cmp (keys_of old) → Some set ≡ lookup (is_at (nat_cmp id)) old → new ≡ set_value (is_at (nat_cmp id)) old ks → ks ≡ change set
      → (q : ℕ) → keys_at new q ≡ cond (eqb id q) (change (keys_at now id)) (keys_at now q)
  written set ks rises there is changed =
      at_end ks (is ∙ set_value-put nat_cmp nat_cmp_total id ks old rises (ap is_some (sym there))) (changed ∙ ap change (keys-found old id (Some set) there))

  -- where it has none so far
  pub started : (ks : List EdgeKey) → None ≡ lookup (is_at (nat_cmp id)) old → new ≡ insert_entry nat_cmp old id ks → ks ≡ change [] → (q : ℕ) → keys_at new q ≡ cond (eqb id q) (change (keys_at now id)) (keys_at now q)
  started ks absent is changed = at_end ks (is ∙ insert_entry-put nat_cmp id ks old) (changed ∙ ap change (keys-found old id None absent))

  -- and where it keeps none
  pub left_alone : None ≡ lookup (is_at (nat_cmp id)) old → new ≡ old → change [] ≡ [] → (q : ℕ) → keys_at new q ≡ cond (eqb id q) (change (keys_at now id)) (keys_at now q)
  left_alone absent is nothing q =
      let none : keys_at old id ≡ [] = sym (keys-found old id None absent) in
      ap (λ index. keys_at index q) is
      ∙ elim (eqb id q) as (λ b. eqb id q ≡ b → keys_at old q ≡ cond b (change (keys_at old id)) (keys_at old q)) [
        | true ↦ λ same. ap (keys_at old) (sym (eqb-true id q same)) ∙ none ∙ sym nothing ∙ ap change (sym none)
        | false ↦ λ _. refl
      ] refl
      ∙ ap (λ index. cond (eqb id q) (change (keys_at index id)) (keys_at index q)) seen

pub forgotten : (old now new : Index) (id : ℕ) → old ≡ now → ((q : ℕ) → lookup (is_at (nat_cmp q)) new ≡ cond (is_at (nat_cmp id) q) None (lookup (is_at (nat_cmp q)) old)) → (q : ℕ) → keys_at new q ≡ cond (eqb id q) [] (keys_at now q)
forgotten old now new id seen gone q =
    sym (keys-found new q (lookup (is_at (nat_cmp q)) new) refl) ∙ ap (λ o. unwrap_or o []) (gone q)
    ∙ ap (λ b. unwrap_or (cond b None (lookup (is_at (nat_cmp q)) old)) []) (is_eq-nat_cmp id q)
    ∙ elim (eqb q id) as (λ b. unwrap_or (cond b None (lookup (is_at (nat_cmp q)) old)) [] ≡ cond b [] (keys_at old q)) [ true ↦ refl | false ↦ keys-found old q (lookup (is_at (nat_cmp q)) old) refl ]
    ∙ ap (λ b. cond b [] (keys_at old q)) (turned id q)
    ∙ ap (λ index. cond (eqb id q) [] (keys_at index q)) seen
  where
    turned : (a b : ℕ) → eqb b a ≡ eqb a b
    turned a b = sym (is_eq-nat_cmp a b) ∙ grind (arith, nat_tests)
