-- Counts by key: what a write of one does.
use Rattle.std.proofs.Common.{◌≡◌, ℕ, ◌+◌, ◌-◌, ◌≤◌, true, false, cond, Some, refl, ap, ◌∙◌, eqb, arith}
use Rattle.std.specs.Option.{unwrap_or}
use Rattle.std.specs.Ordering.{nat_cmp}
use Rattle.std.specs.Cmp.{nat_cmp_total}
use Rattle.std.specs.BTreeMap.{insert_entry}
use Rattle.std.specs.FinMap.Entries.{find-put}
use Rattle.std.proofs.lemmas.Bool.{eqb-true}
use Rattle.graph_model.specs.Maps.{Map, at, with_at}
use Rattle.graph_model.proofs.Sets.{is_eq-nat_cmp}
use Rattle.graph_parts.specs.Counts.{count_of}
use Rattle.graph_parts.proofs.OrderedMaps.{insert_entry-with_at}

count_of-with_at : (counts : Map ℕ ℕ) (k n q : ℕ) → count_of (with_at counts k n) q ≡ cond (eqb k q) n (count_of counts q)
count_of-with_at counts k n q =
    ap (λ o. unwrap_or o 0) (find-put nat_cmp nat_cmp_total q k n counts)
    ∙ ap (λ b. unwrap_or (cond b (Some n) (at counts q)) 0) (is_eq-nat_cmp q k)
    ∙ elim (eqb k q) as (λ b. unwrap_or (cond b (Some n) (at counts q)) 0 ≡ cond b n (count_of counts q)) [ true ↦ refl | false ↦ refl ]

written : (old new : Map ℕ ℕ) (k n q : ℕ) → new ≡ insert_entry nat_cmp old k n → count_of new q ≡ cond (eqb k q) n (count_of old q)
written old new k n q is = ap (λ es. count_of es q) (is ∙ insert_entry-with_at k n old) ∙ count_of-with_at old k n q

pub raised : (old new : Map ℕ ℕ) (k n : ℕ) → n ≡ count_of old k + 1 → new ≡ insert_entry nat_cmp old k n → (q : ℕ) → count_of new q ≡ count_of old q + cond (eqb k q) 1 0
raised old new k n more is q =
    written old new k n q is ∙ elim (eqb k q) as (λ b. eqb k q ≡ b → cond b n (count_of old q) ≡ count_of old q + cond b 1 0) [
      | true ↦ λ same. omega (arith, more, ap (count_of old) (eqb-true k q same))
      | false ↦ λ _. omega arith
    ] refl

pub lowered : (old new : Map ℕ ℕ) (k n : ℕ) → 1 ≤ count_of old k → n ≡ count_of old k - 1 → new ≡ insert_entry nat_cmp old k n → (q : ℕ) → count_of new q + cond (eqb k q) 1 0 ≡ count_of old q
lowered old new k n some less is q =
    let now = written old new k n q is in
    elim (eqb k q) as (λ b. eqb k q ≡ b → count_of new q ≡ cond b n (count_of old q) → count_of new q + cond b 1 0 ≡ count_of old q) [
      | true ↦ λ same here. omega (arith, here, less, some, ap (count_of old) (eqb-true k q same))
      | false ↦ λ _ here. omega (arith, here)
    ] refl now
