-- The order of pairs of a label and a vertex.
use Rattle.std.proofs.Common.{◌≡◌, Bool, true, false, cond, eqb, ◌&&◌, ◌||◌, refl, sym, ap, ◌∙◌, eq-eqb, eqb-true}
use Rattle.std.specs.Prelude.{nat_lt}
use Rattle.std.proofs.lemmas.Bool.{and_parts}
use Rattle.std.specs.Ordering.{nat_cmp, ordering_then, is_lt, is_eq, eq_by_cmp}
use Rattle.std.specs.Cmp.{IsTotalOrder, then_total, on_total, nat_cmp_total, tied_itself}
use Rattle.std.specs.declared.cmp.Ordering.{Ordering}
use Rattle.std.specs.declared.cmp.Ordering.TheVariants.{Less, Equal, Greater}
use Rattle.std.specs.FinMap.{IsAntisymmetric, nat_cmp-IsAntisymmetric}
use Rattle.holder_codec.specs.declared.index_entry.IndexEntry.{IndexEntry}
use Rattle.holder_codec.specs.Index.{is_pair_before}
use Rattle.rising_lists.proofs.Rising.{lt_by_nat_cmp}
use Rattle.label_index.specs.Entries.{Pair, pair_cmp, pair_of, is_pair}

pub pair_total : IsTotalOrder pair_cmp
pair_total = then_total (on_total (λ (p : Pair). p.0) nat_cmp_total) (on_total (λ (p : Pair). p.1) nat_cmp_total)

both_tie : (one other : Ordering) → ordering_then one other ≡ Equal → (one ≡ Equal) × (other ≡ Equal)
both_tie Less other e = absurd (cc e)
both_tie Equal other e = (refl, e)
both_tie Greater other e = absurd (cc e)

pub pair_same : IsAntisymmetric pair_cmp
pair_same one other tie =
    let parts = both_tie (nat_cmp one.0 other.0) (nat_cmp one.1 other.1) tie in
    let labels = nat_cmp-IsAntisymmetric one.0 other.0 parts.0 in
    let ids = nat_cmp-IsAntisymmetric one.1 other.1 parts.1 in
    λ i. (labels i, ids i)

pub before_is : (one other : IndexEntry) → is_pair_before one other ≡ is_lt (pair_cmp (pair_of one) (pair_of other))
before_is one other =
    elim (nat_lt one.label other.label) as (λ below. (below || (eqb one.label other.label && nat_lt one.id other.id))
    ≡ is_lt (ordering_then (cond below Less (cond (eqb one.label other.label) Equal Greater)) (nat_cmp one.id other.id))) [
      | true ↦ refl
      | false ↦ elim (eqb one.label other.label) as (λ tie. (tie && nat_lt one.id other.id) ≡ is_lt (ordering_then (cond tie Equal Greater) (nat_cmp one.id other.id))) [
        | true ↦ lt_by_nat_cmp one.id other.id
        | false ↦ refl
      ]
    ]

-- two pairs are one just where their parts are equal
pub pair_is : (one other : Pair) → is_pair one other ≡ true → one ≡ other
pair_is one other is =
    let parts = and_parts (eqb one.0 other.0) (eqb one.1 other.1) is in
    let labels = eqb-true one.0 other.0 parts.0 in
    let ids = eqb-true one.1 other.1 parts.1 in
    λ i. (labels i, ids i)

pub pair_apart : (one other : Pair) → (other ≡ one → ⊥) → is_pair one other ≡ false
pair_apart one other apart = cases (is_pair one other) refl
  where
    cases : (same : Bool) → is_pair one other ≡ same → same ≡ false
    cases true is = absurd (apart (sym (pair_is one other is)))
    cases false is = refl

pub pair_itself : (pair : Pair) → is_pair pair pair ≡ true
pair_itself pair = ap (λ b. b && eqb pair.1 pair.1) (eq-eqb pair.0 pair.0 refl) ∙ eq-eqb pair.1 pair.1 refl

pub tied_pair : (pair : Pair) → eq_by_cmp pair_cmp pair pair ≡ true
tied_pair pair = ap is_eq (tied_itself pair_total pair)

pub equal_is : (o : Ordering) → is_eq o ≡ true → o ≡ Equal
equal_is Less is = absurd (cc is)
equal_is Equal is = refl
equal_is Greater is = absurd (cc is)
