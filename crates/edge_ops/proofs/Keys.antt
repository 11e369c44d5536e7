-- The order of records is that of their keys.
use Rattle.std.proofs.Common.{◌≡◌, ℕ, Bool, true, false, cond, eqb, ◌&&◌, ◌||◌, refl}
use Rattle.std.specs.Prelude.{nat_lt}
use Rattle.std.specs.Int.{from_bool}
use Rattle.std.specs.Ordering.{nat_cmp, ordering_then, is_lt}
use Rattle.std.specs.Cmp.{IsTotalOrder, then_total, on_total, nat_cmp_total}
use Rattle.std.specs.declared.cmp.Ordering.{Ordering}
use Rattle.std.specs.declared.cmp.Ordering.TheVariants.{Less, Equal, Greater}
use Rattle.std.specs.FinMap.{IsAntisymmetric, nat_cmp-IsAntisymmetric}
use Rattle.holder_codec.specs.declared.edge_form.EdgeForm.TheVariants.{Plain}
use Rattle.holder_codec.specs.declared.edge_record.EdgeRecord.{EdgeRecord}
use Rattle.holder_codec.specs.Edges.{is_record_before}
use Rattle.rising_lists.proofs.Rising.{lt_by_nat_cmp}
use Rattle.edge_ops.specs.Records.{Key, key_of, key_cmp}

pub key_total : IsTotalOrder key_cmp
key_total =
    then_total (on_total (λ (key : Key). key.0) nat_cmp_total)
    (then_total (on_total (λ (key : Key). key.1.0) nat_cmp_total) (on_total (λ (key : Key). key.1.1) nat_cmp_total))

both_tie : (one other : Ordering) → ordering_then one other ≡ Equal → (one ≡ Equal) × (other ≡ Equal)
both_tie Less other e = absurd (cc e)
both_tie Equal other e = (refl, e)
both_tie Greater other e = absurd (cc e)

pub key_same : IsAntisymmetric key_cmp
key_same one other tie =
    let outer = both_tie (nat_cmp one.0 other.0) (ordering_then (nat_cmp one.1.0 other.1.0) (nat_cmp one.1.1 other.1.1)) tie in
    let inner = both_tie (nat_cmp one.1.0 other.1.0) (nat_cmp one.1.1 other.1.1) outer.1 in
    let ends = nat_cmp-IsAntisymmetric one.0 other.0 outer.0 in
    let sources = nat_cmp-IsAntisymmetric one.1.0 other.1.0 inner.0 in
    let ordinals = nat_cmp-IsAntisymmetric one.1.1 other.1.1 inner.1 in
    λ i. (ends i, (sources i, ordinals i))

then_less : (a b c d : ℕ) → (nat_lt a b || (eqb a b && nat_lt c d)) ≡ is_lt (ordering_then (nat_cmp a b) (nat_cmp c d))
then_less a b c d =
    elim (nat_lt a b) as (λ below. (below || (eqb a b && nat_lt c d)) ≡ is_lt (ordering_then (cond below Less (cond (eqb a b) Equal Greater)) (nat_cmp c d))) [
      | true ↦ refl
      | false ↦ elim (eqb a b) as (λ tie. (tie && nat_lt c d) ≡ is_lt (ordering_then (cond tie Equal Greater) (nat_cmp c d))) [
        | true ↦ lt_by_nat_cmp c d
        | false ↦ refl
      ]
    ]

pub before_is : (one other : EdgeRecord) → is_record_before one other ≡ is_lt (key_cmp (key_of one) (key_of other))
before_is one other = cases one.inward other.inward
  where
    cases : (a b : Bool) → cond a (b && (nat_lt one.other other.other || (eqb one.other other.other && nat_lt one.ordinal other.ordinal))) (b || nat_lt one.ordinal other.ordinal)
        ≡ is_lt (key_cmp (from_bool a, (cond a one.other 0, one.ordinal)) (from_bool b, (cond b other.other 0, other.ordinal)))
    cases true true = then_less one.other other.other one.ordinal other.ordinal
    cases true false = refl
    cases false true = refl
    cases false false = lt_by_nat_cmp one.ordinal other.ordinal

abbrev pub some_record : EdgeRecord
some_record = record { inward = false; undirected = false; ordinal = 0; other = 0; other_at = record { rank = 0; block = 0 }; form = Plain }
