-- The values of properties one after the other, and the properties back from them.
use Rattle.std.proofs.Common.{◌≡◌, ℕ, zero, suc, ◌^◌, ◌<◌, ◌≤◌, Bool, true, false, ◌&&◌, List, [], ◌∷◌, ◌++◌, length, if◌then◌else◌, refl, sym, ap, ◌∙◌, eq-eqb, arith}
use Rattle.std.specs.Prelude.{nat_lt, ◌==◌, IsSomeAnd}
use Rattle.std.specs.List.{AllByRecursion}
use Rattle.std.specs.Option.{option_map_or}
use Rattle.std.specs.Ordering.{nat_cmp, is_lt}
use Rattle.std.specs.FinMap.Entries.{below_all, is_sorted}
use Rattle.std.proofs.lemmas.Bool.{and_from, and_parts, or_left, or_right, lt-ltb, ne_eqb, cond-true, cond-false}
use Rattle.std.proofs.lemmas.Bool.Decides.{nat_tests}
use Rattle.gdi_kinds.specs.declared.value.Value.{Value}
use Rattle.gdi_kinds.specs.declared.value.Kind.{Kind}
use Rattle.gdi_kinds.specs.declared.value.Kind.TheVariants as kind
use Rattle.gdi_kinds.specs.Constraint.{kind_of, same_kind}
use Rattle.graph_model.specs.Maps.{IsMap, item_at}
use Rattle.graph_model.specs.Graph.{PropType, Props, Graph}
use Rattle.graph_model.specs.WellFormed.{IsValue, AreValues, AreProps}
use Rattle.graph_model.proofs.Entries.{All-map}
use Rattle.holder_codec.specs.declared.held_prop.HeldProp.{HeldProp}
use Rattle.holder_codec.specs.Order.{is_rising}
use Rattle.holder_codec.specs.Values.{PropFits, is_prop_before}
use Rattle.holder_codec.specs.Holders.{is_marked_in, held_values, held_props}
use Rattle.holder_codec.proofs.Maps.{All-over_map, All-append, All-always, rising-append, some_and}

-- each property has a value, and the properties rise
pub record AreGrouped (props : Props) : Type 0 where
  pub rising : IsMap nat_cmp props
  pub some : AllByRecursion (λ entry. 1 ≤ length entry.1) props

join : ℕ → Value → Props → Props
join n v [] = (n, v ∷ []) ∷ []
join n v (e ∷ es) = if e.0 == n then (e.0, v ∷ e.1) ∷ es else (n, v ∷ []) ∷ e ∷ es

grouped : List HeldProp → Props
grouped [] = []
grouped (h ∷ hs) = join h.number h.value (grouped hs)

-- a number that isn't the first one
IsNew : ℕ → Props → Type 0
IsNew n [] = Unit {0}
IsNew n (e ∷ es) = (e.0 == n) ≡ false

join-new : (n : ℕ) (v : Value) (ps : Props) → IsNew n ps → join n v ps ≡ (n, v ∷ []) ∷ ps
unfolding join IsNew
join-new n v [] new = refl
join-new n v (e ∷ es) new = cond-false (e.0 == n) _ _ new

grouped-values : (n : ℕ) (many : Bool) (v : Value) (vs : List Value) (hs : List HeldProp) → IsNew n (grouped hs)
    → grouped (held_values n many (v ∷ vs) ++ hs) ≡ (n, v ∷ vs) ∷ grouped hs
unfolding grouped join
grouped-values n many v [] hs new = join-new n v (grouped hs) new
grouped-values n many v (w ∷ vs) hs new =
    ap (join n v) (grouped-values n many w vs hs new) ∙ cond-true (n == n) ((n, v ∷ w ∷ vs) ∷ grouped hs) _ (eq-eqb n n refl)

grouped-first : (types : List PropType) (n : ℕ) (vs : List Value) (es : Props) → 1 ≤ length vs → IsNew n es → grouped (held_props types es) ≡ es
    → grouped (held_values n (is_marked_in types n) vs ++ held_props types es) ≡ (n, vs) ∷ es
grouped-first types n [] es some new later = absurd (omega arith)
grouped-first types n (v ∷ vs) es some new later =
    grouped-values n (is_marked_in types n) v vs (held_props types es) (rw later new) ∙ ap (λ (ps : Props). (n, v ∷ vs) ∷ ps) later

less : (a b : ℕ) → is_lt (nat_cmp a b) ≡ true → a < b
less a b below = grind (arith, nat_tests)

is_new : (n : ℕ) (es : Props) → below_all nat_cmp n es ≡ true → IsNew n es
unfolding IsNew
is_new n [] below = tt
is_new n (e ∷ es) below =
    let first = less n e.0 (and_parts (is_lt (nat_cmp n e.0)) (below_all nat_cmp n es) below).0 in
    ne_eqb e.0 n (λ same. omega arith)

grouped-back : (types : List PropType) (ps : Props) → AreGrouped ps → grouped (held_props types ps) ≡ ps
unfolding grouped
grouped-back types [] are = refl
grouped-back types (e ∷ es) are =
    let parts = and_parts (below_all nat_cmp e.0 es) (is_sorted nat_cmp es) are.rising in
    grouped-first types e.0 e.1 es are.some.0 (is_new e.0 es parts.0) (grouped-back types es (record { rising = parts.1; some = are.some.1 }))

-- so the values that stand there tell the properties
pub props_same : (types : List PropType) (one other : Props) → AreGrouped one → AreGrouped other
    → held_props types one ≡ held_props types other → one ≡ other
props_same types one other a b same = sym (grouped-back types one a) ∙ ap grouped same ∙ grouped-back types other b

-- ---- the properties of a graph that is well formed

abbrev HaveType : List PropType → ℕ × List Value → Type 0
HaveType types entry = IsSomeAnd (item_at types entry.0) (λ type. AreValues type entry.1)

pub are_grouped : (g : Graph) (ps : Props) → AreProps g ps → AreGrouped ps
are_grouped g ps are = record {
  rising = are.0;
  some = All-map (HaveType g.types) (λ entry. 1 ≤ length entry.1)
      (λ entry have. (some_and (λ type. AreValues type entry.1) (item_at g.types entry.0) have).2.some) ps are.1;
}

item_within : {X : Type 0} (P : X → Type 0) (xs : List X) (n : ℕ) → IsSomeAnd (item_at xs n) P → n < length xs
item_within P [] n is = absurd is
item_within P (x ∷ xs) zero is = omega arith
item_within P (x ∷ xs) (suc n) is = omega (arith, item_within P xs n is)

abbrev values_at : List PropType → ℕ × List Value → List HeldProp
values_at types entry = held_values entry.0 (is_marked_in types entry.0) entry.1

values_fit : (types : List PropType) (entry : ℕ × List Value) → length types < 2 ^ 32 → HaveType types entry → AllByRecursion PropFits (values_at types entry)
values_fit types entry few have =
    let below = item_within (λ type. AreValues type entry.1) types entry.0 have in
    let of_type = some_and (λ type. AreValues type entry.1) (item_at types entry.0) have in
    All-over_map PropFits (λ value. record { number = entry.0; many = is_marked_in types entry.0; value = value }) entry.1
    (All-map (λ value. IsValue value × (of_type.0.kind ≡ kind_of value)) _ (λ value is. record { number = omega arith; value = is.0 }) entry.1 of_type.2.each)

held_fit : (types : List PropType) (ps : Props) → length types < 2 ^ 32 → AllByRecursion (HaveType types) ps → AllByRecursion PropFits (held_props types ps)
held_fit types [] few all = tt
held_fit types (e ∷ es) few all = All-append PropFits (values_at types e) (held_props types es) (values_fit types e few all.0) (held_fit types es few all.1)

pub props_fit : (g : Graph) (ps : Props) → length g.types < 2 ^ 32 → AreProps g ps → AllByRecursion PropFits (held_props g.types ps)
props_fit g ps few are = held_fit g.types ps few are.1

same_kind-itself : (k : Kind) → same_kind k k ≡ true
same_kind-itself kind.Int = refl
same_kind-itself kind.Bool = refl
same_kind-itself kind.Text = refl

values_rise : (n : ℕ) (many : Bool) (k : Kind) (vs : List Value) → AllByRecursion (λ value. IsValue value × (k ≡ kind_of value)) vs
    → (many ≡ false → length vs ≡ 1) → is_rising is_prop_before (held_values n many vs) ≡ true
values_rise n many k [] each single = refl
values_rise n many k (v ∷ []) each single = refl
values_rise n true k (v ∷ w ∷ vs) each single =
    let kinds : same_kind (kind_of v) (kind_of w) ≡ true = rw (← each.0.1, ← each.1.0.1) (same_kind-itself k) in
    let first = or_right (nat_lt n n) ((n == n && true && true) && same_kind (kind_of v) (kind_of w))
    (and_from (n == n && true && true) _ (and_from (n == n && true) true (and_from (n == n) true (eq-eqb n n refl) refl) refl) kinds) in
    and_from _ (is_rising is_prop_before (held_values n true (w ∷ vs))) first (values_rise n true k (w ∷ vs) each.1 (λ no. absurd cc))
values_rise n false k (v ∷ w ∷ vs) each single = absurd (omega (arith, single refl))

-- values of a lesser number stand before these
lesser_before : (n : ℕ) (one other : HeldProp) → one.number ≡ n → n < other.number → is_prop_before one other ≡ true
lesser_before n one other is below = or_left _ _ (lt-ltb one.number other.number (omega arith))

pub values_above : (types : List PropType) (n : ℕ) (ps : Props) → below_all nat_cmp n ps ≡ true → AllByRecursion (λ prop. n < prop.number) (held_props types ps)
values_above types n [] below = tt
values_above types n (e ∷ es) below =
    let parts = and_parts (is_lt (nat_cmp n e.0)) (below_all nat_cmp n es) below in
    let first = less n e.0 parts.0 in
    All-append (λ prop. n < prop.number) (values_at types e) (held_props types es)
    (All-over_map (λ prop. n < prop.number) (λ value. record { number = e.0; many = is_marked_in types e.0; value = value }) e.1 (All-always (λ _. first) e.1))
    (values_above types n es parts.1)

held_rise : (types : List PropType) (ps : Props) → IsMap nat_cmp ps → AllByRecursion (HaveType types) ps → is_rising is_prop_before (held_props types ps) ≡ true
held_rise types [] sorted all = refl
held_rise types (e ∷ es) sorted all =
    let parts = and_parts (below_all nat_cmp e.0 es) (is_sorted nat_cmp es) sorted in
    let of_type = some_and (λ type. AreValues type e.1) (item_at types e.0) all.0 in
    let marked : is_marked_in types e.0 ≡ of_type.0.many = ap (λ found. option_map_or (λ type. type.many) found false) of_type.1 in
    rising-append is_prop_before (λ prop. prop.number ≡ e.0) (λ prop. e.0 < prop.number) (lesser_before e.0) (values_at types e) (held_props types es)
    (All-over_map (λ prop. prop.number ≡ e.0) (λ value. record { number = e.0; many = is_marked_in types e.0; value = value }) e.1 (All-always (λ _. refl) e.1))
    (values_above types e.0 es parts.0)
    (values_rise e.0 (is_marked_in types e.0) of_type.0.kind e.1 of_type.2.each (λ plain. of_type.2.single (sym marked ∙ plain)))
    (held_rise types es parts.1 all.1)

pub props_rise : (g : Graph) (ps : Props) → AreProps g ps → is_rising is_prop_before (held_props g.types ps) ≡ true
props_rise g ps are = held_rise g.types ps are.0 are.1
