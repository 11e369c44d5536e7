-- A vertex with the values of a type more or less.
use Rattle.std.proofs.Common.{◌≡◌, ◌≢◌, ◌∙◌, ℕ, suc, ◌+◌, ◌≤◌, ◌<◌, Bool, true, false, cond, not, ◌&&◌, ◌||◌, eqb, List, [], ◌∷◌, ◌++◌, length, Some, None, refl, sym, ap, subst, ◌⊎◌, inl, inr, arith}
use Rattle.std.specs.Prelude.{is_some, nat_lt, IsTrue}
use Rattle.std.specs.List.{insert, filter, list_any, position, position_or_len, AllByRecursion}
use Rattle.std.specs.Option.{unwrap_or}
use Rattle.std.specs.Ordering.{nat_cmp}
use Rattle.std.specs.Cmp.{nat_cmp_total}
use Rattle.std.specs.FinMap.{nat_cmp-IsAntisymmetric, is_sorted, put}
use Rattle.std.specs.FinMap.Entries.{by_order, below_all}
use Rattle.std.specs.declared.cmp.Ordering.TheVariants.{Less, Equal, Greater}
use Rattle.std.proofs.lemmas.Bool.{and_from, and_parts, or_left, or_right, lt-ltb, eqb-true, eqb-false, ltb-false}
use Rattle.std.proofs.lemmas.Bool.Decides.{nat_tests}
use Rattle.std.proofs.lemmas.List.Elements.{filter-append}
use Rattle.std.proofs.lemmas.List.Folds.{list_any-append}
use Rattle.std.proofs.lemmas.List.Sums.{prefix_len-le-length}
use Rattle.gdi_kinds.specs.declared.value.Value.{Value}
use Rattle.gdi_kinds.specs.declared.value.Kind.{Kind}
use Rattle.gdi_kinds.specs.declared.value.Kind.TheVariants as kind
use Rattle.gdi_kinds.specs.Constraint.{kind_of, same_kind}
use Rattle.gdi_kinds.specs.declared.reply.Reply.TheVariants as reply
use Rattle.graph_model.specs.Maps.{IsMap, at, is_there, with_at, without}
use Rattle.graph_model.specs.Graph.{PropType, Props}
use Rattle.graph_model.proofs.Entries.{All-map, All-filter, All-put, IsMap-put, IsMap-filter}
use Rattle.graph_model.proofs.Sets.{is_eq-nat_cmp}
use Rattle.holder_codec.specs.declared.held_prop.HeldProp.{HeldProp}
use Rattle.holder_codec.specs.declared.vertex_holder.VertexHolder.{VertexHolder}
use Rattle.holder_codec.specs.Order.{is_rising}
use Rattle.holder_codec.specs.Values.{PropFits, is_prop_before, are_of_marked_type}
use Rattle.holder_codec.specs.Vertex.{IsVertexHolder}
use Rattle.holder_codec.specs.Holders.{is_marked_in, held_values, held_props}
use Rattle.holder_codec.proofs.Maps.{All-over_map, All-append, All-always}
use Rattle.holder_codec.proofs.Grouped.{values_above}
use Rattle.held_objects.specs.declared.change.Change.TheVariants.{Refused, Made}
use Rattle.held_objects.specs.Changes.{IfMade, map_made}
use Rattle.vertex_ops.specs.Vertices.{HeldVertex, holder_for, IsOrderly, IsOrderlyWithSingle, valued, unvalued, with_props}
use Rattle.vertex_ops.specs.Holders.{put_prop, without_number, with_value, without_value}

-- ---- lists in an order

module _ {X : Type 0} (before : X → X → Bool) where
  tail_rises : (x : X) (xs : List X) → is_rising before (x ∷ xs) ≡ true → is_rising before xs ≡ true
  tail_rises x [] rising = refl
  tail_rises x (y ∷ ys) rising = (and_parts (before x y) (is_rising before (y ∷ ys)) rising).1

  rising-cons : (x : X) (xs : List X) → AllByRecursion (λ y. before x y ≡ true) xs → is_rising before xs ≡ true → is_rising before (x ∷ xs) ≡ true
  rising-cons x [] all rising = refl
  rising-cons x (y ∷ ys) all rising = and_from (before x y) (is_rising before (y ∷ ys)) all.0 rising

  module _ (trans : (x y z : X) → before x y ≡ true → before y z ≡ true → before x z ≡ true) where
    all_after : (x : X) (xs : List X) → is_rising before (x ∷ xs) ≡ true → AllByRecursion (λ y. before x y ≡ true) xs
    all_after x [] rising = tt
    all_after x (y ∷ ys) rising =
        let parts = and_parts (before x y) (is_rising before (y ∷ ys)) rising in
        (parts.0, All-map (λ z. before y z ≡ true) (λ z. before x z ≡ true) (λ z after. trans x y z parts.0 after) ys (all_after y ys parts.1))

    rising-filter : (p : X → Bool) (xs : List X) → is_rising before xs ≡ true → is_rising before (filter p xs) ≡ true
    rising-filter p [] rising = refl
    rising-filter p (x ∷ xs) rising =
        let rest = rising-filter p xs (tail_rises x xs rising) in
        elim (p x) as (λ b. is_rising before (cond b (x ∷ filter p xs) (filter p xs)) ≡ true) [
          | true ↦ rising-cons x (filter p xs) (All-filter (λ y. before x y ≡ true) (λ y. before x y ≡ true) p (λ _ _ after. after) xs (all_after x xs rising)) rest
          | false ↦ rest
        ]

-- ---- the order of values

either : (a b : Bool) → (a || b) ≡ true → (a ≡ true) ⊎ (b ≡ true)
either true b is = inl refl
either false b is = inr is

same_kind_is : (k l : Kind) → same_kind k l ≡ true → k ≡ l
same_kind_is kind.Int kind.Int is = refl
same_kind_is kind.Bool kind.Bool is = refl
same_kind_is kind.Text kind.Text is = refl
same_kind_is _ _ is = absurd cc

less_is : (m n : ℕ) → nat_lt m n ≡ true → m < n
less_is m n is = grind (arith, nat_tests)

record AreOfMarkedType (one other : HeldProp) : Type 0 where
  number : one.number ≡ other.number
  one_many : one.many ≡ true
  other_many : other.many ≡ true
  kinds : kind_of one.value ≡ kind_of other.value

marked_parts : (one other : HeldProp) → are_of_marked_type one other ≡ true → AreOfMarkedType one other
marked_parts one other is =
    let a = and_parts (eqb one.number other.number && one.many && other.many) (same_kind (kind_of one.value) (kind_of other.value)) is in
    let b = and_parts (eqb one.number other.number && one.many) other.many a.0 in
    let c = and_parts (eqb one.number other.number) one.many b.0 in
    record { number = eqb-true one.number other.number c.0; one_many = c.1; other_many = b.1; kinds = same_kind_is (kind_of one.value) (kind_of other.value) a.1 }

before_trans : (x y z : HeldProp) → is_prop_before x y ≡ true → is_prop_before y z ≡ true → is_prop_before x z ≡ true
before_trans x y z first second =
    elim (either (nat_lt x.number y.number) (are_of_marked_type x y) first) [
      | inl below ↦ elim (either (nat_lt y.number z.number) (are_of_marked_type y z) second) [
        | inl next ↦ lesser (omega (arith, less_is x.number y.number below, less_is y.number z.number next))
        | inr same ↦ lesser (omega (arith, less_is x.number y.number below, (marked_parts y z same).number))
      ]
      | inr marked ↦ elim (either (nat_lt y.number z.number) (are_of_marked_type y z) second) [
        | inl next ↦ lesser (omega (arith, less_is y.number z.number next, (marked_parts x y marked).number))
        | inr same ↦ or_right (nat_lt x.number z.number) (are_of_marked_type x z) (of_one (marked_parts x y marked) same)
      ]
    ]
  where
    lesser : x.number < z.number → is_prop_before x z ≡ true
    lesser below = or_left (nat_lt x.number z.number) (are_of_marked_type x z) (lt-ltb x.number z.number below)

    of_one : AreOfMarkedType x y → are_of_marked_type y z ≡ true → are_of_marked_type x z ≡ true
    of_one alike same =
        ap (λ n. (eqb n z.number && x.many && z.many) && same_kind (kind_of x.value) (kind_of z.value)) alike.number
        ∙ (ap (λ k. (eqb y.number z.number && x.many && z.many) && same_kind k (kind_of z.value)) alike.kinds
        ∙ (ap (λ b. (eqb y.number z.number && b && z.many) && same_kind (kind_of y.value) (kind_of z.value)) (alike.one_many ∙ sym alike.other_many) ∙ same))

-- ---- a value in its place

abbrev pub goes_on : HeldProp → HeldProp → Bool
goes_on prop one = nat_lt prop.number one.number

pub insert_at_first : (prop : HeldProp) (ps : List HeldProp) → insert ps (position_or_len (goes_on prop) ps) prop ≡ put_prop prop ps
insert_at_first prop [] = refl
insert_at_first prop (p ∷ ps) =
    let n = position_or_len (goes_on prop) ps in
    let next : 1 + n ≡ suc n = omega arith in
    elim (nat_lt prop.number p.number) as (λ b. insert (p ∷ ps) (cond (not b) (1 + n) 0) prop ≡ cond b (prop ∷ p ∷ ps) (p ∷ put_prop prop ps)) [
      | true ↦ refl
      | false ↦ ap (λ i. insert (p ∷ ps) i prop) next ∙ ap (λ (rest : List HeldProp). p ∷ rest) (insert_at_first prop ps)
    ]

All-put_prop : (P : HeldProp → Type 0) (prop : HeldProp) (ps : List HeldProp) → P prop → AllByRecursion P ps → AllByRecursion P (put_prop prop ps)
All-put_prop P prop [] here all = (here, tt)
All-put_prop P prop (p ∷ ps) here all =
    elim (nat_lt prop.number p.number) as (λ b. AllByRecursion P (cond b (prop ∷ p ∷ ps) (p ∷ put_prop prop ps))) [
      | true ↦ (here, all)
      | false ↦ (all.0, All-put_prop P prop ps here all.1)
    ]

before_by_number : (one other : HeldProp) → one.number < other.number → is_prop_before one other ≡ true
before_by_number one other below = or_left (nat_lt one.number other.number) (are_of_marked_type one other) (lt-ltb one.number other.number below)

rising-put_prop : (prop : HeldProp) (ps : List HeldProp) → AllByRecursion (λ one. one.number ≢ prop.number) ps → is_rising is_prop_before ps ≡ true → is_rising is_prop_before (put_prop prop ps) ≡ true
rising-put_prop prop [] apart rising = refl
rising-put_prop prop (p ∷ ps) apart rising = cases (nat_lt prop.number p.number) refl (rising-put_prop prop ps apart.1 (tail_rises is_prop_before p ps rising))
  where
    lesser : p.number ≤ prop.number → p.number ≢ prop.number → p.number < prop.number
    lesser le ne = omega arith

    cases : (b : Bool) → nat_lt prop.number p.number ≡ b → is_rising is_prop_before (put_prop prop ps) ≡ true → is_rising is_prop_before (cond b (prop ∷ p ∷ ps) (p ∷ put_prop prop ps)) ≡ true
    cases true below rest = and_from (is_prop_before prop p) (is_rising is_prop_before (p ∷ ps)) (before_by_number prop p (less_is prop.number p.number below)) rising
    cases false above rest =
        rising-cons is_prop_before p (put_prop prop ps)
        (All-put_prop (λ q. is_prop_before p q ≡ true) prop ps (before_by_number p prop (lesser (ltb-false prop.number p.number above) apart.0)) (all_after is_prop_before before_trans p ps rising))
        rest

left_apart : (n : ℕ) (ps : List HeldProp) → AllByRecursion (λ one. one.number ≢ n) (without_number n ps)
left_apart n [] = tt
left_apart n (p ∷ ps) = cases (eqb p.number n) refl (left_apart n ps)
  where
    cases : (b : Bool) → eqb p.number n ≡ b → AllByRecursion (λ one. one.number ≢ n) (without_number n ps) → AllByRecursion (λ one. one.number ≢ n) (cond (not b) (p ∷ without_number n ps) (without_number n ps))
    cases true same rest = rest
    cases false other rest = (eqb-false p.number n other, rest)

-- where it is put
pub place_is : (p : HeldProp → Bool) (ps : List HeldProp) → unwrap_or (position p ps) (length ps) ≡ position_or_len p ps
place_is p ps = cases (nat_lt (position_or_len p ps) (length ps)) refl
  where
    cases : (b : Bool) → nat_lt (position_or_len p ps) (length ps) ≡ b → unwrap_or (cond b (Some (position_or_len p ps)) None) (length ps) ≡ position_or_len p ps
    cases true within = refl
    cases false behind = omega (arith, ltb-false (position_or_len p ps) (length ps) behind, prefix_len-le-length (λ (one : HeldProp). not (p one)) ps)

pub place_within : (p : HeldProp → Bool) (ps : List HeldProp) → position_or_len p ps ≤ length ps
place_within p ps = prefix_len-le-length (λ (one : HeldProp). not (p one)) ps

-- ---- what has a spelling

with : (holder : VertexHolder) (props : List HeldProp) → AllByRecursion PropFits props → IsTrue (is_rising is_prop_before props) → IsVertexHolder holder → IsVertexHolder (record holder { props = props })
with holder props fit rise is = record {
  id = is.id;
  next = is.next;
  labels = is.labels;
  labels_rise = is.labels_rise;
  props = fit;
  props_rise = rise;
  edges = is.edges;
  edges_rise = is.edges_rise;
}

fit_without : (n : ℕ) (ps : List HeldProp) → AllByRecursion PropFits ps → AllByRecursion PropFits (without_number n ps)
fit_without n ps fit = All-filter PropFits PropFits (λ one. not (eqb one.number n)) (λ _ _ fits. fits) ps fit

pub prop_put : (holder : VertexHolder) (prop : HeldProp) (props : List HeldProp) → props ≡ put_prop prop (without_number prop.number holder.props) → PropFits prop → IsVertexHolder holder
    → IsVertexHolder (record holder { props = props })
prop_put holder prop props is fits holds =
    let left = without_number prop.number holder.props in
    with holder props (subst (AllByRecursion PropFits) (sym is) (All-put_prop PropFits prop left fits (fit_without prop.number holder.props holds.props)))
    (subst (λ (ps : List HeldProp). IsTrue (is_rising is_prop_before ps)) (sym is)
    (rising-put_prop prop left (left_apart prop.number holder.props) (rising-filter is_prop_before before_trans (λ one. not (eqb one.number prop.number)) holder.props holds.props_rise))) holds

pub prop_left_out : (holder : VertexHolder) (n : ℕ) (props : List HeldProp) → props ≡ without_number n holder.props → IsVertexHolder holder → IsVertexHolder (record holder { props = props })
prop_left_out holder n props is holds =
    with holder props (subst (AllByRecursion PropFits) (sym is) (fit_without n holder.props holds.props))
    (subst (λ (ps : List HeldProp). IsTrue (is_rising is_prop_before ps)) (sym is) (rising-filter is_prop_before before_trans (λ one. not (eqb one.number n)) holder.props holds.props_rise)) holds

-- ---- as the graph has it

abbrev values_at : List PropType → ℕ × List Value → List HeldProp
values_at types entry = held_values entry.0 (is_marked_in types entry.0) entry.1

numbered : (P : ℕ → Type 0) (types : List PropType) (entry : ℕ × List Value) → P entry.0 → AllByRecursion (λ one. P one.number) (values_at types entry)
numbered P types entry is =
    All-over_map (λ (one : HeldProp). P one.number) (λ value. record { number = entry.0; many = is_marked_in types entry.0; value = value }) entry.1 (All-always (λ _. is) entry.1)

all_kept : {X : Type 0} (p : X → Bool) (xs : List X) → AllByRecursion (λ x. p x ≡ true) xs → filter p xs ≡ xs
all_kept p [] all = refl
all_kept p (x ∷ xs) all = ap (λ b. cond b (x ∷ filter p xs) (filter p xs)) all.0 ∙ ap (λ rest. x ∷ rest) (all_kept p xs all.1)

none_kept : {X : Type 0} (p : X → Bool) (xs : List X) → AllByRecursion (λ x. p x ≡ false) xs → filter p xs ≡ []
none_kept p [] all = refl
none_kept p (x ∷ xs) all = ap (λ b. cond b (x ∷ filter p xs) (filter p xs)) all.0 ∙ none_kept p xs all.1

-- values of some types are those of the properties of these types
held_where : (types : List PropType) (p : ℕ → Bool) (es : Props) → filter (λ one. p one.number) (held_props types es) ≡ held_props types (filter (λ entry. p entry.0) es)
held_where types p [] = refl
held_where types p (e ∷ es) = filter-append (λ (one : HeldProp). p one.number) (values_at types e) (held_props types es) ∙ cases (p e.0) refl (held_where types p es)
  where
    cases : (b : Bool) → p e.0 ≡ b → filter (λ one. p one.number) (held_props types es) ≡ held_props types (filter (λ entry. p entry.0) es)
        → filter (λ one. p one.number) (values_at types e) ++ filter (λ one. p one.number) (held_props types es)
        ≡ held_props types (cond b (e ∷ filter (λ entry. p entry.0) es) (filter (λ entry. p entry.0) es))
    cases true is rest =
        ap (λ (front : List HeldProp). front ++ filter (λ one. p one.number) (held_props types es)) (all_kept (λ (one : HeldProp). p one.number) (values_at types e) (numbered (λ n. p n ≡ true) types e is))
        ∙ ap (λ (behind : List HeldProp). values_at types e ++ behind) rest
    cases false is rest =
        ap (λ (front : List HeldProp). front ++ filter (λ one. p one.number) (held_props types es)) (none_kept (λ (one : HeldProp). p one.number) (values_at types e) (numbered (λ n. p n ≡ false) types e is))
        ∙ rest

put_before : (prop : HeldProp) (ps : List HeldProp) → AllByRecursion (λ one. prop.number < one.number) ps → put_prop prop ps ≡ prop ∷ ps
put_before prop [] all = refl
put_before prop (p ∷ ps) all = ap (λ b. cond b (prop ∷ p ∷ ps) (p ∷ put_prop prop ps)) (lt-ltb prop.number p.number all.0)

put_behind : (prop : HeldProp) (ps qs : List HeldProp) → AllByRecursion (λ one. nat_lt prop.number one.number ≡ false) ps → put_prop prop (ps ++ qs) ≡ ps ++ put_prop prop qs
put_behind prop [] qs all = refl
put_behind prop (p ∷ ps) qs all =
    ap (λ b. cond b (prop ∷ p ∷ (ps ++ qs)) (p ∷ put_prop prop (ps ++ qs))) all.0 ∙ ap (λ (rest : List HeldProp). p ∷ rest) (put_behind prop ps qs all.1)

not_same : (m n : ℕ) → n < m → not (eqb m n) ≡ true
not_same m n above = grind (arith, nat_tests)

without_lesser : (n : ℕ) (ps : List HeldProp) → AllByRecursion (λ one. n < one.number) ps → without_number n ps ≡ ps
without_lesser n ps all = all_kept (λ (one : HeldProp). not (eqb one.number n)) ps (All-map (λ (one : HeldProp). n < one.number) (λ one. not (eqb one.number n) ≡ true) (λ one above. not_same one.number n above) ps all)

module _ (types : List PropType) (n : ℕ) (value : Value) (single : is_marked_in types n ≡ false) where
  abbrev prop : HeldProp
  prop = record { number = n; many = false; value = value }

  abbrev held : Props → List HeldProp
  held es = held_props types es

  placed : (es : Props) → prop ∷ held es ≡ held ((n, value ∷ []) ∷ es)
  placed es = ap (λ b. let one : HeldProp = record { number = n; many = b; value = value } in one ∷ held es) (sym single)

  valued_held : (es : Props) → IsMap nat_cmp es → put_prop prop (without_number n (held es)) ≡ held (with_at es n (value ∷ []))
  valued_held [] sorted = placed []
  valued_held (e ∷ es) sorted =
      elim (nat_cmp n e.0) as (λ o. nat_cmp n e.0 ≡ o → put_prop prop (without_number n (held (e ∷ es)))
      ≡ held (by_order o ((n, value ∷ []) ∷ e ∷ es) ((e.0, value ∷ []) ∷ es) (e ∷ put nat_cmp n (value ∷ []) es))) [
        | Less ↦ λ is.
            let below : n < e.0 = grind (arith, nat_tests) in
            let all = All-append (λ (one : HeldProp). n < one.number) (values_at types e) (held es) (numbered (λ m. n < m) types e below)
            (All-map (λ (one : HeldProp). e.0 < one.number) (λ one. n < one.number) (λ one above. further one.number below above) (held es) later) in
            ap (put_prop prop) (without_lesser n (held (e ∷ es)) all) ∙ (put_before prop (held (e ∷ es)) all ∙ placed (e ∷ es))
        | Equal ↦ λ is.
            let same : n ≡ e.0 = nat_cmp-IsAntisymmetric n e.0 is in
            let all = subst (λ m. AllByRecursion (λ (one : HeldProp). m < one.number) (held es)) (sym same) later in
            ap (put_prop prop) (filter-append (λ (one : HeldProp). not (eqb one.number n)) (values_at types e) (held es)
            ∙ (ap (λ (front : List HeldProp). front ++ without_number n (held es)) (none_kept (λ (one : HeldProp). not (eqb one.number n)) (values_at types e) (numbered (λ m. not (eqb m n) ≡ false) types e (tied same)))
            ∙ without_lesser n (held es) all)) ∙ (put_before prop (held es) all ∙ (placed es ∙ ap (λ m. held ((m, value ∷ []) ∷ es)) same))
        | Greater ↦ λ is.
            let above : e.0 < n = grind (arith, nat_tests) in
            ap (put_prop prop) (filter-append (λ (one : HeldProp). not (eqb one.number n)) (values_at types e) (held es)
            ∙ ap (λ (front : List HeldProp). front ++ without_number n (held es)) (all_kept (λ (one : HeldProp). not (eqb one.number n)) (values_at types e) (numbered (λ m. not (eqb m n) ≡ true) types e (other above))))
            ∙ (put_behind prop (values_at types e) (without_number n (held es)) (numbered (λ m. nat_lt n m ≡ false) types e (not_above above))
            ∙ ap (λ (behind : List HeldProp). values_at types e ++ behind) (valued_held es parts.1))
      ] refl
    where
      parts : (below_all nat_cmp e.0 es ≡ true) × (is_sorted nat_cmp es ≡ true)
      parts = and_parts (below_all nat_cmp e.0 es) (is_sorted nat_cmp es) sorted

      later : AllByRecursion (λ one. e.0 < one.number) (held es)
      later = values_above types e.0 es parts.0

      further : (m : ℕ) → n < e.0 → e.0 < m → n < m
      further m below above = omega arith

      tied : n ≡ e.0 → not (eqb e.0 n) ≡ false
      tied same = grind (arith, nat_tests)

      other : e.0 < n → not (eqb e.0 n) ≡ true
      other above = grind (arith, nat_tests)

      not_above : e.0 < n → nat_lt n e.0 ≡ false
      not_above above = grind (arith, nat_tests)

any_value : (n m : ℕ) (many : Bool) (v : Value) (vs : List Value) → list_any (λ one. eqb one.number n) (held_values m many (v ∷ vs)) ≡ eqb m n
any_value n m many v [] = elim (eqb m n) as (λ b. (b || false) ≡ b) [ true ↦ refl | false ↦ refl ]
any_value n m many v (w ∷ vs) =
    ap (λ b. eqb m n || b) (any_value n m many w vs) ∙ (elim (eqb m n) as (λ b. (b || b) ≡ b) [ true ↦ refl | false ↦ refl ])

any_of : (n m : ℕ) (many : Bool) (vs : List Value) → 1 ≤ length vs → list_any (λ one. eqb one.number n) (held_values m many vs) ≡ eqb m n
any_of n m many [] some = absurd (omega arith)
any_of n m many (v ∷ vs) some = any_value n m many v vs

-- a type has values where the property is there
any_held : (types : List PropType) (n : ℕ) (es : Props) → AllByRecursion (λ entry. 1 ≤ length entry.1) es → list_any (λ one. eqb one.number n) (held_props types es) ≡ is_there es n
any_held types n [] some = refl
any_held types n (e ∷ es) some =
    let rest = at es n in
    list_any-append (λ (one : HeldProp). eqb one.number n) (values_at types e) (held_props types es)
    ∙ ((λ i. any_of n e.0 (is_marked_in types e.0) e.1 some.0 i || any_held types n es some.1 i)
    ∙ (sym (elim (eqb e.0 n) as (λ b. is_some (cond b (Some e.1) rest) ≡ (b || is_some rest)) [ true ↦ refl | false ↦ refl ])
    ∙ ap (λ b. is_some (cond b (Some e.1) rest)) (sym (is_eq-nat_cmp n e.0))))

pub valued_is : (n : ℕ) (value : Value) (held : HeldVertex) → IsOrderlyWithSingle n held → with_value n value (holder_for held) ≡ map_made holder_for (valued n value held)
valued_is n value held is =
    ap (λ (ps : List HeldProp). Made (record (holder_for held) { props = ps })) (valued_held held.types n value is.single held.vertex.props is.orderly.props)

pub valued_orderly : (n : ℕ) (value : Value) (held : HeldVertex) → IsOrderlyWithSingle n held → IfMade (IsOrderlyWithSingle n) (valued n value held)
valued_orderly n value held is = record {
  orderly = record {
    labels = is.orderly.labels;
    props = IsMap-put nat_cmp nat_cmp_total n (value ∷ []) held.vertex.props is.orderly.props;
    some = All-put nat_cmp nat_cmp-IsAntisymmetric (λ entry. 1 ≤ length entry.1) n (value ∷ []) held.vertex.props (omega arith) is.orderly.some;
  };
  single = is.single;
}

pub unvalued_is : (n : ℕ) (held : HeldVertex) → IsOrderly held → without_value n (holder_for held) ≡ map_made holder_for (unvalued n held)
unvalued_is n held is =
    ap (λ b. cond b (Made (record (holder_for held) { props = without_number n (held_props held.types held.vertex.props) })) (Refused reply.NoProp)) (any_held held.types n held.vertex.props is.some)
    ∙ (elim (is_there held.vertex.props n) as (λ b. cond b (Made (record (holder_for held) { props = without_number n (held_props held.types held.vertex.props) })) (Refused reply.NoProp)
    ≡ map_made holder_for (cond b (Made (with_props (without held.vertex.props n) held)) (Refused reply.NoProp))) [
      | true ↦ ap (λ (ps : List HeldProp). Made (record (holder_for held) { props = ps })) (held_where held.types (λ m. not (eqb m n)) held.vertex.props)
      | false ↦ refl
    ])

pub unvalued_orderly : (n : ℕ) (held : HeldVertex) → IsOrderly held → IfMade IsOrderly (unvalued n held)
unvalued_orderly n held is =
    elim (is_there held.vertex.props n) as (λ b. IfMade IsOrderly (cond b (Made (with_props (without held.vertex.props n) held)) (Refused reply.NoProp))) [
      | true ↦ record {
        labels = is.labels;
        props = IsMap-filter nat_cmp (λ entry. not (eqb entry.0 n)) held.vertex.props is.props;
        some = All-filter (λ entry. 1 ≤ length entry.1) (λ entry. 1 ≤ length entry.1) (λ entry. not (eqb entry.0 n)) (λ _ _ there. there) held.vertex.props is.some;
      }
      | false ↦ tt
    ]
