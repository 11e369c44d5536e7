-- The vertices of a label are those of all slots.
use Rattle.std.proofs.Common.{◌≡◌, ◌≢◌, ℕ, ◌+◌, ◌*◌, ◌/◌, ◌%◌, ◌<◌, ◌≤◌, Bool, true, false, cond, ◌&&◌, ◌||◌, eqb, List, [], ◌∷◌, ◌++◌, map, Some, None, sum_by, refl, sym, ap, subst, ◌∙◌, arith, eq-eqb, eqb-true}
use Rattle.std.specs.Prelude.{nat_lt}
use Rattle.std.specs.List.{AllByRecursion, filter}
use Rattle.std.specs.List.Sorted.{IsPermutation, IsSorted}
use Rattle.std.specs.Ordering.{nat_cmp, is_lt, eq_by_cmp}
use Rattle.std.specs.FinMap.{is_sorted}
use Rattle.std.specs.FinMap.Entries.{below_all}
use Rattle.std.proofs.lemmas.Bool.{and_parts, and_from, or_parts, lt-ltb, eqb-false}
use Rattle.std.proofs.lemmas.Bool.Decides.{nat_tests}
use Rattle.std.proofs.lemmas.Nat.{div-add-mod', div-mul-add, mod_below, mod-mul-add}
use Rattle.std.proofs.Math.Nat.{mul-le-mul_right}
use Rattle.std.proofs.lemmas.List.Sorted.{sum_by-IsPermutation}
use Rattle.std.proofs.lemmas.List.Sums.{sum_by-cons, sum_by-append}
use Rattle.rma_layout.specs.Shape.{Shape}
use Rattle.rma_layout.specs.Ranges.{IsInRange}
use Rattle.rma_layout.specs.Placement.{Place, same_place, home_of, IsBlock}
use Rattle.object_words.specs.Contents.{Contents, IsByRisingObject, overlay}
use Rattle.graph_model.specs.Maps.{has}
use Rattle.object_store.specs.State.{StoreState}
use Rattle.object_store.specs.Works.{Looks}
use Rattle.object_store.proofs.Working.{stays-same}
use Rattle.object_store.proofs.Works.{looks-then}
use Rattle.holder_codec.specs.declared.index_entry.IndexEntry.{IndexEntry}
use Rattle.holder_codec.specs.Index.{is_pair_before}
use Rattle.holder_codec.specs.Order.{is_rising}
use Rattle.holder_codec.specs.Represents.{IsSlot}
use Rattle.held_objects.specs.Knows.{Knows}
use Rattle.held_objects.proofs.Knows.{knows_after, still}
use Rattle.rising_lists.specs.Rising.{by_key}
use Rattle.rising_lists.proofs.Rising.{is_rising-where}
use Rattle.label_index.specs.Entries.{Pair, pair_of, pair_cmp, slot_for, slot_at, entries_in, entry_for}
use Rattle.label_index.specs.Index.{IsIndexed, Indexes, WhereverIndexed, Lists, ListsSlot, ids_of}
use Rattle.label_index.proofs.Keys.{equal_is, pair_total, pair_same, before_is}
use Rattle.label_index.proofs.Knows.{still_known}
use Rattle.label_index.proofs.Orders.{Rise, rise_from_sort, same_rise}
use Rattle.label_index.proofs.Slots.{sorted_of}

-- ---- the vertices of a label rise

abbrev has_label : ℕ → IndexEntry → Bool
has_label label entry = eqb entry.label label

id_above : (label : ℕ) (one other : IndexEntry) → is_lt (pair_cmp (pair_of one) (pair_of other)) ≡ true → one.label ≡ label → other.label ≡ label → one.id ≤ other.id
id_above label one other less a b =
    let before : is_pair_before one other ≡ true = before_is one other ∙ less in
    grind (arith, nat_tests)

ids_above : (label : ℕ) (one : IndexEntry) (es : List IndexEntry) → one.label ≡ label → AllByRecursion (λ entry. entry.label ≡ label) es → below_all pair_cmp (pair_of one) (by_key pair_of es) ≡ true
    → AllByRecursion (λ id. one.id ≤ id) (map (λ entry. entry.id) es)
ids_above label one [] is all below = tt
ids_above label one (e ∷ es) is all below =
    let parts = and_parts (is_lt (pair_cmp (pair_of one) (pair_of e))) (below_all pair_cmp (pair_of one) (by_key pair_of es)) below in
    (id_above label one e parts.0 is all.0, ids_above label one es is all.1 parts.1)

rise_ids : (label : ℕ) (es : List IndexEntry) → AllByRecursion (λ entry. entry.label ≡ label) es → is_sorted pair_cmp (by_key pair_of es) ≡ true → Rise (map (λ entry. entry.id) es)
rise_ids label [] all sorted = tt
rise_ids label (e ∷ es) all sorted =
    let parts = and_parts (below_all pair_cmp (pair_of e) (by_key pair_of es)) (is_sorted pair_cmp (by_key pair_of es)) sorted in
    (ids_above label e es all.0 all.1 parts.0, rise_ids label es all.1 parts.1)

of_label : (label : ℕ) (es : List IndexEntry) → AllByRecursion (λ entry. entry.label ≡ label) (filter (has_label label) es)
of_label label [] = tt
of_label label (e ∷ es) = cases (has_label label e) refl (of_label label es)
  where
    cases : (b : Bool) → has_label label e ≡ b → AllByRecursion (λ entry. entry.label ≡ label) (filter (has_label label) es)
        → AllByRecursion (λ entry. entry.label ≡ label) (cond b (e ∷ filter (has_label label) es) (filter (has_label label) es))
    cases true is rest = (eqb-true e.label label is, rest)
    cases false is rest = rest

pub rise_of_label : (label : ℕ) (es : List IndexEntry) → is_rising is_pair_before es ≡ true → Rise (ids_of label es)
rise_of_label label es rising =
    rise_ids label (filter (has_label label) es) (of_label label es)
    (sorted_of (filter (has_label label) es) (is_rising-where pair_of pair_total pair_same is_pair_before before_is (λ pair. eqb pair.0 label) es rising))

-- ---- the slots have numbers

abbrev number_of : Shape → Pair → ℕ
number_of shape pair = home_of shape pair.1 * shape.slots + (pair.0 + pair.1 / shape.ranks) % shape.slots

number_below : (shape : Shape) (pair : Pair) → IsInRange shape → number_of shape pair < shape.ranks * shape.slots
number_below shape pair ranges =
    let rank = mod_below pair.1 shape.ranks (omega (arith, ranges.ranks)) in
    let block = mod_below (pair.0 + pair.1 / shape.ranks) shape.slots (omega (arith, ranges.slots)) in
    let rows : (home_of shape pair.1 + 1) * shape.slots ≤ shape.ranks * shape.slots = mul-le-mul_right shape.slots (omega arith) in
    omega arith

pub slot_at_is : (shape : Shape) (n : ℕ) → IsInRange shape → n < shape.ranks * shape.slots → IsSlot shape (slot_at shape n)
slot_at_is shape n ranges below =
    let some : 0 < shape.slots = omega (arith, ranges.slots) in
    let block = mod_below n shape.slots some in
    record { rank = row n shape.slots shape.ranks some below; block = (omega arith, omega arith) }
  where
    row : (n slots ranks : ℕ) → 0 < slots → n < ranks * slots → n / slots < ranks
    row n slots ranks some below = cases (nat_lt (n / slots) ranks) refl
      where
        cases : (b : Bool) → nat_lt (n / slots) ranks ≡ b → n / slots < ranks
        cases true is = grind (arith, nat_tests)
        cases false is =
            let le : ranks ≤ n / slots = grind (arith, nat_tests) in
            absurd (omega (arith, mul-le-mul_right slots le, div-add-mod' n slots))

pub slot_at_block : {shape : Shape} {n : ℕ} {place : Place} → place ≡ slot_at shape n → IsInRange shape → n < shape.ranks * shape.slots → IsBlock shape place
slot_at_block {shape} {n} {place} here ranges below =
    let is = slot_at_is shape n ranges below in
    subst (IsBlock shape) (sym here) (is.rank, omega (arith, is.block, ranges.blocks))

-- an entry is in the slot of its number alone
pub in_slot : (shape : Shape) (pair : Pair) (n : ℕ) → IsInRange shape → same_place (slot_for shape pair) (slot_at shape n) ≡ eqb (number_of shape pair) n
in_slot shape pair n ranges = cases (eqb (number_of shape pair) n) refl
  where
    rank : ℕ
    rank = home_of shape pair.1

    place : ℕ
    place = (pair.0 + pair.1 / shape.ranks) % shape.slots

    cases : (b : Bool) → eqb (number_of shape pair) n ≡ b → same_place (slot_for shape pair) (slot_at shape n) ≡ b
    cases true is =
        let here = eqb-true (number_of shape pair) n is in
        let within = mod_below (pair.0 + pair.1 / shape.ranks) shape.slots (omega (arith, ranges.slots)) in
        let ranks_same : home_of shape pair.1 ≡ n / shape.slots = sym (ap (λ k. k / shape.slots) (sym here) ∙ div-mul-add (home_of shape pair.1) shape.slots ((pair.0 + pair.1 / shape.ranks) % shape.slots) within) in
        let places_same : (pair.0 + pair.1 / shape.ranks) % shape.slots ≡ n % shape.slots = sym (ap (λ k. k % shape.slots) (sym here) ∙ mod-mul-add (home_of shape pair.1) shape.slots ((pair.0 + pair.1 / shape.ranks) % shape.slots) within) in
        and_from _ _ (eq-eqb _ _ ranks_same) (eq-eqb _ _ (ap (λ k. 1 + shape.buckets + k) places_same))
    cases false is = other (same_place (slot_for shape pair) (slot_at shape n)) refl
      where
        apart : eqb (number_of shape pair) n ≡ false → number_of shape pair ≢ n
        apart is = grind (arith, nat_tests)

        other : (b : Bool) → same_place (slot_for shape pair) (slot_at shape n) ≡ b → b ≡ false
        other true same =
            let parts = and_parts (eqb (home_of shape pair.1) (n / shape.slots)) (eqb (1 + shape.buckets + (pair.0 + pair.1 / shape.ranks) % shape.slots) (1 + shape.buckets + n % shape.slots)) same in
            let ranks_same = eqb-true _ _ parts.0 in
            let places_same = eqb-true _ _ parts.1 in
            absurd (apart is (ap (λ r. r * shape.slots + (pair.0 + pair.1 / shape.ranks) % shape.slots) ranks_same ∙ omega (arith, places_same, div-add-mod' n shape.slots)))
        other false same = refl

-- ---- the vertices of a label in the slots so far

abbrev pub seen : Shape → ℕ → List IndexEntry → List IndexEntry
seen shape n entries = filter (λ entry. nat_lt (number_of shape (pair_of entry)) n) entries

module _ (f : ℕ → ℕ) (label : ℕ) where
  abbrev total : (IndexEntry → Bool) → List IndexEntry → ℕ
  total p entries = sum_by f (ids_of label (filter p entries))

  abbrev one_of : IndexEntry → ℕ
  one_of entry = cond (has_label label entry) (f entry.id) 0

  sum_of : (e : IndexEntry) (es : List IndexEntry) → sum_by f (ids_of label (e ∷ es)) ≡ one_of e + sum_by f (ids_of label es)
  sum_of e es =
      elim (has_label label e) as (λ b. sum_by f (map (λ entry. entry.id) (cond b (e ∷ filter (has_label label) es) (filter (has_label label) es))) ≡ cond b (f e.id) 0 + sum_by f (ids_of label es)) [
        | true ↦ sum_by-cons f e.id (ids_of label es)
        | false ↦ omega arith
      ]

  total_of : (p : IndexEntry → Bool) (e : IndexEntry) (es : List IndexEntry) → total p (e ∷ es) ≡ cond (p e) (one_of e) 0 + total p es
  total_of p e es =
      elim (p e) as (λ b. sum_by f (ids_of label (cond b (e ∷ filter p es) (filter p es))) ≡ cond b (one_of e) 0 + total p es) [
        | true ↦ sum_of e (filter p es)
        | false ↦ omega arith
      ]

  parted : (p q r : IndexEntry → Bool) → ((e : IndexEntry) → r e ≡ (p e || q e)) → ((e : IndexEntry) → (p e && q e) ≡ false) → (es : List IndexEntry) → total r es ≡ total p es + total q es
  parted p q r both apart [] = refl
  parted p q r both apart (e ∷ es) =
      let here : cond (r e) (one_of e) 0 ≡ cond (p e) (one_of e) 0 + cond (q e) (one_of e) 0 = ap (λ b. cond b (one_of e) 0) (both e) ∙ split (p e) (q e) (one_of e) (apart e) in
      omega (arith, total_of r e es, total_of p e es, total_of q e es, here, parted p q r both apart es)
    where
      split : (a b : Bool) (m : ℕ) → (a && b) ≡ false → cond (a || b) m 0 ≡ cond a m 0 + cond b m 0
      split true true m never = absurd cc
      split true false m never = omega arith
      split false true m never = omega arith
      split false false m never = refl

  one_slot_more : (shape : Shape) (n : ℕ) (entries : List IndexEntry) → IsInRange shape
      → sum_by f (ids_of label (seen shape (n + 1) entries)) ≡ sum_by f (ids_of label (seen shape n entries)) + sum_by f (ids_of label (entries_in shape entries (slot_at shape n)))
  one_slot_more shape n entries ranges =
      parted (λ entry. nat_lt (number_of shape (pair_of entry)) n) (λ entry. same_place (slot_for shape (pair_of entry)) (slot_at shape n)) (λ entry. nat_lt (number_of shape (pair_of entry)) (n + 1))
      (λ e. up_to (number_of shape (pair_of e)) ∙ ap (λ b. nat_lt (number_of shape (pair_of e)) n || b) (sym (in_slot shape (pair_of e) n ranges)))
      (λ e. ap (λ b. nat_lt (number_of shape (pair_of e)) n && b) (in_slot shape (pair_of e) n ranges) ∙ never (number_of shape (pair_of e))) entries
    where
      up_to : (k : ℕ) → nat_lt k (n + 1) ≡ (nat_lt k n || eqb k n)
      up_to k = grind (arith, nat_tests)

      never : (k : ℕ) → (nat_lt k n && eqb k n) ≡ false
      never k = grind (arith, nat_tests)

none_seen : (shape : Shape) (entries : List IndexEntry) → seen shape 0 entries ≡ []
none_seen shape [] = refl
none_seen shape (e ∷ es) = ap (λ b. cond b (e ∷ seen shape 0 es) (seen shape 0 es)) (none_below (number_of shape (pair_of e))) ∙ none_seen shape es
  where
    none_below : (k : ℕ) → nat_lt k 0 ≡ false
    none_below k = grind (arith, nat_tests)

all_seen : (shape : Shape) (entries : List IndexEntry) → IsInRange shape → seen shape (shape.ranks * shape.slots) entries ≡ entries
all_seen shape [] ranges = refl
all_seen shape (e ∷ es) ranges =
    ap (λ b. cond b (e ∷ seen shape (shape.ranks * shape.slots) es) (seen shape (shape.ranks * shape.slots) es)) (lt-ltb _ _ (number_below shape (pair_of e) ranges))
    ∙ ap (λ (rest : List IndexEntry). e ∷ rest) (all_seen shape es ranges)

-- ---- what isn't listed isn't there

abbrev tied_with : Pair → IndexEntry → Bool
tied_with pair entry = eq_by_cmp pair_cmp pair (pair_of entry)

untied : (pair : Pair) (entry : IndexEntry) → (pair ≢ pair_of entry) → tied_with pair entry ≡ false
untied pair entry apart = cases (tied_with pair entry) refl
  where
    cases : (b : Bool) → tied_with pair entry ≡ b → b ≡ false
    cases true tie = absurd (apart (pair_same pair (pair_of entry) (equal_is (pair_cmp pair (pair_of entry)) tie)))
    cases false tie = refl

none_unlisted : (label id : ℕ) (entries : List IndexEntry) → has (ids_of label entries) id ≡ false → entry_for entries (label, id) ≡ None
none_unlisted label id [] none = refl
none_unlisted label id (e ∷ es) none = cases (has_label label e) refl none (none_unlisted label id es)
  where
    rest : List ℕ
    rest = ids_of label es

    apart_from : (label, id) ≢ pair_of e → entry_for es (label, id) ≡ None → entry_for (e ∷ es) (label, id) ≡ None
    apart_from apart later = ap (λ b. cond b (Some e) (entry_for es (label, id))) (untied (label, id) e apart) ∙ later

    cases : (b : Bool) → has_label label e ≡ b → has (map (λ entry. entry.id) (cond b (e ∷ filter (has_label label) es) (filter (has_label label) es))) id ≡ false
        → (has (ids_of label es) id ≡ false → entry_for es (label, id) ≡ None) → entry_for (e ∷ es) (label, id) ≡ None
    cases true is none later =
        let parts = or_parts (eqb e.id id) (has (ids_of label es) id) none in
        apart_from (λ same. eqb-false e.id id parts.0 (sym (ap (λ (pair : Pair). pair.1) same))) (later parts.1)
    cases false is none later = apart_from (λ same. eqb-false e.label label is (sym (ap (λ (pair : Pair). pair.0) same))) (later none)

-- ---- as the transaction finds them

module _ {N : Type 0} where
  -- so many slots were looked at
  pub record Collects (label n : ℕ) (old new : StoreState N) (ids : List ℕ) : Type 0 where
    pub looks : Looks old new
    pub sums : WhereverIndexed old new (λ _ entries. (f : ℕ → ℕ) → sum_by f ids ≡ sum_by f (ids_of label (seen old.shape n entries)))

  pub collects_none : {label : ℕ} {old new : StoreState N} → new ≡ old → Collects label 0 old new []
  collects_none {label} {old} {new} same = record {
    looks = subst (Looks old) (sym same) (record { stays = stays-same; writes = refl });
    sums = λ _ entries _ _ f. sym (ap (λ (es : List IndexEntry). sum_by f (ids_of label es)) (none_seen old.shape entries));
  }

  pub collects_more : {label n : ℕ} {old mid new : StoreState N} {before after : List ℕ} → IsInRange old.shape → Collects label n old mid before → ListsSlot label n mid new before after → Collects label (n + 1) old new after
  collects_more {label} {n} {old} {mid} {new} {before} {after} ranges so_far one = record {
    looks = looks-then so_far.looks one.looks;
    sums = λ store entries agrees indexed f.
        let shape_is = so_far.looks.stays.shape in
        let at_mid : IsIndexed mid.shape (overlay store mid.writes) entries =
        subst (λ (shape : Shape). IsIndexed shape (overlay store mid.writes) entries) (sym shape_is) (subst (λ (w : Contents). IsIndexed old.shape (overlay store w) entries) (sym so_far.looks.writes) indexed) in
        let listed = one.listed store entries agrees at_mid in
        let here : after ≡ before ++ ids_of label (entries_in old.shape entries (slot_at old.shape n)) = subst (λ (shape : Shape). after ≡ before ++ ids_of label (entries_in shape entries (slot_at shape n))) shape_is listed in
        let was = so_far.sums store entries (λ object words is. agrees object words (one.looks.stays.reads object words is)) indexed f in
        omega (arith, ap (sum_by f) here, sum_by-append f before (ids_of label (entries_in old.shape entries (slot_at old.shape n))), was, one_slot_more f label old.shape n entries ranges);
  }

  pub lists_all : {label : ℕ} {old new : StoreState N} {found ids : List ℕ} → IsInRange old.shape → Knows Indexes old → Collects label (old.shape.ranks * old.shape.slots) old new found → IsPermutation found ids → IsSorted nat_cmp ids
      → Lists label old new ids
  lists_all {label} {old} {new} {found} {ids} ranges knows all moved sorted = record {
    looks = all.looks;
    listed = listed;
    unlisted = λ id none. knows_after all.looks.stays (subst IsByRisingObject (sym all.looks.writes) knows.ordered) (λ store may agrees.
        let is = knows.always store may in
        record {
          entries = is.entries;
          indexed = subst (λ (w : Contents). IsIndexed old.shape (overlay store w) is.entries) (sym all.looks.writes) is.indexed;
          absent = none_unlisted label id is.entries (ap (λ (ns : List ℕ). has ns id) (sym (listed store is.entries agrees is.indexed)) ∙ none);
        });
    indexes = still all.looks knows;
    known = still_known all.looks;
  }
    where
      listed : WhereverIndexed old new (λ _ entries. ids ≡ ids_of label entries)
      listed store entries agrees indexed =
          same_rise ids (ids_of label entries) (rise_from_sort ids sorted) (rise_of_label label entries indexed.rising)
          (λ f. sum_by-IsPermutation f found ids moved ∙ (all.sums store entries agrees indexed f ∙ ap (λ (es : List IndexEntry). sum_by f (ids_of label es)) (all_seen old.shape entries ranges)))
