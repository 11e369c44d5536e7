-- Records with one more, or another in the place of one.
use Rattle.std.proofs.Common.{◌≡◌, ℕ, zero, suc, ◌^◌, ◌<◌, ◌≤◌, Bool, true, false, cond, List, [], ◌∷◌, length, slice_get, Some, None, Result, Ok, Err, refl, sym, ap, subst, ◌∙◌, arith}
use Rattle.std.specs.Prelude.{IsTrue, not}
use Rattle.std.specs.List.{AllByRecursion, insert, remove}
use Rattle.std.specs.Result.{MatchResult}
use Rattle.std.specs.Ordering.{eq_by_cmp, is_eq, is_lt, ordering_reverse}
use Rattle.std.specs.Cmp.{tied_itself}
use Rattle.std.specs.FinMap.{is_sorted}
use Rattle.std.specs.FinMap.Entries.{by_order, below_all}
use Rattle.std.specs.declared.cmp.Ordering.{Ordering}
use Rattle.std.specs.declared.cmp.Ordering.TheVariants.{Less, Equal, Greater}
use Rattle.std.proofs.lemmas.Bool.{and_parts}
use Rattle.graph_model.proofs.Entries.{All-filter, same_value, nothing}
use Rattle.holder_codec.specs.declared.edge_record.EdgeRecord.{EdgeRecord}
use Rattle.holder_codec.specs.declared.vertex_holder.VertexHolder.{VertexHolder}
use Rattle.holder_codec.specs.Edges.{RecordFits, is_record_before}
use Rattle.holder_codec.specs.Order.{is_rising}
use Rattle.holder_codec.specs.Vertex.{IsVertexHolder}
use Rattle.rising_lists.specs.Rising.{by_key}
use Rattle.rising_lists.proofs.Rising.{All-with_item, is_rising-where, is_rising-with_item, item_of-where, sorted}
use Rattle.edge_ops.specs.Records.{Key, key_of, key_cmp, record_for, with_record, without_record}
use Rattle.edge_ops.proofs.Keys.{key_total, key_same, before_is}

-- ---- where a record stands

pub within_some : {X : Type 0} (xs : List X) (i : ℕ) (x : X) → slice_get xs i ≡ Some x → i < length xs
within_some [] i x is = nothing x is
within_some (y ∷ ys) zero x is = omega arith
within_some (y ∷ ys) (suc i) x is = omega (arith, within_some ys i x is)

equal_is : (o : Ordering) → is_eq o ≡ true → o ≡ Equal
equal_is Less is = absurd (cc is)
equal_is Equal is = refl
equal_is Greater is = absurd (cc is)

less_is : (o : Ordering) → is_lt o ≡ true → o ≡ Less
less_is Less is = refl
less_is Equal is = absurd (cc is)
less_is Greater is = absurd (cc is)

-- a record that is found has the key
pub record_key : (es : List EdgeRecord) (key : Key) (found : EdgeRecord) → record_for es key ≡ Some found → key_of found ≡ key
record_key [] key found is = nothing found is
record_key (e ∷ es) key found is = cases (eq_by_cmp key_cmp key (key_of e)) refl is (record_key es key found)
  where
    cases : (tie : Bool) → eq_by_cmp key_cmp key (key_of e) ≡ tie → cond tie (Some e) (record_for es key) ≡ Some found → (record_for es key ≡ Some found → key_of found ≡ key) → key_of found ≡ key
    cases true tie here _ = sym (key_same key (key_of found) (ap (λ (one : EdgeRecord). key_cmp key (key_of one)) (sym (same_value e found here)) ∙ equal_is (key_cmp key (key_of e)) tie))
    cases false tie later rest = rest later

less_at : (key : Key) (es : List EdgeRecord) (i : ℕ) (found : EdgeRecord) → below_all key_cmp key (by_key key_of es) ≡ true → slice_get es i ≡ Some found → key_cmp key (key_of found) ≡ Less
less_at key [] i found below is = nothing found is
less_at key (e ∷ es) zero found below is =
    ap (λ (one : EdgeRecord). key_cmp key (key_of one)) (sym (same_value e found is)) ∙ less_is (key_cmp key (key_of e)) (and_parts (is_lt (key_cmp key (key_of e))) (below_all key_cmp key (by_key key_of es)) below).0
less_at key (e ∷ es) (suc i) found below is = less_at key es i found (and_parts (is_lt (key_cmp key (key_of e))) (below_all key_cmp key (by_key key_of es)) below).1 is

greater_turned : (one other : Key) → key_cmp one other ≡ Less → key_cmp other one ≡ Greater
greater_turned one other less = key_total.antisymm other one ∙ ap ordering_reverse less

-- a record put at the place of its key replaces the one that is there
replaced : (edge : EdgeRecord) (es : List EdgeRecord) (i : ℕ) (found : EdgeRecord) → is_sorted key_cmp (by_key key_of es) ≡ true → slice_get es i ≡ Some found → key_of found ≡ key_of edge
    → insert (remove es i) i edge ≡ with_record edge es
replaced edge [] i found rise is same = nothing found is
replaced edge (e ∷ es) zero found rise is same =
    let here : key_of e ≡ key_of edge = ap key_of (same_value e found is) ∙ same in
    let tie : key_cmp (key_of edge) (key_of e) ≡ Equal = ap (key_cmp (key_of edge)) here ∙ tied_itself key_total (key_of edge) in
    ap (λ o. by_order o (edge ∷ e ∷ es) (edge ∷ es) (e ∷ with_record edge es)) (sym tie)
replaced edge (e ∷ es) (suc i) found rise is same =
    let parts = and_parts (below_all key_cmp (key_of e) (by_key key_of es)) (is_sorted key_cmp (by_key key_of es)) rise in
    let less : key_cmp (key_of e) (key_of edge) ≡ Less = ap (key_cmp (key_of e)) (sym same) ∙ less_at (key_of e) es i found parts.0 is in
    ap (λ (rest : List EdgeRecord). e ∷ rest) (replaced edge es i found parts.1 is same)
    ∙ ap (λ o. by_order o (edge ∷ e ∷ es) (edge ∷ es) (e ∷ with_record edge es)) (sym (greater_turned (key_of e) (key_of edge) less))

pub record_replaced : (edge : EdgeRecord) (es : List EdgeRecord) (i : ℕ) (found : EdgeRecord) → is_rising is_record_before es ≡ true → slice_get es i ≡ Some found → record_for es (key_of edge) ≡ Some found
    → insert (remove es i) i edge ≡ with_record edge es
record_replaced edge es i found rising is there =
    replaced edge es i found (sorted key_of key_total key_same is_record_before before_is es rising) is (record_key es (key_of edge) found there)

abbrev pub IsPosition : List EdgeRecord → Key → Result ℕ ℕ → Type 0
IsPosition es key r = MatchResult r
    (λ i. (found : EdgeRecord) × (slice_get es i ≡ Some found) × (record_for es key ≡ Some found))
    (λ i. (i ≤ length es) × (record_for es key ≡ None) × ((one : EdgeRecord) → key_of one ≡ key → insert es i one ≡ with_record one es))

pub within_position : (es : List EdgeRecord) (key : Key) (r : Result ℕ ℕ) → IsPosition es key r → MatchResult r (λ i. i < length es) (λ i. i ≤ length es)
within_position es key (Ok i) found = within_some es i found.0 found.1
within_position es key (Err i) none = none.0

-- ---- without a record

-- records behind a key are not of it
behind_kept : (key : Key) (es : List EdgeRecord) → below_all key_cmp key (by_key key_of es) ≡ true → without_record key es ≡ es
behind_kept key [] below = refl
behind_kept key (e ∷ es) below =
    let parts = and_parts (is_lt (key_cmp key (key_of e))) (below_all key_cmp key (by_key key_of es)) below in
    ap (λ o. cond (not (is_eq o)) (e ∷ without_record key es) (without_record key es)) (less_is (key_cmp key (key_of e)) parts.0) ∙ ap (λ (rest : List EdgeRecord). e ∷ rest) (behind_kept key es parts.1)

pub record_removed : (key : Key) (es : List EdgeRecord) (i : ℕ) (found : EdgeRecord) → is_sorted key_cmp (by_key key_of es) ≡ true → slice_get es i ≡ Some found → key_of found ≡ key
    → remove es i ≡ without_record key es
record_removed key [] i found rise is same = nothing found is
record_removed key (e ∷ es) zero found rise is same =
    let here : key_of e ≡ key = ap key_of (same_value e found is) ∙ same in
    let tie : key_cmp key (key_of e) ≡ Equal = ap (key_cmp key) here ∙ tied_itself key_total key in
    let parts = and_parts (below_all key_cmp (key_of e) (by_key key_of es)) (is_sorted key_cmp (by_key key_of es)) rise in
    sym (ap (λ o. cond (not (is_eq o)) (e ∷ without_record key es) (without_record key es)) tie ∙ behind_kept key es (subst (λ (k : Key). below_all key_cmp k (by_key key_of es) ≡ true) here parts.0))
record_removed key (e ∷ es) (suc i) found rise is same =
    let parts = and_parts (below_all key_cmp (key_of e) (by_key key_of es)) (is_sorted key_cmp (by_key key_of es)) rise in
    let less : key_cmp (key_of e) key ≡ Less = ap (key_cmp (key_of e)) (sym same) ∙ less_at (key_of e) es i found parts.0 is in
    ap (λ (rest : List EdgeRecord). e ∷ rest) (record_removed key es i found parts.1 is same)
    ∙ sym (ap (λ o. cond (not (is_eq o)) (e ∷ without_record key es) (without_record key es)) (greater_turned (key_of e) key less))

pub record_taken_out : (key : Key) (es : List EdgeRecord) (i : ℕ) (found : EdgeRecord) → is_rising is_record_before es ≡ true → slice_get es i ≡ Some found → record_for es key ≡ Some found
    → remove es i ≡ without_record key es
record_taken_out key es i found rising is there =
    record_removed key es i found (sorted key_of key_total key_same is_record_before before_is es rising) is (record_key es key found there)

-- where there is none of the key, nothing goes
pub none_taken_out : (key : Key) (es : List EdgeRecord) → record_for es key ≡ None → without_record key es ≡ es
none_taken_out key [] none = refl
none_taken_out key (e ∷ es) none = cases (eq_by_cmp key_cmp key (key_of e)) refl none (none_taken_out key es)
  where
    cases : (tie : Bool) → eq_by_cmp key_cmp key (key_of e) ≡ tie → cond tie (Some e) (record_for es key) ≡ None → (record_for es key ≡ None → without_record key es ≡ es) → without_record key (e ∷ es) ≡ e ∷ es
    cases true tie some _ = nothing e (sym some)
    cases false tie rest behind =
        ap (λ b. cond (not b) (e ∷ without_record key es) (without_record key es)) tie ∙ ap (λ (others : List EdgeRecord). e ∷ others) (behind rest)

-- what is asked for after records of a key went
pub record_for-without : (key : Key) (es : List EdgeRecord) (k : Key) → record_for (without_record key es) k ≡ cond (not (eq_by_cmp key_cmp key k)) (record_for es k) None
record_for-without key es k = item_of-where key_of key_total key_same (λ other. not (eq_by_cmp key_cmp key other)) es k

pub none_of_key : (key : Key) (es : List EdgeRecord) → record_for (without_record key es) key ≡ None
none_of_key key es = record_for-without key es key ∙ ap (λ o. cond (not (is_eq o)) (record_for es key) None) (tied_itself key_total key)

pub still_none : (key : Key) (es : List EdgeRecord) (k : Key) → record_for es k ≡ None → record_for (without_record key es) k ≡ None
still_none key es k none = record_for-without key es k ∙ elim (not (eq_by_cmp key_cmp key k)) as (λ b. cond b (record_for es k) None ≡ None) [ true ↦ none | false ↦ refl ]

-- ---- what has a spelling

with : (holder : VertexHolder) (next : ℕ) (edges : List EdgeRecord) → next < 2 ^ 64 → AllByRecursion RecordFits edges → IsTrue (is_rising is_record_before edges) → IsVertexHolder holder
    → IsVertexHolder (record holder { next = next; edges = edges })
with holder next edges small fit rise is = record {
  id = is.id;
  next = small;
  labels = is.labels;
  labels_rise = is.labels_rise;
  props = is.props;
  props_rise = is.props_rise;
  edges = fit;
  edges_rise = rise;
}

pub holder_with : (holder : VertexHolder) (next : ℕ) (edge : EdgeRecord) (edges : List EdgeRecord) → edges ≡ with_record edge holder.edges → next < 2 ^ 64 → RecordFits edge → IsVertexHolder holder
    → IsVertexHolder (record holder { next = next; edges = edges })
holder_with holder next edge edges is small fits holds =
    with holder next edges small (subst (AllByRecursion RecordFits) (sym is) (All-with_item key_of key_cmp RecordFits edge holder.edges fits holds.edges))
    (subst (λ (es : List EdgeRecord). IsTrue (is_rising is_record_before es)) (sym is) (is_rising-with_item key_of key_total key_same is_record_before before_is edge holder.edges holds.edges_rise)) holds

pub holder_taken_out : (holder : VertexHolder) (key : Key) (edges : List EdgeRecord) → edges ≡ without_record key holder.edges → IsVertexHolder holder → IsVertexHolder (record holder { edges = edges })
holder_taken_out holder key edges is holds =
    with holder holder.next edges holds.next (subst (AllByRecursion RecordFits) (sym is) (All-filter RecordFits RecordFits (λ e. not (eq_by_cmp key_cmp key (key_of e))) (λ _ _ fits. fits) holder.edges holds.edges))
    (subst (λ (es : List EdgeRecord). IsTrue (is_rising is_record_before es)) (sym is)
    (is_rising-where key_of key_total key_same is_record_before before_is (λ k. not (eq_by_cmp key_cmp key k)) holder.edges holds.edges_rise)) holds
