-- A record in the place of another one of its key leaves their number.
use Rattle.std.proofs.Common.{◌≡◌, ◌∙◌, suc, Bool, true, false, cond, List, [], ◌∷◌, length, Some, None, refl, sym, ap}
use Rattle.std.specs.Ordering.{eq_by_cmp, is_eq, is_lt}
use Rattle.std.specs.FinMap.{is_sorted}
use Rattle.std.specs.FinMap.Entries.{by_order, below_all}
use Rattle.std.specs.declared.cmp.Ordering.{Ordering}
use Rattle.std.specs.declared.cmp.Ordering.TheVariants.{Less, Equal, Greater}
use Rattle.std.proofs.lemmas.Bool.{and_from, and_parts}
use Rattle.graph_model.proofs.Entries.{nothing}
use Rattle.holder_codec.specs.declared.edge_record.EdgeRecord.{EdgeRecord}
use Rattle.rising_lists.specs.Rising.{by_key}
use Rattle.edge_ops.specs.Records.{Key, key_of, key_cmp, record_for, with_record}
use Rattle.rising_lists.proofs.Rising.{is_sorted-with_item, same_items}
use Rattle.edge_ops.proofs.EdgeMade.{record_for-with}
use Rattle.edge_ops.proofs.Keys.{key_same, key_total}

less_is : (o : Ordering) → is_lt o ≡ true → o ≡ Less
less_is Less is = refl
less_is Equal is = absurd (cc is)
less_is Greater is = absurd (cc is)

equal_is : (o : Ordering) → is_eq o ≡ true → o ≡ Equal
equal_is Less is = absurd (cc is)
equal_is Equal is = refl
equal_is Greater is = absurd (cc is)

-- a key below all is that of none
below_none : (k : Key) (es : List EdgeRecord) → below_all key_cmp k (by_key key_of es) ≡ true → record_for es k ≡ None
below_none k [] below = refl
below_none k (e ∷ es) below =
    let parts = and_parts (is_lt (key_cmp k (key_of e))) (below_all key_cmp k (by_key key_of es)) below in
    ap (λ o. cond (is_eq o) (Some e) (record_for es k)) (less_is (key_cmp k (key_of e)) parts.0) ∙ below_none k es parts.1

below_lower : (a b : Key) (es : List EdgeRecord) → key_cmp a b ≡ Less → below_all key_cmp b (by_key key_of es) ≡ true → below_all key_cmp a (by_key key_of es) ≡ true
below_lower a b [] below all = refl
below_lower a b (e ∷ es) below all =
    let parts = and_parts (is_lt (key_cmp b (key_of e))) (below_all key_cmp b (by_key key_of es)) all in
    and_from (is_lt (key_cmp a (key_of e))) (below_all key_cmp a (by_key key_of es)) (ap is_lt (key_total.trans a b (key_of e) below (less_is (key_cmp b (key_of e)) parts.0))) (below_lower a b es below parts.1)

pub length_replaced : (edge : EdgeRecord) (es : List EdgeRecord) (found : EdgeRecord) → is_sorted key_cmp (by_key key_of es) ≡ true → record_for es (key_of edge) ≡ Some found → length (with_record edge es) ≡ length es
length_replaced edge [] found rise there = nothing found there
length_replaced edge (e ∷ es) found rise there =
    let parts = and_parts (below_all key_cmp (key_of e) (by_key key_of es)) (is_sorted key_cmp (by_key key_of es)) rise in
    cases (key_cmp (key_of edge) (key_of e)) refl there parts.0 (length_replaced edge es found parts.1)
  where
    cases : (o : Ordering) → key_cmp (key_of edge) (key_of e) ≡ o → cond (is_eq o) (Some e) (record_for es (key_of edge)) ≡ Some found → below_all key_cmp (key_of e) (by_key key_of es) ≡ true
        → (record_for es (key_of edge) ≡ Some found → length (with_record edge es) ≡ length es) → length (by_order o (edge ∷ e ∷ es) (edge ∷ es) (e ∷ with_record edge es)) ≡ length (e ∷ es)
    cases Less less there below _ = nothing found (sym (below_none (key_of edge) es (below_lower (key_of edge) (key_of e) es less below)) ∙ there)
    cases Equal same there below _ = refl
    cases Greater greater there below rest = ap suc (rest there)

-- a record that is there already changes nothing
pub with_itself : (edge : EdgeRecord) (es : List EdgeRecord) → is_sorted key_cmp (by_key key_of es) ≡ true → record_for es (key_of edge) ≡ Some edge → with_record edge es ≡ es
with_itself edge es rise there =
    same_items key_of key_total key_same (with_record edge es) es (is_sorted-with_item key_of key_total key_same edge es rise) rise (λ k.
    record_for-with edge es k ∙ cases k (eq_by_cmp key_cmp k (key_of edge)) refl)
  where
    cases : (k : Key) (tie : Bool) → eq_by_cmp key_cmp k (key_of edge) ≡ tie → cond tie (Some edge) (record_for es k) ≡ record_for es k
    cases k true tie = sym (ap (record_for es) (key_same k (key_of edge) (equal_is (key_cmp k (key_of edge)) tie)) ∙ there)
    cases k false tie = refl
