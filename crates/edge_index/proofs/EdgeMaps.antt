-- Maps of edges, and what an index of them has after a change.
use Rattle.std.proofs.Common.{◌≡◌, ℕ, ◌+◌, length, Bool, true, false, not, ◌&&◌, cond, List, [], ◌∷◌, Some, None, refl, ap, sym, ◌∙◌, eqb, arith}
use Rattle.std.specs.Prelude.{◌==◌}
use Rattle.std.specs.List.{filter}
use Rattle.std.specs.List.Sorted.{IsStrictlySortedBy}
use Rattle.std.specs.Ordering.{nat_cmp, is_eq, ordering_then}
use Rattle.std.specs.declared.cmp.Ordering.{Ordering}
use Rattle.std.specs.declared.cmp.Ordering.TheVariants.{Less, Equal, Greater}
use Rattle.std.specs.Map.{keys_of, lookup, remove_entry, set_value}
use Rattle.std.specs.BTreeMap.{insert_entry, is_at}
use Rattle.std.specs.BTreeSet.{insert_key}
use Rattle.std.specs.Set.{remove_key}
use Rattle.std.specs.FinMap.Entries.{put, find, by_order}
use Rattle.std.proofs.lemmas.Bool.{eqb-true}
use Rattle.graph_model.specs.Maps.{Map}
use Rattle.graph_model.specs.Graph.{Edge, EdgeKey, edge_cmp}
use Rattle.graph_model.proofs.Entries.{nothing, edge_cmp_total, edge_cmp_same}
use Rattle.graph_model.proofs.Sets.{is_eq-nat_cmp}
use Rattle.edge_index.specs.Index.{keys_at, Indexes}
use Rattle.edge_index.proofs.OrderedEntries.{passing-inserted, passing-removed, passing-written}

-- whether an edge is the one of this name
abbrev pub is_named : EdgeKey → EdgeKey × Edge → Bool
is_named key entry = entry.0.source == key.source && entry.0.ordinal == key.ordinal

is_eq-then : (r s : Ordering) → is_eq (ordering_then r s) ≡ (is_eq r && is_eq s)
is_eq-then Less s = refl
is_eq-then Equal s = refl
is_eq-then Greater s = refl

pub is_at-named : (key : EdgeKey) (entry : EdgeKey × Edge) → is_at (edge_cmp key) entry.0 ≡ is_named key entry
is_at-named key entry =
    is_eq-then (nat_cmp key.source entry.0.source) (nat_cmp key.ordinal entry.0.ordinal)
    ∙ ap (λ b. b && is_eq (nat_cmp key.ordinal entry.0.ordinal)) (is_eq-nat_cmp key.source entry.0.source)
    ∙ ap (λ b. entry.0.source == key.source && b) (is_eq-nat_cmp key.ordinal entry.0.ordinal)

module _ {K X : Type 0} (test : K → Bool) (named : K × X → Bool) (same : (e : K × X) → test e.0 ≡ named e) where
  none_named : (es : List (K × X)) → lookup test es ≡ None → es ≡ filter (λ e. not (named e)) es
  none_named [] none = refl
  none_named (e ∷ es) none =
      elim (test e.0) as (λ b. test e.0 ≡ b → cond b (Some e.1) (lookup test es) ≡ None → e ∷ es ≡ filter (λ e. not (named e)) (e ∷ es)) [
        | true ↦ λ _ some. nothing e.1 (sym some)
        | false ↦ λ other later. ap (λ rest. e ∷ rest) (none_named es later) ∙ ap (λ b. cond (not b) (e ∷ filter (λ e. not (named e)) es) (filter (λ e. not (named e)) es)) (sym other ∙ same e)
      ] refl none

  -- where there is one at most
  pub one_out : (es : List (K × X)) → lookup test (remove_entry test es) ≡ None → remove_entry test es ≡ filter (λ e. not (named e)) es
  one_out [] none = refl
  one_out (e ∷ es) none =
      elim (test e.0) as (λ b. test e.0 ≡ b → lookup test (cond b es (e ∷ remove_entry test es)) ≡ None → cond b es (e ∷ remove_entry test es) ≡ filter (λ e. not (named e)) (e ∷ es)) [
        | true ↦ λ equal later. none_named es later ∙ ap (λ b. cond (not b) (e ∷ filter (λ e. not (named e)) es) (filter (λ e. not (named e)) es)) (sym equal ∙ same e)
        | false ↦ λ other later.
            let rest : lookup test (remove_entry test es) ≡ None = ap (λ b. cond b (Some e.1) (lookup test (remove_entry test es))) (sym other) ∙ later in
            ap (λ left. e ∷ left) (one_out es rest) ∙ ap (λ b. cond (not b) (e ∷ filter (λ e. not (named e)) es) (filter (λ e. not (named e)) es)) (sym other ∙ same e)
      ] refl none

-- a call takes out one edge, after which there is none of its name
pub edge_removed : (key : EdgeKey) (es left : Map EdgeKey Edge) → left ≡ remove_entry (is_at (edge_cmp key)) es → lookup (is_at (edge_cmp key)) left ≡ None → left ≡ filter (λ entry. not (is_named key entry)) es
edge_removed key es left is none =
    is ∙ one_out (is_at (edge_cmp key)) (is_named key) (is_at-named key) es (ap (λ l. lookup (is_at (edge_cmp key)) l) (sym is) ∙ none)

pub edge_missing : (key : EdgeKey) (es : Map EdgeKey Edge) → lookup (is_at (edge_cmp key)) es ≡ None → es ≡ filter (λ entry. not (is_named key entry)) es
edge_missing key es none = none_named (is_at (edge_cmp key)) (is_named key) (is_at-named key) es none

-- how many pass with one more
counted : {E : Type 0} (p : E → Bool) (d : E) (ds : List E) → length (filter p (d ∷ ds)) ≡ length (filter p ds) + cond (p d) 1 0
counted p d ds = elim (p d) as (λ b. length (cond b (d ∷ filter p ds) (filter p ds)) ≡ length (filter p ds) + cond b 1 0) [ true ↦ omega arith | false ↦ omega arith ]

pub length-filter-put : {K X : Type 0} (R : K → K → Ordering) (p : K × X → Bool) (k : K) (x : X) (es : List (K × X)) → find R k es ≡ None → length (filter p (put R k x es)) ≡ length (filter p es) + cond (p (k, x)) 1 0
length-filter-put R p k x [] absent = counted p (k, x) []
length-filter-put R p k x (e ∷ es) absent =
    elim (R k e.0) as (λ r. cond (is_eq r) (Some e.1) (find R k es) ≡ None → length (filter p (by_order r ((k, x) ∷ e ∷ es) ((e.0, x) ∷ es) (e ∷ put R k x es))) ≡ length (filter p (e ∷ es)) + cond (p (k, x)) 1 0) [
      | Less ↦ λ _. counted p (k, x) (e ∷ es)
      | Equal ↦ λ some. nothing e.1 (sym some)
      | Greater ↦ λ none. omega (arith, counted p e (put R k x es), counted p e es, length-filter-put R p k x es none)
    ] absent

module _ (end : EdgeKey × Edge → ℕ) (edges : Map EdgeKey Edge) (index : Map ℕ (List EdgeKey)) (indexed : Indexes end edges index) where
  abbrev passing : ℕ → Map EdgeKey Edge → List EdgeKey
  passing id es = keys_of (filter (λ entry. end entry == id) es)

  at_end : (change : List EdgeKey → List EdgeKey) (j id : ℕ) → cond (eqb j id) (change (keys_at index j)) (keys_at index id) ≡ cond (eqb j id) (change (passing id edges)) (passing id edges)
  at_end change j id =
      elim (eqb j id) as (λ b. eqb j id ≡ b → cond b (change (keys_at index j)) (keys_at index id) ≡ cond b (change (passing id edges)) (passing id edges)) [
        | true ↦ λ same. ap change (ap (keys_at index) (eqb-true j id same) ∙ indexed id)
        | false ↦ λ _. indexed id
      ] refl

  pub index-inserted : (key : EdgeKey) (edge : Edge) (after : Map EdgeKey Edge) (more : Map ℕ (List EdgeKey)) → IsStrictlySortedBy edge_cmp (keys_of edges) → lookup (is_at (edge_cmp key)) edges ≡ None
      → after ≡ insert_entry edge_cmp edges key edge
      → ((q : ℕ) → keys_at more q ≡ cond (eqb (end (key, edge)) q) (insert_key edge_cmp (keys_at index (end (key, edge))) key) (keys_at index q)) → Indexes end after more
  index-inserted key edge after more rises absent is now = λ id.
      now id ∙ at_end (λ ks. insert_key edge_cmp ks key) (end (key, edge)) id
      ∙ sym (ap (passing id) is ∙ passing-inserted edge_cmp (λ entry. end entry == id) edge_cmp_total key edge edges rises absent)

  pub index-removed : (key : EdgeKey) (edge : Edge) (after : Map EdgeKey Edge) (fewer : Map ℕ (List EdgeKey)) → Some edge ≡ lookup (is_at (edge_cmp key)) edges → after ≡ remove_entry (is_at (edge_cmp key)) edges
      → ((q : ℕ) → keys_at fewer q ≡ cond (eqb (end (key, edge)) q) (remove_key (is_at (edge_cmp key)) (keys_at index (end (key, edge)))) (keys_at index q)) → Indexes end after fewer
  index-removed key edge after fewer there is now = λ id.
      now id ∙ at_end (remove_key (is_at (edge_cmp key))) (end (key, edge)) id
      ∙ sym (ap (passing id) is ∙ passing-removed edge_cmp (λ entry. end entry == id) edge_cmp_same key edge edges (sym there))

  pub index-written : (key : EdgeKey) (old new : Edge) (after : Map EdgeKey Edge) → ((k : EdgeKey) → end (k, old) ≡ end (k, new)) → Some old ≡ lookup (is_at (edge_cmp key)) edges → after ≡ set_value (is_at (edge_cmp key)) edges new → Indexes end after index
  index-written key old new after alike there is = λ id.
      indexed id ∙ sym (ap (passing id) is ∙ passing-written edge_cmp (λ entry. end entry == id) (is_at (edge_cmp key)) old new edges (λ k. ap (λ n. n == id) (alike k)) (sym there))
