-- Cutting edges by their names.
use Rattle.std.proofs.Common.{◌≡◌, ℕ, suc, ◌+◌, ◌<◌, ◌≤◌, length, get_or, drop, add-one, Bool, true, false, not, ◌||◌, ◌&&◌, cond, List, [], ◌∷◌, refl, ap, sym, subst, ◌∙◌}
use Rattle.std.specs.List.{AllByRecursion, filter}
use Rattle.std.specs.List.Sorted.{IsStrictlySortedBy}
use Rattle.std.specs.Ordering.{is_eq, ordering_reverse}
use Rattle.std.proofs.lemmas.Cmp.{tied_itself}
use Rattle.std.specs.declared.cmp.Ordering.TheVariants.{Less}
use Rattle.std.specs.Map.{keys_of}
use Rattle.std.proofs.Math.Seq.{drop-cons}
use Rattle.std.proofs.lemmas.List.{drop_all}
use Rattle.std.proofs.lemmas.Map.Keys.{sorted_head, sorted_tail}
use Rattle.graph_model.specs.Maps.{Map}
use Rattle.graph_model.specs.Graph.{Edge, EdgeKey, edge_cmp}
use Rattle.graph_model.proofs.Entries.{edge_cmp_total}
use Rattle.edge_index.proofs.EdgeMaps.{is_named, is_at-named}
use Rattle.map_graph.specs.Plain.{is_among}

abbrev Edges : Type 0
Edges = Map EdgeKey Edge

filter-filter : (p q r : EdgeKey × Edge → Bool) → ((e : EdgeKey × Edge) → r e ≡ (q e && p e)) → (es : Edges) → filter p (filter q es) ≡ filter r es
filter-filter p q r both [] = refl
filter-filter p q r both (e ∷ es) =
    let later = filter-filter p q r both es in
    elim (q e) as (λ b. r e ≡ (b && p e) → filter p (cond b (e ∷ filter q es) (filter q es)) ≡ cond (r e) (e ∷ filter r es) (filter r es)) [
      | true ↦ λ is. ap (λ rest. cond (p e) (e ∷ rest) rest) later ∙ ap (λ b. cond b (e ∷ filter r es) (filter r es)) (sym is)
      | false ↦ λ is. later ∙ ap (λ b. cond b (e ∷ filter r es) (filter r es)) (sym is)
    ] (both e)

pub filter-none : (es : Edges) → filter (λ entry. not (is_among [] entry.0)) es ≡ es
filter-none [] = refl
filter-none (e ∷ es) = ap (λ rest. e ∷ rest) (filter-none es)

not-or : (a b : Bool) → not (a || b) ≡ (not a && not b)
not-or true b = refl
not-or false b = refl

-- one after the other
pub cut_first : (key : EdgeKey) (keys : List EdgeKey) (es : Edges)
    → filter (λ entry. not (is_among keys entry.0)) (filter (λ entry. not (is_named key entry)) es) ≡ filter (λ entry. not (is_among (key ∷ keys) entry.0)) es
cut_first key keys es = filter-filter _ _ _ (λ e. not-or (is_named key e) (is_among keys e.0)) es

-- the next one
pub cut_next : (keys : List EdgeKey) (i : ℕ) (key : EdgeKey) (es : Edges) → i < length keys → key ≡ get_or keys i key
    → filter (λ entry. not (is_among (drop (i + 1) keys) entry.0)) (filter (λ entry. not (is_named key entry)) es) ≡ filter (λ entry. not (is_among (drop i keys) entry.0)) es
cut_next keys i key es below is =
    let first : drop i keys ≡ key ∷ drop (i + 1) keys = drop-cons keys i key below ∙ ap (λ k. k ∷ drop (suc i) keys) (sym is) ∙ ap (λ n. key ∷ drop n keys) (sym (add-one i)) in
    cut_first key (drop (i + 1) keys) es ∙ ap (λ ks. filter (λ entry. not (is_among ks entry.0)) es) (sym first)

-- and when all are cut
pub cut_last : (keys : List EdgeKey) (i : ℕ) (es : Edges) → length keys ≤ i → filter (λ entry. not (is_among (drop i keys) entry.0)) es ≡ es
cut_last keys i es all = ap (λ ks. filter (λ entry. not (is_among ks entry.0)) es) (drop_all i keys all) ∙ filter-none es

-- ---- those that pass, by their names

apart : (a : EdgeKey) (e : EdgeKey × Edge) → edge_cmp a e.0 ≡ Less → is_named a e ≡ false
apart a e less = sym (is_at-named a e) ∙ ap is_eq less

named-self : (e : EdgeKey × Edge) → is_named e.0 e ≡ true
named-self e = sym (is_at-named e.0 e) ∙ ap is_eq (tied_itself edge_cmp_total e.0)

behind : (e : EdgeKey × Edge) (y : EdgeKey) → edge_cmp e.0 y ≡ Less → is_named y e ≡ false
behind e y less = sym (is_at-named y e) ∙ ap is_eq (edge_cmp_total.antisymm y e.0 ∙ ap ordering_reverse less)

module _ (p : EdgeKey × Edge → Bool) where
  abbrev passing : Edges → List EdgeKey
  passing es = keys_of (filter p es)

  none_among : (e : EdgeKey × Edge) (es : Edges) → AllByRecursion (λ y. edge_cmp e.0 y ≡ Less) (keys_of es) → is_among (passing es) e.0 ≡ false
  none_among e [] all = refl
  none_among e (d ∷ ds) all =
      let later = none_among e ds all.1 in
      elim (p d) as (λ b. is_among (keys_of (cond b (d ∷ filter p ds) (filter p ds))) e.0 ≡ false) [
        | true ↦ ap (λ b. b || is_among (passing ds) e.0) (behind e d.0 all.0) ∙ later
        | false ↦ later
      ]

  one_before : (e : EdgeKey × Edge) (es rest : Edges) → AllByRecursion (λ y. edge_cmp e.0 y ≡ Less) (keys_of rest) → AllByRecursion (λ d. is_among (passing es) d.0 ≡ p d) rest
      → AllByRecursion (λ d. is_among (passing (e ∷ es)) d.0 ≡ p d) rest
  one_before e es [] above all = tt
  one_before e es (d ∷ ds) above all = (
    elim (p e) as (λ b. is_among (keys_of (cond b (e ∷ filter p es) (filter p es))) d.0 ≡ p d) [
      | true ↦ ap (λ b. b || is_among (passing es) d.0) (apart e.0 d above.0) ∙ all.0
      | false ↦ all.0
    ],
    one_before e es ds above.1 all.1,
  )

  among : (es : Edges) → IsStrictlySortedBy edge_cmp (keys_of es) → AllByRecursion (λ d. is_among (passing es) d.0 ≡ p d) es
  among [] rises = tt
  among (e ∷ es) rises =
      let above = sorted_head edge_cmp e.0 (keys_of es) rises in (
        elim (p e) as (λ b. is_among (keys_of (cond b (e ∷ filter p es) (filter p es))) e.0 ≡ b) [
          | true ↦ ap (λ b. b || is_among (passing es) e.0) (named-self e)
          | false ↦ none_among e es above
        ],
        one_before e es es above (among es (sorted_tail edge_cmp e.0 (keys_of es) rises)),
      )

filter-same : (p q : EdgeKey × Edge → Bool) (es : Edges) → AllByRecursion (λ e. p e ≡ q e) es → filter p es ≡ filter q es
filter-same p q [] all = refl
filter-same p q (e ∷ es) all = ap (λ b. cond b (e ∷ filter p es) (filter p es)) all.0 ∙ ap (λ rest. cond (q e) (e ∷ rest) rest) (filter-same p q es all.1)

neither : (p q : EdgeKey × Edge → Bool) (outs ins : List EdgeKey) (es : Edges) → AllByRecursion (λ e. is_among outs e.0 ≡ p e) es → AllByRecursion (λ e. is_among ins e.0 ≡ q e) es
    → AllByRecursion (λ e. (not (is_among outs e.0) && not (is_among ins e.0)) ≡ not (p e || q e)) es
neither p q outs ins [] one other = tt
neither p q outs ins (e ∷ es) one other =
    (ap (λ b. not b && not (is_among ins e.0)) one.0 ∙ ap (λ b. not (p e) && not b) other.0 ∙ sym (not-or (p e) (q e)), neither p q outs ins es one.1 other.1)

-- the edges that pass one test or the other, cut by their names
pub cut_both : (p q : EdgeKey × Edge → Bool) (outs ins : List EdgeKey) (es : Edges) → IsStrictlySortedBy edge_cmp (keys_of es) → outs ≡ keys_of (filter p es) → ins ≡ keys_of (filter q es)
    → filter (λ entry. not (is_among ins entry.0)) (filter (λ entry. not (is_among outs entry.0)) es) ≡ filter (λ entry. not (p entry || q entry)) es
cut_both p q outs ins es rises out_is in_is =
    filter-filter _ _ (λ e. not (is_among outs e.0) && not (is_among ins e.0)) (λ e. refl) es
    ∙ filter-same _ _ es (neither p q outs ins es (subst (λ ks. AllByRecursion (λ e. is_among ks e.0 ≡ p e) es) (sym out_is) (among p es rises)) (subst (λ ks. AllByRecursion (λ e. is_among ks e.0 ≡ q e) es) (sym in_is) (among q es rises)))
