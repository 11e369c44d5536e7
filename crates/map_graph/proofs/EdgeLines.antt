-- Lines of edges, by the names of the edges at a vertex.
use Rattle.std.proofs.Common.{◌≡◌, ℕ, zero, suc, ◌<◌, length, get_or, drop, Bool, true, false, cond, ◌&&◌, List, [], ◌∷◌, ◌++◌, map, Some, refl, ap, sym, ◌∙◌, append_assoc}
use Rattle.std.specs.List.{AllByRecursion, filter, slice_get}
use Rattle.std.specs.List.Sorted.{IsStrictlySortedBy}
use Rattle.std.specs.Ordering.{is_eq, ordering_reverse}
use Rattle.std.specs.declared.cmp.Ordering.TheVariants.{Less}
use Rattle.std.specs.Map.{keys_of}
use Rattle.std.specs.FinMap.Entries.{find}
use Rattle.std.proofs.Math.Seq.{drop-cons}
use Rattle.std.proofs.lemmas.Cmp.{tied_itself}
use Rattle.std.proofs.lemmas.Map.Keys.{sorted_head, sorted_tail}
use Rattle.gdi_kinds.specs.declared.edge_line.EdgeLine.{EdgeLine}
use Rattle.graph_model.specs.Maps.{Map, set_of, add}
use Rattle.graph_model.specs.Graph.{Edge, EdgeKey, edge_cmp}
use Rattle.graph_model.specs.ListCalls.{other_end}
use Rattle.graph_model.proofs.Entries.{All-filter, edge_cmp_total, same_value}
use Rattle.map_graph.specs.Lines.{entry_of, entries_at, line_at}

abbrev Edges : Type 0
Edges = Map EdgeKey Edge

-- ---- each edge is found by its name

found_behind : (e : EdgeKey × Edge) (es ds : Edges) → AllByRecursion (λ y. edge_cmp e.0 y ≡ Less) (keys_of ds) → AllByRecursion (λ d. find edge_cmp d.0 es ≡ Some d.1) ds → AllByRecursion (λ d. find edge_cmp d.0 (e ∷ es) ≡ Some d.1) ds
found_behind e es [] above all = tt
found_behind e es (d ∷ ds) above all =
    (ap (λ r. cond (is_eq r) (Some e.1) (find edge_cmp d.0 es)) (edge_cmp_total.antisymm d.0 e.0 ∙ ap ordering_reverse above.0) ∙ all.0, found_behind e es ds above.1 all.1)

each_found : (es : Edges) → IsStrictlySortedBy edge_cmp (keys_of es) → AllByRecursion (λ d. find edge_cmp d.0 es ≡ Some d.1) es
each_found [] rises = tt
each_found (e ∷ es) rises =
    (ap (λ r. cond (is_eq r) (Some e.1) (find edge_cmp e.0 es)) (tied_itself edge_cmp_total e.0), found_behind e es es (sorted_head edge_cmp e.0 (keys_of es) rises) (each_found es (sorted_tail edge_cmp e.0 (keys_of es) rises)))

entries_found : (all es : Edges) → AllByRecursion (λ d. find edge_cmp d.0 all ≡ Some d.1) es → entries_at all (keys_of es) ≡ es
entries_found all [] each = refl
entries_found all (e ∷ es) each = ap (λ o. entry_of e.0 o ++ entries_at all (keys_of es)) each.0 ∙ ap (λ rest. e ∷ rest) (entries_found all es each.1)

pub entries_passing : (p : EdgeKey × Edge → Bool) (es : Edges) → IsStrictlySortedBy edge_cmp (keys_of es) → entries_at es (keys_of (filter p es)) ≡ filter p es
entries_passing p es rises = entries_found es (filter p es) (All-filter _ _ p (λ _ _ is. is) es (each_found es rises))

-- ---- line by line

module _ (at_source : Bool) (p : EdgeKey × Edge → Bool) where
  abbrev lines : List (EdgeKey × Edge) → List EdgeLine
  lines es = map (line_at at_source) (filter p es)

  lines-append : (es fs : List (EdgeKey × Edge)) → lines (es ++ fs) ≡ lines es ++ lines fs
  lines-append [] fs = refl
  lines-append (e ∷ es) fs =
      elim (p e) as (λ b. map (line_at at_source) (cond b (e ∷ filter p (es ++ fs)) (filter p (es ++ fs))) ≡ map (line_at at_source) (cond b (e ∷ filter p es) (filter p es)) ++ lines fs) [
        | true ↦ ap (λ rest. line_at at_source e ∷ rest) (lines-append es fs)
        | false ↦ lines-append es fs
      ]

  -- one more line, or none
  pub lines_more : (edges : Edges) (before after whole : List EdgeLine) (keys rest : List EdgeKey) (key : EdgeKey) → keys ≡ key ∷ rest
      → after ≡ before ++ lines (entry_of key (find edge_cmp key edges)) → before ++ lines (entries_at edges keys) ≡ whole → after ++ lines (entries_at edges rest) ≡ whole
  lines_more edges before after whole keys rest key next pushed all =
      ap (λ ls. ls ++ lines (entries_at edges rest)) pushed
      ∙ append_assoc before (lines (entry_of key (find edge_cmp key edges))) (lines (entries_at edges rest))
      ∙ ap (λ ls. before ++ ls) (sym (lines-append (entry_of key (find edge_cmp key edges)) (entries_at edges rest)))
      ∙ ap (λ ks. before ++ lines (entries_at edges ks)) (sym next) ∙ all

-- what is wanted, and of that what passes
pub filter-both : {X : Type 0} (p q : X → Bool) (xs : List X) → filter (λ x. p x && q x) xs ≡ filter q (filter p xs)
filter-both p q [] = refl
filter-both p q (x ∷ xs) =
    elim (p x) as (λ b. cond (b && q x) (x ∷ filter (λ y. p y && q y) xs) (filter (λ y. p y && q y) xs) ≡ filter q (cond b (x ∷ filter p xs) (filter p xs))) [
      | true ↦ ap (λ rest. cond (q x) (x ∷ rest) rest) (filter-both p q xs)
      | false ↦ filter-both p q xs
    ]

-- ---- the other ends, from the last line on

get_or-found : {X : Type 0} (xs : List X) (n : ℕ) (x : X) → slice_get xs n ≡ Some x → get_or xs n x ≡ x
get_or-found [] n x is = refl
get_or-found (y ∷ ys) zero x is = same_value y x is
get_or-found (y ∷ ys) (suc n) x is = get_or-found ys n x is

pub end_more : (id : ℕ) (lines : List EdgeLine) (n : ℕ) (line : EdgeLine) → n < length lines → slice_get lines n ≡ Some line
    → add (other_end id line) (set_of (map (other_end id) (drop (suc n) lines))) ≡ set_of (map (other_end id) (drop n lines))
end_more id lines n line below is =
    ap (λ l. add (other_end id l) (set_of (map (other_end id) (drop (suc n) lines)))) (sym (get_or-found lines n line is)) ∙ ap (λ ls. set_of (map (other_end id) ls)) (sym (drop-cons lines n line below))
