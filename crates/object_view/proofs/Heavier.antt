-- The objects of heavy edges, where an edge turns heavy or is heavy already.
use Rattle.std.proofs.Common.{◌≡◌, ◌∙◌, Bool, true, false, cond, ◌&&◌, [], ◌∷◌, refl, sym, ap}
use Rattle.std.specs.List.{filter}
use Rattle.std.specs.Ordering.{is_lt}
use Rattle.std.specs.declared.cmp.Ordering.{Ordering}
use Rattle.std.specs.declared.cmp.Ordering.TheVariants.{Less, Equal, Greater}
use Rattle.std.specs.FinMap.{IsAntisymmetric}
use Rattle.std.specs.FinMap.Entries.{below_all, by_order, put, is_sorted}
use Rattle.std.proofs.lemmas.Bool.{and_parts}
use Rattle.std.proofs.Common.{arith}
use Rattle.std.proofs.lemmas.Bool.Decides.{nat_tests}
use Rattle.rma_layout.specs.Placement.{Place}
use Rattle.graph_model.specs.Maps.{Map, IsMap, keys}
use Rattle.graph_model.specs.Graph.{Graph, Edge, EdgeKey, edge_cmp, is_heavy}
use Rattle.graph_model.proofs.Entries.{edge_cmp_same}
use Rattle.holder_codec.specs.Represents.{EdgeObjects, heavy_edges}

module _ {K : Type 0} (R : K → K → Ordering) (ties : IsAntisymmetric R) (passes_on : (a b c : K) → is_lt (R a b) ≡ true → is_lt (R b c) ≡ true → is_lt (R a c) ≡ true) where
  lower : {X : Type 0} (a b : K) → is_lt (R a b) ≡ true → (es : Map K X) → below_all R b es ≡ true → below_all R a es ≡ true
  lower a b less [] below = refl
  lower a b less (e ∷ es) below =
      let parts = and_parts (is_lt (R b e.0)) (below_all R b es) below in
      λ i. join (passes_on a b e.0 less parts.0) (lower a b less es parts.1) i
    where
      join : {p q : Bool} → p ≡ true → q ≡ true → (p && q) ≡ true
      join p q = λ i. p i && q i

  filtered : {X : Type 0} (p : K × X → Bool) (k : K) (es : Map K X) → below_all R k es ≡ true → below_all R k (filter p es) ≡ true
  filtered p k [] below = refl
  filtered p k (e ∷ es) below =
      let parts = and_parts (is_lt (R k e.0)) (below_all R k es) below in
      let rest = filtered p k es parts.1 in
      elim (p e) as (λ b. below_all R k (cond b (e ∷ filter p es) (filter p es)) ≡ true) [ true ↦ λ i. parts.0 i && rest i | false ↦ rest ]

  is_less : (o : Ordering) → is_lt o ≡ true → o ≡ Less
  is_less Less is = refl
  is_less Equal is = absurd cc
  is_less Greater is = absurd cc

  put_front : {X : Type 0} (k : K) (x : X) (es : Map K X) → below_all R k es ≡ true → put R k x es ≡ (k, x) ∷ es
  put_front k x [] below = refl
  put_front k x (e ∷ es) below =
      let parts = and_parts (is_lt (R k e.0)) (below_all R k es) below in
      ap (λ o. by_order o ((k, x) ∷ e ∷ es) ((e.0, x) ∷ es) (e ∷ put R k x es)) (is_less (R k e.0) parts.0)

  -- an entry that passes is put among those that pass
  pub filter_put : {X : Type 0} (p : K × X → Bool) (k : K) (x : X) (es : Map K X) → p (k, x) ≡ true → IsMap R es → filter p (put R k x es) ≡ put R k x (filter p es)
  filter_put p k x [] passes sorted = ap (λ b. cond b ((k, x) ∷ []) []) passes
  filter_put {X} p k x (e ∷ es) passes sorted =
      let parts = and_parts (below_all R e.0 es) (is_sorted R es) sorted in
      let later = filter_put p k x es passes parts.1 in
      let rest : Map K X = filter p es in
      elim (R k e.0) as (λ o. R k e.0 ≡ o → filter p (by_order o ((k, x) ∷ e ∷ es) ((e.0, x) ∷ es) (e ∷ put R k x es)) ≡ put R k x (cond (p e) (e ∷ rest) rest)) [
        | Less ↦ λ is.
            let above : below_all R k es ≡ true = lower k e.0 (ap is_lt is) es parts.0 in
            ap (λ b. cond b ((k, x) ∷ cond (p e) (e ∷ rest) rest) (cond (p e) (e ∷ rest) rest)) passes
            ∙ (elim (p e) as (λ b. (k, x) ∷ cond b (e ∷ rest) rest ≡ put R k x (cond b (e ∷ rest) rest)) [
              | true ↦ sym (ap (λ o. by_order o ((k, x) ∷ e ∷ rest) ((e.0, x) ∷ rest) (e ∷ put R k x rest)) is)
              | false ↦ sym (put_front k x rest (filtered p k es above))
            ])
        | Equal ↦ λ is.
            let same : k ≡ e.0 = ties k e.0 is in
            let above : below_all R k es ≡ true = ap (λ q. below_all R q es) same ∙ parts.0 in
            ap (λ b. cond b ((e.0, x) ∷ rest) rest) (ap (λ q. p (q, x)) (sym same) ∙ passes)
            ∙ (elim (p e) as (λ b. (e.0, x) ∷ rest ≡ put R k x (cond b (e ∷ rest) rest)) [
              | true ↦ sym (ap (λ o. by_order o ((k, x) ∷ e ∷ rest) ((e.0, x) ∷ rest) (e ∷ put R k x rest)) is)
              | false ↦ ap (λ q. (q, x) ∷ rest) (sym same) ∙ sym (put_front k x rest (filtered p k es above))
            ])
        | Greater ↦ λ is.
            (elim (p e) as (λ b. cond b (e ∷ filter p (put R k x es)) (filter p (put R k x es)) ≡ put R k x (cond b (e ∷ rest) rest)) [
              | true ↦ ap (λ l. e ∷ l) later ∙ sym (ap (λ o. by_order o ((k, x) ∷ e ∷ rest) ((e.0, x) ∷ rest) (e ∷ put R k x rest)) is)
              | false ↦ later
            ])
      ] refl

  -- so objects that have the keys of those that pass have them still
  put_keys : {X Y : Type 0} (k : K) (x : X) (y : Y) (es : Map K X) (fs : Map K Y) → keys es ≡ keys fs → keys (put R k x es) ≡ keys (put R k y fs)
  put_keys k x y [] [] same = refl
  put_keys k x y [] (f ∷ fs) same = absurd cc
  put_keys k x y (e ∷ es) [] same = absurd cc
  put_keys {X} {Y} k x y (e ∷ es) (f ∷ fs) same =
      let first : e.0 ≡ f.0 = cc in
      let rest : keys es ≡ keys fs = cc in
      let later = put_keys k x y es fs rest in
      keys_of k x e es ∙ (λ i. by_order (R k (first i)) (k ∷ first i ∷ rest i) (first i ∷ rest i) (first i ∷ later i)) ∙ sym (keys_of k y f fs)
    where
      keys_of : {Z : Type 0} (q : K) (z : Z) (d : K × Z) (ds : Map K Z) → keys (put R q z (d ∷ ds)) ≡ by_order (R q d.0) (q ∷ d.0 ∷ keys ds) (d.0 ∷ keys ds) (d.0 ∷ keys (put R q z ds))
      keys_of q z d ds = elim (R q d.0) as (λ o. keys (by_order o ((q, z) ∷ d ∷ ds) ((d.0, z) ∷ ds) (d ∷ put R q z ds)) ≡ by_order o (q ∷ d.0 ∷ keys ds) (d.0 ∷ keys ds) (d.0 ∷ keys (put R q z ds))) [ Less ↦ refl | Equal ↦ refl | Greater ↦ refl ]

  pub heavy_keys : {X Y : Type 0} (p : K × X → Bool) (k : K) (x : X) (y : Y) (es : Map K X) (objects : Map K Y) → p (k, x) ≡ true → IsMap R es → keys objects ≡ keys (filter p es)
      → keys (put R k y objects) ≡ keys (filter p (put R k x es))
  heavy_keys p k x y es objects passes sorted same = put_keys k y x objects (filter p es) same ∙ ap (λ l. keys l) (sym (filter_put p k x es passes sorted))

edge_less : (a b c : EdgeKey) → is_lt (edge_cmp a b) ≡ true → is_lt (edge_cmp b c) ≡ true → is_lt (edge_cmp a c) ≡ true
edge_less a b c one other = grind (arith, nat_tests, one, other)

-- an edge turns heavy, or stays so, and has this object
pub heavy_put : (edges : EdgeObjects) (g : Graph) (key : EdgeKey) (edge : Edge) (place : Place) → IsMap edge_cmp g.edges → is_heavy edge ≡ true → keys edges ≡ keys (heavy_edges g.edges)
    → keys (put edge_cmp key place edges) ≡ keys (heavy_edges (put edge_cmp key edge g.edges))
heavy_put edges g key edge place sorted heavy same = heavy_keys edge_cmp edge_cmp_same edge_less (λ entry. is_heavy entry.1) key edge place g.edges edges heavy sorted same
