-- What is written at edges that the graph holds: the graph that it leaves, and what is kept beside it.
use Rattle.std.proofs.Common.{◌≡◌, ℕ, ◌+◌, ◌*◌, ◌<◌, length, Bool, true, false, not, ◌||◌, cond, List, [], Option, Some, None, is_some, refl, ap, sym, subst, ◌∙◌, eqb, arith}
use Rattle.std.specs.Prelude.{◌==◌, IsSome, IsSomeAnd}
use Rattle.std.specs.List.{AllByRecursion}
use Rattle.std.specs.List.Sorted.{IsStrictlySortedBy}
use Rattle.std.specs.Option.{option_map_or}
use Rattle.std.specs.Ordering.{nat_cmp}
use Rattle.std.proofs.lemmas.Bool.{eqb-true}
use Rattle.std.proofs.lemmas.Bool.Decides.{nat_tests}
use Rattle.std.specs.Map.{keys_of, lookup, remove_entry, set_value}
use Rattle.std.specs.BTreeMap.{insert_entry, is_at}
use Rattle.std.specs.FinMap.Entries.{put, find}
use Rattle.rma_layout.specs.Shape.{Shape}
use Rattle.graph_model.specs.Maps.{Map, at, with_at}
use Rattle.graph_model.specs.Graph.{Name, PropType, Graph, Vertex, Edge, EdgeKey, edge_cmp, vertex_at, edge_at}
use Rattle.graph_model.specs.Sizes.{is_too_large, records_at, words_of_props}
use Rattle.graph_model.specs.VertexCalls.{with_vertex}
use Rattle.graph_model.specs.EdgeCalls.{ordinals_end, with_edge, is_vertex_too_large}
use Rattle.graph_model.proofs.Entries.{same_value, never, edge_cmp_total}
use Rattle.edge_index.specs.Index.{source_of, target_of}
use Rattle.edge_index.proofs.OrderedEntries.{lookup-find, set_value-put, insert_entry-put}
use Rattle.edge_index.proofs.EdgeMaps.{index-written, edge_removed, is_named, length-filter-put}
use Rattle.map_graph.specs.Plain.{Plain, graph_of, IsBetween, IsCounted, with_new_edge}
use Rattle.graph_parts.proofs.OrderedMaps.{lookup-at, set_value-with_at}
use Rattle.map_graph.proofs.Ends.{between, ends-put, ends-left, ends-written, next_is_free, at-with_at, at-put, still}

module _ (shape : Shape) (labels : List Name) (types : List PropType) (vertices : Map ℕ Vertex) (edges : Map EdgeKey Edge) (now : Plain) (seen : (record { shape = shape; graph = graph_of labels types vertices edges }) ≡ now) (key : EdgeKey) where
  pub edge-seen : (found : Option Edge) → found ≡ lookup (is_at (edge_cmp key)) edges → edge_at now.graph key.source key.ordinal ≡ found
  edge-seen found is = sym (is ∙ lookup-find edge_cmp key edges ∙ ap (λ (p : Plain). edge_at p.graph key.source key.ordinal) seen)

  pub edge-missing : None ≡ lookup (is_at (edge_cmp key)) edges → IsSome (edge_at now.graph key.source key.ordinal) → ⊥
  edge-missing none there = never (subst IsSome (edge-seen None none) there)

  -- a change of what stands there
  pub edge-written : (change : Edge → Edge) (v w u : Edge) (after : Map EdgeKey Edge) → IsStrictlySortedBy edge_cmp (keys_of edges) → Some v ≡ lookup (is_at (edge_cmp key)) edges
      → after ≡ set_value (is_at (edge_cmp key)) edges w → w ≡ change v → edge_at now.graph key.source key.ordinal ≡ Some u → graph_of labels types vertices after ≡ with_edge now.graph key.source key.ordinal (change u)
  edge-written change v w u after rises there is changed at =
      let same : v ≡ u = same_value v u (sym (edge-seen (Some v) there) ∙ at) in
      let put' = is ∙ set_value-put edge_cmp edge_cmp_total key w edges rises (ap is_some (sym there)) ∙ ap (λ x. put edge_cmp key x edges) (changed ∙ ap change same) in
      ap (λ es. graph_of labels types vertices es) put' ∙ ap (λ (p : Plain). with_edge p.graph key.source key.ordinal (change u)) seen

-- and it leaves what is kept beside the graph
pub edge-counted : (shape : Shape) (labels : List Name) (types : List PropType) (vertices : Map ℕ Vertex) (edges : Map EdgeKey Edge) (words : ℕ) (torn : Bool) (bucket_counts slot_counts : Map ℕ ℕ) (outgoing incoming : Map ℕ (List EdgeKey))
    → IsCounted shape labels types vertices edges words torn bucket_counts slot_counts outgoing incoming → (key : EdgeKey) (v w : Edge) (after : Map EdgeKey Edge) → IsStrictlySortedBy edge_cmp (keys_of edges)
    → Some v ≡ lookup (is_at (edge_cmp key)) edges → after ≡ set_value (is_at (edge_cmp key)) edges w → w.target ≡ v.target
    → IsCounted shape labels types vertices after words torn bucket_counts slot_counts outgoing incoming
edge-counted shape labels types vertices edges words torn bucket_counts slot_counts outgoing incoming counted key v w after rises there is same =
    let put' : after ≡ put edge_cmp key w edges = is ∙ set_value-put edge_cmp edge_cmp_total key w edges rises (ap is_some (sym there)) in
    record {
      names = counted.names;
      buckets = counted.buckets;
      slots = counted.slots;
      outgoing = λ whole. index-written source_of edges outgoing (counted.outgoing whole) key v w after (λ k. refl) there is;
      incoming = λ whole. index-written target_of edges incoming (counted.incoming whole) key v w after (λ k. sym same) there is;
      ends = λ whole.
          let here = between vertices key v edges (counted.ends whole) (sym (lookup-find edge_cmp key edges) ∙ sym there) in
          subst (AllByRecursion (IsBetween vertices)) (sym put') (ends-put vertices key w edges (record { source = here.source; target = subst (λ t. IsSome (at vertices t)) (sym same) here.target }) (counted.ends whole));
    }

pub ends-cut : (vertices : Map ℕ Vertex) (key : EdgeKey) (edges left : Map EdgeKey Edge) → left ≡ remove_entry (is_at (edge_cmp key)) edges → lookup (is_at (edge_cmp key)) left ≡ None
    → AllByRecursion (IsBetween vertices) edges → AllByRecursion (IsBetween vertices) left
ends-cut vertices key edges left is none all =
    subst (AllByRecursion (IsBetween vertices)) (sym (edge_removed key edges left is none)) (ends-left vertices (λ entry. not (is_named key entry)) edges all)

-- ---- an edge that is new

pub some-of : (o : Option Vertex) (P : Vertex → Type 0) → IsSomeAnd o P → IsSome o
some-of None P some = absurd some
some-of (Some v) P some = refl

pub at-some : (o : Option Vertex) (v : Vertex) (P : Vertex → Type 0) → o ≡ Some v → IsSomeAnd o P → P v
at-some o v P is some = subst (λ o. IsSomeAnd o P) is some

module _ (vertices : Map ℕ Vertex) (edges : Map EdgeKey Edge) (key : EdgeKey) where
  pub edge_free : (source : ℕ) (v : Vertex) → source ≡ key.source → AllByRecursion (IsBetween vertices) edges → Some v ≡ lookup (is_at (nat_cmp source)) vertices → key.ordinal ≡ v.next → lookup (is_at (edge_cmp key)) edges ≡ None
  edge_free source v same all there next =
      let at_key : at vertices key.source ≡ Some v = ap (at vertices) (sym same) ∙ sym (there ∙ lookup-at source vertices) in
      let named : (record { source = key.source; ordinal = v.next }) ≡ key = λ i. record { source = key.source; ordinal = sym next i } in
      lookup-find edge_cmp key edges ∙ ap (λ (k : EdgeKey). find edge_cmp k edges) (sym named) ∙ next_is_free vertices key.source v edges all at_key

  pub ends-more : (edge : Edge) (source : ℕ) (v w : Vertex) → source ≡ key.source → AllByRecursion (IsBetween vertices) edges → IsStrictlySortedBy nat_cmp (keys_of vertices) → Some v ≡ lookup (is_at (nat_cmp source)) vertices
      → key.ordinal ≡ v.next → w ≡ (record v { next = v.next + 1 }) → IsSome (at vertices edge.target) → (after : Map ℕ Vertex) → after ≡ set_value (is_at (nat_cmp source)) vertices w
      → (more : Map EdgeKey Edge) → more ≡ insert_entry edge_cmp edges key edge → AllByRecursion (IsBetween after) more
  ends-more edge source v w same all rises there next raised target after is more put_in =
      let here : at vertices source ≡ Some v = sym (there ∙ lookup-at source vertices) in
      let up : w.next ≡ v.next + 1 = ap (λ (u : Vertex). u.next) raised in
      let written : after ≡ with_at vertices source w = is ∙ set_value-with_at source w vertices rises (ap is_some here) in
      let at_key : at (with_at vertices source w) key.source ≡ Some w = ap (at (with_at vertices source w)) (sym same) ∙ at-put vertices source w in
      let own : IsBetween (with_at vertices source w) (key, edge) = record {
        source = subst (λ o. IsSomeAnd o (λ u. key.ordinal < u.next)) (sym at_key) (omega (arith, next, up));
        target = still vertices source v w here (omega (arith, up)) edge.target target;
      } in
      subst (λ es. AllByRecursion (IsBetween after) es) (sym (put_in ∙ insert_entry-put edge_cmp key edge edges))
      (subst (λ vs. AllByRecursion (IsBetween vs) (put edge_cmp key edge edges)) (sym written)
      (ends-put (with_at vertices source w) key edge edges own (ends-written vertices source v w here (omega (arith, up)) edges all)))

-- the graph with it
pub put-graph : (shape : Shape) (labels : List Name) (types : List PropType) (vertices : Map ℕ Vertex) (edges : Map EdgeKey Edge) (now : Plain) (seen : (record { shape = shape; graph = graph_of labels types vertices edges }) ≡ now)
    (key : EdgeKey) (source : ℕ) (v w u : Vertex) → source ≡ key.source → IsStrictlySortedBy nat_cmp (keys_of vertices) → Some v ≡ lookup (is_at (nat_cmp source)) vertices → w ≡ (record v { next = v.next + 1 })
    → (after : Map ℕ Vertex) → after ≡ set_value (is_at (nat_cmp source)) vertices w → vertex_at now.graph key.source ≡ Some u → (edge made : Edge) → edge ≡ made → (more : Map EdgeKey Edge) → more ≡ insert_entry edge_cmp edges key edge
    → graph_of labels types after more ≡ with_edge (with_vertex now.graph key.source (record u { next = u.next + 1 })) key.source key.ordinal made
put-graph shape labels types vertices edges now seen key source v w u same rises there raised after is at_u edge made told more put_in =
    let found : v ≡ u = same_value v u (there ∙ lookup-at source vertices ∙ ap (at vertices) same ∙ ap (λ (p : Plain). vertex_at p.graph key.source) seen ∙ at_u) in
    let written : after ≡ with_at vertices key.source (record u { next = u.next + 1 }) =
    is ∙ set_value-with_at source w vertices rises (ap is_some (sym (there ∙ lookup-at source vertices))) ∙ ap (with_at vertices source) (raised ∙ ap (λ (x : Vertex). record x { next = x.next + 1 }) found) ∙ ap (λ s. with_at vertices s (record u { next = u.next + 1 })) same in
    ap (λ vs. graph_of labels types vs more) written
    ∙ ap (λ es. graph_of labels types (with_at vertices key.source (record u { next = u.next + 1 })) es) (put_in ∙ insert_entry-put edge_cmp key edge edges ∙ ap (λ e. put edge_cmp key e edges) told)
    ∙ ap (λ (p : Plain). with_edge (with_vertex p.graph key.source (record u { next = u.next + 1 })) key.source key.ordinal made) seen

-- ---- room for it

module _ (g : Graph) (source target : ℕ) (v : Vertex) (undirected : Bool) (labels : List ℕ) (there : vertex_at g source ≡ Some v) (free : find edge_cmp (record { source = source; ordinal = v.next }) g.edges ≡ None) where
  abbrev key : EdgeKey
  key = record { source = source; ordinal = v.next }

  abbrev edge : Edge
  edge = record { target = target; undirected = undirected; labels = labels; props = [] }

  abbrev grown : Graph
  grown = with_new_edge g source v target undirected labels

  grown_records : (j : ℕ) → records_at grown j ≡ records_at g j + cond (source == j) 1 0 + cond (target == j) 1 0
  grown_records j = omega (arith, length-filter-put edge_cmp (λ entry. entry.0.source == j) key edge g.edges free, length-filter-put edge_cmp (λ entry. entry.1.target == j) key edge g.edges free)

  abbrev words_with : Graph → ℕ → ℕ → Bool
  words_with h j ends = option_map_or (λ vertex. is_too_large (5 + length vertex.labels + words_of_props vertex.props + 5 * (records_at h j + ends))) (vertex_at h j) false

  room : (j ends : ℕ) → cond (source == j) 1 0 + cond (target == j) 1 0 ≡ ends → is_vertex_too_large grown j ≡ words_with g j ends
  room j ends count =
      let records : records_at grown j ≡ records_at g j + ends = omega (arith, grown_records j, count) in
      ap (λ n. option_map_or (λ vertex. is_too_large (5 + length vertex.labels + words_of_props vertex.props + 5 * n)) (vertex_at grown j) false) records
      ∙ ap (λ o. option_map_or (λ vertex. is_too_large (5 + length vertex.labels + words_of_props vertex.props + 5 * (records_at g j + ends))) o false) (at-with_at g.vertices source j (record v { next = v.next + 1 }))
      ∙ elim (eqb source j) as (λ b. eqb source j ≡ b
      → option_map_or (λ vertex. is_too_large (5 + length vertex.labels + words_of_props vertex.props + 5 * (records_at g j + ends))) (cond b (Some (record v { next = v.next + 1 })) (vertex_at g j)) false ≡ words_with g j ends) [
        | true ↦ λ same. ap (λ o. option_map_or (λ vertex. is_too_large (5 + length vertex.labels + words_of_props vertex.props + 5 * (records_at g j + ends))) o false) (sym (ap (vertex_at g) (sym (eqb-true source j same)) ∙ there))
        | false ↦ λ _. refl
      ] refl

  pub edge_room : (ends : ℕ) → ends ≡ cond (eqb source target) 2 1 → (full_source full_target : Bool) → full_source ≡ words_with g source ends → full_target ≡ words_with g target ends
      → (full_source || full_target) ≡ (is_vertex_too_large grown source || is_vertex_too_large grown target)
  edge_room ends is full_source full_target at_source at_target =
      let one : cond (source == source) 1 0 + cond (target == source) 1 0 ≡ ends = grind (arith, nat_tests) in
      let other : cond (source == target) 1 0 + cond (target == target) 1 0 ≡ ends = grind (arith, nat_tests) in
      ap (λ b. b || full_target) (at_source ∙ sym (room source ends one)) ∙ ap (λ b. is_vertex_too_large grown source || b) (at_target ∙ sym (room target ends other))

-- where an ordinal is left, the room decides
pub not_last : (n : ℕ) (at_source at_target full : Bool) → (n ≡ ordinals_end → ⊥) → full ≡ (at_source || at_target) → (n == ordinals_end || at_source || at_target) ≡ full
not_last n at_source at_target full left is =
    elim (n == ordinals_end) as (λ b. (n == ordinals_end) ≡ b → (b || at_source || at_target) ≡ full) [
      | true ↦ λ last. absurd (left (eqb-true n ordinals_end last))
      | false ↦ λ _. sym is
    ] refl
