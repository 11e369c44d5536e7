-- What is put back into the graph, and what is kept beside it.
use Rattle.std.proofs.Common.{◌≡◌, ℕ, ◌+◌, ◌<◌, true, false, not, cond, List, [], ◌∷◌, Option, Some, None, is_some, refl, ap, sym, subst, ◌∙◌, arith}
use Rattle.std.specs.Prelude.{◌==◌, IsSome, IsSomeAnd}
use Rattle.std.specs.List.{AllByRecursion, filter, sum_by}
use Rattle.std.specs.Option.{option_map_or}
use Rattle.std.specs.List.Sorted.{IsStrictlySortedBy}
use Rattle.std.specs.Map.{keys_of, lookup}
use Rattle.std.specs.Ordering.{nat_cmp}
use Rattle.std.specs.BTreeMap.{insert_entry, is_at}
use Rattle.std.specs.FinMap.Entries.{put, find, find-put}
use Rattle.std.proofs.lemmas.Bool.{eqb-true}
use Rattle.std.proofs.lemmas.Bool.Decides.{nat_tests}
use Rattle.rma_layout.specs.Shape.{Shape}
use Rattle.rma_layout.specs.Placement.{raw_of, bucket_of}
use Rattle.graph_model.specs.Maps.{Map, at, is_there, with_at, without}
use Rattle.graph_model.specs.Graph.{Name, PropType, Graph, Vertex, Edge, EdgeKey, edge_cmp, vertex_at}
use Rattle.graph_model.specs.VertexCalls.{with_vertex}
use Rattle.graph_model.proofs.Entries.{never, All-map, All-find, edge_cmp_total, edge_cmp_same}
use Rattle.edge_index.proofs.EdgeMaps.{is_named, is_at-named}
use Rattle.graph_undo.specs.Undo.{IsEdgeOf, HasEnds}
use Rattle.graph_undo.proofs.PutBack.{put-out}
use Rattle.graph_parts.specs.Counts.{labels_kept}
use Rattle.map_graph.specs.Plain.{Plain, graph_of, IsBetween, IsApart}
use Rattle.graph_parts.proofs.OrderedMaps.{lookup-at, insert_entry-with_at}
use Rattle.graph_parts.proofs.Weights.{weight_at, weighed-with_at}

-- ---- the ends of edges, of the graph and of what is held

pub edges-of : (g : Graph) → AllByRecursion (IsBetween g.vertices) g.edges → HasEnds g
edges-of g all = All-map (IsBetween g.vertices) (IsEdgeOf g) (λ _ is. record { source = is.source; target = is.target }) g.edges all

pub ends-of : (g : Graph) → HasEnds g → AllByRecursion (IsBetween g.vertices) g.edges
ends-of g all = All-map (IsEdgeOf g) (IsBetween g.vertices) (λ _ is. record { source = is.source; target = is.target }) g.edges all

-- an edge that is there has its ends
pub ends-found : (g : Graph) (key : EdgeKey) (e : Edge) → HasEnds (record g { edges = put edge_cmp key e g.edges }) → IsEdgeOf g (key, e)
ends-found g key e all =
    let h : Graph = record g { edges = put edge_cmp key e g.edges } in
    let there : find edge_cmp key (put edge_cmp key e g.edges) ≡ Some e = found in
    let is = All-find edge_cmp edge_cmp_same (IsEdgeOf h) key e h.edges all there in
    record { source = is.source; target = is.target }
  where
    found : find edge_cmp key (put edge_cmp key e g.edges) ≡ Some e
    found =
        let itself : is_named key (key, e) ≡ true = grind (arith, nat_tests) in
        find-put edge_cmp edge_cmp_total key key e g.edges ∙ ap (λ b. cond b (Some e) (find edge_cmp key g.edges)) (is_at-named key (key, e) ∙ itself)

-- where a vertex isn't there, no edge is at it
pub apart-without : (g : Graph) (id : ℕ) → HasEnds (record g { vertices = without g.vertices id }) → AllByRecursion (IsApart id) g.edges
apart-without g id all =
    All-map (IsEdgeOf (record g { vertices = without g.vertices id })) (IsApart id)
    (λ entry is. (other entry.0.source (some-of (λ v. entry.0.ordinal < v.next) (at (without g.vertices id) entry.0.source) is.source), other entry.1.target is.target)) g.edges all
  where
    some-of : (P : Vertex → Type 0) (o : Option Vertex) → IsSomeAnd o P → is_some o ≡ true
    some-of P None some = absurd some
    some-of P (Some v) some = refl

    gone : (vs : Map ℕ Vertex) → is_there (without vs id) id ≡ false
    gone [] = refl
    gone (v ∷ vs) = grind (arith, nat_tests, gone vs)

    other : (j : ℕ) → is_there (without g.vertices id) j ≡ true → (j == id) ≡ false
    other j there =
        elim (j == id) as (λ b. (j == id) ≡ b → b ≡ false) [
          | true ↦ λ same. never (sym (gone g.vertices) ∙ ap (is_there (without g.vertices id)) (sym (eqb-true j id same)) ∙ there)
          | false ↦ λ _. refl
        ] refl

-- an edge that was taken out and is put back
pub put-after_out : (key : EdgeKey) (e : Edge) (es : Map EdgeKey Edge) → IsStrictlySortedBy edge_cmp (keys_of es)
    → put edge_cmp key e (filter (λ entry. not (is_named key entry)) es) ≡ put edge_cmp key e es
put-after_out key e es rises = put-out edge_cmp edge_cmp_total edge_cmp_same key (is_named key) (is_at-named key) e es rises

pub absent-after_out : (key : EdgeKey) (es : Map EdgeKey Edge) → find edge_cmp key (filter (λ entry. not (is_named key entry)) es) ≡ None
absent-after_out key [] = refl
absent-after_out key (e ∷ es) =
    elim (is_named key e) as (λ b. is_named key e ≡ b → find edge_cmp key (cond (not b) (e ∷ filter (λ entry. not (is_named key entry)) es) (filter (λ entry. not (is_named key entry)) es)) ≡ None) [
      | true ↦ λ _. absent-after_out key es
      | false ↦ λ other. ap (λ b. cond b (Some e.1) (find edge_cmp key (filter (λ entry. not (is_named key entry)) es))) (is_at-named key e ∙ other) ∙ absent-after_out key es
    ] refl

-- ---- sums after a vertex was put in: in the place of another, and where there was none

module _ (f : ℕ × Vertex → ℕ) (vertices : Map ℕ Vertex) (id : ℕ) (w : Vertex) (rises : IsStrictlySortedBy nat_cmp (keys_of vertices)) (after : Map ℕ Vertex) (is : after ≡ insert_entry nat_cmp vertices id w) where
  put-in : sum_by f after ≡ sum_by f (with_at vertices id w)
  put-in = ap (sum_by f) (is ∙ insert_entry-with_at id w vertices)

  weighs : (o : Option Vertex) → o ≡ lookup (is_at (nat_cmp id)) vertices → weight_at f vertices id ≡ option_map_or (λ x. f (id, x)) o 0
  weighs o there = ap (λ found. option_map_or (λ x. f (id, x)) found 0) (sym (there ∙ lookup-at id vertices))

  pub put-over : (v : Vertex) → Some v ≡ lookup (is_at (nat_cmp id)) vertices → sum_by f after + f (id, v) ≡ sum_by f vertices + f (id, w)
  put-over v there = omega (arith, put-in, weighed-with_at f id w vertices rises, weighs (Some v) there)

  pub put-new : None ≡ lookup (is_at (nat_cmp id)) vertices → sum_by f after ≡ sum_by f vertices + f (id, w)
  put-new none = omega (arith, put-in, weighed-with_at f id w vertices rises, weighs None none)

-- what a vertex weighs for a bucket, and for an object of the index
abbrev pub leads : Shape → ℕ → ℕ × Vertex → ℕ
leads shape raw entry = cond (raw_of (bucket_of shape entry.0) == raw) 1 0

abbrev pub keeps : Shape → ℕ → ℕ × Vertex → ℕ
keeps shape raw entry = labels_kept shape entry.0 entry.1.labels raw

-- the ends of an edge, as the graph and as the map has them
module _ (shape : Shape) (labels : List Name) (types : List PropType) (vertices : Map ℕ Vertex) (edges : Map EdgeKey Edge) (now : Plain) (seen : (record { shape = shape; graph = graph_of labels types vertices edges }) ≡ now) where
  pub between-seen : (key : EdgeKey) (e : Edge) → IsSomeAnd (vertex_at now.graph key.source) (λ vertex. key.ordinal < vertex.next) → IsSome (vertex_at now.graph e.target) → IsBetween vertices (key, e)
  between-seen key e source target = record {
    source = subst (λ (p : Plain). IsSomeAnd (vertex_at p.graph key.source) (λ vertex. key.ordinal < vertex.next)) (sym seen) source;
    target = subst (λ (p : Plain). IsSome (vertex_at p.graph e.target)) (sym seen) target;
  }

  -- those after a vertex was put in
  pub ends-put_in : (id : ℕ) (w : Vertex) → HasEnds (with_vertex now.graph id w) → (after : Map ℕ Vertex) → after ≡ insert_entry nat_cmp vertices id w → AllByRecursion (IsBetween after) edges
  ends-put_in id w ends after is =
      let here : HasEnds (graph_of labels types (with_at vertices id w) edges) = subst (λ (p : Plain). HasEnds (with_vertex p.graph id w)) (sym seen) ends in
      subst (λ vs. AllByRecursion (IsBetween vs) edges) (sym (is ∙ insert_entry-with_at id w vertices)) (ends-of (graph_of labels types (with_at vertices id w) edges) here)
