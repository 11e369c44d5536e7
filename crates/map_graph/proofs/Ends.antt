-- The ends of edges: what a change of vertices or edges leaves of them.
use Rattle.std.proofs.Common.{◌≡◌, ℕ, ◌<◌, ◌≤◌, Bool, true, false, not, ◌||◌, cond, [], ◌∷◌, Option, Some, None, is_some, refl, ap, sym, subst, ◌∙◌, eqb, arith}
use Rattle.std.specs.Prelude.{◌==◌, IsSome, IsSomeAnd}
use Rattle.std.specs.List.{AllByRecursion, filter}
use Rattle.std.specs.Ordering.{nat_cmp}
use Rattle.std.specs.Cmp.{nat_cmp_total}
use Rattle.std.specs.FinMap.Entries.{put, find, find-put, find-where_key}
use Rattle.std.specs.FinMap.{nat_cmp-IsAntisymmetric}
use Rattle.std.proofs.lemmas.Bool.{eqb-true, or_parts}
use Rattle.std.proofs.lemmas.Bool.Decides.{nat_tests}
use Rattle.graph_model.specs.Maps.{Map, at, is_there, with_at, without}
use Rattle.graph_model.specs.Graph.{Vertex, Edge, EdgeKey, edge_cmp, new_vertex}
use Rattle.graph_model.proofs.Sets.{is_eq-nat_cmp}
use Rattle.graph_model.proofs.Entries.{never, All-map, All-filter, All-put, All-find, edge_cmp_same}
use Rattle.map_graph.specs.Plain.{IsBetween, IsApart}

abbrev AreBetween : Map ℕ Vertex → Map EdgeKey Edge → Type 0
AreBetween vertices edges = AllByRecursion (IsBetween vertices) edges

pub at-with_at : (vertices : Map ℕ Vertex) (id j : ℕ) (w : Vertex) → at (with_at vertices id w) j ≡ cond (eqb id j) (Some w) (at vertices j)
at-with_at vertices id j w = find-put nat_cmp nat_cmp_total j id w vertices ∙ ap (λ b. cond b (Some w) (at vertices j)) (is_eq-nat_cmp j id)

eqb-self : (n : ℕ) → eqb n n ≡ true
eqb-self n = grind (arith, nat_tests)

pub at-put : (vertices : Map ℕ Vertex) (id : ℕ) (w : Vertex) → at (with_at vertices id w) id ≡ Some w
at-put vertices id w = at-with_at vertices id id w ∙ ap (λ b. cond b (Some w) (at vertices id)) (eqb-self id)

-- a vertex that is written, whose next ordinal doesn't fall
module _ (vertices : Map ℕ Vertex) (id : ℕ) (v w : Vertex) (there : at vertices id ≡ Some v) (up : v.next ≤ w.next) where
  kept : (P : Vertex → Type 0) → (P v → P w) → (j : ℕ) → IsSomeAnd (at vertices j) P → IsSomeAnd (at (with_at vertices id w) j) P
  kept P more j some =
      subst (λ o. IsSomeAnd o P) (sym (at-with_at vertices id j w))
      (elim (eqb id j) as (λ b. eqb id j ≡ b → IsSomeAnd (cond b (Some w) (at vertices j)) P) [
        | true ↦ λ same. more (subst (λ o. IsSomeAnd o P) (ap (λ k. at vertices k) (sym (eqb-true id j same)) ∙ there) some)
        | false ↦ λ _. some
      ] refl)

  pub still : (j : ℕ) → IsSome (at vertices j) → IsSome (at (with_at vertices id w) j)
  still j some = ap is_some (at-with_at vertices id j w) ∙ elim (eqb id j) as (λ b. is_some (cond b (Some w) (at vertices j)) ≡ true) [ true ↦ refl | false ↦ some ]

  pub ends-written : (edges : Map EdgeKey Edge) → AreBetween vertices edges → AreBetween (with_at vertices id w) edges
  ends-written edges all =
      All-map (IsBetween vertices) (IsBetween (with_at vertices id w)) (λ entry is. record { source = kept (λ u. entry.0.ordinal < u.next) (λ below. omega arith) entry.0.source is.source; target = still entry.1.target is.target }) edges all

-- a new vertex
module _ (vertices : Map ℕ Vertex) (id : ℕ) (absent : is_there vertices id ≡ false) where
  apart : (j : ℕ) → IsSome (at vertices j) → at (with_at vertices id new_vertex) j ≡ at vertices j
  apart j some =
      at-with_at vertices id j new_vertex
      ∙ elim (eqb id j) as (λ b. eqb id j ≡ b → cond b (Some new_vertex) (at vertices j) ≡ at vertices j) [
        | true ↦ λ same. never (sym absent ∙ ap (is_there vertices) (eqb-true id j same) ∙ some)
        | false ↦ λ _. refl
      ] refl

  pub ends-made : (edges : Map EdgeKey Edge) → AreBetween vertices edges → AreBetween (with_at vertices id new_vertex) edges
  ends-made edges all =
      All-map (IsBetween vertices) (IsBetween (with_at vertices id new_vertex)) (λ entry is. record {
        source = subst (λ o. IsSomeAnd o (λ u. entry.0.ordinal < u.next)) (sym (apart entry.0.source (some_of (at vertices entry.0.source) (λ u. entry.0.ordinal < u.next) is.source))) is.source;
        target = ap is_some (apart entry.1.target is.target) ∙ is.target;
      }) edges all
    where
      some_of : (o : Option Vertex) (P : Vertex → Type 0) → IsSomeAnd o P → IsSome o
      some_of None P some = absurd some
      some_of (Some u) P some = refl

-- a vertex without edges that is taken out
module _ (vertices : Map ℕ Vertex) (id : ℕ) where
  at-without : (j : ℕ) → (j == id) ≡ false → at (without vertices id) j ≡ at vertices j
  at-without j other =
      find-where_key nat_cmp (λ k. not (k == id)) j (λ x tied. ap (λ k. not (k == id)) (sym (nat_cmp-IsAntisymmetric j x tied))) vertices
      ∙ ap (λ b. cond (not b) (at vertices j) None) other

  pub ends-dropped : (edges : Map EdgeKey Edge) → AllByRecursion (IsApart id) edges → AreBetween vertices edges → AreBetween (without vertices id) edges
  ends-dropped [] apart all = tt
  ends-dropped (e ∷ es) apart all = (
    record {
      source = subst (λ o. IsSomeAnd o (λ u. e.0.ordinal < u.next)) (sym (at-without e.0.source apart.0.0)) all.0.source;
      target = ap is_some (at-without e.1.target apart.0.1) ∙ all.0.target;
    },
    ends-dropped es apart.1 all.1,
  )

-- the edges that are left once those at a vertex are cut
pub cut_apart : (id : ℕ) (edges : Map EdgeKey Edge) → AllByRecursion (IsApart id) (filter (λ entry. not (entry.0.source == id || entry.1.target == id)) edges)
cut_apart id [] = tt
cut_apart id (e ∷ es) =
    elim (e.0.source == id || e.1.target == id) as (λ b. (e.0.source == id || e.1.target == id) ≡ b
    → AllByRecursion (IsApart id) (cond (not b) (e ∷ filter (λ entry. not (entry.0.source == id || entry.1.target == id)) es) (filter (λ entry. not (entry.0.source == id || entry.1.target == id)) es))) [
      | true ↦ λ _. cut_apart id es
      | false ↦ λ other. (or_parts (e.0.source == id) (e.1.target == id) other, cut_apart id es)
    ] refl

-- edges that are left, one that is new, and one that is written
pub ends-left : (vertices : Map ℕ Vertex) (p : EdgeKey × Edge → Bool) (edges : Map EdgeKey Edge) → AreBetween vertices edges → AreBetween vertices (filter p edges)
ends-left vertices p edges all = All-filter (IsBetween vertices) (IsBetween vertices) p (λ _ _ is. is) edges all

pub ends-put : (vertices : Map ℕ Vertex) (key : EdgeKey) (edge : Edge) (edges : Map EdgeKey Edge) → IsBetween vertices (key, edge) → AreBetween vertices edges → AreBetween vertices (put edge_cmp key edge edges)
ends-put vertices key edge edges here all = All-put edge_cmp edge_cmp_same (IsBetween vertices) key edge edges here all

pub between : (vertices : Map ℕ Vertex) (key : EdgeKey) (edge : Edge) (edges : Map EdgeKey Edge) → AreBetween vertices edges → find edge_cmp key edges ≡ Some edge → IsBetween vertices (key, edge)
between vertices key edge edges all there = All-find edge_cmp edge_cmp_same (IsBetween vertices) key edge edges all there

-- the next ordinal names no edge yet
pub next_is_free : (vertices : Map ℕ Vertex) (source : ℕ) (v : Vertex) (edges : Map EdgeKey Edge) → AreBetween vertices edges → at vertices source ≡ Some v
    → find edge_cmp (record { source = source; ordinal = v.next }) edges ≡ None
next_is_free vertices source v edges all there =
    elim (find edge_cmp (record { source = source; ordinal = v.next }) edges) as (λ found. find edge_cmp (record { source = source; ordinal = v.next }) edges ≡ found → found ≡ None) [
      | None ↦ λ _. refl
      | Some edge ↦ λ is.
          let below : v.next < v.next = subst (λ o. IsSomeAnd o (λ u. v.next < u.next)) there (between vertices (record { source = source; ordinal = v.next }) edge edges all is).source in
          absurd (omega arith)
    ] refl
