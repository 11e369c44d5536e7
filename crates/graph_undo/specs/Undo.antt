-- How a graph is led back to what it was before a call: each step gives a vertex, an edge or the names what was there.
use Rattle.std.specs.Prelude.{◌≡◌, ℕ, ◌<◌, ◌&&◌, not, List, [], ◌∷◌, ◌++◌, map, length, take, Option, Some, None, IsSome, IsSomeAnd, ◌==◌}
use Rattle.std.specs.List.{AllByRecursion, filter}
use Rattle.std.specs.List.Sorted.{IsStrictlySortedBy}
use Rattle.std.specs.Map.{keys_of}
use Rattle.std.specs.Option.{option_map_or}
use Rattle.std.specs.Ordering.{nat_cmp}
use Rattle.gdi_kinds.specs.declared.call.Call.{Call}
use Rattle.gdi_kinds.specs.declared.call.Call.TheVariants.{NewLabel, NewType, Vertex as MakeVertex, DropVertex, Tag, Untag, Set, Add, Unset, Edge as MakeEdge, UEdge, Cut, ETag, EUntag, ESet, EAdd, EUnset}
use Rattle.rma_layout.specs.Shape.{Shape}
use Rattle.graph_model.specs.Maps.{Map, without}
use Rattle.graph_model.specs.Graph.{Graph, Vertex, Edge, EdgeKey, edge_cmp, vertex_at, edge_at, edges_from, edges_to}
use Rattle.graph_model.specs.VertexCalls.{with_vertex}
use Rattle.graph_model.specs.EdgeCalls.{with_edge}
use Rattle.graph_model.specs.Calls.{graph_after_call}

-- as many labels and types as there were, or what there was at a vertex or an edge
pub data Undo : Type 0 where
  Names : ℕ → ℕ → Undo
  AtVertex : ℕ → Option Vertex → Undo
  AtEdge : EdgeKey → Option Edge → Undo

abbrev pub vertex_put_back : Graph → ℕ → Option Vertex → Graph
vertex_put_back g id None = record g { vertices = without g.vertices id }
vertex_put_back g id (Some vertex) = with_vertex g id vertex

abbrev pub edge_put_back : Graph → EdgeKey → Option Edge → Graph
edge_put_back g key None = record g { edges = filter (λ entry. not (entry.0.source == key.source && entry.0.ordinal == key.ordinal)) g.edges }
edge_put_back g key (Some edge) = with_edge g key.source key.ordinal edge

abbrev pub undone : Undo → Graph → Graph
undone (Names labels types) g = record g { labels = take labels g.labels; types = take types g.types }
undone (AtVertex id before) g = vertex_put_back g id before
undone (AtEdge key before) g = edge_put_back g key before

-- the steps one after the other, from the last one noted to the first
abbrev pub rolled_back : List Undo → Graph → Graph
rolled_back [] g = g
rolled_back (step ∷ steps) g = undone step (rolled_back steps g)

-- ---- what is noted before a call

abbrev pub as_vertex : Graph → ℕ → List Undo
as_vertex g id = AtVertex id (vertex_at g id) ∷ []

abbrev pub as_edge : Graph → ℕ → ℕ → List Undo
as_edge g source ordinal = AtEdge (record { source = source; ordinal = ordinal }) (edge_at g source ordinal) ∷ []

abbrev pub as_edges : Map EdgeKey Edge → List Undo
as_edges edges = map (λ entry. AtEdge entry.0 (Some entry.1)) edges

abbrev pub as_next_edge : Graph → ℕ → List Undo
as_next_edge g source = option_map_or (λ vertex. as_edge g source vertex.next) (vertex_at g source) []

abbrev pub as_names : Graph → List Undo
as_names g = Names (length g.labels) (length g.types) ∷ []

-- what a call may change
abbrev pub noted_before : Graph → Call → List Undo
noted_before g (NewLabel name) = as_names g
noted_before g (NewType name kind many) = as_names g
noted_before g (MakeVertex id) = as_vertex g id
noted_before g (DropVertex id) = as_edges (edges_from g id) ++ (as_edges (edges_to g id) ++ as_vertex g id)
noted_before g (Tag id label) = as_vertex g id
noted_before g (Untag id label) = as_vertex g id
noted_before g (Set id prop value) = as_vertex g id
noted_before g (Add id prop value) = as_vertex g id
noted_before g (Unset id prop) = as_vertex g id
noted_before g (MakeEdge source target label) = as_vertex g source ++ as_next_edge g source
noted_before g (UEdge source target label) = as_vertex g source ++ as_next_edge g source
noted_before g (Cut source ordinal) = as_edge g source ordinal
noted_before g (ETag source ordinal label) = as_edge g source ordinal
noted_before g (EUntag source ordinal label) = as_edge g source ordinal
noted_before g (ESet source ordinal prop value) = as_edge g source ordinal
noted_before g (EAdd source ordinal prop value) = as_edge g source ordinal
noted_before g (EUnset source ordinal prop) = as_edge g source ordinal
noted_before g call = []

-- ---- steps that lead back to a graph

-- both ends of each edge are vertices, and the source has given out its ordinal
pub record IsEdgeOf (g : Graph) (entry : EdgeKey × Edge) : Type 0 where
  pub source : IsSomeAnd (vertex_at g entry.0.source) (λ vertex. entry.0.ordinal < vertex.next)
  pub target : IsSome (vertex_at g entry.1.target)

abbrev pub HasEnds : Graph → Type 0
HasEnds g = AllByRecursion (IsEdgeOf g) g.edges

-- so it is after each step
abbrev pub KeepEnds : List Undo → Graph → Type 0
KeepEnds [] g = Unit {0}
KeepEnds (step ∷ steps) g = HasEnds (rolled_back (step ∷ steps) g) × KeepEnds steps g

pub record LeadBack (steps : List Undo) (now before : Graph) : Type 0 where
  pub is : rolled_back steps now ≡ before
  pub ends : KeepEnds steps now

-- identifiers and names of edges rise
pub record IsInOrder (g : Graph) : Type 0 where
  pub vertices : IsStrictlySortedBy nat_cmp (keys_of g.vertices)
  pub edges : IsStrictlySortedBy edge_cmp (keys_of g.edges)

abbrev pub StepsLeadBack : Type 0
StepsLeadBack = (shape : Shape) (g : Graph) (call : Call) → IsInOrder g → HasEnds g
    → LeadBack (noted_before g call) (graph_after_call shape g call) g
