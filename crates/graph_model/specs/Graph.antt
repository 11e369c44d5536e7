-- A labelled property graph. Labels and property types have numbers, their places in their lists from 0; sets of
-- labels and maps of properties go by these numbers. Edges are directed or undirected.
use Rattle.std.specs.Prelude.{ℕ, Bool, false, not, ◌||◌, List, [], length, Option, is_some, nat_lt, ◌==◌}
use Rattle.std.specs.Option.{option_map_or}
use Rattle.std.specs.List.{filter}
use Rattle.std.specs.Ordering.{nat_cmp, ordering_then}
use Rattle.std.specs.declared.cmp.Ordering.{Ordering}
use Rattle.std.specs.FinMap.{find}
use Rattle.gdi_kinds.specs.declared.value.Value.{Value}
use Rattle.gdi_kinds.specs.declared.value.Kind.{Kind}
use Rattle.graph_model.specs.Maps.{Map, at}

-- a name as its bytes
abbrev pub Name : Type 0
Name = List ℕ

-- a property type: all its values are of one kind
pub record PropType : Type 0 where
  pub name : Name
  pub kind : Kind
  -- whether it is marked: only then may a property of this type have more than one value
  pub many : Bool

-- properties: the values of each, in order, by the numbers of their types. A value may stand there again
abbrev pub Props : Type 0
Props = Map ℕ (List Value)

pub record Vertex : Type 0 where
  -- the ordinal of the next edge from it
  pub next : ℕ
  -- the numbers of its labels
  pub labels : List ℕ
  pub props : Props

pub record Edge : Type 0 where
  pub target : ℕ
  pub undirected : Bool
  pub labels : List ℕ
  pub props : Props

-- an edge is named by its source and its ordinal there, also one that is undirected
pub record EdgeKey : Type 0 where
  pub source : ℕ
  pub ordinal : ℕ

-- by source, then by ordinal
abbrev pub edge_cmp : EdgeKey → EdgeKey → Ordering
edge_cmp a b = ordering_then (nat_cmp a.source b.source) (nat_cmp a.ordinal b.ordinal)

pub record Graph : Type 0 where
  pub labels : List Name
  pub types : List PropType
  -- by identifier
  pub vertices : Map ℕ Vertex
  pub edges : Map EdgeKey Edge

abbrev pub empty_graph : Graph
empty_graph = record { labels = []; types = []; vertices = []; edges = [] }

abbrev pub new_vertex : Vertex
new_vertex = record { next = 0; labels = []; props = [] }

abbrev pub vertex_at : Graph → ℕ → Option Vertex
vertex_at g id = at g.vertices id

abbrev pub is_vertex : Graph → ℕ → Bool
is_vertex g id = is_some (vertex_at g id)

abbrev pub edge_at : Graph → ℕ → ℕ → Option Edge
edge_at g source ordinal = find edge_cmp (record { source = source; ordinal = ordinal }) g.edges

-- the edges whose source is this vertex, by rising ordinal
abbrev pub edges_from : Graph → ℕ → Map EdgeKey Edge
edges_from g id = filter (λ entry. entry.0.source == id) g.edges

-- the edges whose target is this vertex, by rising source and ordinal
abbrev pub edges_to : Graph → ℕ → Map EdgeKey Edge
edges_to g id = filter (λ entry. entry.1.target == id) g.edges

abbrev pub directed : Map EdgeKey Edge → Map EdgeKey Edge
directed edges = filter (λ entry. not entry.1.undirected) edges

abbrev pub undirected : Map EdgeKey Edge → Map EdgeKey Edge
undirected edges = filter (λ entry. entry.1.undirected) edges

-- an edge with two labels or more, or with a property, is heavy: it has an object of its own
abbrev pub is_heavy : Edge → Bool
is_heavy edge = nat_lt 1 (length edge.labels) || nat_lt 0 (length edge.props)

abbrev pub is_heavy_at : Graph → ℕ → ℕ → Bool
is_heavy_at g source ordinal = option_map_or is_heavy (edge_at g source ordinal) false
