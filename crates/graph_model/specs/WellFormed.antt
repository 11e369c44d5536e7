-- When a graph is well formed: what any run of calls leaves.
use Rattle.std.specs.Prelude.{◌≡◌, ◌≢◌, ℕ, ◌^◌, ◌<◌, ◌≤◌, false, List, [], ◌∷◌, map, length, IsSome, IsSomeAnd, FitsSigned}
use Rattle.std.specs.List.{AllByRecursion}
use Rattle.std.specs.Int.{w64}
use Rattle.std.specs.Ordering.{nat_cmp}
use Rattle.gdi_kinds.specs.declared.value.Value.{Value}
use Rattle.gdi_kinds.specs.declared.value.Value.TheVariants as value
use Rattle.gdi_kinds.specs.Constraint.{kind_of}
use Rattle.gdi_kinds.specs.Names.{IsName}
use Rattle.gdi_kinds.specs.Texts.{IsText}
use Rattle.graph_model.specs.Maps.{IsMap, IsSet, item_at}
use Rattle.graph_model.specs.Graph.{Name, PropType, Props, Graph, Vertex, Edge, EdgeKey, edge_cmp, vertex_at}

-- names, none of which stands twice
abbrev pub AreNames : List Name → Type 0
AreNames [] = Unit {0}
AreNames (name ∷ names) = IsName name × AllByRecursion (λ other. other ≢ name) names × AreNames names

abbrev pub IsValue : Value → Type 0
IsValue (value.Int n) = FitsSigned w64 n
IsValue (value.Bool b) = Unit {0}
IsValue (value.Text t) = IsText t

-- numbers of labels of the graph
abbrev pub AreLabels : Graph → List ℕ → Type 0
AreLabels g labels = IsSet labels × AllByRecursion (λ n. n < length g.labels) labels

-- values of a type: of its kind, at least one, and no more where the type isn't marked
pub record AreValues (type : PropType) (values : List Value) : Type 0 where
  pub each : AllByRecursion (λ value. IsValue value × (type.kind ≡ kind_of value)) values
  pub some : 1 ≤ length values
  pub single : type.many ≡ false → length values ≡ 1

-- properties of types of the graph
abbrev pub AreProps : Graph → Props → Type 0
AreProps g props = IsMap nat_cmp props
    × AllByRecursion (λ entry. IsSomeAnd (item_at g.types entry.0) (λ type. AreValues type entry.1)) props

pub record VertexFits (g : Graph) (id : ℕ) (vertex : Vertex) : Type 0 where
  pub in_range : id < 2 ^ 64
  pub next : vertex.next < 2 ^ 64
  pub labels : AreLabels g vertex.labels
  pub props : AreProps g vertex.props

pub record EdgeFits (g : Graph) (key : EdgeKey) (edge : Edge) : Type 0 where
  -- both ends are vertices, and the source has given this ordinal out
  pub source : IsSomeAnd (vertex_at g key.source) (λ vertex. key.ordinal < vertex.next)
  pub target : IsSome (vertex_at g edge.target)
  pub labels : AreLabels g edge.labels
  pub props : AreProps g edge.props

pub record IsWellFormed (g : Graph) : Type 0 where
  pub labels : AreNames g.labels
  pub types : AreNames (map (λ type. type.name) g.types)
  pub vertices : IsMap nat_cmp g.vertices
  pub edges : IsMap edge_cmp g.edges
  pub each_vertex : AllByRecursion (λ entry. VertexFits g entry.0 entry.1) g.vertices
  pub each_edge : AllByRecursion (λ entry. EdgeFits g entry.0 entry.1) g.edges
