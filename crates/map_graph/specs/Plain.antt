-- What a plain graph is: a graph, and the shape by whose placement its calls are refused for want of room in an object.
use Rattle.std.specs.Prelude.{◌≡◌, ℕ, ◌+◌, ◌<◌, ◌≤◌, Bool, false, List, [], length, ◌&&◌, sum_by, count_by, ◌==◌, IsSome, IsSomeAnd}
use Rattle.std.specs.List.{AllByRecursion, list_any}
use Rattle.gdi_kinds.specs.declared.call.Call.{Call}
use Rattle.gdi_kinds.specs.declared.call.Call.TheVariants.{NewLabel, NewType, Vertex as MakeVertex, Has, DropVertex, Tag, Untag, Tags, Set, Add, Get, Unset, Props, Edge as MakeEdge, UEdge, Cut, Target, ETag, EUntag, ETags, ESet, EAdd, EGet, EUnset, EProps, Edges, Near, Degree, Find, Hood, Levels, Parts, Scan, Vertices, Arcs}
use Rattle.gdi_kinds.specs.declared.reply.Reply.{Reply}
use Rattle.rma_layout.specs.Shape.{Shape}
use Rattle.rma_layout.specs.Placement.{raw_of, bucket_of}
use Rattle.graph_model.specs.Maps.{Map, at}
use Rattle.graph_model.specs.Graph.{Name, PropType, Graph, Vertex, Edge, EdgeKey}
use Rattle.graph_model.specs.Sizes.{most_words, words_of_bytes}
use Rattle.graph_model.specs.Steps.{Step, Answer, answer_of}
use Rattle.graph_model.specs.VertexCalls.{with_vertex}
use Rattle.graph_model.specs.EdgeCalls.{with_edge}
use Rattle.graph_model.specs.Calls.{answer_to}
use Rattle.edge_index.specs.Index.{source_of, target_of, Indexes}
use Rattle.graph_parts.specs.Counts.{count_of, labels_kept}

pub record Plain : Type 0 where
  pub shape : Shape
  pub graph : Graph

-- a call on one plain graph leaves another, and has this reply
abbrev pub Answers : Plain → Call → Plain → Reply → Type 0
Answers before call after reply = answer_to before.shape before.graph call ≡ (record { graph = after.graph; reply = reply })

-- what the steps of a call end with
abbrev pub Ends : Plain → Step Answer → Plain → Reply → Type 0
Ends before steps after reply = answer_of before.graph steps ≡ (record { graph = after.graph; reply = reply })

-- a graph with an edge more, which has the next ordinal of its source
abbrev pub with_new_edge : Graph → ℕ → Vertex → ℕ → Bool → List ℕ → Graph
with_new_edge g source vertex target undirected labels =
    with_edge (with_vertex g source (record vertex { next = vertex.next + 1 })) source vertex.next (record { target = target; undirected = undirected; labels = labels; props = [] })

-- whether an edge's name is one of these
abbrev pub is_among : List EdgeKey → EdgeKey → Bool
is_among keys key = list_any (λ k. key.source == k.source && key.ordinal == k.ordinal) keys

abbrev pub graph_of : List Name → List PropType → Map ℕ Vertex → Map EdgeKey Edge → Graph
graph_of labels types vertices edges = record { labels = labels; types = types; vertices = vertices; edges = edges }

-- how many vertices have this pointer to their bucket
abbrev pub led_to_by : Shape → Map ℕ Vertex → ℕ → ℕ
led_to_by shape vertices raw = count_by (λ entry. raw_of (bucket_of shape entry.0) == raw) vertices

-- the counts are those of the buckets, by their pointers
abbrev pub CountsBuckets : Shape → Map ℕ Vertex → Map ℕ ℕ → Type 0
CountsBuckets shape vertices counts = (raw : ℕ) → count_of counts raw ≡ led_to_by shape vertices raw

-- how many labels of all vertices the object of the index with this pointer keeps
abbrev pub kept_by : Shape → Map ℕ Vertex → ℕ → ℕ
kept_by shape vertices raw = sum_by (λ entry. labels_kept shape entry.0 entry.1.labels raw) vertices

-- the counts are those of the objects of the index, by their pointers
abbrev pub CountsSlots : Shape → Map ℕ Vertex → Map ℕ ℕ → Type 0
CountsSlots shape vertices counts = (raw : ℕ) → count_of counts raw ≡ kept_by shape vertices raw

-- the words of each label and of each type in the object of the names
abbrev pub words_of_labels : List Name → ℕ
words_of_labels labels = sum_by (λ name. 1 + words_of_bytes (length name)) labels

abbrev pub words_of_types : List PropType → ℕ
words_of_types types = sum_by (λ type. 2 + words_of_bytes (length type.name)) types

-- these words are counted, and an object may have them
pub record CountsNames (labels : List Name) (types : List PropType) (words : ℕ) : Type 0 where
  pub sum : words ≡ words_of_labels labels + words_of_types types
  pub within : words ≤ most_words

-- both ends of an edge are vertices, and the source has given out its ordinal
pub record IsBetween (vertices : Map ℕ Vertex) (entry : EdgeKey × Edge) : Type 0 where
  pub source : IsSomeAnd (at vertices entry.0.source) (λ vertex. entry.0.ordinal < vertex.next)
  pub target : IsSome (at vertices entry.1.target)

-- neither end is this vertex
abbrev pub IsApart : ℕ → EdgeKey × Edge → Type 0
IsApart id entry = ((entry.0.source == id) ≡ false) × ((entry.1.target == id) ≡ false)

-- what is kept beside the graph fits it; where a change has begun and not ended, all but the words of the names need not
pub record IsCounted (shape : Shape) (labels : List Name) (types : List PropType) (vertices : Map ℕ Vertex) (edges : Map EdgeKey Edge) (words : ℕ) (torn : Bool) (bucket_counts slot_counts : Map ℕ ℕ) (out_index in_index : Map ℕ (List EdgeKey)) : Type 0 where
  pub names : CountsNames labels types words
  pub buckets : torn ≡ false → CountsBuckets shape vertices bucket_counts
  pub slots : torn ≡ false → CountsSlots shape vertices slot_counts
  pub outgoing : torn ≡ false → Indexes source_of edges out_index
  pub incoming : torn ≡ false → Indexes target_of edges in_index
  pub ends : torn ≡ false → AllByRecursion (IsBetween vertices) edges

-- the calls that list, find or count
abbrev pub IsList : Call → Type 0
IsList (Tags id) = Unit {0}
IsList (Props id) = Unit {0}
IsList (ETags source ordinal) = Unit {0}
IsList (EProps source ordinal) = Unit {0}
IsList (Edges id dir test) = Unit {0}
IsList (Near id dir) = Unit {0}
IsList (Degree id dir) = Unit {0}
IsList (Find label test) = Unit {0}
IsList (Hood id depth) = Unit {0}
IsList (Levels id) = Unit {0}
IsList Parts = Unit {0}
IsList (Scan label test) = Unit {0}
IsList Vertices = Unit {0}
IsList Arcs = Unit {0}
IsList call = ⊥

-- and those on an edge
abbrev pub IsOnEdge : Call → Type 0
IsOnEdge (Cut source ordinal) = Unit {0}
IsOnEdge (Target source ordinal) = Unit {0}
IsOnEdge (ETag source ordinal label) = Unit {0}
IsOnEdge (EUntag source ordinal label) = Unit {0}
IsOnEdge (ESet source ordinal prop value) = Unit {0}
IsOnEdge (EAdd source ordinal prop value) = Unit {0}
IsOnEdge (EGet source ordinal prop) = Unit {0}
IsOnEdge (EUnset source ordinal prop) = Unit {0}
IsOnEdge call = IsList call

-- and the others: these are all
abbrev pub IsAny : Call → Type 0
IsAny (NewLabel name) = Unit {0}
IsAny (NewType name kind many) = Unit {0}
IsAny (MakeVertex id) = Unit {0}
IsAny (Has id) = Unit {0}
IsAny (DropVertex id) = Unit {0}
IsAny (Tag id label) = Unit {0}
IsAny (Untag id label) = Unit {0}
IsAny (Set id prop value) = Unit {0}
IsAny (Add id prop value) = Unit {0}
IsAny (Get id prop) = Unit {0}
IsAny (Unset id prop) = Unit {0}
IsAny (MakeEdge source target label) = Unit {0}
IsAny (UEdge source target label) = Unit {0}
IsAny call = IsOnEdge call
