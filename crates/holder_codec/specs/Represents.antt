-- When the contents of a window's objects represent a graph.
use Rattle.std.specs.Prelude.{◌≡◌, ◌≢◌, ℕ, ◌^◌, ◌<◌, ◌≤◌, true, false, ◌&&◌, List, [], ◌∷◌, ◌++◌, map, length, if◌then◌else◌}
use Rattle.std.specs.Option.{unwrap_or}
use Rattle.std.specs.List.{flat_map, filter, range_with_len, AllByRecursion}
use Rattle.std.specs.FinMap.{find}
use Rattle.std.specs.Ordering.{nat_cmp}
use Rattle.rma_layout.specs.Shape.{Shape}
use Rattle.rma_layout.specs.Placement.{Place, FitsOneWord, same_place, home_of, bucket_of, slot_of, metadata, IsReserved}
use Rattle.object_words.specs.Contents.{Contents, content_of}
use Rattle.graph_model.specs.Maps.{Map, IsMap, at, keys, has}
use Rattle.graph_model.specs.Graph.{Name, PropType, Graph, Vertex, Edge, EdgeKey, edge_cmp, edges_from, edges_to, is_heavy}
use Rattle.graph_model.specs.Sizes.{most_words}
use Rattle.graph_model.specs.WellFormed.{IsWellFormed}
use Rattle.holder_codec.specs.declared.bucket_entry.BucketEntry.{BucketEntry}
use Rattle.holder_codec.specs.declared.edge_form.EdgeForm.{EdgeForm}
use Rattle.holder_codec.specs.declared.edge_form.EdgeForm.TheVariants.{Plain, Labelled, Heavy}
use Rattle.holder_codec.specs.declared.edge_record.EdgeRecord.{EdgeRecord}
use Rattle.holder_codec.specs.declared.vertex_holder.VertexHolder.{VertexHolder}
use Rattle.holder_codec.specs.Bucket.{bucket_words}
use Rattle.holder_codec.specs.Vertex.{vertex_words}
use Rattle.holder_codec.specs.Holders.{held_props, edge_words, pair_words, names_words}

-- the object of each vertex, and that of each heavy edge
abbrev pub VertexObjects : Type 0
VertexObjects = Map ℕ Place

abbrev pub EdgeObjects : Type 0
EdgeObjects = Map EdgeKey Place

abbrev pub object_of : VertexObjects → ℕ → Place
object_of vertices id = unwrap_or (at vertices id) metadata

abbrev pub edge_object_of : EdgeObjects → EdgeKey → Place
edge_object_of edges key = unwrap_or (find edge_cmp key edges) metadata

-- an object of this rank whose block isn't reserved
pub record IsUnreserved (shape : Shape) (rank : ℕ) (place : Place) : Type 0 where
  pub home : place.rank ≡ rank
  pub block : place.block < shape.blocks
  pub unreserved : ¬ IsReserved shape place.block

-- the objects that are buckets, and those of the index
pub record IsBucket (shape : Shape) (place : Place) : Type 0 where
  pub rank : place.rank < shape.ranks
  pub block : (1 ≤ place.block) × (place.block ≤ shape.buckets)

pub record IsSlot (shape : Shape) (place : Place) : Type 0 where
  pub rank : place.rank < shape.ranks
  pub block : (shape.buckets < place.block) × IsReserved shape place.block

-- ---- the five parts

abbrev pub HasNames : Contents → List Name → List PropType → Type 0
HasNames store labels types = content_of store metadata ≡ names_words labels types

-- the vertices whose bucket this is, with their objects
abbrev pub entries_of : Shape → VertexObjects → Place → List BucketEntry
entries_of shape vertices place =
    map (λ entry. record { id = entry.0; at = entry.1 }) (filter (λ entry. same_place (bucket_of shape entry.0) place) vertices)

abbrev pub HasBuckets : Shape → Contents → VertexObjects → Type 0
HasBuckets shape store vertices = (place : Place) → IsBucket shape place →
    content_of store place ≡ bucket_words (record { entries = entries_of shape vertices place })

-- the buckets lead from these identifiers to these objects, and from no others
pub record BucketsLead (shape : Shape) (store : Contents) (vertices : VertexObjects) : Type 0 where
  pub rising : IsMap nat_cmp vertices
  pub each : AllByRecursion (λ entry. (entry.0 < 2 ^ 64) × FitsOneWord entry.1) vertices
  pub buckets : HasBuckets shape store vertices
  pub within : (place : Place) → IsBucket shape place → length (content_of store place) ≤ most_words

-- a heavy edge has an object; another has a label at most
abbrev pub light_form : List ℕ → EdgeForm
light_form [] = Plain
light_form (label ∷ labels) = Labelled label

abbrev pub form_of_edge : EdgeObjects → EdgeKey → Edge → EdgeForm
form_of_edge edges key edge = if is_heavy edge then Heavy (edge_object_of edges key) else light_form edge.labels

abbrev pub record_at_source : VertexObjects → EdgeObjects → EdgeKey → Edge → EdgeRecord
record_at_source vertices edges key edge =
    record { inward = false; undirected = edge.undirected; ordinal = key.ordinal; other = edge.target; other_at = object_of vertices edge.target; form = form_of_edge edges key edge }

abbrev pub record_at_target : VertexObjects → EdgeObjects → EdgeKey → Edge → EdgeRecord
record_at_target vertices edges key edge =
    record { inward = true; undirected = edge.undirected; ordinal = key.ordinal; other = key.source; other_at = object_of vertices key.source; form = form_of_edge edges key edge }

-- all edges of which a vertex is the source, and then all of which it is the target
abbrev pub records_of : Graph → VertexObjects → EdgeObjects → ℕ → List EdgeRecord
records_of g vertices edges id =
    map (λ entry. record_at_source vertices edges entry.0 entry.1) (edges_from g id)
    ++ map (λ entry. record_at_target vertices edges entry.0 entry.1) (edges_to g id)

abbrev pub holder_of : Graph → VertexObjects → EdgeObjects → ℕ → Vertex → VertexHolder
holder_of g vertices edges id vertex =
    record { id = id; next = vertex.next; labels = vertex.labels; props = held_props g.types vertex.props; edges = records_of g vertices edges id }

-- each vertex is in an object of its own on its rank
pub record VertexIsHeld (shape : Shape) (store : Contents) (g : Graph) (vertices : VertexObjects) (edges : EdgeObjects) (id : ℕ) (vertex : Vertex) : Type 0 where
  pub place : IsUnreserved shape (home_of shape id) (object_of vertices id)
  pub words : content_of store (object_of vertices id) ≡ vertex_words (holder_of g vertices edges id vertex)

abbrev pub HasVertices : Shape → Contents → Graph → VertexObjects → EdgeObjects → Type 0
HasVertices shape store g vertices edges = AllByRecursion (λ entry. VertexIsHeld shape store g vertices edges entry.0 entry.1) g.vertices

abbrev pub heavy_edges : Map EdgeKey Edge → Map EdgeKey Edge
heavy_edges edges = filter (λ entry. is_heavy entry.1) edges

-- each heavy edge is in an object of its own on the rank of its source
pub record EdgeIsHeld (shape : Shape) (store : Contents) (types : List PropType) (edges : EdgeObjects) (key : EdgeKey) (edge : Edge) : Type 0 where
  pub place : IsUnreserved shape (home_of shape key.source) (edge_object_of edges key)
  pub words : content_of store (edge_object_of edges key) ≡ edge_words types key edge

abbrev pub HasHeavyEdges : Shape → Contents → List PropType → Map EdgeKey Edge → EdgeObjects → Type 0
HasHeavyEdges shape store types all edges = AllByRecursion (λ entry. EdgeIsHeld shape store types edges entry.0 entry.1) (heavy_edges all)

-- the vertices of a label whose slot this is, by rising identifier
abbrev pub pairs_of_label : Shape → Map ℕ Vertex → Place → ℕ → List ℕ
pairs_of_label shape vertices place label =
    flat_map (λ entry. pair_words label entry.0) (filter (λ entry. has entry.1.labels label && same_place (slot_of shape label entry.0) place) vertices)

-- there are so many labels
abbrev pub HasIndex : Shape → Contents → ℕ → Map ℕ Vertex → Type 0
HasIndex shape store labels vertices = (place : Place) → IsSlot shape place →
    content_of store place ≡ flat_map (pairs_of_label shape vertices place) (range_with_len 0 labels)

-- ---- nothing else

abbrev pub AreApart : List Place → Type 0
AreApart [] = Unit {0}
AreApart (place ∷ places) = AllByRecursion (λ other. other ≢ place) places × AreApart places

abbrev pub places_in : {K : Type 0} → Map K Place → List Place
places_in objects = map (λ entry. entry.1) objects

-- every other object is empty
abbrev pub RestIsEmpty : Shape → Contents → List Place → Type 0
RestIsEmpty shape store held = (place : Place) → place ≢ metadata → ¬ IsBucket shape place → ¬ IsSlot shape place
    → AllByRecursion (λ other. other ≢ place) held → content_of store place ≡ []

pub record IsRepresented (shape : Shape) (store : Contents) (g : Graph) (vertices : VertexObjects) (edges : EdgeObjects) : Type 0 where
  pub vertex_keys : keys vertices ≡ keys g.vertices
  pub edge_keys : keys edges ≡ keys (heavy_edges g.edges)
  pub names : HasNames store g.labels g.types
  pub buckets : HasBuckets shape store vertices
  pub held_vertices : HasVertices shape store g vertices edges
  pub held_edges : HasHeavyEdges shape store g.types g.edges edges
  pub index : HasIndex shape store (length g.labels) g.vertices
  pub apart : AreApart (places_in vertices ++ places_in edges)
  pub rest : RestIsEmpty shape store (places_in vertices ++ places_in edges)
  -- no object has more words than an object may have
  pub within : (place : Place) → length (content_of store place) ≤ most_words

-- a store represents a graph that is well formed
pub record Represents (shape : Shape) (store : Contents) (g : Graph) : Type 0 where
  pub well_formed : IsWellFormed g
  pub vertices : VertexObjects
  pub edges : EdgeObjects
  pub represented : IsRepresented shape store g vertices edges
