-- Contents that have the same words in some of their objects, for the parts that look at no other objects.
use Rattle.std.specs.Prelude.{◌≡◌, ◌≢◌, List, ◌++◌, length}
use Rattle.std.specs.List.{AllByRecursion}
use Rattle.rma_layout.specs.Shape.{Shape}
use Rattle.rma_layout.specs.Placement.{Place, metadata}
use Rattle.object_words.specs.Contents.{Contents, content_of}
use Rattle.graph_model.specs.Graph.{Graph}
use Rattle.holder_codec.specs.Represents.{VertexObjects, EdgeObjects, IsBucket, IsSlot, HasNames, HasVertices, HasHeavyEdges, HasIndex, RestIsEmpty, places_in}

-- both have the same words at this object
abbrev pub IsSameAt : Contents → Contents → Place → Type 0
IsSameAt one other place = content_of one place ≡ content_of other place

-- both have the same words at every object of this kind
abbrev pub IsSameWhere : (Place → Type 0) → Contents → Contents → Type 0
IsSameWhere IsOfKind one other = (place : Place) → IsOfKind place → IsSameAt one other place

-- an object that nothing of the graph is in
pub record IsElsewhere (shape : Shape) (held : List Place) (place : Place) : Type 0 where
  pub not_metadata : place ≢ metadata
  pub not_bucket : ¬ IsBucket shape place
  pub not_slot : ¬ IsSlot shape place
  pub not_held : AllByRecursion (λ other. other ≢ place) held

-- all parts of a graph's store but the buckets
pub record HasAllButBuckets (shape : Shape) (store : Contents) (g : Graph) (vertices : VertexObjects) (edges : EdgeObjects) : Type 0 where
  pub names : HasNames store g.labels g.types
  pub held_vertices : HasVertices shape store g vertices edges
  pub held_edges : HasHeavyEdges shape store g.types g.edges edges
  pub index : HasIndex shape store (length g.labels) g.vertices
  pub rest : RestIsEmpty shape store (places_in vertices ++ places_in edges)
