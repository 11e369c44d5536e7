-- Each part of a graph's store looks at its own objects alone.
use Rattle.std.proofs.Common.{ℕ, ◌≤◌, List, [], ◌∷◌, ◌++◌, length, sym, ◌∙◌, subst, arith}
use Rattle.std.specs.List.{AllByRecursion}
use Rattle.rma_layout.specs.Shape.{Shape}
use Rattle.rma_layout.specs.Placement.{Place, metadata}
use Rattle.object_words.specs.Contents.{Contents, content_of, IsSameContents}
use Rattle.graph_model.specs.Maps.{Map}
use Rattle.graph_model.specs.Graph.{Name, PropType, Graph, Vertex, Edge, EdgeKey}
use Rattle.graph_model.specs.Sizes.{most_words}
use Rattle.graph_model.proofs.Entries.{All-map}
use Rattle.holder_codec.specs.Represents.{VertexObjects, EdgeObjects, IsUnreserved, IsBucket, IsSlot, object_of, edge_object_of, heavy_edges, HasNames, HasBuckets, BucketsLead, HasVertices, HasHeavyEdges, HasIndex, RestIsEmpty, places_in, IsRepresented, Represents}
use Rattle.holder_codec.specs.Parts.{IsSameAt, IsSameWhere, IsElsewhere, HasAllButBuckets}

-- what holds of each of a list by two facts of it
both : {X : Type 0} (P Q R : X → Type 0) → ((x : X) → P x → Q x → R x) → (xs : List X) → AllByRecursion P xs → AllByRecursion Q xs → AllByRecursion R xs
both P Q R f [] ps qs = tt
both P Q R f (x ∷ xs) ps qs = (f x ps.0 qs.0, both P Q R f xs ps.1 qs.1)

each : {X : Type 0} (P : X → Type 0) → ((x : X) → P x) → (xs : List X) → AllByRecursion P xs
each P f [] = tt
each P f (x ∷ xs) = (f x, each P f xs)

fits_too : (one other : Contents) (place : Place) → IsSameAt one other place → length (content_of one place) ≤ most_words → length (content_of other place) ≤ most_words
fits_too one other place same within = subst (λ (words : List ℕ). length words ≤ most_words) same within

pub names_kept : (one other : Contents) (labels : List Name) (types : List PropType) → IsSameAt one other metadata → HasNames one labels types → HasNames other labels types
names_kept one other labels types same names = sym same ∙ names

module _ (shape : Shape) (one other : Contents) where
  pub has_buckets_kept : (vertices : VertexObjects) → IsSameWhere (IsBucket shape) one other → HasBuckets shape one vertices → HasBuckets shape other vertices
  has_buckets_kept vertices same buckets place is = sym (same place is) ∙ buckets place is

  pub buckets_kept : (vertices : VertexObjects) → IsSameWhere (IsBucket shape) one other → BucketsLead shape one vertices → BucketsLead shape other vertices
  buckets_kept vertices same lead = record {
    rising = lead.rising;
    each = lead.each;
    buckets = has_buckets_kept vertices same lead.buckets;
    within = λ place is. fits_too one other place (same place is) (lead.within place is);
  }

  pub vertices_kept : (g : Graph) (vertices : VertexObjects) (edges : EdgeObjects) → AllByRecursion (λ entry. IsSameAt one other (object_of vertices entry.0)) g.vertices
      → HasVertices shape one g vertices edges → HasVertices shape other g vertices edges
  vertices_kept g vertices edges same held = both _ _ _ (λ entry at is. record { place = is.place; words = sym at ∙ is.words }) g.vertices same held

  pub edges_kept : (types : List PropType) (all : Map EdgeKey Edge) (edges : EdgeObjects) → AllByRecursion (λ entry. IsSameAt one other (edge_object_of edges entry.0)) (heavy_edges all)
      → HasHeavyEdges shape one types all edges → HasHeavyEdges shape other types all edges
  edges_kept types all edges same held = both _ _ _ (λ entry at is. record { place = is.place; words = sym at ∙ is.words }) (heavy_edges all) same held

  pub index_kept : (labels : ℕ) (vertices : Map ℕ Vertex) → IsSameWhere (IsSlot shape) one other → HasIndex shape one labels vertices → HasIndex shape other labels vertices
  index_kept labels vertices same index place is = sym (same place is) ∙ index place is

  pub rest_kept : (held : List Place) → IsSameWhere (IsElsewhere shape held) one other → RestIsEmpty shape one held → RestIsEmpty shape other held
  rest_kept held same rest place not_metadata not_bucket not_slot not_held =
      sym (same place (record { not_metadata = not_metadata; not_bucket = not_bucket; not_slot = not_slot; not_held = not_held }))
      ∙ rest place not_metadata not_bucket not_slot not_held

-- no object of the other parts is a bucket
module _ (shape : Shape) where
  free_is_no_bucket : (rank : ℕ) (place : Place) → IsUnreserved shape rank place → ¬ IsBucket shape place
  free_is_no_bucket rank place free is = free.unreserved (omega (arith, is.block))

  metadata_is_no_bucket : ¬ IsBucket shape metadata
  metadata_is_no_bucket is = omega (arith, is.block)

  slot_is_no_bucket : (place : Place) → IsSlot shape place → ¬ IsBucket shape place
  slot_is_no_bucket place slot is = omega (arith, slot.block, is.block)

pub all_but_buckets : (shape : Shape) (one other : Contents) (g : Graph) (vertices : VertexObjects) (edges : EdgeObjects)
    → IsSameWhere (λ place. ¬ IsBucket shape place) one other → IsRepresented shape one g vertices edges → HasAllButBuckets shape other g vertices edges
all_but_buckets shape one other g vertices edges same is = record {
  names = names_kept one other g.labels g.types (same metadata (metadata_is_no_bucket shape)) is.names;
  held_vertices = vertices_kept shape one other g vertices edges
      (All-map _ _ (λ entry held. same (object_of vertices entry.0) (free_is_no_bucket shape _ _ held.place)) g.vertices is.held_vertices) is.held_vertices;
  held_edges = edges_kept shape one other g.types g.edges edges
      (All-map _ _ (λ entry held. same (edge_object_of edges entry.0) (free_is_no_bucket shape _ _ held.place)) (heavy_edges g.edges) is.held_edges) is.held_edges;
  index = index_kept shape one other (length g.labels) g.vertices (λ place slot. same place (slot_is_no_bucket shape place slot)) is.index;
  rest = rest_kept shape one other (places_in vertices ++ places_in edges) (λ place elsewhere. same place elsewhere.not_bucket) is.rest;
}

pub same_represented : (shape : Shape) (one other : Contents) (g : Graph) (vertices : VertexObjects) (edges : EdgeObjects)
    → IsSameContents one other → IsRepresented shape one g vertices edges → IsRepresented shape other g vertices edges
same_represented shape one other g vertices edges same is = record {
  vertex_keys = is.vertex_keys;
  edge_keys = is.edge_keys;
  names = names_kept one other g.labels g.types (same metadata) is.names;
  buckets = has_buckets_kept shape one other vertices (λ place _. same place) is.buckets;
  held_vertices = vertices_kept shape one other g vertices edges (each _ (λ entry. same (object_of vertices entry.0)) g.vertices) is.held_vertices;
  held_edges = edges_kept shape one other g.types g.edges edges (each _ (λ entry. same (edge_object_of edges entry.0)) (heavy_edges g.edges)) is.held_edges;
  index = index_kept shape one other (length g.labels) g.vertices (λ place _. same place) is.index;
  apart = is.apart;
  rest = rest_kept shape one other (places_in vertices ++ places_in edges) (λ place _. same place) is.rest;
  within = λ place. fits_too one other place (same place) (is.within place);
}

pub same_represents : (shape : Shape) (one other : Contents) (g : Graph) → IsSameContents one other → Represents shape one g → Represents shape other g
same_represents shape one other g same is = record {
  well_formed = is.well_formed;
  vertices = is.vertices;
  edges = is.edges;
  represented = same_represented shape one other g is.vertices is.edges same is.represented;
}
