-- An edge is given other labels and properties, and the form that they ask for.
use Rattle.std.specs.Prelude.{◌≡◌, Bool, true, false, not, ◌&&◌, ◌||◌, ℕ, List, [], length, Some, MatchOption, nat_lt, ◌⊎◌}
use Rattle.rma_layout.specs.Placement.{Place, home_of}
use Rattle.rma_layout.specs.Shape.{Shape}
use Rattle.object_words.specs.Contents.{Contents, content_of, overlay, words_at}
use Rattle.graph_model.specs.Graph.{Edge, PropType, is_heavy}
use Rattle.graph_model.specs.Sizes.{is_too_large}
use Rattle.object_store.specs.State.{StoreState}
use Rattle.object_store.specs.Works.{Looks}
use Rattle.holder_codec.specs.declared.edge_holder.EdgeHolder.{EdgeHolder}
use Rattle.holder_codec.specs.EdgeObject.{edge_object_words}
use Rattle.holder_codec.specs.Knowing.{Wherever}
use Rattle.holder_codec.specs.Represents.{IsUnreserved}
use Rattle.held_objects.specs.Changes.{any}
use Rattle.vertex_ops.specs.Vertices.{HeldVertex, KnowsVertex}
use Rattle.edge_ops.specs.Ends.{HeldEnds, ends_after, with_in}
use Rattle.edge_ops.specs.HeldEdges.{AtEdge, HeldEdge, HeldOut, HoldsOut, IsBeyond, IsOrderlyEdge, KnowsOut, edge_holder_for, is_edge_to, record_at_source, record_at_target}

-- an edge with these has an object of its own
abbrev pub has_own : EdgeHolder → Bool
has_own holder = nat_lt 1 (length holder.labels) || nat_lt 0 (length holder.props)

abbrev pub is_taken : EdgeHolder → Bool
is_taken holder = not (has_own holder && is_too_large (length (edge_object_words holder)))

-- an edge of a graph with these types has just these labels and properties
pub record IsOfEdge (types : List PropType) (holder : EdgeHolder) (edge : Edge) : Type 0 where
  pub fits : IsOrderlyEdge edge
  pub is : edge_holder_for types holder.source holder.ordinal edge ≡ holder

-- the edge with other labels and properties, and with its own object, if it has one
abbrev pub given : HeldEdge → Edge → Place → HeldEdge
given held edge own = record held { edge = edge; own_at = own }

abbrev pub ends_given : Place → ℕ → HeldVertex → HeldEdge → HeldEnds
ends_given source ordinal vertex held =
    ends_after source held.target_at (with_in (record_at_source ordinal held)) (with_in (record_at_target source vertex.id ordinal held)) (record { source = vertex; target = held.target })

-- a vertex and this edge from it, with both records as the edge is
abbrev pub out_given : Place → ℕ → HeldVertex → HeldEdge → HeldOut
out_given source ordinal vertex held =
    let ends = ends_given source ordinal vertex held in
    record { source = ends.source; found = Some (record held { target = ends.target }) }

-- an edge is rid of its old labels and properties, and its own object is this one, if it has one
pub record IsKept (shape : Shape) (source own : Place) (holder : EdgeHolder) (store contents : Contents) (vertex : HeldVertex) (was : HeldEdge) : Type 0 where
  -- whatever edge has these labels and properties, it is there
  pub held : (edge : Edge) → IsOfEdge vertex.types holder edge → edge.undirected ≡ was.edge.undirected
      → HoldsOut shape source holder.ordinal contents (out_given source holder.ordinal vertex (given was edge own))
  -- its own object is the one that it had, or a new one on the rank of its source, or it had one and is rid of it
  pub stays : is_heavy was.edge ≡ true → has_own holder ≡ true → own ≡ was.own_at
  pub made : is_heavy was.edge ≡ false → has_own holder ≡ true → IsUnreserved shape (home_of shape holder.source) own × (content_of store own ≡ [])
  pub emptied : is_heavy was.edge ≡ true → has_own holder ≡ false → content_of contents was.own_at ≡ []

-- the object is made for the edge
abbrev pub IsMadeFor : EdgeHolder → Place → HeldOut → Place → Type 0
IsMadeFor holder own held place = MatchOption held.found ⊥ (λ was. (is_heavy was.edge ≡ false) × (has_own holder ≡ true) × (place ≡ own))

module _ {N : Type 0} where
  -- an object at the edge, or one of the rank on which an object may be made for it
  abbrev pub AtEdgeOrHome : Place → EdgeHolder → StoreState N → Shape → Place → Type 0
  AtEdgeOrHome source holder state shape place = AtEdge source holder.ordinal state shape place ⊎ IsUnreserved shape (home_of shape holder.source) place

  -- no objects were read or written but those at this edge, and one that was made for it
  pub record KeepsFootprint (source own : Place) (holder : EdgeHolder) (held : HeldOut) (old new : StoreState N) : Type 0 where
    pub reads : (place : Place) → (place ≡ source) ⊎ IsBeyond held place ⊎ IsMadeFor holder own held place ⊎ (words_at new.reads place ≡ words_at old.reads place)
    pub writes : (place : Place) → (place ≡ source) ⊎ IsBeyond held place ⊎ IsMadeFor holder own held place ⊎ (words_at new.writes place ≡ words_at old.writes place)

  pub record KeepsEdge (source : Place) (holder : EdgeHolder) (old new : StoreState N) (kept : Bool) : Type 0 where
    pub answer : kept ≡ is_taken holder
    pub own : Place
    pub held : kept ≡ true → Wherever new.reads old.writes (HoldsOut old.shape source holder.ordinal) (λ store held.
        MatchOption held.found (Unit {0}) (IsKept old.shape source own holder store (overlay store new.writes) held.source))
    pub footprint : Wherever new.reads old.writes (HoldsOut old.shape source holder.ordinal) (λ _ held. KeepsFootprint source own holder held old new)
    pub unchanged : kept ≡ false → Looks old new
    pub source_known : KnowsVertex source any new
    -- the edge is known to be there, where it is known to be an edge's that has these labels and properties
    pub known : (passes : HeldOut → Bool) → KnowsOut source holder.ordinal passes old → ((held : HeldOut) → passes held ≡ true → (edge : Edge) × IsOfEdge held.source.types holder edge)
        → KnowsOut source holder.ordinal (is_edge_to holder.source holder.target) new
