-- All edges of a vertex are cut.
use Rattle.std.specs.Prelude.{◌≡◌, ◌≢◌, ℕ, not, ◌==◌, [], ◌⊎◌}
use Rattle.std.specs.List.{Contains, filter}
use Rattle.rma_layout.specs.Shape.{Shape}
use Rattle.rma_layout.specs.Placement.{Place, IsBlock}
use Rattle.object_words.specs.Contents.{Contents, content_of, overlay, words_at}
use Rattle.object_store.specs.State.{StoreState}
use Rattle.holder_codec.specs.declared.edge_form.EdgeForm.TheVariants.{Heavy}
use Rattle.holder_codec.specs.declared.edge_record.EdgeRecord.{EdgeRecord}
use Rattle.holder_codec.specs.Knowing.{MayBeAt, Wherever}
use Rattle.holder_codec.specs.EdgeObject.{IsEdgeHolder, edge_object_words}
use Rattle.held_objects.specs.Held.{IsSpelled}
use Rattle.held_objects.specs.Knows.{Knows}
use Rattle.held_objects.specs.Changes.{Holds, any}
use Rattle.vertex_ops.specs.Vertices.{HeldVertex, HoldsVertex, KnowsVertex}

-- a vertex, and the vertices at the other ends of its edges by their identifiers, with the objects that these are in
pub record HeldAround : Type 0 where
  pub vertex : HeldVertex
  pub others : ℕ → HeldVertex
  pub object_of : ℕ → Place

-- a heavy edge's own object has the spelling of an edge, and is no vertex' at an edge of this one
pub record HoldsOwnAround (shape : Shape) (at own : Place) (contents : Contents) (held : HeldAround) : Type 0 where
  pub block : IsBlock shape own
  pub spelled : IsSpelled IsEdgeHolder edge_object_words own shape contents
  pub not_here : own ≢ at
  pub not_far : (other : EdgeRecord) → Contains held.vertex.edges other → own ≢ other.other_at

pub record HoldsFar (shape : Shape) (at : Place) (contents : Contents) (held : HeldAround) (edge : EdgeRecord) : Type 0 where
  pub block : IsBlock shape edge.other_at
  pub object : edge.other_at ≡ held.object_of edge.other
  pub far : HoldsVertex edge.other_at contents (held.others edge.other)
  pub own : (own : Place) → edge.form ≡ Heavy own → HoldsOwnAround shape at own contents held

-- what is at all edges of a vertex
pub record HoldsAround (shape : Shape) (at : Place) (contents : Contents) (held : HeldAround) : Type 0 where
  pub here : HoldsVertex at contents held.vertex
  pub each : (edge : EdgeRecord) → Contains held.vertex.edges edge → HoldsFar shape at contents held edge

abbrev pub KnowsAround : {N : Type 0} → Place → StoreState N → Type 0
KnowsAround at = Knows (λ shape. Holds (λ contents held. HoldsAround shape at contents held) any shape)

-- a vertex without the records of its edges from and to another one
abbrev pub apart_from : ℕ → HeldVertex → HeldVertex
apart_from id held = record held { edges = filter (λ edge. not (edge.other == id)) held.edges }

-- no edge of the vertex is left at either end, and their own objects are empty
pub record IsCutOff (at : Place) (contents : Contents) (held : HeldAround) : Type 0 where
  pub here : HoldsVertex at contents (record held.vertex { edges = [] })
  pub far : (edge : EdgeRecord) → Contains held.vertex.edges edge → edge.other_at ≢ at → HoldsVertex edge.other_at contents (apart_from held.vertex.id (held.others edge.other))
  pub own : (edge : EdgeRecord) (own : Place) → Contains held.vertex.edges edge → edge.form ≡ Heavy own → content_of contents own ≡ []

-- the object is at an edge of the vertex
pub record IsAround (held : HeldAround) (place : Place) : Type 0 where
  pub edge : EdgeRecord
  pub is : Contains held.vertex.edges edge
  pub there : (place ≡ edge.other_at) ⊎ (edge.form ≡ Heavy place)

module _ {N : Type 0} where
  -- in a store at which the transaction may be, as far as it knows
  pub record MayBeAround (at : Place) (state : StoreState N) (place : Place) : Type 0 where
    pub store : Contents
    pub may : MayBeAt state.shape state.reads store
    pub held : HeldAround
    pub holds : HoldsAround state.shape at (overlay store state.writes) held
    pub around : IsAround held place

  abbrev pub AtEdges : Place → StoreState N → Shape → Place → Type 0
  AtEdges at state shape place = (place ≡ at) ⊎ MayBeAround at state place

  pub record CutsAll (at : Place) (old new : StoreState N) : Type 0 where
    pub cut : Wherever new.reads old.writes (HoldsAround old.shape at) (λ store held. IsCutOff at (overlay store new.writes) held)
    pub reads : Wherever new.reads old.writes (HoldsAround old.shape at) (λ _ held. (place : Place) → (place ≡ at) ⊎ IsAround held place ⊎ (words_at new.reads place ≡ words_at old.reads place))
    pub writes : Wherever new.reads old.writes (HoldsAround old.shape at) (λ _ held. (place : Place) → (place ≡ at) ⊎ IsAround held place ⊎ (words_at new.writes place ≡ words_at old.writes place))
    pub known : KnowsVertex at any new
