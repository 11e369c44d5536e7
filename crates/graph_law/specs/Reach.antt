-- Which objects of a graph's store a call may read and write.
use Rattle.std.specs.Prelude.{◌≡◌, ℕ, ◌<◌, true, List, [], ◌∷◌, IsSomeAnd, ◌⊎◌}
use Rattle.std.specs.List.{Contains}
use Rattle.gdi_kinds.specs.declared.call.Call.{Call}
use Rattle.gdi_kinds.specs.declared.call.Call.TheVariants.{Vertex, Has, DropVertex, Tag, Untag, Tags, Set, Add, Get, Unset, Props, Edge, UEdge, Cut, Target, ETag, EUntag, ETags, ESet, EAdd, EGet, EUnset, EProps, Edges, Near, Degree, Find, Hood, Levels}
use Rattle.rma_layout.specs.Shape.{Shape}
use Rattle.rma_layout.specs.Placement.{Place, bucket_of}
use Rattle.graph_model.specs.Graph.{Graph, edge_at, vertex_at}
use Rattle.graph_model.specs.Capacity.{Object, Reserved, OfVertex, OfHeavyEdge}
use Rattle.graph_model.specs.Calls.{graph_after_call}
use Rattle.graph_model.specs.Lookups.{label_number}
use Rattle.graph_model.specs.Maps.{has}
use Rattle.holder_codec.specs.Represents.{VertexObjects, EdgeObjects}
use Rattle.object_view.specs.View.{IsOn, place_in}

-- the identifiers in a call
abbrev pub named_in : Call → List ℕ
named_in (Vertex id) = id ∷ []
named_in (Has id) = id ∷ []
named_in (DropVertex id) = id ∷ []
named_in (Tag id label) = id ∷ []
named_in (Untag id label) = id ∷ []
named_in (Tags id) = id ∷ []
named_in (Set id prop value) = id ∷ []
named_in (Add id prop value) = id ∷ []
named_in (Get id prop) = id ∷ []
named_in (Unset id prop) = id ∷ []
named_in (Props id) = id ∷ []
named_in (Edge source target label) = source ∷ target ∷ []
named_in (UEdge source target label) = source ∷ target ∷ []
named_in (Cut source ordinal) = source ∷ []
named_in (Target source ordinal) = source ∷ []
named_in (ETag source ordinal label) = source ∷ []
named_in (EUntag source ordinal label) = source ∷ []
named_in (ETags source ordinal) = source ∷ []
named_in (ESet source ordinal prop value) = source ∷ []
named_in (EAdd source ordinal prop value) = source ∷ []
named_in (EGet source ordinal prop) = source ∷ []
named_in (EUnset source ordinal prop) = source ∷ []
named_in (EProps source ordinal) = source ∷ []
named_in (Edges id dir test) = id ∷ []
named_in (Near id dir) = id ∷ []
named_in (Degree id dir) = id ∷ []
named_in (Hood id depth) = id ∷ []
named_in (Levels id) = id ∷ []
named_in call = []

-- a vertex that a call looks up: one that it names, or that the index gives it
abbrev pub IsAsked : Graph → Call → ℕ → Type 0
IsAsked g (Find label test) id = IsSomeAnd (label_number g label) (λ n. IsSomeAnd (vertex_at g id) (λ vertex. has vertex.labels n ≡ true))
IsAsked g call id = Contains (named_in call) id

-- an edge leads from the one vertex to the other, or back
pub record AreJoined (g : Graph) (one other : ℕ) : Type 0 where
  pub ordinal : ℕ
  pub either : IsSomeAnd (edge_at g one ordinal) (λ edge. edge.target ≡ other) ⊎ IsSomeAnd (edge_at g other ordinal) (λ edge. edge.target ≡ one)

-- of the buckets those of the vertices that it looks up, and of the vertices these and the other ends of their edges
abbrev pub IsInReach : Shape → Graph → Call → ℕ → Object → Type 0
IsInReach shape g call rank (Reserved block) =
    (block ≡ 0) ⊎ (shape.buckets < block) ⊎ ((id : ℕ) × IsAsked g call id × (bucket_of shape id ≡ (record { rank = rank; block = block })))
IsInReach shape g call rank (OfVertex id) = IsAsked g call id ⊎ ((other : ℕ) × IsAsked g call other × AreJoined g other id)
IsInReach shape g call rank (OfHeavyEdge source ordinal) = Unit {0}

-- an object of the graph before or after the call is here, and in its reach
pub record IsReached (shape : Shape) (g : Graph) (call : Call) (vertices : VertexObjects) (edges : EdgeObjects) (place : Place) : Type 0 where
  pub rank : ℕ
  pub object : Object
  pub on : IsOn shape g rank object ⊎ IsOn shape (graph_after_call shape g call) rank object
  pub here : place_in vertices edges rank object ≡ place
  pub near : IsInReach shape g call rank object
