-- A change of what represents a graph, as the objects that it touches.
use Rattle.std.specs.Prelude.{◌≡◌, ◌≢◌, ℕ, ◌≤◌, ◌⊎◌, Bool, false, ◌&&◌, List, [], length, ◌==◌}
use Rattle.std.specs.List.{AllByRecursion}
use Rattle.rma_layout.specs.Shape.{Shape}
use Rattle.rma_layout.specs.Placement.{Place}
use Rattle.object_words.specs.Contents.{Contents, content_of}
use Rattle.graph_model.specs.Maps.{keys}
use Rattle.graph_model.specs.Graph.{Graph}
use Rattle.graph_model.specs.Sizes.{most_words}
use Rattle.graph_model.specs.Capacity.{Object, Reserved, OfVertex, OfHeavyEdge}
use Rattle.holder_codec.specs.Represents.{VertexObjects, EdgeObjects, IsUnreserved, heavy_edges}
use Rattle.object_view.specs.View.{IsOn, place_in, words_in}
use Rattle.holder_codec.specs.Parts.{IsSameAt}

-- an object with its rank
abbrev pub RankObject : Type 0
RankObject = ℕ × Object

abbrev pub same_object : Object → Object → Bool
same_object (Reserved a) (Reserved b) = a == b
same_object (OfVertex a) (OfVertex b) = a == b
same_object (OfHeavyEdge s o) (OfHeavyEdge t n) = s == t && o == n
same_object one other = false

abbrev pub IsNotAmong : List RankObject → ℕ → Object → Type 0
IsNotAmong those rank object = AllByRecursion (λ t. (t.0 == rank && same_object t.1 object) ≡ false) those

-- an object that is touched has its new words. It was there, or it is in a free block that was empty
pub record IsTouched (shape : Shape) (one other : Contents) (g h : Graph) (vertices : VertexObjects) (edges : EdgeObjects) (t : RankObject) : Type 0 where
  pub words : content_of other (place_in vertices edges t.0 t.1) ≡ words_in shape h vertices edges t.0 t.1
  pub from : IsOn shape g t.0 t.1 ⊎ (IsUnreserved shape t.0 (place_in vertices edges t.0 t.1) × content_of one (place_in vertices edges t.0 t.1) ≡ [])

-- an object that is gone left nothing
pub record IsGone (shape : Shape) (other : Contents) (g h : Graph) (vertices : VertexObjects) (edges : EdgeObjects) (t : RankObject) : Type 0 where
  pub was : IsOn shape g t.0 t.1
  pub isnt : ¬ IsOn shape h t.0 t.1
  pub empty : content_of other (place_in vertices edges t.0 t.1) ≡ []

pub record IsChange (shape : Shape) (one other : Contents) (g : Graph) (vertices : VertexObjects) (edges : EdgeObjects)
    (h : Graph) (vertices_after : VertexObjects) (edges_after : EdgeObjects) (touched gone : List RankObject) : Type 0 where
  pub vertex_keys : keys vertices_after ≡ keys h.vertices
  pub edge_keys : keys edges_after ≡ keys (heavy_edges h.edges)
  -- what was there and isn't gone is where it was
  pub kept : (rank : ℕ) (object : Object) → IsOn shape g rank object → IsNotAmong gone rank object
      → IsOn shape h rank object × (place_in vertices_after edges_after rank object ≡ place_in vertices edges rank object)
  -- what isn't touched was there, with the words that it has
  pub others : (rank : ℕ) (object : Object) → IsOn shape h rank object → IsNotAmong touched rank object
      → IsOn shape g rank object × (words_in shape h vertices_after edges_after rank object ≡ words_in shape g vertices edges rank object)
  pub each_touched : AllByRecursion (λ t. IsOn shape h t.0 t.1 → IsTouched shape one other g h vertices_after edges_after t) touched
  pub each_gone : AllByRecursion (IsGone shape other g h vertices edges) gone
  -- two new objects of a rank are apart
  pub new_apart : (rank : ℕ) (a b : Object) → IsOn shape h rank a → IsOn shape h rank b → ¬ IsOn shape g rank a → ¬ IsOn shape g rank b
      → place_in vertices_after edges_after rank a ≡ place_in vertices_after edges_after rank b → a ≡ b
  -- the store is as it was elsewhere
  pub same : (place : Place) → AllByRecursion (λ t. IsOn shape h t.0 t.1 → place_in vertices_after edges_after t.0 t.1 ≢ place) touched
      → AllByRecursion (λ t. place_in vertices edges t.0 t.1 ≢ place) gone → IsSameAt one other place
  pub within : (place : Place) → length (content_of other place) ≤ most_words
