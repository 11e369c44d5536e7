-- By how many blocks the objects of a graph grow, by where each comes from.
use Rattle.std.specs.Prelude.{◌≡◌, ℕ, ◌-◌, Bool, true, [], MatchBool, if◌then◌else◌}
use Rattle.rma_layout.specs.Shape.{Shape}
use Rattle.object_words.specs.Contents.{Contents, content_of}
use Rattle.graph_model.specs.Graph.{Graph}
use Rattle.graph_model.specs.Capacity.{Object, Reserved, blocks_of_object}
use Rattle.holder_codec.specs.Represents.{VertexObjects, EdgeObjects}
use Rattle.object_view.specs.View.{IsOn, place_in}

-- each object of a rank afterwards is one of before in its place, or it is in a place that was empty
pub record ComeFrom (shape : Shape) (store : Contents) (g h : Graph) (vertices : VertexObjects) (edges : EdgeObjects)
    (vertices_after : VertexObjects) (edges_after : EdgeObjects) (rank : ℕ) (kept : Object → Bool) : Type 0 where
  pub reserved : (block : ℕ) → kept (Reserved block) ≡ true
  pub each : (object : Object) → IsOn shape h rank object →
      MatchBool (kept object)
      (IsOn shape g rank object × (place_in vertices_after edges_after rank object ≡ place_in vertices edges rank object))
      (content_of store (place_in vertices_after edges_after rank object) ≡ [])

-- how many blocks an object takes more than it had, or besides its first
abbrev pub growth_between : Shape → Graph → Graph → ℕ → Object → Bool → ℕ
growth_between shape g h rank object kept =
    if kept then blocks_of_object shape h rank object - blocks_of_object shape g rank object else blocks_of_object shape h rank object - 1
