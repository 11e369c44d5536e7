-- What the calls that make, drop and ask for vertices do to graphs of vertices alone.
use Rattle.std.proofs.Common.{◌≡◌, ℕ, Bool, true, false, ◌||◌, if◌then◌else◌, List, [], ◌∷◌, refl, ap, sym, arith}
use Rattle.gdi_kinds.specs.declared.call.Call.TheVariants.{Vertex as MakeVertex, Has, DropVertex}
use Rattle.gdi_kinds.specs.declared.reply.Reply.TheVariants as reply
use Rattle.rma_layout.specs.Shape.{Shape}
use Rattle.rma_layout.specs.Placement.{bucket_of}
use Rattle.graph_model.specs.Maps.{Map, is_there, with_at, without}
use Rattle.graph_model.specs.Graph.{Vertex, new_vertex}
use Rattle.graph_model.specs.Sizes.{words_of_bucket, is_too_large}
use Rattle.graph_model.specs.Calls.{answer_to}
use Rattle.graph_model.specs.Bare.{graph_of_vertices}
use Rattle.std.proofs.lemmas.Bool.Decides.{nat_tests}

pub without-absent : {X : Type 0} (k : ℕ) (es : Map ℕ X) → is_there es k ≡ false → without es k ≡ es
without-absent k [] absent = refl
without-absent k (e ∷ es) absent = grind (arith, nat_tests, without-absent k es)

-- whether the bucket of a vertex would be too large with it
abbrev pub is_bucket_full : Shape → Map ℕ Vertex → ℕ → Bool
is_bucket_full shape vertices id = is_too_large (words_of_bucket shape (graph_of_vertices (with_at vertices id new_vertex)) (bucket_of shape id))

module _ (shape : Shape) (vertices : Map ℕ Vertex) (id : ℕ) where
  pub answer_to-vertex : (there full : Bool) → is_there vertices id ≡ there → is_bucket_full shape vertices id ≡ full
      → answer_to shape (graph_of_vertices vertices) (MakeVertex id) ≡ (record {
        graph = graph_of_vertices (if there || full then vertices else with_at vertices id new_vertex);
        reply = if there then reply.Exists else (if full then reply.TooLarge else reply.Done);
      })
  answer_to-vertex true full e f = rw e
  answer_to-vertex false true e f = rw (e, f)
  answer_to-vertex false false e f = rw (e, f)

  pub answer_to-has : (there : Bool) → is_there vertices id ≡ there
      → answer_to shape (graph_of_vertices vertices) (Has id) ≡ (record { graph = graph_of_vertices vertices; reply = if there then reply.Yes else reply.No })
  answer_to-has there e = rw e

  -- where the vertex isn't there, the graph is without it already
  pub answer_to-drop : (there : Bool) → is_there vertices id ≡ there
      → answer_to shape (graph_of_vertices vertices) (DropVertex id) ≡ (record { graph = graph_of_vertices (without vertices id); reply = if there then reply.Done else reply.NoVertex id })
  answer_to-drop true e = rw e
  answer_to-drop false e = rw e (ap (λ left. record { graph = graph_of_vertices left; reply = reply.NoVertex id }) (sym (without-absent id vertices e)))
