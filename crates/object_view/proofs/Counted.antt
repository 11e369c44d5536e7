-- How many words each object of a graph has.
use Rattle.std.proofs.Common.{◌≡◌, ℕ, Bool, true, false, cond, List, [], ◌∷◌, length, Option, Some, None, refl, arith}
use Rattle.std.specs.Prelude.{sum_by, nat_lt, ◌==◌}
use Rattle.std.specs.Option.{option_map_or}
use Rattle.std.specs.List.{AllByRecursion}
use Rattle.std.proofs.lemmas.List.Sums.{sum_by-cons}
use Rattle.rma_layout.specs.Shape.{Shape}
use Rattle.graph_model.specs.Maps.{keys}
use Rattle.graph_model.specs.Graph.{Graph, Vertex, Edge, vertex_at, edge_at}
use Rattle.graph_model.specs.WellFormed.{IsWellFormed}
use Rattle.graph_model.specs.Sizes.{words_of_vertex, words_of_edge, words_of_bucket, words_of_slot, words_of_names}
use Rattle.graph_model.specs.Capacity.{Object, Reserved, OfVertex, OfHeavyEdge, words_of}
use Rattle.holder_codec.specs.Bucket.{bucket_words}
use Rattle.holder_codec.specs.Vertex.{vertex_words}
use Rattle.holder_codec.specs.Holders.{edge_words, names_words}
use Rattle.holder_codec.specs.Represents.{VertexObjects, EdgeObjects, entries_of, holder_of}
use Rattle.holder_codec.proofs.SizesAreLengths.{vertex_size, edge_size, bucket_size, index_size, names_size}
use Rattle.object_view.specs.View.{index_words, words_in}

pub sum_same : {X : Type 0} (f h : X → ℕ) (xs : List X) → AllByRecursion (λ x. f x ≡ h x) xs → sum_by f xs ≡ sum_by h xs
sum_same f h [] all = refl
sum_same f h (x ∷ xs) all = omega (arith, sum_same f h xs all.1, sum_by-cons f x xs, sum_by-cons h x xs, all.0)

pub sum_each : {X : Type 0} (f h : X → ℕ) → ((x : X) → f x ≡ h x) → (xs : List X) → sum_by f xs ≡ sum_by h xs
sum_each f h same [] = refl
sum_each f h same (x ∷ xs) = omega (arith, sum_each f h same xs, sum_by-cons f x xs, sum_by-cons h x xs, same x)

pub words_counted : (shape : Shape) (g : Graph) (vertices : VertexObjects) (edges : EdgeObjects) (rank : ℕ) (object : Object) → IsWellFormed g → keys vertices ≡ keys g.vertices
    → length (words_in shape g vertices edges rank object) ≡ words_of shape g rank object
words_counted shape g vertices edges rank (Reserved block) well same = cases (block == 0) (rank == 0) (nat_lt shape.buckets block)
  where
    cases : (z r s : Bool) → length (cond z (cond r (names_words g.labels g.types) []) (cond s (index_words shape g (record { rank = rank; block = block })) (bucket_words (record { entries = entries_of shape vertices (record { rank = rank; block = block }) }))))
        ≡ cond z (cond r (words_of_names g) 0) (cond s (words_of_slot shape g (record { rank = rank; block = block })) (words_of_bucket shape g (record { rank = rank; block = block })))
    cases true true s = names_size g
    cases true false s = refl
    cases false r true = index_size shape (record { rank = rank; block = block }) g well
    cases false r false = bucket_size shape g vertices (record { rank = rank; block = block }) same
words_counted shape g vertices edges rank (OfVertex id) well same = cases (vertex_at g id)
  where
    cases : (o : Option Vertex) → length (option_map_or (λ vertex. vertex_words (holder_of g vertices edges id vertex)) o []) ≡ option_map_or (words_of_vertex g id) o 0
    cases None = refl
    cases (Some vertex) = vertex_size g vertices edges id vertex
words_counted shape g vertices edges rank (OfHeavyEdge source ordinal) well same = cases (edge_at g source ordinal)
  where
    cases : (o : Option Edge) → length (option_map_or (edge_words g.types (record { source = source; ordinal = ordinal })) o []) ≡ option_map_or words_of_edge o 0
    cases None = refl
    cases (Some edge) = edge_size g.types (record { source = source; ordinal = ordinal }) edge
