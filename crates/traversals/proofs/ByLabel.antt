-- The vertices that have a label, by place and in the graph.
use Rattle.std.proofs.Common.{◌≡◌, ℕ, zero, suc, ◌+◌, ◌<◌, Bool, true, false, ◌&&◌, List, [], ◌∷◌, length, map, get_or, None, if◌then◌else◌, refl, sym, ap, ◌∙◌, arith}
use Rattle.std.specs.List.{filter, list_all, range_with_len}
use Rattle.graph_model.specs.Maps.{Map, has, keys}
use Rattle.graph_model.specs.Graph.{Graph, Vertex, new_vertex}
use Rattle.graph_model.specs.ListCalls.{vertices_where}
use Rattle.graph_model.proofs.Levels.{length-keys}
use Rattle.traversals.specs.Outline.{Outline, IsOf, labels_of}
use Rattle.traversals.specs.Rows.{row_of}

and-true : (b : Bool) → (b && true) ≡ b
and-true true = refl
and-true false = refl

id-at : (vs : Map ℕ Vertex) (k : ℕ) → k < length vs → get_or (keys vs) k 0 ≡ (get_or vs k (0, new_vertex)).0
id-at [] k below = absurd (omega (arith, below))
id-at (v ∷ vs) zero below = refl
id-at (v ∷ vs) (suc k) below = id-at vs k (omega (arith, below))

row-at : (vs : Map ℕ Vertex) (k : ℕ) → k < length vs → row_of (labels_of vs) k ≡ (get_or vs k (0, new_vertex)).1.labels
row-at [] k below = absurd (omega (arith, below))
row-at (v ∷ vs) zero below = refl
row-at (v ∷ vs) (suc k) below = row-at vs k (omega (arith, below))

module _ (f : ℕ → ℕ) (p : ℕ → Bool) (test : ℕ × Vertex → Bool) where
  found-over : (vs : Map ℕ Vertex) (a : ℕ) → ((k : ℕ) → k < length vs → f (a + k) ≡ (get_or vs k (0, new_vertex)).0) → ((k : ℕ) → k < length vs → p (a + k) ≡ test (get_or vs k (0, new_vertex)))
      → map f (filter p (range_with_len a (length vs))) ≡ keys (filter test vs)
  found-over [] a ids tests = refl
  found-over (v ∷ vs) a ids tests =
      let here : a + zero ≡ a = omega arith in
      let next : (k : ℕ) → (a + 1) + k ≡ a + suc k = λ k. omega arith in
      let rest = found-over vs (a + 1) (λ k below. ap f (next k) ∙ ids (suc k) (omega (arith, below))) (λ k below. ap p (next k) ∙ tests (suc k) (omega (arith, below))) in
      ap (λ (b : Bool). map f (if b then a ∷ filter p (range_with_len (a + 1) (length vs)) else filter p (range_with_len (a + 1) (length vs)))) (sym (ap p here) ∙ tests zero (omega arith))
      ∙ elim (test v) as (λ b. map f (if b then a ∷ filter p (range_with_len (a + 1) (length vs)) else filter p (range_with_len (a + 1) (length vs))) ≡ keys (if b then v ∷ filter test vs else filter test vs)) [
        | true ↦ ap (λ x. x ∷ map f (filter p (range_with_len (a + 1) (length vs)))) (sym (ap f here) ∙ ids zero (omega arith)) ∙ ap (λ xs. v.0 ∷ xs) rest
        | false ↦ rest
      ]

pub labelled-done : (outline : Outline) (label : ℕ) (found : List ℕ) → found ≡ map (λ p. get_or outline.ids p 0) (filter (λ p. has (row_of outline.labels p) label) (range_with_len 0 (length outline.ids)))
    → (g : Graph) → IsOf g outline → found ≡ vertices_where g (label ∷ []) None
labelled-done outline label found told = λ g is.
    told
    ∙ ap (λ (ids : List ℕ). map (λ p. get_or ids p 0) (filter (λ p. has (row_of outline.labels p) label) (range_with_len 0 (length ids)))) is.ids
    ∙ ap (λ (rows : List (List ℕ)). map (λ p. get_or (keys g.vertices) p 0) (filter (λ p. has (row_of rows p) label) (range_with_len 0 (length (keys g.vertices))))) is.labels
    ∙ ap (λ (n : ℕ). map (λ p. get_or (keys g.vertices) p 0) (filter (λ p. has (row_of (labels_of g.vertices) p) label) (range_with_len 0 n))) (length-keys g.vertices)
    ∙ found-over (λ p. get_or (keys g.vertices) p 0) (λ p. has (row_of (labels_of g.vertices) p) label) (λ entry. list_all (has entry.1.labels) (label ∷ []) && true) g.vertices 0
    (λ k below. let same : 0 + k ≡ k = omega arith in ap (λ n. get_or (keys g.vertices) n 0) same ∙ id-at g.vertices k below)
    (λ k below.
    let same : 0 + k ≡ k = omega arith in
    ap (λ n. has (row_of (labels_of g.vertices) n) label) same ∙ ap (λ (row : List ℕ). has row label) (row-at g.vertices k below)
    ∙ sym (and-true _ ∙ and-true (has (get_or g.vertices k (0, new_vertex)).1.labels label)))
