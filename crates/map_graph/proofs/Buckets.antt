-- Counts of the vertices that each bucket leads to.
use Rattle.std.proofs.Common.{◌≡◌, ℕ, ◌+◌, ◌*◌, ◌<◌, ◌≤◌, Bool, true, false, cond, ap, sym, ◌∙◌, eqb, arith}
use Rattle.std.specs.List.{count_by}
use Rattle.std.specs.Ordering.{nat_cmp}
use Rattle.std.specs.Map.{remove_entry, set_value}
use Rattle.std.specs.BTreeMap.{insert_entry, is_at}
use Rattle.std.proofs.lemmas.Bool.Decides.{nat_tests}
use Rattle.rma_layout.specs.Shape.{Shape}
use Rattle.rma_layout.specs.Ranges.{IsInRange}
use Rattle.rma_layout.specs.Placement.{Place, same_place, raw_of, FitsOneWord, bucket_of}
use Rattle.graph_model.specs.Maps.{Map, is_there, with_at}
use Rattle.graph_model.specs.Graph.{Vertex, new_vertex}
use Rattle.graph_model.specs.Sizes.{is_too_large}
use Rattle.graph_model.proofs.VertexSteps.{is_bucket_full}
use Rattle.graph_parts.specs.Counts.{count_of}
use Rattle.map_graph.specs.Plain.{led_to_by, CountsBuckets}
use Rattle.graph_parts.proofs.OrderedMaps.{insert_entry-with_at, count_by-with_at, count_by-remove_entry, count_by-set_value}

-- the pointer to a vertex's bucket
abbrev pub raw_bucket : Shape → ℕ → ℕ
raw_bucket shape id = raw_of (bucket_of shape id)

module _ (shape : Shape) (vertices : Map ℕ Vertex) (counts : Map ℕ ℕ) (counted : CountsBuckets shape vertices counts) where
  -- what is written at a vertex leaves them
  pub buckets-written : (test : ℕ → Bool) (vertex : Vertex) → CountsBuckets shape (set_value test vertices vertex) counts
  buckets-written test vertex = λ raw. counted raw ∙ sym (count_by-set_value (λ id. eqb (raw_bucket shape id) raw) test vertex vertices)

  pub buckets-raised : (id : ℕ) (vertex : Vertex) (more : Map ℕ Vertex) (after : Map ℕ ℕ) → is_there vertices id ≡ false → more ≡ insert_entry nat_cmp vertices id vertex
      → ((q : ℕ) → count_of after q ≡ count_of counts q + cond (eqb (raw_bucket shape id) q) 1 0) → CountsBuckets shape more after
  buckets-raised id vertex more after absent made raised = λ q.
      let one_more = ap (λ vs. led_to_by shape vs q) (made ∙ insert_entry-with_at id vertex vertices) ∙ count_by-with_at (λ x. eqb (raw_bucket shape x) q) id vertex vertices absent in
      omega (arith, one_more, raised q, counted q)

  pub buckets-lowered : (id : ℕ) (left : Map ℕ Vertex) (after : Map ℕ ℕ) → is_there vertices id ≡ true → left ≡ remove_entry (is_at (nat_cmp id)) vertices
      → ((q : ℕ) → count_of after q + cond (eqb (raw_bucket shape id) q) 1 0 ≡ count_of counts q) → CountsBuckets shape left after
  buckets-lowered id left after there gone lowered = λ q.
      omega (arith, ap (λ vs. led_to_by shape vs q) gone, count_by-remove_entry (λ x. eqb (raw_bucket shape x) q) id vertices there, lowered q, counted q)

  -- a bucket leads to each vertex that it is the bucket of
  pub some_counted : (id : ℕ) → is_there vertices id ≡ true → 1 ≤ count_of counts (raw_bucket shape id)
  some_counted id there =
      let here : ◌≡◌ {A = ℕ} (cond (eqb (raw_bucket shape id) (raw_bucket shape id)) 1 0) 1 = grind (arith, nat_tests) in
      omega (arith, count_by-remove_entry (λ x. eqb (raw_bucket shape x) (raw_bucket shape id)) id vertices there, counted (raw_bucket shape id), here)

-- ---- distinct buckets have distinct pointers

pub same_place-raw : (p q : Place) → FitsOneWord p → FitsOneWord q → same_place p q ≡ eqb (raw_of p) (raw_of q)
same_place-raw p q fits_p fits_q = grind (arith, nat_tests)

fits_one_word : (shape : Shape) (id : ℕ) → IsInRange shape → FitsOneWord (bucket_of shape id)
fits_one_word shape id range = (omega (arith, range.ranks), omega (arith, range.buckets))

-- so a bucket is full where it leads to half as many vertices as an object may have words
module _ (shape : Shape) (vertices : Map ℕ Vertex) (id raw n : ℕ) (range : IsInRange shape) (absent : is_there vertices id ≡ false) (pointer : raw ≡ raw_bucket shape id) (led : n ≡ led_to_by shape vertices raw) where
  is_bucket_full-counted : is_bucket_full shape vertices id ≡ is_too_large (2 * (n + 1))
  is_bucket_full-counted =
      let here = fits_one_word shape id range in
      let one_more : led_to_by shape vertices (raw_bucket shape id) + cond (eqb (raw_bucket shape id) (raw_bucket shape id)) 1 0 ≡ n + 1 = grind (arith, nat_tests) in
      let pointers : (λ (x : ℕ). same_place (bucket_of shape x) (bucket_of shape id)) ≡ (λ x. eqb (raw_bucket shape x) (raw_bucket shape id)) =
      λ i x. same_place-raw (bucket_of shape x) (bucket_of shape id) (fits_one_word shape x range) here i in
      ap (λ (test : ℕ → Bool). is_too_large (2 * count_by (λ entry. test entry.0) (with_at vertices id new_vertex))) pointers
      ∙ ap (λ m. is_too_large (2 * m)) (count_by-with_at (λ x. eqb (raw_bucket shape x) (raw_bucket shape id)) id new_vertex vertices absent)
      ∙ ap (λ m. is_too_large (2 * m)) one_more

  pub bucket_is_full : 524288 ≤ n → is_bucket_full shape vertices id ≡ true
  bucket_is_full many = is_bucket_full-counted ∙ grind (arith, nat_tests)

  pub bucket_has_room : n < 524288 → is_bucket_full shape vertices id ≡ false
  bucket_has_room few = is_bucket_full-counted ∙ grind (arith, nat_tests)
