-- What is written grows by as many blocks as the objects of the graph do.
use Rattle.std.proofs.Common.{◌≡◌, ◌∙◌, ℕ, zero, suc, ◌-◌, ◌<◌, Bool, true, false, cond, List, [], length, Option, Some, None, refl, sym, ap, arith}
use Rattle.std.specs.Prelude.{is_some, sum_by, MatchBool}
use Rattle.std.specs.Option.{unwrap_or}
use Rattle.std.proofs.lemmas.Bool.Decides.{nat_tests}
use Rattle.rma_layout.specs.Shape.{Shape}
use Rattle.rma_layout.specs.Ranges.{IsInRange}
use Rattle.rma_layout.specs.Placement.{Place}
use Rattle.object_words.specs.Contents.{Contents, IsByRisingObject, content_of, overlay, is_empty, words_at}
use Rattle.object_words.specs.Blocks as blocks
use Rattle.object_words.specs.Blocks.{total_below, growth, grown_blocks, content_blocks, is_reserved, on_rank}
use Rattle.object_words.proofs.Overlays.{content-overlay, put_over}
use Rattle.graph_model.specs.Graph.{Graph}
use Rattle.graph_model.specs.WellFormed.{IsWellFormed}
use Rattle.graph_model.proofs.Entries.{All-map}
use Rattle.graph_model.specs.Capacity.{Object, Reserved, OfVertex, OfHeavyEdge, objects_on, words_of}
use Rattle.holder_codec.specs.Represents.{VertexObjects, EdgeObjects}
use Rattle.object_view.specs.View.{IsOn, place_in, IsViewed}
use Rattle.object_view.specs.Growth.{ComeFrom, growth_between}
use Rattle.object_view.proofs.Objects.{total_objects, each_on, is_on_rank}
use Rattle.object_view.proofs.Counted.{sum_same}
use Rattle.object_view.proofs.Used.{content_counted, vertex_stands, edge_stands}

pub total_same : (n : ℕ) (f g : ℕ → ℕ) → ((k : ℕ) → f k ≡ g k) → total_below n f ≡ total_below n g
unfolding total_below
total_same zero f g same = refl
total_same (suc n) f g same = let rest = total_same n f g same in let last = same n in omega (arith, rest, last)

nothing_grows : (n : ℕ) → n - n ≡ 0
nothing_grows n = omega arith

growth_same : (shape : Shape) (block : ℕ) (words : List ℕ) → growth shape block words words ≡ 0
growth_same shape block words = cases (is_reserved shape block) (is_empty words)
  where
    cases : (r e : Bool) → cond r (content_blocks shape words - content_blocks shape words) (cond e 0 (cond e (content_blocks shape words - 1) (content_blocks shape words - content_blocks shape words))) ≡ 0
    cases true e = nothing_grows (content_blocks shape words)
    cases false true = refl
    cases false false = nothing_grows (content_blocks shape words)

module _ (shape : Shape) (store writes : Contents) (g h : Graph) (well : IsWellFormed g) (well_after : IsWellFormed h) (vertices : VertexObjects) (edges : EdgeObjects) (vertices_after : VertexObjects) (edges_after : EdgeObjects)
    (ranges : IsInRange shape) (ordered : IsByRisingObject writes) (v : IsViewed shape store g vertices edges) (w : IsViewed shape (overlay store writes) h vertices_after edges_after)
    (rank : ℕ) (within : rank < shape.ranks) (kept : Object → Bool) (from : ComeFrom shape store g h vertices edges vertices_after edges_after rank kept) where
  abbrev c0 : ℕ → List ℕ
  c0 block = content_of store (on_rank rank block)

  abbrev c1 : ℕ → List ℕ
  c1 block = content_of (overlay store writes) (on_rank rank block)

  abbrev grows : ℕ → ℕ
  grows block = growth shape block (c0 block) (c1 block)

  abbrev after : Object → ℕ
  after object = (place_in vertices_after edges_after rank object).block

  written_or_same : (block : ℕ) → cond (is_some (words_at writes (on_rank rank block))) (growth shape block (c0 block) (content_of writes (on_rank rank block))) 0 ≡ grows block
  written_or_same block =
      cases (words_at writes (on_rank rank block)) ∙ ap (growth shape block (c0 block)) (sym (content-overlay store writes (on_rank rank block) ordered))
    where
      cases : (o : Option (List ℕ)) → cond (is_some o) (growth shape block (c0 block) (unwrap_or o [])) 0 ≡ growth shape block (c0 block) (put_over o (c0 block))
      cases None = sym (growth_same shape block (c0 block))
      cases (Some words) = refl

  abbrev growth_by : ℕ → Bool → Bool → Bool → ℕ
  growth_by block r e1 e0 =
      cond r (content_blocks shape (c1 block) - content_blocks shape (c0 block)) (cond e1 0 (cond e0 (content_blocks shape (c1 block) - 1) (content_blocks shape (c1 block) - content_blocks shape (c0 block))))

  opened : (block : ℕ) (r e1 e0 : Bool) → is_reserved shape block ≡ r → is_empty (c1 block) ≡ e1 → is_empty (c0 block) ≡ e0 → grows block ≡ growth_by block r e1 e0
  opened block r e1 e0 reserved now before =
      ap (λ b. growth_by block b (is_empty (c1 block)) (is_empty (c0 block))) reserved ∙ (ap (λ b. growth_by block r b (is_empty (c0 block))) now ∙ ap (λ b. growth_by block r e1 b) before)

  none_left : (block : ℕ) → is_reserved shape block ≡ false → c1 block ≡ [] → grows block ≡ 0
  none_left block free none = opened block false true (is_empty (c0 block)) free (ap is_empty none) refl

  abbrev for_words : ℕ → ℕ
  for_words n = blocks.blocks_for n (shape.words - 1)

  counted : (object : Object) → IsOn shape h rank object → length (c1 (after object)) ≡ words_of shape h rank object
  counted object on = content_counted shape h well_after rank within (overlay store writes) vertices_after edges_after ranges w object on

  -- an object that was there had its words in its place
  counted_before : (object : Object) → IsOn shape g rank object → place_in vertices_after edges_after rank object ≡ place_in vertices edges rank object → length (c0 (after object)) ≡ words_of shape g rank object
  counted_before object on same =
      ap (λ (p : Place). length (c0 p.block)) same ∙ content_counted shape g well rank within store vertices edges ranges v object on

  abbrev CameFrom : Object → Bool → Type 0
  CameFrom object b =
      MatchBool b (IsOn shape g rank object × (place_in vertices_after edges_after rank object ≡ place_in vertices edges rank object)) (content_of store (place_in vertices_after edges_after rank object) ≡ [])

  -- one in a free block grows from its words, or from its first block
  free_grows : (object : Object) → IsOn shape h rank object → is_reserved shape (after object) ≡ false → is_empty (c1 (after object)) ≡ false
      → (IsOn shape g rank object → place_in vertices_after edges_after rank object ≡ place_in vertices edges rank object → is_empty (c0 (after object)) ≡ false)
      → (b : Bool) → CameFrom object b → grows (after object) ≡ growth_between shape g h rank object b
  free_grows object on free filled stood true came =
      opened (after object) false false false free filled (stood came.0 came.1)
      ∙ (ap (λ n. for_words n - content_blocks shape (c0 (after object))) (counted object on)
      ∙ ap (λ n. for_words (words_of shape h rank object) - for_words n) (counted_before object came.0 came.1))
  free_grows object on free filled stood false came =
      let here = is_on_rank shape h well_after rank within (overlay store writes) vertices_after edges_after ranges w rank object on in
      let none : is_empty (c0 (after object)) ≡ true = ap (λ p. is_empty (content_of store p)) (sym here) ∙ ap is_empty came in
      opened (after object) false false true free filled none ∙ ap (λ n. for_words n - 1) (counted object on)

  each_grows : (object : Object) → IsOn shape h rank object → grows (after object) ≡ growth_between shape g h rank object (kept object)
  each_grows (Reserved block) on =
      let reserved : is_reserved shape block ≡ true = let below = on.1 in grind (arith, nat_tests) in
      opened block true (is_empty (c1 block)) (is_empty (c0 block)) reserved refl refl
      ∙ (ap (λ n. for_words n - content_blocks shape (c0 block)) (counted (Reserved block) on)
      ∙ (ap (λ n. for_words (words_of shape h rank (Reserved block)) - for_words n) (counted_before (Reserved block) on refl)
      ∙ sym (ap (growth_between shape g h rank (Reserved block)) (from.reserved block))))
  each_grows (OfVertex id) on =
      let stands = vertex_stands shape h well_after rank within (overlay store writes) vertices_after edges_after ranges w id on in
      free_grows (OfVertex id) on stands.0 stands.1 (λ was same. ap (λ (p : Place). is_empty (c0 p.block)) same
      ∙ (vertex_stands shape g well rank within store vertices edges ranges v id was).1) (kept (OfVertex id)) (from.each (OfVertex id) on)
  each_grows (OfHeavyEdge source ordinal) on =
      let stands = edge_stands shape h well_after rank within (overlay store writes) vertices_after edges_after ranges w source ordinal on in
      free_grows (OfHeavyEdge source ordinal) on stands.0 stands.1 (λ was same. ap (λ (p : Place). is_empty (c0 p.block)) same
      ∙ (edge_stands shape g well rank within store vertices edges ranges v source ordinal was).1) (kept (OfHeavyEdge source ordinal)) (from.each (OfHeavyEdge source ordinal) on)

  pub grown : grown_blocks shape store writes rank ≡ sum_by (λ object. growth_between shape g h rank object (kept object)) (objects_on shape h rank)
  grown =
      total_same shape.blocks _ grows written_or_same
      ∙ (total_objects shape h well_after rank within (overlay store writes) vertices_after edges_after ranges w grows none_left
      ∙ sum_same _ _ (objects_on shape h rank) (All-map (IsOn shape h rank) (λ object. grows (after object) ≡ growth_between shape g h rank object (kept object)) each_grows (objects_on shape h rank) (each_on shape h well_after rank within)))
