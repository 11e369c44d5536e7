-- Counts of the labels that each object of the index keeps.
use Rattle.std.proofs.Common.{◌≡◌, ℕ, ◌+◌, ◌*◌, ◌≤◌, Bool, false, cond, Option, Some, None, is_some, refl, ap, sym, ◌∙◌, eqb, nat_le, arith}
use Rattle.std.specs.List.{count_by, sum_by}
use Rattle.std.specs.List.Sorted.{IsStrictlySortedBy}
use Rattle.std.specs.Option.{option_map_or}
use Rattle.std.specs.Ordering.{nat_cmp}
use Rattle.std.specs.Map.{keys_of, lookup, remove_entry, set_value}
use Rattle.std.specs.BTreeMap.{is_at}
use Rattle.std.proofs.lemmas.Bool.Decides.{nat_tests}
use Rattle.rma_layout.specs.Shape.{Shape}
use Rattle.rma_layout.specs.Ranges.{IsInRange}
use Rattle.rma_layout.specs.Placement.{same_place, raw_of, FitsOneWord, slot_of}
use Rattle.graph_model.specs.Maps.{Map, at, is_there, with_at, has, add}
use Rattle.graph_model.specs.Graph.{Vertex, new_vertex}
use Rattle.graph_model.specs.Sizes.{is_too_large}
use Rattle.graph_model.proofs.Entries.{nothing}
use Rattle.graph_parts.specs.Counts.{count_of, labels_kept}
use Rattle.map_graph.specs.Plain.{kept_by, CountsSlots}
use Rattle.graph_parts.proofs.OrderedMaps.{lookup-at, set_value-with_at, count_by-add}
use Rattle.graph_parts.proofs.Weights.{weight_at, weighed-with_at, weighed-removed}
use Rattle.map_graph.proofs.Buckets.{same_place-raw}

-- the pointer to the object that keeps a label of a vertex
abbrev pub raw_slot : Shape → ℕ → ℕ → ℕ
raw_slot shape label id = raw_of (slot_of shape label id)

module _ (shape : Shape) (vertices : Map ℕ Vertex) (id : ℕ) where
  abbrev weight : ℕ → ℕ × Vertex → ℕ
  weight raw entry = labels_kept shape entry.0 entry.1.labels raw

  -- what a vertex that is there weighs, and one that isn't
  found : (raw : ℕ) (v : Vertex) → at vertices id ≡ Some v → weight_at (weight raw) vertices id ≡ labels_kept shape id v.labels raw
  found raw v there = ap (λ (o : Option Vertex). option_map_or (λ x. weight raw (id, x)) o 0) there

  missing : (o : Option Vertex) (raw : ℕ) → is_some o ≡ false → option_map_or (λ x. weight raw (id, x)) o 0 ≡ 0
  missing None raw absent = refl
  missing (Some v) raw absent = nothing v (grind (arith, nat_tests))

  module _ (rises : IsStrictlySortedBy nat_cmp (keys_of vertices)) where
    -- a vertex that takes the place of another
    pub kept-changed : (v w : Vertex) (raw : ℕ) → at vertices id ≡ Some v → kept_by shape (with_at vertices id w) raw + labels_kept shape id v.labels raw ≡ kept_by shape vertices raw + labels_kept shape id w.labels raw
    kept-changed v w raw there = omega (arith, weighed-with_at (weight raw) id w vertices rises, found raw v there)

    -- a new one
    pub kept-made : (raw : ℕ) → is_there vertices id ≡ false → kept_by shape (with_at vertices id new_vertex) raw ≡ kept_by shape vertices raw
    kept-made raw absent = omega (arith, weighed-with_at (weight raw) id new_vertex vertices rises, missing (at vertices id) raw absent)

  -- one that is taken out
  pub kept-removed : (v : Vertex) (raw : ℕ) → at vertices id ≡ Some v → kept_by shape (remove_entry (is_at (nat_cmp id)) vertices) raw + labels_kept shape id v.labels raw ≡ kept_by shape vertices raw
  kept-removed v raw there = omega (arith, weighed-removed (weight raw) id vertices, found raw v there)

-- a vertex that was written: what is counted after a label more, and after one less
module _ (shape : Shape) (vertices : Map ℕ Vertex) (id label : ℕ) (v w : Vertex) (after : Map ℕ Vertex) (rises : IsStrictlySortedBy nat_cmp (keys_of vertices)) (there : Some v ≡ lookup (is_at (nat_cmp id)) vertices)
    (is : after ≡ set_value (is_at (nat_cmp id)) vertices w) (old new : Map ℕ ℕ) (counted : CountsSlots shape vertices old) where
  here : Some v ≡ at vertices id
  here = there ∙ lookup-at id vertices

  put : after ≡ with_at vertices id w
  put = is ∙ set_value-with_at id w vertices rises (ap is_some (sym here))

  pub slots-tagged : w.labels ≡ add label v.labels → has v.labels label ≡ false → ((q : ℕ) → count_of new q ≡ count_of old q + cond (eqb (raw_slot shape label id) q) 1 0) → CountsSlots shape after new
  slots-tagged more lacks raised = λ q.
      omega (arith, raised q, counted q, ap (λ vs. kept_by shape vs q) put, kept-changed shape vertices id rises v w q (sym here), ap (λ ls. labels_kept shape id ls q) more, count_by-add (λ l. eqb (raw_slot shape l id) q) label v.labels lacks)

  pub slots-untagged : ((p : ℕ → Bool) → count_by p w.labels + cond (p label) 1 0 ≡ count_by p v.labels) → ((q : ℕ) → count_of new q + cond (eqb (raw_slot shape label id) q) 1 0 ≡ count_of old q) → CountsSlots shape after new
  slots-untagged fewer lowered = λ q.
      omega (arith, lowered q, counted q, ap (λ vs. kept_by shape vs q) put, kept-changed shape vertices id rises v w q (sym here), fewer (λ l. eqb (raw_slot shape l id) q))

  pub slot-counted : ((p : ℕ → Bool) → count_by p w.labels + cond (p label) 1 0 ≡ count_by p v.labels) → 1 ≤ count_of old (raw_slot shape label id)
  slot-counted fewer =
      let one : ◌≡◌ {A = ℕ} (cond (eqb (raw_slot shape label id) (raw_slot shape label id)) 1 0) 1 = grind (arith, nat_tests) in
      omega (arith, counted (raw_slot shape label id), kept-removed shape vertices id v (raw_slot shape label id) (sym here), fewer (λ l. eqb (raw_slot shape l id) (raw_slot shape label id)), one)

-- ---- distinct objects have distinct pointers

fits_one_word : (shape : Shape) (label id : ℕ) → IsInRange shape → FitsOneWord (slot_of shape label id)
fits_one_word shape label id range = (omega (arith, range.ranks), omega (arith, range.slots, range.buckets))

-- so an object of the index is full where it keeps half as many labels as an object may have words
module _ (shape : Shape) (vertices : Map ℕ Vertex) (id label raw n : ℕ) (v : Vertex) (range : IsInRange shape) (rises : IsStrictlySortedBy nat_cmp (keys_of vertices)) (there : at vertices id ≡ Some v) (lacks : has v.labels label ≡ false)
    (pointer : raw ≡ raw_slot shape label id) (kept : n ≡ kept_by shape vertices raw) where
  abbrev tagged : Vertex
  tagged = record v { labels = add label v.labels }

  one_more : kept_by shape (with_at vertices id tagged) (raw_slot shape label id) ≡ n + 1
  one_more =
      let here : ◌≡◌ {A = ℕ} (cond (eqb (raw_slot shape label id) (raw_slot shape label id)) 1 0) 1 = grind (arith, nat_tests) in
      omega (arith, kept-changed shape vertices id rises v tagged (raw_slot shape label id) there, count_by-add (λ l. eqb (raw_slot shape l id) (raw_slot shape label id)) label v.labels lacks, here, kept, ap (kept_by shape vertices) pointer)

  abbrev words_by : (ℕ → ℕ → Bool) → ℕ
  words_by test = 2 * sum_by (λ entry. count_by (λ l. test l entry.0) entry.1.labels) (with_at vertices id tagged)

  counted : words_by (λ l x. same_place (slot_of shape l x) (slot_of shape label id)) ≡ 2 * (n + 1)
  counted =
      let here = fits_one_word shape label id range in
      let pointers : (λ (l x : ℕ). same_place (slot_of shape l x) (slot_of shape label id)) ≡ (λ l x. eqb (raw_slot shape l x) (raw_slot shape label id)) =
      λ i l x. same_place-raw (slot_of shape l x) (slot_of shape label id) (fits_one_word shape l x range) here i in
      ap words_by pointers ∙ ap (λ m. 2 * m) one_more

  pub slot_is_full : nat_le 524288 n ≡ is_too_large (words_by (λ l x. same_place (slot_of shape l x) (slot_of shape label id)))
  slot_is_full =
      let same : nat_le 524288 n ≡ is_too_large (2 * (n + 1)) = grind (arith, nat_tests) in
      same ∙ ap is_too_large (sym counted)
