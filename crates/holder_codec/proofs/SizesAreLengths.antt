-- The sizes of objects are the lengths of what is spelled in them.
use Rattle.std.proofs.Common.{◌≡◌, ℕ, zero, suc, ◌+◌, ◌*◌, ◌<◌, ◌≤◌, Bool, true, false, cond, eqb, ◌&&◌, ◌||◌, List, [], ◌∷◌, ◌++◌, map, length, sum_by, refl, sym, ap, subst, ◌∙◌, arith, length-append}
use Rattle.std.specs.List.{flat_map, filter, count_by, range_with_len, AllByRecursion}
use Rattle.std.proofs.lemmas.Bool.{eqb-true, eqb-false, ne_eqb}
use Rattle.std.proofs.lemmas.List.{length-map}
use Rattle.std.proofs.lemmas.List.Concat.{length-flat_map}
use Rattle.std.proofs.lemmas.List.Sums.{sum_by-cons, length-filter}
use Rattle.rma_layout.specs.Shape.{Shape}
use Rattle.rma_layout.specs.Placement.{Place, same_place, bucket_of, slot_of}
use Rattle.graph_model.specs.Maps.{Map, IsSet, keys, has}
use Rattle.graph_model.specs.Graph.{Name, PropType, Props, Graph, Vertex, Edge, EdgeKey, edges_from, edges_to}
use Rattle.graph_model.specs.Sizes.{words_of_value, words_of_values, words_of_props, words_of_vertex, words_of_edge, words_of_bucket, words_of_slot, words_of_names, words_of_bytes}
use Rattle.graph_model.specs.WellFormed.{VertexFits, IsWellFormed}
use Rattle.graph_model.proofs.Sums.{sum_by-map, sum_by-same, sum_by-plus, sum_by-twice, sum_by-none, sum_by-flat_map, count_by-map}
use Rattle.holder_codec.specs.declared.bucket_entry.BucketEntry.{BucketEntry}
use Rattle.holder_codec.specs.declared.held_prop.HeldProp.{HeldProp}
use Rattle.holder_codec.specs.Bucket.{bucket_words}
use Rattle.holder_codec.specs.Values.{prop_words}
use Rattle.holder_codec.specs.Vertex.{label_words, vertex_words}
use Rattle.holder_codec.specs.Holders.{is_marked_in, held_values, held_props, edge_words, pair_words, name_words, type_words, names_words}
use Rattle.holder_codec.specs.Represents.{VertexObjects, EdgeObjects, entries_of, record_at_source, record_at_target, holder_of, pairs_of_label}
use Rattle.holder_codec.proofs.TextLaws.{length-words_from}
use Rattle.holder_codec.proofs.Buckets.{length-entries}
use Rattle.holder_codec.proofs.Lengths.{length-label_words, length-prop_words, length-vertex_words}

-- ---- properties, vertices and heavy edges

abbrev words_of_held : HeldProp → ℕ
words_of_held prop = 2 + words_of_value prop.value

sum-held_props : (types : List PropType) (ps : Props) → sum_by words_of_held (held_props types ps) ≡ words_of_props ps
sum-held_props types ps =
    sum_by-flat_map words_of_held (λ entry. held_values entry.0 (is_marked_in types entry.0) entry.1) ps
    ∙ sum_by-same (λ entry. sum_by words_of_held (held_values entry.0 (is_marked_in types entry.0) entry.1)) (λ entry. words_of_values entry.1)
    (λ entry. sum_by-map words_of_held (λ value. record { number = entry.0; many = is_marked_in types entry.0; value = value }) entry.1) ps

pub vertex_size : (g : Graph) (vertices : VertexObjects) (edges : EdgeObjects) (id : ℕ) (vertex : Vertex)
    → length (vertex_words (holder_of g vertices edges id vertex)) ≡ words_of_vertex g id vertex
vertex_size g vertices edges id vertex =
    let out = map (λ entry. record_at_source vertices edges entry.0 entry.1) (edges_from g id) in
    let to = map (λ entry. record_at_target vertices edges entry.0 entry.1) (edges_to g id) in
    omega (
      arith,
      length-vertex_words (holder_of g vertices edges id vertex),
      sum-held_props g.types vertex.props,
      length-append out to,
      length-map (edges_from g id) (λ entry. record_at_source vertices edges entry.0 entry.1),
      length-map (edges_to g id) (λ entry. record_at_target vertices edges entry.0 entry.1),
    )

pub edge_size : (types : List PropType) (key : EdgeKey) (edge : Edge) → length (edge_words types key edge) ≡ words_of_edge edge
edge_size types key edge =
    let ls = flat_map label_words edge.labels in
    let ps = held_props types edge.props in
    omega (arith, length-append ls (flat_map prop_words ps), length-label_words edge.labels, length-prop_words ps, sum-held_props types edge.props)

-- ---- buckets

abbrev as_entry : ℕ × Place → BucketEntry
as_entry entry = record { id = entry.0; at = entry.1 }

pub bucket_size : (shape : Shape) (g : Graph) (vertices : VertexObjects) (place : Place) → keys vertices ≡ keys g.vertices
    → length (bucket_words (record { entries = entries_of shape vertices place })) ≡ words_of_bucket shape g place
bucket_size shape g vertices place same =
    let in_bucket = λ (id : ℕ). same_place (bucket_of shape id) place in
    let here = filter (λ entry. in_bucket entry.0) vertices in
    let count : count_by (λ entry. in_bucket entry.0) vertices ≡ count_by (λ entry. in_bucket entry.0) g.vertices =
    sym (count_by-map in_bucket (λ entry. entry.0) vertices) ∙ ap (count_by in_bucket) same ∙ count_by-map in_bucket (λ entry. entry.0) g.vertices in
    omega (arith, length-entries (entries_of shape vertices place), length-map here as_entry, length-filter (λ entry. in_bucket entry.0) vertices, count)

-- ---- the index

abbrev one_if : Bool → ℕ
one_if b = cond b 1 0

once-not : (s : ℕ → Bool) (l a n : ℕ) → l < a → count_by (λ k. eqb l k && s k) (range_with_len a n) ≡ 0
once-not s l a zero below = refl
once-not s l a (suc n) below =
    let this : one_if (eqb l a && s a) ≡ 0 = ap (λ b. one_if (b && s a)) (ne_eqb l a (λ same. omega arith)) in
    omega (arith, sum_by-cons (λ k. one_if (eqb l k && s k)) a (range_with_len (a + 1) n), this, once-not s l (a + 1) n (omega arith))

-- one number of a range passes, if it is there
once : (s : ℕ → Bool) (l a n : ℕ) → a ≤ l → l < a + n → count_by (λ k. eqb l k && s k) (range_with_len a n) ≡ one_if (s l)
once s l a zero from to = absurd (omega arith)
once s l a (suc n) from to =
    let split = sum_by-cons (λ k. one_if (eqb l k && s k)) a (range_with_len (a + 1) n) in
    elim (eqb l a) as (λ b. eqb l a ≡ b → count_by (λ k. eqb l k && s k) (range_with_len a (suc n)) ≡ one_if (s l)) [
      | true ↦ λ here.
          let same = eqb-true l a here in
          let this : one_if (eqb l a && s a) ≡ one_if (s l) = ap (λ b. one_if (b && s a)) here ∙ ap (λ k. one_if (s k)) (sym same) in
          omega (arith, split, this, once-not s l (a + 1) n (omega (arith, same)))
      | false ↦ λ other.
          let this : one_if (eqb l a && s a) ≡ 0 = ap (λ b. one_if (b && s a)) other in
          omega (arith, split, this, once s l (a + 1) n (omega (arith, eqb-false l a other)) (omega arith))
    ] refl

above_all : (l : ℕ) (ls : List ℕ) → AllByRecursion (λ m. l < m) ls → has ls l ≡ false
above_all l [] all = refl
above_all l (m ∷ ms) all = ap (λ b. b || has ms l) (ne_eqb m l (λ same. omega (arith, all.0))) ∙ above_all l ms all.1

-- counted in the range of all labels, or in the set
apart_counts : (a b s : Bool) → (a ≡ true → b ≡ false) → one_if ((a || b) && s) ≡ one_if (a && s) + one_if (b && s)
apart_counts true b s apart = omega (arith, ap (λ b. one_if (b && s)) (apart refl))
apart_counts false b s apart = omega arith

members : (s : ℕ → Bool) (n : ℕ) (ls : List ℕ) → IsSet ls → AllByRecursion (λ l. l < n) ls → count_by (λ k. has ls k && s k) (range_with_len 0 n) ≡ count_by s ls
members s n [] set within = sum_by-none (λ _. 0) (λ _. refl) (range_with_len 0 n)
members s n (l ∷ ls) set within =
    let apart : (k : ℕ) → eqb l k ≡ true → has ls k ≡ false = λ k same. ap (has ls) (sym (eqb-true l k same)) ∙ above_all l ls set.0 in
    let parts = sum_by-same (λ k. one_if ((eqb l k || has ls k) && s k)) (λ k. one_if (eqb l k && s k) + one_if (has ls k && s k))
    (λ k. apart_counts (eqb l k) (has ls k) (s k) (apart k)) (range_with_len 0 n) in
    omega (
      arith,
      parts,
      sum_by-plus (λ k. one_if (eqb l k && s k)) (λ k. one_if (has ls k && s k)) (range_with_len 0 n),
      once s l 0 n (omega arith) (omega (arith, within.0)),
      members s n ls set.1 within.1,
      sum_by-cons (λ k. one_if (s k)) l ls,
    )

module _ (shape : Shape) (place : Place) where
  abbrev keeps_pair : ℕ → ℕ × Vertex → Bool
  keeps_pair label entry = has entry.1.labels label && same_place (slot_of shape label entry.0) place

  length-pairs : (vs : Map ℕ Vertex) (label : ℕ) → length (pairs_of_label shape vs place label) ≡ 2 * count_by (keeps_pair label) vs
  length-pairs vs label =
      let here = filter (keeps_pair label) vs in
      let twice = sum_by-twice (λ (entry : ℕ × Vertex). 1) here in
      omega (arith, length-flat_map (λ entry. pair_words label entry.0) here, twice, length-filter (keeps_pair label) vs, ones here)
    where
      ones : {X : Type 0} (xs : List X) → sum_by (λ x. 1) xs ≡ length xs
      ones [] = refl
      ones (x ∷ xs) = omega (arith, sum_by-cons (λ _. 1) x xs, ones xs)

  abbrev pairs_kept : ℕ × Vertex → ℕ
  pairs_kept entry = count_by (λ label. same_place (slot_of shape label entry.0) place) entry.1.labels

  -- counted by label, or by vertex
  counted : (g : Graph) (n : ℕ) (vs : Map ℕ Vertex) → length g.labels ≡ n → AllByRecursion (λ entry. VertexFits g entry.0 entry.1) vs
      → sum_by (λ label. count_by (keeps_pair label) vs) (range_with_len 0 n) ≡ sum_by pairs_kept vs
  counted g n [] is fits = sum_by-none (λ _. 0) (λ _. refl) (range_with_len 0 n)
  counted g n (v ∷ vs) is fits =
      let range = range_with_len 0 n in
      let parts = sum_by-same (λ label. count_by (keeps_pair label) (v ∷ vs)) (λ label. one_if (keeps_pair label v) + count_by (keeps_pair label) vs)
      (λ label. sum_by-cons (λ entry. one_if (keeps_pair label entry)) v vs) range in
      let this = members (λ label. same_place (slot_of shape label v.0) place) n v.1.labels fits.0.labels.0 (subst (λ m. AllByRecursion (λ l. l < m) v.1.labels) is fits.0.labels.1) in
      omega (arith, parts, sum_by-plus (λ label. one_if (keeps_pair label v)) (λ label. count_by (keeps_pair label) vs) range, this, counted g n vs is fits.1, sum_by-cons pairs_kept v vs)

  pub index_size : (g : Graph) → IsWellFormed g
      → length (flat_map (pairs_of_label shape g.vertices place) (range_with_len 0 (length g.labels))) ≡ words_of_slot shape g place
  index_size g well =
      let range = range_with_len 0 (length g.labels) in
      let each = sum_by-same (λ label. length (pairs_of_label shape g.vertices place label)) (λ label. 2 * count_by (keeps_pair label) g.vertices) (length-pairs g.vertices) range in
      omega (
        arith,
        length-flat_map (pairs_of_label shape g.vertices place) range,
        each,
        sum_by-twice (λ label. count_by (keeps_pair label) g.vertices) range,
        counted g (length g.labels) g.vertices refl well.each_vertex,
      )

-- ---- names

length-names : (names : List Name) → length (flat_map name_words names) ≡ sum_by (λ name. 1 + words_of_bytes (length name)) names
length-names names =
    length-flat_map name_words names
    ∙ sum_by-same (λ name. length (name_words name)) (λ name. 1 + words_of_bytes (length name)) (λ name. omega (arith, length-words_from (words_of_bytes (length name)) name)) names

length-types : (types : List PropType) → length (flat_map type_words types) ≡ sum_by (λ type. 2 + words_of_bytes (length type.name)) types
length-types types =
    length-flat_map type_words types
    ∙ sum_by-same (λ type. length (type_words type)) (λ type. 2 + words_of_bytes (length type.name))
    (λ type. omega (arith, length-words_from (words_of_bytes (length type.name)) type.name)) types

pub names_size : (g : Graph) → length (names_words g.labels g.types) ≡ words_of_names g
names_size g =
    elim (eqb (length g.labels) 0 && eqb (length g.types) 0) as (λ none.
    length (cond none [] (length g.labels ∷ length g.types ∷ (flat_map name_words g.labels ++ flat_map type_words g.types)))
    ≡ cond none 0 (2 + sum_by (λ name. 1 + words_of_bytes (length name)) g.labels + sum_by (λ type. 2 + words_of_bytes (length type.name)) g.types)) [
      | true ↦ refl
      | false ↦ omega (arith, length-append (flat_map name_words g.labels) (flat_map type_words g.types), length-names g.labels, length-types g.types)
    ]
