-- What each kind of change does to the objects of a graph: which come, and how long they are.
use Rattle.std.proofs.Common.{◌≡◌, ℕ, zero, suc, ◌+◌, ◌*◌, ◌<◌, ◌≤◌, Bool, true, false, cond, not, List, [], ◌∷◌, length, if◌then◌else◌, Option, Some, None, is_some, inl, inr, ◌⊎◌, refl, sym, ap, subst, ◌∙◌, arith}
use Rattle.std.specs.Prelude.{◌==◌, nat_lt, IsSome}
use Rattle.std.specs.List.{count_by, filter, AllByRecursion}
use Rattle.std.specs.Option.{option_map_or}
use Rattle.std.specs.Ordering.{nat_cmp, is_eq}
use Rattle.std.specs.declared.cmp.Ordering.TheVariants.{Less, Equal, Greater}
use Rattle.std.specs.Cmp.{nat_cmp_total}
use Rattle.std.specs.FinMap.{nat_cmp-IsAntisymmetric}
use Rattle.std.specs.FinMap.Entries.{put, find, find-put, find-where_key}
use Rattle.std.proofs.lemmas.Bool.{and_parts, or_parts, eqb-true, ltb-false}
use Rattle.std.proofs.lemmas.List.Sums.{length-filter}
use Rattle.rma_layout.specs.Shape.{Shape}
use Rattle.rma_layout.specs.Placement.{Place, same_place, bucket_of, slot_of}
use Rattle.graph_model.specs.Maps.{Map, without}
use Rattle.graph_model.specs.Graph.{Name, PropType, Graph, Vertex, Edge, EdgeKey, edge_cmp, new_vertex, vertex_at, is_vertex, edge_at, is_heavy, is_heavy_at}
use Rattle.graph_model.specs.Sizes.{most_words, is_too_large, words_of_props, records_at, words_of_vertex, words_of_edge, words_of_bucket, words_of_slot, words_of_names}
use Rattle.graph_model.specs.VertexCalls.{with_vertex}
use Rattle.graph_model.specs.EdgeCalls.{with_edge}
use Rattle.graph_model.specs.WellFormed.{EdgeFits, IsWellFormed}
use Rattle.graph_model.specs.Capacity.{Object, is_object, words_of_reserved}
use Rattle.graph_model.specs.Capacity.Object.{Reserved, OfVertex, OfHeavyEdge}
use Rattle.graph_model.specs.Limits.{HasShortObjects}
use Rattle.graph_model.proofs.Entries.{never, some-there, edge_cmp_total, edge_cmp_same}
use Rattle.graph_model.proofs.MapSums.{sum_by-filter-le, sum_by-put-le, sum_by-put-same, find-filter}

-- a length that stays within the limit
abbrev pub StaysShort : ℕ → ℕ → Type 0
StaysShort old new = old ≤ most_words → new ≤ most_words

pub no_longer : (old new : ℕ) → new ≤ old → StaysShort old new
no_longer old new le short = omega arith

pub tested : (old new : ℕ) → is_too_large new ≡ false → StaysShort old new
tested old new passed short = ltb-false most_words new passed

-- the object is there afterwards only if it was before, or as the one that is made
abbrev pub Arises : Graph → Graph → (Object → Type 0) → Type 0
Arises g h Made = (object : Object) → is_object h object ≡ true → (is_object g object ≡ true) ⊎ Made object

-- ---- reserved objects, by what they keep

-- the objects of the names, of the buckets and of the index
pub reserved_short : (shape : Shape) (g h : Graph) → HasShortObjects shape g
    → StaysShort (words_of_names g) (words_of_names h)
    → ((place : Place) → StaysShort (words_of_bucket shape g place) (words_of_bucket shape h place))
    → ((place : Place) → StaysShort (words_of_slot shape g place) (words_of_slot shape h place))
    → (rank block : ℕ) → words_of_reserved shape h rank block ≤ most_words
reserved_short shape g h short names buckets slots rank block =
    let place : Place = record { rank = rank; block = block } in
    elim (block == 0) as (λ first. (if first then (if rank == 0 then words_of_names g else 0) else (if nat_lt shape.buckets block then words_of_slot shape g place else words_of_bucket shape g place)) ≤ most_words
    → (if first then (if rank == 0 then words_of_names h else 0) else (if nat_lt shape.buckets block then words_of_slot shape h place else words_of_bucket shape h place)) ≤ most_words) [
      | true ↦ elim (rank == 0) as (λ zeroth. (if zeroth then words_of_names g else 0) ≤ most_words → (if zeroth then words_of_names h else 0) ≤ most_words) [
        | true ↦ names
        | false ↦ λ few. few
      ]
      | false ↦ elim (nat_lt shape.buckets block) as (λ slot. (if slot then words_of_slot shape g place else words_of_bucket shape g place) ≤ most_words
          → (if slot then words_of_slot shape h place else words_of_bucket shape h place) ≤ most_words) [
            | true ↦ slots place
            | false ↦ buckets place
          ]
    ] (short rank (Reserved block))

same_length : (n : ℕ) → StaysShort n n
same_length n short = short

pub place_of_test : (one other : Place) → same_place one other ≡ true → one ≡ other
place_of_test one other same =
    let parts = and_parts (one.rank == other.rank) (one.block == other.block) same in
    λ i. record { rank = eqb-true one.rank other.rank parts.0 i; block = eqb-true one.block other.block parts.1 i }

-- what is found after a value was put in
module _ (g : Graph) (id : ℕ) (v : Vertex) where
  pub at_vertex : (P : Option Vertex → Type 0) (j : ℕ) → (j ≡ id → P (Some v)) → (P (vertex_at g j)) → P (vertex_at (with_vertex g id v) j)
  at_vertex P j here there =
      subst P (sym (find-put nat_cmp nat_cmp_total j id v g.vertices))
      (elim (nat_cmp j id) as (λ r. nat_cmp j id ≡ r → P (cond (is_eq r) (Some v) (vertex_at g j))) [
        | Less ↦ λ _. there
        | Equal ↦ λ tied. here (nat_cmp-IsAntisymmetric j id tied)
        | Greater ↦ λ _. there
      ] refl)

module _ (g : Graph) (key : EdgeKey) (e : Edge) where
  pub at_edge : (P : Option Edge → Type 0) (q : EdgeKey) → (q ≡ key → P (Some e)) → P (find edge_cmp q g.edges) → P (find edge_cmp q (put edge_cmp key e g.edges))
  at_edge P q here there =
      subst P (sym (find-put edge_cmp edge_cmp_total q key e g.edges))
      (elim (edge_cmp q key) as (λ r. edge_cmp q key ≡ r → P (cond (is_eq r) (Some e) (find edge_cmp q g.edges))) [
        | Less ↦ λ _. there
        | Equal ↦ λ tied. here (edge_cmp_same q key tied)
        | Greater ↦ λ _. there
      ] refl)

-- ---- names

pub names_short : (shape : Shape) (g : Graph) (labels : List Name) (types : List PropType) → is_too_large (words_of_names (record g { labels = labels; types = types })) ≡ false
    → HasShortObjects shape g → HasShortObjects shape (record g { labels = labels; types = types })
names_short shape g labels types passed short rank (Reserved block) =
    reserved_short shape g (record g { labels = labels; types = types }) short (tested (words_of_names g) _ passed) (λ place. same_length _) (λ place. same_length _) rank block
names_short shape g labels types passed short rank (OfVertex id) = short rank (OfVertex id)
names_short shape g labels types passed short rank (OfHeavyEdge source ordinal) = short rank (OfHeavyEdge source ordinal)

-- ---- a vertex that is changed

-- the pairs of the index that a vertex has in an object
abbrev pub pairs_at : Shape → Place → ℕ × Vertex → ℕ
pairs_at shape place entry = count_by (λ label. same_place (slot_of shape label entry.0) place) entry.1.labels

-- whether the bucket leads to a vertex
abbrev pub led_to : Shape → Place → ℕ × Vertex → ℕ
led_to shape place entry = cond (same_place (bucket_of shape entry.0) place) 1 0

module _ (shape : Shape) (g : Graph) (id : ℕ) (u v : Vertex) (well : IsWellFormed g) (there : vertex_at g id ≡ Some u) where
  h : Graph
  h = with_vertex g id v

  pub changed_arises : (Made : Object → Type 0) → Arises g (with_vertex g id v) Made
  changed_arises Made (Reserved block) is = inl refl
  changed_arises Made (OfVertex j) is =
      inl (at_vertex g id v (λ found. is_some found ≡ true → is_vertex g j ≡ true) j (λ same _. ap (λ k. is_vertex g k) same ∙ ap is_some there) (λ before. before) is)
  changed_arises Made (OfHeavyEdge source ordinal) is = inl is

  same_buckets : (place : Place) → words_of_bucket shape (with_vertex g id v) place ≡ words_of_bucket shape g place
  same_buckets place =
      omega (arith, sum_by-put-same nat_cmp nat_cmp_total nat_cmp-IsAntisymmetric (led_to shape place) id u v g.vertices well.vertices there)

  pub changed_slots : (place : Place) → words_of_slot shape (with_vertex g id v) place + 2 * pairs_at shape place (id, u) ≡ words_of_slot shape g place + 2 * pairs_at shape place (id, v)
  changed_slots place =
      omega (arith, sum_by-put-same nat_cmp nat_cmp_total nat_cmp-IsAntisymmetric (pairs_at shape place) id u v g.vertices well.vertices there)

  pub changed_short : StaysShort (words_of_vertex g id u) (words_of_vertex g id v) → ((place : Place) → StaysShort (words_of_slot shape g place) (words_of_slot shape (with_vertex g id v) place))
      → HasShortObjects shape g → HasShortObjects shape (with_vertex g id v)
  changed_short vertex slots short rank (Reserved block) =
      reserved_short shape g (with_vertex g id v) short (same_length _) (λ place. no_longer _ _ (omega (arith, same_buckets place))) slots rank block
  changed_short vertex slots short rank (OfVertex j) =
      let before : words_of_vertex g id u ≤ most_words = subst (λ found. option_map_or (words_of_vertex g id) found 0 ≤ most_words) there (short rank (OfVertex id)) in
      at_vertex g id v (λ found. option_map_or (words_of_vertex g j) found 0 ≤ most_words) j
      (λ same. subst (λ k. words_of_vertex g k v ≤ most_words) (sym same) (vertex before)) (short rank (OfVertex j))
  changed_short vertex slots short rank (OfHeavyEdge source ordinal) = short rank (OfHeavyEdge source ordinal)

  -- with the same labels the index stays
  pub same_slots : u.labels ≡ v.labels → (place : Place) → StaysShort (words_of_slot shape g place) (words_of_slot shape (with_vertex g id v) place)
  same_slots labels place =
      let pairs : pairs_at shape place (id, u) ≡ pairs_at shape place (id, v) = ap (λ ls. count_by (λ label. same_place (slot_of shape label id) place) ls) labels in
      no_longer _ _ (omega (arith, changed_slots place, pairs))

-- ---- a vertex that is new

abbrev no_edges : Graph → ℕ → Type 0
no_edges g id = records_at g id ≡ 0

none_pass : {X : Type 0} (p : X → Bool) (xs : List X) → AllByRecursion (λ x. p x ≡ false) xs → length (filter p xs) ≡ 0
none_pass p [] all = refl
none_pass p (x ∷ xs) all = ap (λ b. length (cond b (x ∷ filter p xs) (filter p xs))) all.0 ∙ none_pass p xs all.1

absent_end : (g : Graph) (id other : ℕ) → is_vertex g id ≡ false → IsSome (vertex_at g other) → (other == id) ≡ false
absent_end g id other absent there =
    elim (other == id) as (λ b. (other == id) ≡ b → b ≡ false) [
      | true ↦ λ same. never (sym absent ∙ ap (λ k. is_vertex g k) (sym (eqb-true other id same)) ∙ there)
      | false ↦ λ _. refl
    ] refl

each_absent : (g : Graph) (id : ℕ) (es : Map EdgeKey Edge) → is_vertex g id ≡ false → AllByRecursion (λ entry. EdgeFits g entry.0 entry.1) es
    → AllByRecursion (λ entry. (entry.0.source == id) ≡ false) es × AllByRecursion (λ entry. (entry.1.target == id) ≡ false) es
each_absent g id [] absent all = (tt, tt)
each_absent g id (e ∷ es) absent all =
    let rest = each_absent g id es absent all.1 in
    let source = some-there (vertex_at g e.0.source) (λ v. e.0.ordinal < v.next) all.0.source in
    ((absent_end g id e.0.source absent source, rest.0), (absent_end g id e.1.target absent all.0.target, rest.1))

module _ (shape : Shape) (g : Graph) (id : ℕ) (well : IsWellFormed g) (absent : is_vertex g id ≡ false) where
  pub new_arises : Arises g (with_vertex g id new_vertex) (λ object. object ≡ OfVertex id)
  new_arises (Reserved block) is = inl refl
  new_arises (OfVertex j) is =
      at_vertex g id new_vertex (λ found. is_some found ≡ true → (is_vertex g j ≡ true) ⊎ (OfVertex j ≡ OfVertex id)) j (λ same _. inr (ap OfVertex same)) (λ before. inl before) is
  new_arises (OfHeavyEdge source ordinal) is = inl is

  no_records : records_at g id ≡ 0
  no_records =
      let none = each_absent g id g.edges absent well.each_edge in
      omega (arith, none_pass (λ (entry : EdgeKey × Edge). entry.0.source == id) g.edges none.0, none_pass (λ (entry : EdgeKey × Edge). entry.1.target == id) g.edges none.1)

  pub new_short : is_too_large (words_of_bucket shape (with_vertex g id new_vertex) (bucket_of shape id)) ≡ false
      → HasShortObjects shape g → HasShortObjects shape (with_vertex g id new_vertex)
  new_short passed short rank (Reserved block) =
      reserved_short shape g (with_vertex g id new_vertex) short (same_length _) buckets slots rank block
    where
      slots : (place : Place) → StaysShort (words_of_slot shape g place) (words_of_slot shape (with_vertex g id new_vertex) place)
      slots place = no_longer _ _ (omega (arith, sum_by-put-le nat_cmp nat_cmp-IsAntisymmetric (pairs_at shape place) id new_vertex g.vertices))

      buckets : (place : Place) → StaysShort (words_of_bucket shape g place) (words_of_bucket shape (with_vertex g id new_vertex) place)
      buckets place =
          let more = sum_by-put-le nat_cmp nat_cmp-IsAntisymmetric (led_to shape place) id new_vertex g.vertices in
          elim (same_place (bucket_of shape id) place) as (λ b. same_place (bucket_of shape id) place ≡ b → StaysShort (words_of_bucket shape g place) (words_of_bucket shape (with_vertex g id new_vertex) place)) [
            | true ↦ λ here. subst (λ p. StaysShort (words_of_bucket shape g p) (words_of_bucket shape (with_vertex g id new_vertex) p)) (place_of_test _ _ here) (tested _ _ passed)
            | false ↦ λ other.
                let none : led_to shape place (id, new_vertex) ≡ 0 = ap (λ b. if b then suc zero else zero) other in
                no_longer _ _ (omega (arith, more, none))
          ] refl
  new_short passed short rank (OfVertex j) =
      at_vertex g id new_vertex (λ found. option_map_or (words_of_vertex g j) found 0 ≤ most_words) j
      (λ same. let none : records_at g j ≡ 0 = ap (records_at g) same ∙ no_records in omega (arith, none)) (short rank (OfVertex j))
  new_short passed short rank (OfHeavyEdge source ordinal) = short rank (OfHeavyEdge source ordinal)

-- ---- fewer vertices, and fewer edges

module _ (shape : Shape) (g : Graph) (id : ℕ) where
  abbrev without_vertex : Graph
  without_vertex = record g { vertices = without g.vertices id }

  at_kept : (P : Option Vertex → Type 0) (j : ℕ) → P None → P (vertex_at g j) → P (vertex_at without_vertex j)
  at_kept P j gone there =
      subst P (sym (find-where_key nat_cmp (λ k. not (k == id)) j (λ x tied. ap (λ k. not (k == id)) (sym (nat_cmp-IsAntisymmetric j x tied))) g.vertices))
      (elim (not (j == id)) as (λ b. P (cond b (vertex_at g j) None)) [ true ↦ there | false ↦ gone ])

  pub fewer_vertices_arise : (Made : Object → Type 0) → Arises g (record g { vertices = without g.vertices id }) Made
  fewer_vertices_arise Made (Reserved block) is = inl refl
  fewer_vertices_arise Made (OfVertex j) is = inl (at_kept (λ found. is_some found ≡ true → is_vertex g j ≡ true) j never (λ before. before) is)
  fewer_vertices_arise Made (OfHeavyEdge source ordinal) is = inl is

  pub fewer_vertices_short : HasShortObjects shape g → HasShortObjects shape (record g { vertices = without g.vertices id })
  fewer_vertices_short short rank (Reserved block) =
      reserved_short shape g without_vertex short (same_length _)
      (λ place. no_longer _ _ (omega (arith, sum_by-filter-le (led_to shape place) (λ entry. not (entry.0 == id)) g.vertices)))
      (λ place. no_longer _ _ (omega (arith, sum_by-filter-le (pairs_at shape place) (λ entry. not (entry.0 == id)) g.vertices))) rank block
  fewer_vertices_short short rank (OfVertex j) =
      at_kept (λ found. option_map_or (words_of_vertex g j) found 0 ≤ most_words) j (omega arith) (short rank (OfVertex j))
  fewer_vertices_short short rank (OfHeavyEdge source ordinal) = short rank (OfHeavyEdge source ordinal)

fewer_pass : {X : Type 0} (p keep : X → Bool) (xs : List X) → length (filter p (filter keep xs)) ≤ length (filter p xs)
fewer_pass p keep xs = omega (arith, length-filter p (filter keep xs), length-filter p xs, sum_by-filter-le (λ x. cond (p x) 1 0) keep xs)

module _ (shape : Shape) (g : Graph) (keep : EdgeKey × Edge → Bool) (well : IsWellFormed g) where
  abbrev with_fewer : Graph
  with_fewer = record g { edges = filter keep g.edges }

  found_before : (q : EdgeKey) (e : Edge) → find edge_cmp q (filter keep g.edges) ≡ Some e → find edge_cmp q g.edges ≡ Some e
  found_before q e = find-filter edge_cmp edge_cmp_total keep q e g.edges well.edges

  pub fewer_edges_arise : (Made : Object → Type 0) → Arises g (record g { edges = filter keep g.edges }) Made
  fewer_edges_arise Made (Reserved block) is = inl refl
  fewer_edges_arise Made (OfVertex j) is = inl is
  fewer_edges_arise Made (OfHeavyEdge source ordinal) is =
      let q : EdgeKey = record { source = source; ordinal = ordinal } in
      inl (elim (find edge_cmp q (filter keep g.edges)) as (λ found. find edge_cmp q (filter keep g.edges) ≡ found → option_map_or is_heavy found false ≡ true → is_heavy_at g source ordinal ≡ true) [
        | None ↦ λ _ none. never none
        | Some e ↦ λ there heavy. ap (λ found. option_map_or is_heavy found false) (found_before q e there) ∙ heavy
      ] refl is)

  pub fewer_edges_short : HasShortObjects shape g → HasShortObjects shape (record g { edges = filter keep g.edges })
  fewer_edges_short short rank (Reserved block) =
      reserved_short shape g with_fewer short (same_length _) (λ place. same_length _) (λ place. same_length _) rank block
  fewer_edges_short short rank (OfVertex j) =
      elim (vertex_at g j) as (λ found. option_map_or (words_of_vertex g j) found 0 ≤ most_words → option_map_or (words_of_vertex with_fewer j) found 0 ≤ most_words) [
        | None ↦ λ few. few
        | Some v ↦ λ few. omega (arith, fewer_pass (λ entry. entry.0.source == j) keep g.edges, fewer_pass (λ entry. entry.1.target == j) keep g.edges)
      ] (short rank (OfVertex j))
  fewer_edges_short short rank (OfHeavyEdge source ordinal) =
      let q : EdgeKey = record { source = source; ordinal = ordinal } in
      elim (find edge_cmp q (filter keep g.edges)) as (λ found. find edge_cmp q (filter keep g.edges) ≡ found → option_map_or words_of_edge found 0 ≤ most_words) [
        | None ↦ λ _. omega arith
        | Some e ↦ λ there. subst (λ found. option_map_or words_of_edge found 0 ≤ most_words) (found_before q e there) (short rank (OfHeavyEdge source ordinal))
      ] refl

-- ---- an edge that is changed

module _ (shape : Shape) (g : Graph) (source ordinal : ℕ) (d e : Edge) (well : IsWellFormed g) (there : edge_at g source ordinal ≡ Some d) (target : d.target ≡ e.target) where
  abbrev key : EdgeKey
  key = record { source = source; ordinal = ordinal }

  same_count : (p : EdgeKey × Edge → Bool) → p (key, d) ≡ p (key, e) → length (filter p (put edge_cmp key e g.edges)) ≡ length (filter p g.edges)
  same_count p same =
      let one : EdgeKey × Edge → ℕ = λ entry. cond (p entry) 1 0 in
      let both : one (key, d) ≡ one (key, e) = ap (λ b. if b then suc zero else zero) same in
      omega (arith, length-filter p (put edge_cmp key e g.edges), length-filter p g.edges, sum_by-put-same edge_cmp edge_cmp_total edge_cmp_same one key d e g.edges well.edges there, both)

  same_records : (j : ℕ) → records_at (with_edge g source ordinal e) j ≡ records_at g j
  same_records j =
      omega (arith, same_count (λ entry. entry.0.source == j) refl, same_count (λ entry. entry.1.target == j) (ap (λ t. t == j) target))

  pub edge_arises : (Made : Object → Type 0) → (is_heavy e ≡ true → (is_heavy d ≡ true) ⊎ Made (OfHeavyEdge source ordinal)) → Arises g (with_edge g source ordinal e) Made
  edge_arises Made heavy (Reserved block) is = inl refl
  edge_arises Made heavy (OfVertex j) is = inl is
  edge_arises Made heavy (OfHeavyEdge s o) is =
      let q : EdgeKey = record { source = s; ordinal = o } in
      at_edge g key e (λ found. option_map_or is_heavy found false ≡ true → (is_heavy_at g s o ≡ true) ⊎ Made (OfHeavyEdge s o)) q
      (λ same now. subst (λ (k : EdgeKey). (is_heavy_at g k.source k.ordinal ≡ true) ⊎ Made (OfHeavyEdge k.source k.ordinal)) (sym same)
      (elim (heavy now) [ inl before ↦ inl (ap (λ found. option_map_or is_heavy found false) there ∙ before) | inr made ↦ inr made ]))
      (λ before. inl before) is

  pub edge_short : StaysShort (words_of_edge d) (words_of_edge e) → HasShortObjects shape g → HasShortObjects shape (with_edge g source ordinal e)
  edge_short kept short rank (Reserved block) =
      reserved_short shape g (with_edge g source ordinal e) short (same_length _) (λ place. same_length _) (λ place. same_length _) rank block
  edge_short kept short rank (OfVertex j) =
      elim (vertex_at g j) as (λ found. option_map_or (words_of_vertex g j) found 0 ≤ most_words → option_map_or (words_of_vertex (with_edge g source ordinal e) j) found 0 ≤ most_words) [
        | None ↦ λ few. few
        | Some v ↦ λ few. omega (arith, same_records j)
      ] (short rank (OfVertex j))
  edge_short kept short rank (OfHeavyEdge s o) =
      let q : EdgeKey = record { source = s; ordinal = o } in
      let before : words_of_edge d ≤ most_words = subst (λ found. option_map_or words_of_edge found 0 ≤ most_words) there (short rank (OfHeavyEdge source ordinal)) in
      at_edge g key e (λ found. option_map_or words_of_edge found 0 ≤ most_words) q (λ _. kept before) (short rank (OfHeavyEdge s o))

-- a light edge has a label at most, and no property
pub light_short : (e : Edge) → is_heavy e ≡ false → words_of_edge e ≤ 6
light_short e light =
    let parts = or_parts (nat_lt 1 (length e.labels)) (nat_lt 0 (length e.props)) light in
    let few = ltb-false 1 (length e.labels) parts.0 in
    let none : length e.props ≤ 0 = ltb-false 0 (length e.props) parts.1 in
    elim e.props as (λ ps. length ps ≤ 0 → 5 + length e.labels + words_of_props ps ≤ 6) [
      | [] ↦ λ _. omega arith
      | p ∷ ps ↦ λ no. absurd (omega arith)
    ] none

-- ---- an edge that is new

module _ (shape : Shape) (g : Graph) (source ordinal : ℕ) (e : Edge) (light : is_heavy e ≡ false) where
  abbrev new_key : EdgeKey
  new_key = record { source = source; ordinal = ordinal }

  abbrev grown_by : Graph
  grown_by = with_edge g source ordinal e

  count_grows : (p : EdgeKey × Edge → Bool) → p (new_key, e) ≡ false → length (filter p (put edge_cmp new_key e g.edges)) ≤ length (filter p g.edges)
  count_grows p not_here =
      let one : EdgeKey × Edge → ℕ = λ entry. cond (p entry) 1 0 in
      let none : one (new_key, e) ≡ 0 = ap (λ b. if b then suc zero else zero) not_here in
      omega (arith, length-filter p (put edge_cmp new_key e g.edges), length-filter p g.edges, sum_by-put-le edge_cmp edge_cmp_same one new_key e g.edges, none)

  pub new_edge_arises : (Made : Object → Type 0) → Arises g (with_edge g source ordinal e) Made
  new_edge_arises Made (Reserved block) is = inl refl
  new_edge_arises Made (OfVertex j) is = inl is
  new_edge_arises Made (OfHeavyEdge s o) is =
      let q : EdgeKey = record { source = s; ordinal = o } in
      at_edge g new_key e (λ found. option_map_or is_heavy found false ≡ true → (is_heavy_at g s o ≡ true) ⊎ Made (OfHeavyEdge s o)) q
      (λ _ heavy. never (sym light ∙ heavy)) (λ before. inl before) is

  -- its two ends were tried
  pub new_edge_short : option_map_or (words_of_vertex grown_by source) (vertex_at g source) 0 ≤ most_words
      → option_map_or (words_of_vertex grown_by e.target) (vertex_at g e.target) 0 ≤ most_words
      → HasShortObjects shape g → HasShortObjects shape (with_edge g source ordinal e)
  new_edge_short at_source at_target short rank (Reserved block) =
      reserved_short shape g grown_by short (same_length _) (λ place. same_length _) (λ place. same_length _) rank block
  new_edge_short at_source at_target short rank (OfVertex j) =
      elim (source == j) as (λ b. (source == j) ≡ b → option_map_or (words_of_vertex grown_by j) (vertex_at g j) 0 ≤ most_words) [
        | true ↦ λ same. subst (λ k. option_map_or (words_of_vertex grown_by k) (vertex_at g k) 0 ≤ most_words) (eqb-true source j same) at_source
        | false ↦ λ not_source. elim (e.target == j) as (λ b. (e.target == j) ≡ b → option_map_or (words_of_vertex grown_by j) (vertex_at g j) 0 ≤ most_words) [
          | true ↦ λ same. subst (λ k. option_map_or (words_of_vertex grown_by k) (vertex_at g k) 0 ≤ most_words) (eqb-true e.target j same) at_target
          | false ↦ λ not_target.
              elim (vertex_at g j) as (λ found. option_map_or (words_of_vertex g j) found 0 ≤ most_words → option_map_or (words_of_vertex grown_by j) found 0 ≤ most_words) [
                | None ↦ λ few. few
                | Some v ↦ λ few. omega (arith, count_grows (λ entry. entry.0.source == j) not_source, count_grows (λ entry. entry.1.target == j) not_target)
              ] (short rank (OfVertex j))
        ] refl
      ] refl
  new_edge_short at_source at_target short rank (OfHeavyEdge s o) =
      let q : EdgeKey = record { source = s; ordinal = o } in
      at_edge g new_key e (λ found. option_map_or words_of_edge found 0 ≤ most_words) q (λ _. omega (arith, light_short e light)) (short rank (OfHeavyEdge s o))
