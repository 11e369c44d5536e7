-- A store represents one graph at most, and fixes the objects of its heavy edges.
use Rattle.std.proofs.Common.{◌≡◌, ℕ, ◌≤◌, Bool, true, false, cond, ltb, List, [], ◌∷◌, map, length, Option, Some, None, refl, sym, ap, subst, ◌∙◌, eq-eqb, ltb-false, arith, ◌⊎◌, inl, inr}
use Rattle.std.specs.Prelude.{◌==◌}
use Rattle.std.specs.Option.{unwrap_or}
use Rattle.std.specs.FinMap.Entries.{find, find-where_key, same_entries}
use Rattle.std.proofs.lemmas.Bool.{or_parts}
use Rattle.std.proofs.lemmas.List.{nil_from_length}
use Rattle.rma_layout.specs.Shape.{Shape}
use Rattle.rma_layout.specs.Ranges.{IsInRange}
use Rattle.rma_layout.specs.Placement.{Place, metadata}
use Rattle.object_words.specs.Contents.{Contents, content_of}
use Rattle.object_words.proofs.Places.{to_T}
use Rattle.graph_model.specs.Maps.{IsMap}
use Rattle.graph_model.specs.Graph.{Graph, Vertex, Edge, EdgeKey, edge_cmp, vertex_at, edges_from, is_heavy}
use Rattle.graph_model.specs.WellFormed.{EdgeFits, IsWellFormed}
use Rattle.graph_model.proofs.Entries.{All-find, IsMap-filter, edge_cmp_total, edge_cmp_same}
use Rattle.holder_codec.specs.declared.edge_form.EdgeForm.TheVariants.{Heavy}
use Rattle.holder_codec.specs.declared.edge_record.EdgeRecord.{EdgeRecord}
use Rattle.holder_codec.specs.Holders.{edge_words}
use Rattle.holder_codec.specs.Represents.{EdgeObjects, edge_object_of, light_form, record_at_source, heavy_edges, Represents}
use Rattle.holder_codec.proofs.Maps.{some_and, All-both, All-from_maps, same_from_maps, same_fronts, find-by_keys, none-by_keys, IsMap-by_keys, found_of_filter}
use Rattle.holder_codec.proofs.Telling.{AreSpelled, IsToldEdge, edge_told}
use Rattle.holder_codec.proofs.Fitting.{EdgeStands, IsFrom, edge_is_spelled, each_from, from_stand, from_outward, to_inward}
use Rattle.holder_codec.proofs.SameVertices.{same_names, same_vertices, same_records, vertex_in_other}

-- ---- one edge

-- two forms that are the same are both heavy, with one object, or both light
forms_say : (b c : Bool) (p q : Place) (ls ms : List ℕ) → cond b (Heavy p) (light_form ls) ≡ cond c (Heavy q) (light_form ms)
    → ((b ≡ true) × (c ≡ true) × (p ≡ q)) ⊎ ((b ≡ false) × (c ≡ false) × (light_form ls ≡ light_form ms))
forms_say true true p q ls ms same = inl (refl, refl, cc)
forms_say true false p q ls [] same = absurd cc
forms_say true false p q ls (m ∷ ms) same = absurd cc
forms_say false true p q [] ms same = absurd cc
forms_say false true p q (l ∷ ls) ms same = absurd cc
forms_say false false p q ls ms same = inr (refl, refl, same)

light_labels : (one other : List ℕ) → length one ≤ 1 → length other ≤ 1 → light_form one ≡ light_form other → one ≡ other
light_labels [] [] few few' same = refl
light_labels [] (m ∷ ms) few few' same = absurd cc
light_labels (l ∷ ls) [] few few' same = absurd cc
light_labels (l ∷ []) (m ∷ []) few few' same = cc
light_labels (l ∷ []) (m ∷ m' ∷ ms) few few' same = absurd (omega arith)
light_labels (l ∷ l' ∷ ls) (m ∷ ms) few few' same = absurd (omega arith)

-- a light edge has a label at most, and no property
light_is : (edge : Edge) → is_heavy edge ≡ false → (length edge.labels ≤ 1) × (edge.props ≡ [])
light_is edge light =
    let parts = or_parts (ltb 1 (length edge.labels)) (ltb 0 (length edge.props)) light in
    let none : length edge.props ≡ 0 = omega (arith, ltb-false 0 (length edge.props) parts.1) in
    (ltb-false 1 (length edge.labels) parts.0, nil_from_length edge.props none)

light_same : (one other : Edge) → is_heavy one ≡ false → is_heavy other ≡ false → one.target ≡ other.target → light_form one.labels ≡ light_form other.labels → IsToldEdge one other
light_same one other light light' target form =
    let a = light_is one light in
    let b = light_is other light' in
    let labels = light_labels one.labels other.labels a.0 b.0 form in
    record { target = target; labels = labels; props = a.1 ∙ sym b.1 }

-- an edge is found among those from its source
find-edges_from : (g : Graph) (key : EdgeKey) → find edge_cmp key g.edges ≡ find edge_cmp key (edges_from g key.source)
find-edges_from g key =
    let passes : EdgeKey → Bool = λ k. k.source == key.source in
    let kept = find-where_key edge_cmp passes key (λ other tied. ap passes (sym (edge_cmp_same key other tied))) g.edges in
    sym (kept ∙ ap (λ b. cond b (find edge_cmp key g.edges) None) (eq-eqb key.source key.source refl))

edge_fits : (g : Graph) (key : EdgeKey) (edge : Edge) → IsWellFormed g → find edge_cmp key g.edges ≡ Some edge → EdgeFits g key edge
edge_fits g key edge well found = All-find edge_cmp edge_cmp_same (λ entry. EdgeFits g entry.0 entry.1) key edge g.edges well.each_edge found

-- where there is no source, there is no edge
no_edge : (g : Graph) (key : EdgeKey) (o : Option Edge) → IsWellFormed g → vertex_at g key.source ≡ None → find edge_cmp key g.edges ≡ o → o ≡ None
no_edge g key None well none found = refl
no_edge g key (Some edge) well none found =
    let source = some_and _ (vertex_at g key.source) (edge_fits g key edge well found).source in
    absurd (cc (none, source.1))

-- ---- all edges

module _ (shape : Shape) (store : Contents) (g h : Graph) (r : Represents shape store g) (s : Represents shape store h) (ranges : IsInRange shape) where
  abbrev record_of_one : EdgeKey × Edge → EdgeRecord
  record_of_one entry = record_at_source r.vertices r.edges entry.0 entry.1

  abbrev record_of_other : EdgeKey × Edge → EdgeRecord
  record_of_other entry = record_at_source s.vertices s.edges entry.0 entry.1

  same_from_records : (id : ℕ) (one other : Vertex) → vertex_at g id ≡ Some one → vertex_at h id ≡ Some other → map record_of_one (edges_from g id) ≡ map record_of_other (edges_from h id)
  same_from_records id one other at_one at_other =
      same_fronts (λ edge. edge.inward) (map record_of_one (edges_from g id)) _ (map record_of_other (edges_from h id)) _
      (from_outward shape store g r ranges id) (to_inward shape store g r ranges id) (from_outward shape store h s ranges id) (to_inward shape store h s ranges id)
      (same_records shape store g h r s ranges id one other at_one at_other)

  abbrev StandsAt : (k : Graph) → EdgeObjects → ℕ → EdgeKey × Edge → Type 0
  StandsAt k edges id entry = EdgeStands shape store k edges entry × IsFrom id entry

  same_edge : (id : ℕ) (a b : EdgeKey × Edge) → StandsAt g r.edges id a → StandsAt h s.edges id b → record_of_one a ≡ record_of_other b → a ≡ b
  same_edge id a b stands stands' same =
      let source : a.0.source ≡ b.0.source = stands.1 ∙ sym stands'.1 in
      let target : a.1.target ≡ b.1.target = ap (λ (edge : EdgeRecord). edge.other) same in
      let undirected : a.1.undirected ≡ b.1.undirected = ap (λ (edge : EdgeRecord). edge.undirected) same in
      let types = (same_names shape store g h r s ranges).1 in
      let spelled = subst (λ ts. AreSpelled ts b.1) (sym types) (edge_is_spelled shape store h s ranges b stands'.0) in
      let told : IsToldEdge a.1 b.1 = elim (forms_say (is_heavy a.1) (is_heavy b.1) (edge_object_of r.edges a.0) (edge_object_of s.edges b.0) a.1.labels b.1.labels (ap (λ (edge : EdgeRecord). edge.form) same)) [
        | inl heavy ↦ edge_told g.types a.0 b.0 a.1 b.1 (edge_is_spelled shape store g r ranges a stands.0) spelled
            (sym (stands.0.held heavy.0).words ∙ ap (content_of store) heavy.2 ∙ (stands'.0.held heavy.1).words ∙ ap (λ ts. edge_words ts b.0 b.1) (sym types))
        | inr light ↦ light_same a.1 b.1 light.0 light.1 target light.2
      ] in
      λ i. (
        record { source = source i; ordinal = (same i).ordinal },
        record { target = told.target i; undirected = undirected i; labels = told.labels i; props = told.props i },
      )

  same_edges_from : (id : ℕ) (one other : Vertex) → vertex_at g id ≡ Some one → vertex_at h id ≡ Some other → edges_from g id ≡ edges_from h id
  same_edges_from id one other at_one at_other =
      let stand = All-both _ _ (StandsAt g r.edges id) (λ _ stands from. (stands, from)) (edges_from g id) (from_stand shape store g r ranges id) (each_from shape store g r ranges id) in
      let stand' = All-both _ _ (StandsAt h s.edges id) (λ _ stands from. (stands, from)) (edges_from h id) (from_stand shape store h s ranges id) (each_from shape store h s ranges id) in
      same_from_maps (StandsAt g r.edges id) (StandsAt h s.edges id) record_of_one record_of_other (same_edge id) (edges_from g id) (edges_from h id) stand stand' (same_from_records id one other at_one at_other)

  same_edge_at : (key : EdgeKey) (o : Option Vertex) → vertex_at g key.source ≡ o → find edge_cmp key g.edges ≡ find edge_cmp key h.edges
  same_edge_at key None none =
      let none' : vertex_at h key.source ≡ None = ap (λ vertices. vertex_at (record h { vertices = vertices }) key.source) (sym (same_vertices shape store g h r s ranges)) ∙ none in
      no_edge g key (find edge_cmp key g.edges) r.well_formed none refl ∙ sym (no_edge h key (find edge_cmp key h.edges) s.well_formed none' refl)
  same_edge_at key (Some one) at_one =
      let other = vertex_in_other shape store g h r s ranges key.source one at_one in
      find-edges_from g key ∙ ap (find edge_cmp key) (same_edges_from key.source one other.0 at_one other.1) ∙ sym (find-edges_from h key)

  same_edges : g.edges ≡ h.edges
  same_edges =
      same_entries edge_cmp edge_cmp_total edge_cmp_same g.edges h.edges (to_T _ r.well_formed.edges) (to_T _ s.well_formed.edges) (λ key. same_edge_at key (vertex_at g key.source) refl)

  pub same_graph : g ≡ h
  same_graph =
      let names = same_names shape store g h r s ranges in
      let vertices = same_vertices shape store g h r s ranges in
      λ i. record { labels = names.0 i; types = names.1 i; vertices = vertices i; edges = same_edges i }

-- ---- the objects of heavy edges

module _ (shape : Shape) (store : Contents) (g : Graph) (r s : Represents shape store g) (ranges : IsInRange shape) where
  same_keys : map (λ entry. entry.0) r.edges ≡ map (λ entry. entry.0) s.edges
  same_keys = r.represented.edge_keys ∙ sym s.represented.edge_keys

  heavy_rises : IsMap edge_cmp (heavy_edges g.edges)
  heavy_rises = IsMap-filter edge_cmp (λ entry. is_heavy entry.1) g.edges r.well_formed.edges

  -- the one record of a heavy edge at its source names its object
  same_object_at : (key : EdgeKey) (edge : Edge) → find edge_cmp key (heavy_edges g.edges) ≡ Some edge → edge_object_of r.edges key ≡ edge_object_of s.edges key
  same_object_at key edge found =
      let there = found_of_filter edge_cmp edge_cmp_total edge_cmp_same (λ entry. is_heavy entry.1) g.edges key edge r.well_formed.edges found in
      let source = some_and _ (vertex_at g key.source) (edge_fits g key edge r.well_formed there.0).source in
      let same = All-from_maps (record_of_one shape store g g r s ranges) (record_of_other shape store g g r s ranges) (edges_from g key.source) (same_from_records shape store g g r s ranges key.source source.0 source.0 source.1 source.1) in
      let here = All-find edge_cmp edge_cmp_same (λ entry. record_of_one shape store g g r s ranges entry ≡ record_of_other shape store g g r s ranges entry) key edge (edges_from g key.source) same (sym (find-edges_from g key) ∙ there.0) in
      elim (forms_say (is_heavy edge) (is_heavy edge) (edge_object_of r.edges key) (edge_object_of s.edges key) edge.labels edge.labels (ap (λ (at : EdgeRecord). at.form) here)) [
        | inl heavy ↦ heavy.2
        | inr light ↦ absurd (cc (there.1, light.0))
      ]

  same_found : (key : EdgeKey) (o : Option Place) → find edge_cmp key r.edges ≡ o → find edge_cmp key r.edges ≡ find edge_cmp key s.edges
  same_found key None none = none ∙ sym (none-by_keys edge_cmp r.edges s.edges key same_keys none)
  same_found key (Some place) at_one =
      let other = find-by_keys edge_cmp r.edges s.edges key place same_keys at_one in
      let edge = find-by_keys edge_cmp r.edges (heavy_edges g.edges) key place r.represented.edge_keys at_one in
      let one_is : edge_object_of r.edges key ≡ place = ap (λ o. unwrap_or o metadata) at_one in
      let other_is : edge_object_of s.edges key ≡ other.0 = ap (λ o. unwrap_or o metadata) other.1 in
      at_one ∙ ap (λ (p : Place). Some p) (sym one_is ∙ same_object_at key edge.0 edge.1 ∙ other_is) ∙ sym other.1

  pub same_edge_objects : r.edges ≡ s.edges
  same_edge_objects =
      let one = IsMap-by_keys edge_cmp r.edges (heavy_edges g.edges) r.represented.edge_keys heavy_rises in
      let other = IsMap-by_keys edge_cmp s.edges (heavy_edges g.edges) s.represented.edge_keys heavy_rises in
      same_entries edge_cmp edge_cmp_total edge_cmp_same r.edges s.edges (to_T _ one) (to_T _ other) (λ key. same_found key (find edge_cmp key r.edges) refl)
