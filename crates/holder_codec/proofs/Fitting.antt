-- What a store holds of a graph that it represents has a spelling.
use Rattle.std.proofs.Common.{◌≡◌, ℕ, ◌^◌, ◌<◌, true, false, ◌&&◌, ◌||◌, List, [], ◌∷◌, map, length, Some, refl, sym, ap, ◌∙◌, lt-ltb, arith}
use Rattle.std.specs.Prelude.{nat_lt, ◌==◌}
use Rattle.std.specs.List.{AllByRecursion}
use Rattle.std.specs.Option.{unwrap_or}
use Rattle.std.specs.Ordering.{nat_cmp, is_lt}
use Rattle.std.specs.FinMap.{nat_cmp-IsAntisymmetric}
use Rattle.std.specs.FinMap.Entries.{find}
use Rattle.std.proofs.lemmas.Bool.{and_from, cond_both, eqb-true}
use Rattle.std.proofs.lemmas.Bool.Decides.{nat_tests}
use Rattle.std.proofs.lemmas.Nat.{mod_below}
use Rattle.rma_layout.specs.Shape.{Shape}
use Rattle.rma_layout.specs.Ranges.{IsInRange}
use Rattle.rma_layout.specs.Placement.{FitsOneWord, metadata}
use Rattle.object_words.specs.Contents.{Contents}
use Rattle.graph_model.specs.Maps.{IsSet}
use Rattle.graph_model.specs.Graph.{Graph, Vertex, Edge, EdgeKey, edge_cmp, vertex_at, edges_from, edges_to, is_heavy}
use Rattle.graph_model.specs.WellFormed.{AreLabels, EdgeFits}
use Rattle.graph_model.proofs.Entries.{All-map, All-filter, All-find, IsMap-filter}
use Rattle.holder_codec.specs.declared.edge_form.EdgeForm.TheVariants.{Heavy}
use Rattle.holder_codec.specs.declared.edge_record.EdgeRecord.{EdgeRecord}
use Rattle.holder_codec.specs.Order.{is_rising}
use Rattle.holder_codec.specs.Edges.{FormFits, RecordFits, is_record_before}
use Rattle.holder_codec.specs.Vertex.{LabelFits, IsVertexHolder}
use Rattle.holder_codec.specs.Represents.{object_of, edge_object_of, light_form, form_of_edge, record_at_source, record_at_target, records_of, holder_of, EdgeObjects, EdgeIsHeld, Represents}
use Rattle.holder_codec.proofs.Maps.{All-over_map, All-append, All-both, All-unfilter, All-always, some_of, some_and, find-by_keys, rising-map, rising-append}
use Rattle.holder_codec.proofs.Leading.{IsEntry, vertex_fits, represents_leads}
use Rattle.holder_codec.proofs.Grouped.{props_fit, props_rise, are_grouped}
use Rattle.holder_codec.proofs.Telling.{AreSpelled, names_within}

-- ---- labels and properties

labels_fit : (g : Graph) (labels : List ℕ) → length g.labels < 2 ^ 32 → AreLabels g labels → AllByRecursion LabelFits labels
labels_fit g labels few are = All-map (λ n. n < length g.labels) LabelFits (λ n below. omega arith) labels are.1

labels_rise : (labels : List ℕ) → IsSet labels → is_rising nat_lt labels ≡ true
labels_rise [] set = refl
labels_rise (a ∷ []) set = refl
labels_rise (a ∷ b ∷ labels) set = and_from (nat_lt a b) (is_rising nat_lt (b ∷ labels)) (lt-ltb a b set.0.0) (labels_rise (b ∷ labels) set.1)

-- ---- records

light_fits : (labels : List ℕ) → AllByRecursion LabelFits labels → FormFits (light_form labels)
light_fits [] fits = tt
light_fits (label ∷ labels) fits = fits.0

later_from : (a b : EdgeKey) (id : ℕ) → a.source ≡ id → b.source ≡ id → is_lt (edge_cmp a b) ≡ true → nat_lt a.ordinal b.ordinal ≡ true
later_from a b id at_a at_b below = grind (arith, nat_tests)

later_to : (a b : EdgeKey) → is_lt (edge_cmp a b) ≡ true → (nat_lt a.source b.source || (a.source == b.source && nat_lt a.ordinal b.ordinal)) ≡ true
later_to a b below = grind (arith, nat_tests)

-- a record of an edge from here stands before a record of an edge to here
out_before_in : (one other : EdgeRecord) → one.inward ≡ false → other.inward ≡ true → is_record_before one other ≡ true
out_before_in one other out in_ = rw (out, in_) refl

-- what is known of an edge that a store holds
pub record EdgeStands (shape : Shape) (store : Contents) (g : Graph) (edges : EdgeObjects) (entry : EdgeKey × Edge) : Type 0 where
  pub fits : EdgeFits g entry.0 entry.1
  pub held : is_heavy entry.1 ≡ true → EdgeIsHeld shape store g.types edges entry.0 entry.1

abbrev pub IsFrom : ℕ → EdgeKey × Edge → Type 0
IsFrom id entry = entry.0.source ≡ id

module _ (shape : Shape) (store : Contents) (g : Graph) (r : Represents shape store g) (ranges : IsInRange shape) where
  pub few_names : (length g.labels < 2 ^ 32) × (length g.types < 2 ^ 32)
  few_names =
      let words = ap (λ (words : List ℕ). length words) r.represented.names in
      let names = names_within g.labels g.types in
      let most = r.represented.within metadata in
      (omega (arith, words, names.0, most), omega (arith, words, names.1, most))

  -- each vertex has an object
  pub object_is : (id : ℕ) (vertex : Vertex) → vertex_at g id ≡ Some vertex → find nat_cmp id r.vertices ≡ Some (object_of r.vertices id)
  object_is id vertex found =
      let there = find-by_keys nat_cmp g.vertices r.vertices id vertex (sym r.represented.vertex_keys) found in
      there.1 ∙ ap (λ o. Some (unwrap_or o metadata)) (sym there.1)

  object_fits : (id : ℕ) (vertex : Vertex) → vertex_at g id ≡ Some vertex → FitsOneWord (object_of r.vertices id)
  object_fits id vertex found =
      let leads = represents_leads shape store g r ranges in
      (All-find nat_cmp nat_cmp-IsAntisymmetric IsEntry id (object_of r.vertices id) r.vertices leads.each (object_is id vertex found)).1

  pub each_stands : AllByRecursion (EdgeStands shape store g r.edges) g.edges
  each_stands =
      All-both (λ entry. EdgeFits g entry.0 entry.1) (λ entry. is_heavy entry.1 ≡ true → EdgeIsHeld shape store g.types r.edges entry.0 entry.1) (EdgeStands shape store g r.edges)
      (λ entry fits held. record { fits = fits; held = held }) g.edges r.well_formed.each_edge
      (All-unfilter (λ entry. is_heavy entry.1) (λ entry. EdgeIsHeld shape store g.types r.edges entry.0 entry.1) g.edges r.represented.held_edges)

  pub edge_is_spelled : (entry : EdgeKey × Edge) → EdgeStands shape store g r.edges entry → AreSpelled g.types entry.1
  edge_is_spelled entry stands =
      (labels_fit g entry.1.labels few_names.0 stands.fits.labels, props_fit g entry.1.props few_names.1 stands.fits.props, are_grouped g entry.1.props stands.fits.props)

  form_fits : (entry : EdgeKey × Edge) → EdgeStands shape store g r.edges entry → FormFits (form_of_edge r.edges entry.0 entry.1)
  form_fits entry stands =
      cond_both (is_heavy entry.1) (Heavy (edge_object_of r.edges entry.0)) (light_form entry.1.labels) FormFits
      (λ heavy. let free = (stands.held heavy).place in
      let rank = mod_below entry.0.source shape.ranks (omega (arith, ranges.ranks)) in
      (omega (arith, free.home, rank, ranges.ranks), omega (arith, free.block, ranges.blocks)))
      (λ _. light_fits entry.1.labels (edge_is_spelled entry stands).0)

  ends : (entry : EdgeKey × Edge) → EdgeStands shape store g r.edges entry
      → (entry.0.source < 2 ^ 64) × (entry.0.ordinal < 2 ^ 64) × FitsOneWord (object_of r.vertices entry.0.source) × (entry.1.target < 2 ^ 64) × FitsOneWord (object_of r.vertices entry.1.target)
  ends entry stands =
      let source = some_and _ (vertex_at g entry.0.source) stands.fits.source in
      let target = some_of (vertex_at g entry.1.target) stands.fits.target in
      let from = vertex_fits shape store g r entry.0.source source.0 source.1 in
      let to = vertex_fits shape store g r entry.1.target target.0 target.1 in
      (from.in_range, omega (arith, from.next, source.2), object_fits entry.0.source source.0 source.1, to.in_range, object_fits entry.1.target target.0 target.1)

  abbrev from_record : EdgeKey × Edge → EdgeRecord
  from_record entry = record_at_source r.vertices r.edges entry.0 entry.1

  abbrev to_record : EdgeKey × Edge → EdgeRecord
  to_record entry = record_at_target r.vertices r.edges entry.0 entry.1

  from_fits : (entry : EdgeKey × Edge) → EdgeStands shape store g r.edges entry → RecordFits (from_record entry)
  from_fits entry stands = let at = ends entry stands in record { ordinal = at.1; other = at.3; other_at = at.4; form = form_fits entry stands }

  to_fits : (entry : EdgeKey × Edge) → EdgeStands shape store g r.edges entry → RecordFits (to_record entry)
  to_fits entry stands = let at = ends entry stands in record { ordinal = at.1; other = at.0; other_at = at.2; form = form_fits entry stands }

  pub each_from : (id : ℕ) → AllByRecursion (IsFrom id) (edges_from g id)
  each_from id = All-filter _ (IsFrom id) (λ entry. entry.0.source == id) (λ entry is _. eqb-true _ _ is) g.edges each_stands

  pub from_stand : (id : ℕ) → AllByRecursion (EdgeStands shape store g r.edges) (edges_from g id)
  from_stand id = All-filter _ _ (λ entry. entry.0.source == id) (λ _ _ stands. stands) g.edges each_stands

  records_fit : (id : ℕ) → AllByRecursion RecordFits (records_of g r.vertices r.edges id)
  records_fit id =
      let from = All-map _ (λ entry. RecordFits (from_record entry)) from_fits (edges_from g id) (from_stand id) in
      let to = All-filter _ (λ entry. RecordFits (to_record entry)) (λ entry. entry.1.target == id) (λ entry _ stands. to_fits entry stands) g.edges each_stands in
      All-append RecordFits (map from_record (edges_from g id)) (map to_record (edges_to g id))
      (All-over_map RecordFits from_record (edges_from g id) from) (All-over_map RecordFits to_record (edges_to g id) to)

  pub from_outward : (id : ℕ) → AllByRecursion (λ edge. edge.inward ≡ false) (map from_record (edges_from g id))
  from_outward id = All-over_map (λ edge. edge.inward ≡ false) from_record (edges_from g id) (All-always (λ _. refl) (edges_from g id))

  pub to_inward : (id : ℕ) → AllByRecursion (λ edge. edge.inward ≡ true) (map to_record (edges_to g id))
  to_inward id = All-over_map (λ edge. edge.inward ≡ true) to_record (edges_to g id) (All-always (λ _. refl) (edges_to g id))

  records_rise : (id : ℕ) → is_rising is_record_before (records_of g r.vertices r.edges id) ≡ true
  records_rise id =
      let sorted_from = IsMap-filter edge_cmp (λ entry. entry.0.source == id) g.edges r.well_formed.edges in
      let sorted_to = IsMap-filter edge_cmp (λ entry. entry.1.target == id) g.edges r.well_formed.edges in
      let from = rising-map edge_cmp (IsFrom id) is_record_before from_record (λ a b at_a at_b below. later_from a.0 b.0 id at_a at_b below) (edges_from g id) (each_from id) sorted_from in
      let to = rising-map edge_cmp (λ _. Unit {0}) is_record_before to_record (λ a b _ _ below. later_to a.0 b.0 below) (edges_to g id) (All-always (λ _. tt) (edges_to g id)) sorted_to in
      rising-append is_record_before (λ edge. edge.inward ≡ false) (λ edge. edge.inward ≡ true) out_before_in (map from_record (edges_from g id)) (map to_record (edges_to g id)) (from_outward id) (to_inward id) from to

  -- ---- vertices

  pub holder_fits : (id : ℕ) (vertex : Vertex) → vertex_at g id ≡ Some vertex → IsVertexHolder (holder_of g r.vertices r.edges id vertex)
  holder_fits id vertex found =
      let fits = vertex_fits shape store g r id vertex found in
      record {
        id = fits.in_range;
        next = fits.next;
        labels = labels_fit g vertex.labels few_names.0 fits.labels;
        labels_rise = labels_rise vertex.labels fits.labels.0;
        props = props_fit g vertex.props few_names.1 fits.props;
        props_rise = props_rise g vertex.props fits.props;
        edges = records_fit id;
        edges_rise = records_rise id;
      }
