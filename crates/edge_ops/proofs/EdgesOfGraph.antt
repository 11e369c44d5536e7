-- What a graph's store holds of an edge.
use Rattle.std.proofs.Common.{◌≡◌, ◌≢◌, ◌∙◌, ℕ, ◌≤◌, Bool, true, false, cond, List, [], ◌∷◌, ◌++◌, map, length, Option, Some, None, IsSome, refl, sym, ap, subst, lt-ltb, eq-eqb, arith}
use Rattle.std.specs.Prelude.{◌==◌, nat_lt}
use Rattle.std.specs.Option.{option_map, unwrap_or, MatchOption, IsSomeAnd}
use Rattle.std.specs.List.{AllByRecursion, filter}
use Rattle.std.specs.Cmp.{nat_cmp_total, tied_itself}
use Rattle.std.specs.FinMap.{find, nat_cmp-IsAntisymmetric}
use Rattle.std.specs.FinMap.Entries.{find-where_key}
use Rattle.std.specs.Int.{from_bool}
use Rattle.std.specs.Ordering.{eq_by_cmp, is_eq, nat_cmp, ordering_then}
use Rattle.std.specs.declared.cmp.Ordering.{Ordering}
use Rattle.std.specs.declared.cmp.Ordering.TheVariants.{Less, Equal, Greater}
use Rattle.std.proofs.lemmas.Bool.{and_from}
use Rattle.std.proofs.lemmas.Nat.{mod_below}
use Rattle.rma_layout.specs.Shape.{Shape}
use Rattle.rma_layout.specs.Ranges.{IsInRange}
use Rattle.rma_layout.specs.Placement.{IsBlock, Place, home_of, metadata}
use Rattle.object_words.specs.Contents.{Contents}
use Rattle.graph_model.specs.Graph.{Edge, EdgeKey, Graph, PropType, Props, Vertex, edge_at, edge_cmp, edges_from, edges_to, is_heavy, new_vertex, vertex_at}
use Rattle.graph_model.specs.Maps.{IsSet, Map, item_at}
use Rattle.graph_model.specs.WellFormed.{AreValues}
use Rattle.graph_model.proofs.Entries.{All-find, All-map, edge_cmp_same, same_value, nothing}
use Rattle.holder_codec.specs.declared.edge_record.EdgeRecord.{EdgeRecord}
use Rattle.holder_codec.specs.EdgeObject.{IsEdgeHolder}
use Rattle.holder_codec.specs.Order.{is_rising}
use Rattle.holder_codec.specs.Represents as represents
use Rattle.holder_codec.specs.Represents.{AreApart, EdgeObjects, Represents, VertexObjects, edge_object_of, IsUnreserved, heavy_edges, object_of, places_in, records_of}
use Rattle.holder_codec.proofs.Fitting.{EdgeStands, IsFrom, each_from, each_stands, edge_is_spelled, from_outward, holder_fits, object_is, to_inward}
use Rattle.holder_codec.proofs.Grouped.{props_rise}
use Rattle.holder_codec.proofs.Leading.{vertex_fits, vertex_held}
use Rattle.holder_codec.proofs.Maps.{All-always, find-by_keys, some_and, some_of}
use Rattle.vertex_ops.specs.Vertices.{HoldsVertex}
use Rattle.edge_ops.specs.HeldEdges.{HeldEdge, HoldsEdge, HoldsOut, HoldsOwn, IsOrderlyEdge, edge_holder_for, in_key, out_key, record_at_source}
use Rattle.edge_ops.specs.OfGraph.{edge_of_graph, out_of_graph, vertex_of_graph}
use Rattle.edge_ops.specs.Records.{Key, key_of, key_cmp, record_for}

-- ---- records by their keys

-- records of other keys in front don't matter
found_behind : (k : Key) (one other : List EdgeRecord) → AllByRecursion (λ e. eq_by_cmp key_cmp k (key_of e) ≡ false) one → record_for (one ++ other) k ≡ record_for other k
found_behind k [] other all = refl
found_behind k (e ∷ es) other all = ap (λ b. cond b (Some e) (record_for (es ++ other) k)) all.0 ∙ found_behind k es other all.1

-- nor do those behind
found_before : (k : Key) (one other : List EdgeRecord) → AllByRecursion (λ e. eq_by_cmp key_cmp k (key_of e) ≡ false) other → record_for (one ++ other) k ≡ record_for one k
found_before k [] [] all = refl
found_before k [] (e ∷ es) all = ap (λ b. cond b (Some e) (record_for es k)) all.0 ∙ found_before k [] es all.1
found_before k (e ∷ es) other all = ap (λ o. cond (eq_by_cmp key_cmp k (key_of e)) (Some e) o) (found_before k es other all)

-- a record is found where its edge is
module _ (record_of : EdgeKey × Edge → EdgeRecord) (k : Key) (key : EdgeKey) where
  found_alike : (es : Map EdgeKey Edge) → AllByRecursion (λ entry. eq_by_cmp key_cmp k (key_of (record_of entry)) ≡ eq_by_cmp edge_cmp key entry.0) es
      → record_for (map record_of es) k ≡ option_map (λ edge. record_of (key, edge)) (find edge_cmp key es)
  found_alike [] all = refl
  found_alike (e ∷ es) all =
      ap (λ b. cond b (Some (record_of e)) (record_for (map record_of es) k)) all.0 ∙ cases (eq_by_cmp edge_cmp key e.0) refl (found_alike es all.1)
    where
      equal_is : (o : Ordering) → is_eq o ≡ true → o ≡ Equal
      equal_is Less is = absurd (cc is)
      equal_is Equal is = refl
      equal_is Greater is = absurd (cc is)

      cases : (tie : Bool) → eq_by_cmp edge_cmp key e.0 ≡ tie → record_for (map record_of es) k ≡ option_map (λ edge. record_of (key, edge)) (find edge_cmp key es)
          → cond tie (Some (record_of e)) (record_for (map record_of es) k) ≡ option_map (λ edge. record_of (key, edge)) (cond tie (Some e.1) (find edge_cmp key es))
      cases true tie rest = ap (λ other. Some (record_of (other, e.1))) (sym (edge_cmp_same key e.0 (equal_is (edge_cmp key e.0) tie)))
      cases false tie rest = rest

-- what is found passes a test is found among those that pass
found_passing : (p : EdgeKey × Edge → Bool) (key : EdgeKey) (edge : Edge) (es : Map EdgeKey Edge) → find edge_cmp key es ≡ Some edge → p (key, edge) ≡ true → find edge_cmp key (filter p es) ≡ Some edge
found_passing p key edge [] found passes = nothing edge found
found_passing p key edge (e ∷ es) found passes = cases (eq_by_cmp edge_cmp key e.0) refl found (λ later. found_passing p key edge es later passes)
  where
    equal_is : (o : Ordering) → is_eq o ≡ true → o ≡ Equal
    equal_is Less is = absurd (cc is)
    equal_is Equal is = refl
    equal_is Greater is = absurd (cc is)

    cases : (tie : Bool) → eq_by_cmp edge_cmp key e.0 ≡ tie → cond tie (Some e.1) (find edge_cmp key es) ≡ Some edge → (find edge_cmp key es ≡ Some edge → find edge_cmp key (filter p es) ≡ Some edge)
        → find edge_cmp key (cond (p e) (e ∷ filter p es) (filter p es)) ≡ Some edge
    cases true tie here _ =
        let same : (key, edge) ≡ e = λ i. (edge_cmp_same key e.0 (equal_is (edge_cmp key e.0) tie) i, sym (same_value e.1 edge here) i) in
        ap (λ b. find edge_cmp key (cond b (e ∷ filter p es) (filter p es))) (ap p (sym same) ∙ passes) ∙ (ap (λ b. cond b (Some e.1) (find edge_cmp key (filter p es))) tie ∙ here)
    cases false tie later rest =
        elim (p e) as (λ b. find edge_cmp key (cond b (e ∷ filter p es) (filter p es)) ≡ Some edge) [
          | true ↦ ap (λ b. cond b (Some e.1) (find edge_cmp key (filter p es))) tie ∙ rest later
          | false ↦ rest later
        ]

-- the keys of records at a source and at a target
out_apart : (e : EdgeRecord) (ordinal : ℕ) → e.inward ≡ true → eq_by_cmp key_cmp (out_key ordinal) (key_of e) ≡ false
out_apart e ordinal is = ap (λ b. eq_by_cmp key_cmp (out_key ordinal) (from_bool b, ((cond b e.other 0), e.ordinal))) is

in_apart : (e : EdgeRecord) (id ordinal : ℕ) → e.inward ≡ false → eq_by_cmp key_cmp (in_key id ordinal) (key_of e) ≡ false
in_apart e id ordinal is = ap (λ b. eq_by_cmp key_cmp (in_key id ordinal) (from_bool b, ((cond b e.other 0), e.ordinal))) is

out_alike : (id ordinal : ℕ) (other : EdgeKey) → other.source ≡ id → eq_by_cmp key_cmp (out_key ordinal) (0, (0, other.ordinal)) ≡ eq_by_cmp edge_cmp (record { source = id; ordinal = ordinal }) other
out_alike id ordinal other is = ap (λ o. is_eq (ordering_then o (nat_cmp ordinal other.ordinal))) (sym (tied_itself nat_cmp_total id) ∙ ap (nat_cmp id) (sym is))

in_alike : (id ordinal : ℕ) (other : EdgeKey) → eq_by_cmp key_cmp (in_key id ordinal) (1, (other.source, other.ordinal)) ≡ eq_by_cmp edge_cmp (record { source = id; ordinal = ordinal }) other
in_alike id ordinal other = refl

-- an edge is found among those from its source
found_from : (g : Graph) (id ordinal : ℕ) → edge_at g id ordinal ≡ find edge_cmp (record { source = id; ordinal = ordinal }) (edges_from g id)
found_from g id ordinal =
    let kept = find-where_key edge_cmp (λ (k : EdgeKey). k.source == id) (record { source = id; ordinal = ordinal }) (λ other tied. ap (λ (k : EdgeKey). k.source == id) (sym (edge_cmp_same (record { source = id; ordinal = ordinal }) other tied))) g.edges in
    sym (kept ∙ ap (λ b. cond b (edge_at g id ordinal) None) (eq-eqb id id refl))

-- objects that are apart from all of a list are apart from each
apart_parts : (xs ys : List Place) → AreApart (xs ++ ys) → AllByRecursion (λ x. AllByRecursion (λ y. y ≢ x) ys) xs
apart_parts [] ys apart = tt
apart_parts (x ∷ xs) ys apart = (behind xs ys apart.0, apart_parts xs ys apart.1)
  where
    behind : (xs ys : List Place) → AllByRecursion (λ y. y ≢ x) (xs ++ ys) → AllByRecursion (λ y. y ≢ x) ys
    behind [] ys all = all
    behind (z ∷ zs) ys all = behind zs ys all.1

All-places : {K : Type 0} (P : Place → Type 0) (es : Map K Place) → AllByRecursion P (places_in es) → AllByRecursion (λ entry. P entry.1) es
All-places P [] all = tt
All-places P (e ∷ es) all = (all.0, All-places P es all.1)

labels_rise : (labels : List ℕ) → IsSet labels → is_rising nat_lt labels ≡ true
labels_rise [] set = refl
labels_rise (a ∷ []) set = refl
labels_rise (a ∷ b ∷ labels) set = and_from (nat_lt a b) (is_rising nat_lt (b ∷ labels)) (lt-ltb a b set.0.0) (labels_rise (b ∷ labels) set.1)

each_some : (types : List PropType) (props : Props) → AllByRecursion (λ entry. IsSomeAnd (item_at types entry.0) (λ type. AreValues type entry.1)) props → AllByRecursion (λ entry. 1 ≤ length entry.1) props
each_some types props all = All-map _ (λ entry. 1 ≤ length entry.1) (λ entry is. (some_and (λ type. AreValues type entry.1) (item_at types entry.0) is).2.some) props all

module _ (shape : Shape) (store : Contents) (g : Graph) (r : Represents shape store g) (ranges : IsInRange shape) where
  abbrev pub from_record : EdgeKey × Edge → EdgeRecord
  from_record entry = represents.record_at_source r.vertices r.edges entry.0 entry.1

  abbrev pub to_record : EdgeKey × Edge → EdgeRecord
  to_record entry = represents.record_at_target r.vertices r.edges entry.0 entry.1

  -- ---- vertices

  pub holds_vertex : (id : ℕ) (vertex : Vertex) → vertex_at g id ≡ Some vertex → HoldsVertex (object_of r.vertices id) store (vertex_of_graph g r.vertices r.edges id)
  holds_vertex id vertex found =
      subst (λ (o : Option Vertex). HoldsVertex (object_of r.vertices id) store (record { types = g.types; id = id; vertex = unwrap_or o new_vertex; edges = records_of g r.vertices r.edges id })) (sym found)
      (let fits = vertex_fits shape store g r id vertex found in
      record {
        fits = record { labels = fits.labels.0; props = fits.props.0; some = each_some g.types vertex.props fits.props.1 };
        holder = holder_fits shape store g r ranges id vertex found;
        words = (vertex_held shape store g r id vertex found).words;
        within = r.represented.within (object_of r.vertices id);
      })

  -- ---- records

  record_here : (id ordinal : ℕ) → record_for (records_of g r.vertices r.edges id) (out_key ordinal) ≡ option_map (λ edge. from_record (record { source = id; ordinal = ordinal }, edge)) (edge_at g id ordinal)
  record_here id ordinal =
      let behind : AllByRecursion (λ (e : EdgeRecord). eq_by_cmp key_cmp (out_key ordinal) (key_of e) ≡ false) (map to_record (edges_to g id)) =
      All-map (λ (e : EdgeRecord). e.inward ≡ true) (λ e. eq_by_cmp key_cmp (out_key ordinal) (key_of e) ≡ false) (λ e is. out_apart e ordinal is) (map to_record (edges_to g id)) (to_inward shape store g r ranges id) in
      let alike = All-map (IsFrom id) (λ entry. eq_by_cmp key_cmp (out_key ordinal) (key_of (from_record entry)) ≡ eq_by_cmp edge_cmp (record { source = id; ordinal = ordinal }) entry.0) (λ entry is. out_alike id ordinal entry.0 is) (edges_from g id) (each_from shape store g r ranges id) in
      found_before (out_key ordinal) (map from_record (edges_from g id)) (map to_record (edges_to g id)) behind
      ∙ (found_alike from_record (out_key ordinal) (record { source = id; ordinal = ordinal }) (edges_from g id) alike
      ∙ ap (option_map (λ edge. from_record (record { source = id; ordinal = ordinal }, edge))) (sym (found_from g id ordinal)))

  record_there : (id ordinal : ℕ) (edge : Edge) → edge_at g id ordinal ≡ Some edge → record_for (records_of g r.vertices r.edges edge.target) (in_key id ordinal) ≡ Some (to_record (record { source = id; ordinal = ordinal }, edge))
  record_there id ordinal edge found =
      let before : AllByRecursion (λ (e : EdgeRecord). eq_by_cmp key_cmp (in_key id ordinal) (key_of e) ≡ false) (map from_record (edges_from g edge.target)) =
      All-map (λ (e : EdgeRecord). e.inward ≡ false) (λ e. eq_by_cmp key_cmp (in_key id ordinal) (key_of e) ≡ false) (λ e is. in_apart e id ordinal is) (map from_record (edges_from g edge.target)) (from_outward shape store g r ranges edge.target) in
      found_behind (in_key id ordinal) (map from_record (edges_from g edge.target)) (map to_record (edges_to g edge.target)) before
      ∙ (found_alike to_record (in_key id ordinal) (record { source = id; ordinal = ordinal }) (edges_to g edge.target) (All-always (λ entry. in_alike id ordinal entry.0) (edges_to g edge.target))
      ∙ ap (option_map (λ edge. to_record (record { source = id; ordinal = ordinal }, edge)))
      (found_passing (λ entry. entry.1.target == edge.target) (record { source = id; ordinal = ordinal }) edge g.edges found (eq-eqb edge.target edge.target refl)))

  -- ---- the edge's own object

  pub object_apart : (key : EdgeKey) (place : Place) → find edge_cmp key r.edges ≡ Some place → (id : ℕ) (vertex : Vertex) → vertex_at g id ≡ Some vertex → place ≢ object_of r.vertices id
  object_apart key place there id vertex found =
      let all = apart_parts (places_in r.vertices) (places_in r.edges) r.represented.apart in
      let from = All-find nat_cmp nat_cmp-IsAntisymmetric (λ entry. AllByRecursion (λ y. y ≢ entry.1) (places_in r.edges)) id (object_of r.vertices id) r.vertices
      (All-places (λ x. AllByRecursion (λ y. y ≢ x) (places_in r.edges)) r.vertices all) (object_is shape store g r ranges id vertex found) in
      All-find edge_cmp edge_cmp_same (λ entry. entry.1 ≢ object_of r.vertices id) key place r.edges (All-places (λ y. y ≢ object_of r.vertices id) r.edges from) there

  pub is_block : (id : ℕ) (place : Place) → IsUnreserved shape (home_of shape id) place → IsBlock shape place
  is_block id place free =
      let rank = mod_below id shape.ranks (omega (arith, ranges.ranks)) in
      (omega (arith, free.home, rank), free.block)

  module _ (id ordinal : ℕ) (vertex : Vertex) (here : vertex_at g id ≡ Some vertex) (edge : Edge) (found : edge_at g id ordinal ≡ Some edge) where
    abbrev held : HeldEdge
    held = edge_of_graph g r.vertices r.edges id ordinal edge

    stands : EdgeStands shape store g r.edges (record { source = id; ordinal = ordinal }, edge)
    stands = All-find edge_cmp edge_cmp_same (EdgeStands shape store g r.edges) (record { source = id; ordinal = ordinal }) edge g.edges (each_stands shape store g r ranges) found

    to : (v : Vertex) × (vertex_at g edge.target ≡ Some v)
    to = some_of (vertex_at g edge.target) stands.fits.target

    orderly : IsOrderlyEdge edge
    orderly = record { labels = stands.fits.labels.0; props = stands.fits.props.0; some = each_some g.types edge.props stands.fits.props.1 }

    pub own_there : is_heavy edge ≡ true → find edge_cmp (record { source = id; ordinal = ordinal }) r.edges ≡ Some held.own_at
    own_there heavy =
        let passing = found_passing (λ entry. is_heavy entry.1) (record { source = id; ordinal = ordinal }) edge g.edges found heavy in
        let there = find-by_keys edge_cmp (heavy_edges g.edges) r.edges (record { source = id; ordinal = ordinal }) edge (sym r.represented.edge_keys) passing in
        there.1 ∙ ap (λ o. Some (unwrap_or o metadata)) (sym there.1)

    own_holder : IsEdgeHolder (edge_holder_for g.types id ordinal edge)
    own_holder =
        let spelled = edge_is_spelled shape store g r ranges (record { source = id; ordinal = ordinal }, edge) stands in
        let source = some_and _ (vertex_at g id) stands.fits.source in
        let from = vertex_fits shape store g r id source.0 source.1 in
        let target = vertex_fits shape store g r edge.target to.0 to.1 in
        record {
          source = from.in_range;
          ordinal = omega (arith, from.next, source.2);
          target = target.in_range;
          labels = spelled.0;
          labels_rise = labels_rise edge.labels stands.fits.labels.0;
          props = spelled.1;
          props_rise = props_rise g edge.props stands.fits.props;
        }

    pub holds_own : is_heavy edge ≡ true → HoldsOwn shape (object_of r.vertices id) ordinal store (vertex_of_graph g r.vertices r.edges id) held
    holds_own heavy =
        let is = stands.held heavy in
        record {
          block = is_block id held.own_at is.place;
          not_source = object_apart (record { source = id; ordinal = ordinal }) held.own_at (own_there heavy) id vertex here;
          not_target = object_apart (record { source = id; ordinal = ordinal }) held.own_at (own_there heavy) edge.target to.0 to.1;
          own = record { fits = orderly; holder = own_holder; words = is.words; within = r.represented.within held.own_at };
        }

    holds_edge : HoldsEdge shape (object_of r.vertices id) ordinal store (vertex_of_graph g r.vertices r.edges id) held
    holds_edge = record {
      fits = orderly;
      block = is_block edge.target held.target_at (vertex_held shape store g r edge.target to.0 to.1).place;
      at_target = holds_vertex edge.target to.0 to.1;
      target = refl;
      record_there = record_there id ordinal edge found;
      heavy = holds_own;
    }

  -- a vertex and an edge from it, if there is one
  pub holds_out : (id ordinal : ℕ) → IsSome (vertex_at g id) → HoldsOut shape (object_of r.vertices id) ordinal store (out_of_graph g r.vertices r.edges id ordinal)
  holds_out id ordinal there =
      let vertex = some_of (vertex_at g id) there in
      record { at_source = holds_vertex id vertex.0 vertex.1; record_here = record_here id ordinal ∙ joined (edge_at g id ordinal); edge = cases vertex.0 vertex.1 (edge_at g id ordinal) refl }
    where
      cases : (vertex : Vertex) → vertex_at g id ≡ Some vertex → (o : Option Edge) → edge_at g id ordinal ≡ o
          → MatchOption (option_map (edge_of_graph g r.vertices r.edges id ordinal) o) (Unit {0}) (HoldsEdge shape (object_of r.vertices id) ordinal store (vertex_of_graph g r.vertices r.edges id))
      cases vertex is None none = tt
      cases vertex is (Some edge) some = holds_edge id ordinal vertex is edge some

      joined : (o : Option Edge) → option_map (λ edge. from_record (record { source = id; ordinal = ordinal }, edge)) o ≡ option_map (record_at_source ordinal) (option_map (edge_of_graph g r.vertices r.edges id ordinal) o)
      joined None = refl
      joined (Some edge) = refl
