-- A store of a graph in which the names alone are others is a store of the graph with these names.
use Rattle.std.proofs.Common.{◌≡◌, ◌≢◌, ◌∙◌, ℕ, zero, suc, ◌+◌, ◌<◌, ◌≤◌, Bool, ◌&&◌, true, false, cond, eqb, List, [], ◌∷◌, ◌++◌, map, length, refl, sym, ap, subst, arith}
use Rattle.std.specs.Prelude.{IsSomeAnd}
use Rattle.std.proofs.lemmas.List.{append-nil, length-append}
use Rattle.std.specs.Option.{option_map_or}
use Rattle.std.specs.Ordering.{eq_by_cmp}
use Rattle.std.proofs.lemmas.Bool.{eqb-true, false≢true}
use Rattle.std.specs.List.{AllByRecursion, filter, flat_map, range_with_len}
use Rattle.std.proofs.lemmas.Grind.{flat_map-append}
use Rattle.std.proofs.lemmas.List.FromFn.{map-range_with_len_more}
use Rattle.rma_layout.specs.Shape.{Shape}
use Rattle.rma_layout.specs.Placement.{IsReserved, Place, metadata, same_place, slot_of}
use Rattle.object_words.specs.Contents.{Contents, content_of, place_cmp}
use Rattle.object_words.proofs.Places.{place_ties_itself, places_equal}
use Rattle.graph_model.specs.Maps.{Map, has, item_at}
use Rattle.graph_model.specs.Graph.{Edge, EdgeKey, Graph, Name, PropType, Props, Vertex}
use Rattle.graph_model.specs.Sizes.{most_words}
use Rattle.graph_model.specs.WellFormed.{AreValues, IsWellFormed, VertexFits}
use Rattle.graph_model.proofs.Entries.{All-map}
use Rattle.holder_codec.specs.Holders.{held_props, held_values, is_marked_in, pair_words, edge_words}
use Rattle.holder_codec.specs.Parts.{IsSameAt}
use Rattle.holder_codec.specs.Represents.{EdgeIsHeld, EdgeObjects, HasIndex, HasNames, IsBucket, IsRepresented, IsSlot, IsUnreserved, VertexIsHeld, VertexObjects, edge_object_of, heavy_edges, holder_of, object_of, pairs_of_label}
use Rattle.holder_codec.specs.Values.{prop_words}
use Rattle.holder_codec.specs.Vertex.{label_words, vertex_words}

-- ---- metadata is no other object

pub unreserved_apart : (shape : Shape) (rank : ℕ) (place : Place) → IsUnreserved shape rank place → place ≢ metadata
unreserved_apart shape rank place free here = free.unreserved (subst (λ (p : Place). IsReserved shape p.block) (sym here) (omega arith))

bucket_apart : (shape : Shape) (place : Place) → IsBucket shape place → place ≢ metadata
bucket_apart shape place is here = let zero : place.block ≡ 0 = ap (λ (p : Place). p.block) here in omega (arith, zero, is.block)

slot_apart : (shape : Shape) (place : Place) → IsSlot shape place → place ≢ metadata
slot_apart shape place is here = let zero : place.block ≡ 0 = ap (λ (p : Place). p.block) here in omega (arith, zero, is.block)

both : {X : Type 0} (P Q R : X → Type 0) → ((x : X) → P x → Q x → R x) → (xs : List X) → AllByRecursion P xs → AllByRecursion Q xs → AllByRecursion R xs
both P Q R f [] ps qs = tt
both P Q R f (x ∷ xs) ps qs = (f x ps.0 qs.0, both P Q R f xs ps.1 qs.1)

-- the values of the properties are written as before
abbrev pub SameProps : List PropType → List PropType → Props → Type 0
SameProps types old props = held_props types props ≡ held_props old props

module _ (shape : Shape) (one other : Contents) (g : Graph) (vertices : VertexObjects) (edges : EdgeObjects) (is : IsRepresented shape one g vertices edges)
    (same : (place : Place) → place ≢ metadata → IsSameAt one other place) (labels : List Name) (types : List PropType) where
  pub names_changed : HasNames other labels types → length (content_of other metadata) ≤ most_words → HasIndex shape one (length labels) g.vertices
      → AllByRecursion (λ entry. SameProps types g.types entry.1.props) g.vertices → AllByRecursion (λ entry. SameProps types g.types entry.1.props) (heavy_edges g.edges)
      → IsRepresented shape other (record g { labels = labels; types = types }) vertices edges
  names_changed names few index props_of_vertices props_of_edges = record {
    vertex_keys = is.vertex_keys;
    edge_keys = is.edge_keys;
    names = names;
    buckets = λ place bucket. sym (same place (bucket_apart shape place bucket)) ∙ is.buckets place bucket;
    held_vertices = both (λ entry. VertexIsHeld shape one g vertices edges entry.0 entry.1) (λ entry. SameProps types g.types entry.1.props)
        (λ entry. VertexIsHeld shape other (record g { labels = labels; types = types }) vertices edges entry.0 entry.1)
        (λ entry held props. record {
          place = held.place;
          words = sym (same (object_of vertices entry.0) (unreserved_apart shape _ _ held.place)) ∙ held.words
              ∙ ap (λ ps. vertex_words (record (holder_of g vertices edges entry.0 entry.1) { props = ps })) (sym props);
        }) g.vertices is.held_vertices props_of_vertices;
    held_edges = both (λ entry. EdgeIsHeld shape one g.types edges entry.0 entry.1) (λ entry. SameProps types g.types entry.1.props) (λ entry. EdgeIsHeld shape other types edges entry.0 entry.1)
        (λ entry held props. record {
          place = held.place;
          words = sym (same (edge_object_of edges entry.0) (unreserved_apart shape _ _ held.place)) ∙ held.words ∙ words_same entry.0 entry.1 props;
        }) (heavy_edges g.edges) is.held_edges props_of_edges;
    index = λ place slot. sym (same place (slot_apart shape place slot)) ∙ index place slot;
    apart = is.apart;
    rest = λ place not_metadata not_bucket not_slot not_held. sym (same place not_metadata) ∙ is.rest place not_metadata not_bucket not_slot not_held;
    within = λ place. within place (eq_by_cmp place_cmp place metadata) refl;
  }
    where
      words_same : (key : EdgeKey) (edge : Edge) → SameProps types g.types edge.props → edge_words g.types key edge ≡ edge_words types key edge
      words_same key edge props = ap (λ ps. key.source ∷ key.ordinal ∷ edge.target ∷ length edge.labels ∷ length ps ∷ (flat_map label_words edge.labels ++ flat_map prop_words ps)) (sym props)

      untied : eq_by_cmp place_cmp metadata metadata ≡ false → ⊥
      untied never = absurd (false≢true (sym never ∙ place_ties_itself metadata))

      within : (place : Place) (tie : Bool) → eq_by_cmp place_cmp place metadata ≡ tie → length (content_of other place) ≤ most_words
      within place true tie = subst (λ p. length (content_of other p) ≤ most_words) (sym (places_equal place metadata tie)) few
      within place false tie = subst (λ (ws : List ℕ). length ws ≤ most_words) (same place (λ here. untied (subst (λ p. eq_by_cmp place_cmp p metadata ≡ false) here tie))) (is.within place)

-- ---- a label more

has_not : (n : ℕ) (labels : List ℕ) → AllByRecursion (λ m. m < n) labels → has labels n ≡ false
has_not n [] all = refl
has_not n (m ∷ ms) all = apart (eqb m n) refl (has_not n ms all.1)
  where
    apart : (b : Bool) → eqb m n ≡ b → has ms n ≡ false → has (m ∷ ms) n ≡ false
    apart true same rest = let is = eqb-true m n same in absurd (omega (arith, is, all.0))
    apart false other rest = rw other rest

no_pairs : (shape : Shape) (place : Place) (n : ℕ) (vertices : Map ℕ Vertex) → AllByRecursion (λ entry. AllByRecursion (λ m. m < n) entry.1.labels) vertices
    → pairs_of_label shape vertices place n ≡ []
no_pairs shape place n [] all = refl
no_pairs shape place n (entry ∷ more) all =
    ap (λ b. flat_map (λ one. pair_words n one.0) (cond (b && same_place (slot_of shape n entry.0) place) (entry ∷ filter (λ one. has one.1.labels n && same_place (slot_of shape n one.0) place) more)
    (filter (λ one. has one.1.labels n && same_place (slot_of shape n one.0) place) more))) (has_not n entry.1.labels all.0)
    ∙ no_pairs shape place n more all.1

map_itself : (ns : List ℕ) → map (λ n. n) ns ≡ ns
map_itself [] = refl
map_itself (n ∷ ns) = ap (λ (ms : List ℕ). n ∷ ms) (map_itself ns)

one_more : (n : ℕ) → range_with_len 0 (n + 1) ≡ range_with_len 0 n ++ n ∷ []
one_more n =
    sym (map_itself (range_with_len 0 (n + 1))) ∙ (map-range_with_len_more (λ k. k) 0 n n (omega arith) ∙ ap (λ (ns : List ℕ). ns ++ n ∷ []) (map_itself (range_with_len 0 n)))

pub index_with_label : (shape : Shape) (store : Contents) (g : Graph) (name : Name) → IsWellFormed g → HasIndex shape store (length g.labels) g.vertices
    → HasIndex shape store (length (g.labels ++ name ∷ [])) g.vertices
index_with_label shape store g name well index place slot =
    let n = length g.labels in
    let longer : length (g.labels ++ name ∷ []) ≡ n + 1 = length-append g.labels (name ∷ []) in
    let last : flat_map (pairs_of_label shape g.vertices place) (n ∷ []) ≡ [] =
    ap (λ ws. ws ++ []) (no_pairs shape place n g.vertices (All-map (λ entry. VertexFits g entry.0 entry.1) (λ entry. AllByRecursion (λ m. m < n) entry.1.labels) (λ entry fits. fits.labels.1) g.vertices well.each_vertex)) in
    index place slot
    ∙ sym (ap (λ k. flat_map (pairs_of_label shape g.vertices place) (range_with_len 0 k)) longer
    ∙ (ap (flat_map (pairs_of_label shape g.vertices place)) (one_more n)
    ∙ (flat_map-append (pairs_of_label shape g.vertices place) (range_with_len 0 n) (n ∷ [])
    ∙ (ap (λ ws. flat_map (pairs_of_label shape g.vertices place) (range_with_len 0 n) ++ ws) last ∙ append-nil _))))

-- ---- a type more

item_stays : {X : Type 0} (P : X → Type 0) (xs ys : List X) (n : ℕ) → IsSomeAnd (item_at xs n) P → item_at (xs ++ ys) n ≡ item_at xs n
item_stays P [] ys n some = absurd some
item_stays P (x ∷ xs) ys zero some = refl
item_stays P (x ∷ xs) ys (suc n) some = item_stays P xs ys n some

pub props_stay : (g : Graph) (type : PropType) (props : Props) → AllByRecursion (λ entry. IsSomeAnd (item_at g.types entry.0) (λ one. AreValues one entry.1)) props
    → SameProps (g.types ++ type ∷ []) g.types props
props_stay g type [] all = refl
props_stay g type (entry ∷ more) all =
    let item = item_stays (λ one. AreValues one entry.1) g.types (type ∷ []) entry.0 all.0 in
    ap (λ o. held_values entry.0 (option_map_or (λ one. one.many) o false) entry.1 ++ held_props (g.types ++ type ∷ []) more) item
    ∙ ap (λ ps. held_values entry.0 (is_marked_in g.types entry.0) entry.1 ++ ps) (props_stay g type more all.1)
