-- What each call does to the objects of a graph: which come, and how long they are.
use Rattle.std.proofs.Common.{◌≡◌, ℕ, zero, suc, ◌+◌, ◌≤◌, Bool, true, false, cond, not, ◌&&◌, ◌||◌, List, [], ◌∷◌, ◌++◌, length, if◌then◌else◌, Option, Some, None, Ok, Err, is_some, inl, inr, ◌⊎◌, refl, sym, ap, subst, arith}
use Rattle.std.specs.Prelude.{◌==◌, nat_lt}
use Rattle.std.specs.List.{count_by, filter}
use Rattle.std.specs.Option.{option_map_or}
use Rattle.std.specs.Ordering.{nat_cmp}
use Rattle.std.specs.declared.cmp.Ordering.TheVariants.{Less, Equal, Greater}
use Rattle.std.specs.FinMap.Entries.{by_order}
use Rattle.std.proofs.lemmas.Bool.{or_parts, or_cases, or_left, or_right, cases_Bool, ltb-true, ltb-false, lt-ltb, not_from_false}
use Rattle.std.proofs.lemmas.List.Sums.{sum_by-cons}
use Rattle.gdi_kinds.specs.Constraint.{kind_of, same_kind}
use Rattle.gdi_kinds.specs.Calls.{is_writing_call}
use Rattle.gdi_kinds.specs.declared.call.Call.{Call}
use Rattle.gdi_kinds.specs.declared.call.Call.TheVariants as call
use Rattle.gdi_kinds.specs.declared.reply.Reply.TheVariants as reply
use Rattle.rma_layout.specs.Shape.{Shape}
use Rattle.rma_layout.specs.Placement.{Place, same_place, home_of, bucket_of, slot_of}
use Rattle.graph_model.specs.Maps.{has, is_there, with_at, without, add, take_out}
use Rattle.graph_model.specs.Graph.{Name, PropType, Props, Graph, Vertex, Edge, EdgeKey, new_vertex, vertex_at, is_vertex, edge_at, is_heavy}
use Rattle.graph_model.specs.Lookups.{label_number, type_number, kind_at, is_marked, values_at}
use Rattle.graph_model.specs.Sizes.{most_words, is_too_large, words_of_values, words_of_props, words_of_vertex, words_of_edge, words_of_bucket, words_of_slot, words_of_names}
use Rattle.graph_model.specs.Steps.{◌>>=◌, Step, found_or}
use Rattle.graph_model.specs.VertexCalls.{with_vertex}
use Rattle.graph_model.specs.EdgeCalls.{ordinals_end, with_edge, label_if_named, make_edge, is_vertex_too_large, is_edge_too_large}
use Rattle.graph_model.specs.WellFormed.{IsWellFormed}
use Rattle.graph_model.specs.Calls.{steps_of, graph_after_call}
use Rattle.graph_model.specs.Capacity.{Object, object_to_make}
use Rattle.graph_model.specs.Capacity.Object.{Reserved, OfVertex, OfHeavyEdge}
use Rattle.graph_model.specs.Limits.{HasShortObjects, CallKeepsObjectsShort}
use Rattle.graph_model.proofs.Entries.{never}
use Rattle.graph_model.proofs.Sets.{length-filter-le}
use Rattle.graph_model.proofs.MapSums.{sum_by-filter-le}
use Rattle.graph_model.proofs.Steps.{AllAnswers, at_end, after_step, after_found, after_test, after_edge, of_answer}
use Rattle.graph_model.proofs.Leaving.{looking_call}
use Rattle.graph_model.proofs.GraphChanges.{StaysShort, no_longer, tested, Arises, names_short, changed_arises, changed_slots, changed_short, same_slots, new_arises, new_short, fewer_vertices_arise, fewer_vertices_short, fewer_edges_arise, fewer_edges_short, edge_arises, edge_short, light_short, new_edge_arises, new_edge_short, place_of_test}

-- what a call may make, on some rank
abbrev pub Makes : Shape → Call → Object → Type 0
Makes shape c object = (rank : ℕ) × (object_to_make shape c ≡ Some (rank, object))

pub record Changes (shape : Shape) (g : Graph) (c : Call) (h : Graph) : Type 0 where
  pub arises : IsWellFormed g → Arises g h (Makes shape c)
  pub short : IsWellFormed g → HasShortObjects shape g → HasShortObjects shape h

nothing_changes : (shape : Shape) (g : Graph) (c : Call) → Changes shape g c g
nothing_changes shape g c = record { arises = λ _ object is. inl is; short = λ _ short. short }

arises_then : (g h k : Graph) (Made : Object → Type 0) → Arises g h Made → Arises h k Made → Arises g k Made
arises_then g h k Made one other object is = elim (other object is) [ inl before ↦ one object before | inr made ↦ inr made ]

-- ---- lengths

count_add : (p : ℕ → Bool) (n : ℕ) (ls : List ℕ) → count_by p (add n ls) ≤ count_by p ls + cond (p n) 1 0
count_add p n [] = omega arith
count_add p n (l ∷ ls) =
    let one : ℕ → ℕ = λ k. cond (p k) 1 0 in
    elim (nat_cmp n l) as (λ order. count_by p (by_order order (n ∷ l ∷ ls) (l ∷ ls) (l ∷ add n ls)) ≤ count_by p (l ∷ ls) + one n) [
      | Less ↦ omega (arith, sum_by-cons one n (l ∷ ls))
      | Equal ↦ omega arith
      | Greater ↦ omega (arith, sum_by-cons one l (add n ls), sum_by-cons one l ls, count_add p n ls)
    ]

words_without : (ps : Props) (n : ℕ) → words_of_props (without ps n) ≤ words_of_props ps
words_without ps n = sum_by-filter-le (λ entry. words_of_values entry.1) (λ entry. not (entry.0 == n)) ps

vertex_tested : (f : Vertex → ℕ) (o : Option Vertex) → option_map_or (λ v. is_too_large (f v)) o false ≡ false → option_map_or f o 0 ≤ most_words
vertex_tested f None passed = omega arith
vertex_tested f (Some v) passed = ltb-false most_words (f v) passed

edge_tested : (old : ℕ) (e : Edge) → is_edge_too_large e ≡ false → StaysShort old (words_of_edge e)
edge_tested old e passed short =
    elim (is_heavy e) as (λ b. is_heavy e ≡ b → (b && is_too_large (words_of_edge e)) ≡ false → words_of_edge e ≤ most_words) [
      | true ↦ λ _ fits. ltb-false most_words (words_of_edge e) fits
      | false ↦ λ light _. omega (arith, light_short e light)
    ] refl passed

more_than : (n a b : ℕ) → a ≤ b → nat_lt n a ≡ true → nat_lt n b ≡ true
more_than n a b le more = lt-ltb n b (omega (arith, ltb-true n a more))

-- fewer labels or properties make no edge heavy
heavy_before : (d e : Edge) → length e.labels ≤ length d.labels → length e.props ≤ length d.props → is_heavy e ≡ true → is_heavy d ≡ true
heavy_before d e labels props heavy =
    elim (or_cases (nat_lt 1 (length e.labels)) (nat_lt 0 (length e.props)) heavy) [
      | inl many ↦ or_left _ _ (more_than 1 (length e.labels) (length d.labels) labels many)
      | inr some ↦ or_right _ _ (more_than 0 (length e.props) (length d.props) props some)
    ]

-- an edge that is made has a label at most
abbrev IsLightStep : Bool → ℕ → Step (List ℕ) → Type 0
IsLightStep undirected target (Ok labels) = is_heavy (record { target = target; undirected = undirected; labels = labels; props = [] }) ≡ false
IsLightStep undirected target (Err refusal) = Unit {0}

named_light : (undirected : Bool) (g : Graph) (target : ℕ) (name : Option Name) → IsLightStep undirected target (label_if_named g name)
named_light undirected g target None = refl
named_light undirected g target (Some name) =
    elim (label_number g name) as (λ found. IsLightStep undirected target (found_or reply.NoLabel found >>= λ n. Ok (n ∷ []))) [ None ↦ tt | Some n ↦ refl ]

names_arise : (g : Graph) (labels : List Name) (types : List PropType) (Made : Object → Type 0) → Arises g (record g { labels = labels; types = types }) Made
names_arise g labels types Made (Reserved block) is = inl refl
names_arise g labels types Made (OfVertex id) is = inl is
names_arise g labels types Made (OfHeavyEdge source ordinal) is = inl is

-- ---- the calls that make an edge

module _ (undirected : Bool) (shape : Shape) (g : Graph) (source target : ℕ) (label : Option Name) (c : Call) where
  changes_edge : AllAnswers (λ answer. Changes shape g c answer.graph) (make_edge undirected g source target label)
  changes_edge =
      after_step (label_if_named g label) _ (λ labels known.
      after_found (reply.NoVertex source) (vertex_at g source) _ (λ vertex there.
      after_test (not (is_vertex g target)) (reply.NoVertex target) _ (λ _.
      let w : Vertex = record vertex { next = vertex.next + 1 } in
      let raised = with_vertex g source w in
      let e : Edge = record { target = target; undirected = undirected; labels = labels; props = [] } in
      let h = with_edge raised source vertex.next e in
      let light : is_heavy e ≡ false = subst (IsLightStep undirected target) known (named_light undirected g target label) in
      after_test (vertex.next == ordinals_end || is_vertex_too_large h source || is_vertex_too_large h target) reply.TooLarge _ (λ room.
      let parts = or_parts (vertex.next == ordinals_end || is_vertex_too_large h source) (is_vertex_too_large h target) room in
      let at_source = vertex_tested (words_of_vertex h source) (vertex_at raised source) (or_parts (vertex.next == ordinals_end) (is_vertex_too_large h source) parts.0).1 in
      let at_target = vertex_tested (words_of_vertex h target) (vertex_at raised target) parts.1 in
      at_end (record {
        arises = λ well. arises_then g raised h (Makes shape c) (changed_arises shape g source vertex w well there (Makes shape c))
            (new_edge_arises shape raised source vertex.next e light (Makes shape c));
        short = λ well short. new_edge_short shape raised source vertex.next e light at_source at_target
            (changed_short shape g source vertex w well there (λ few. few) (same_slots shape g source vertex w well there refl) short);
      })))))

-- ---- the calls that change a vertex or an edge

module _ (shape : Shape) (g : Graph) (c : Call) (id : ℕ) (u v : Vertex) (there : vertex_at g id ≡ Some u) where
  changes_vertex : (IsWellFormed g → (place : Place) → StaysShort (words_of_slot shape g place) (words_of_slot shape (with_vertex g id v) place))
      → StaysShort (words_of_vertex g id u) (words_of_vertex g id v) → Changes shape g c (with_vertex g id v)
  changes_vertex slots words = record {
    arises = λ well. changed_arises shape g id u v well there (Makes shape c);
    short = λ well short. changed_short shape g id u v well there words (slots well) short;
  }

module _ (shape : Shape) (g : Graph) (c : Call) (source ordinal : ℕ) (d e : Edge) (there : edge_at g source ordinal ≡ Some d) (target : d.target ≡ e.target) where
  changes_edge_to : (is_heavy e ≡ true → (is_heavy d ≡ true) ⊎ Makes shape c (OfHeavyEdge source ordinal))
      → StaysShort (words_of_edge d) (words_of_edge e) → Changes shape g c (with_edge g source ordinal e)
  changes_edge_to heavy words = record {
    arises = λ well. edge_arises shape g source ordinal d e well there target (Makes shape c) heavy;
    short = λ well short. edge_short shape g source ordinal d e well there target words short;
  }

-- a label more, and one less
slots_tagged : (shape : Shape) (g : Graph) (id n : ℕ) (u : Vertex) → vertex_at g id ≡ Some u
    → is_too_large (words_of_slot shape (with_vertex g id (record u { labels = add n u.labels })) (slot_of shape n id)) ≡ false
    → IsWellFormed g → (place : Place) → StaysShort (words_of_slot shape g place) (words_of_slot shape (with_vertex g id (record u { labels = add n u.labels })) place)
slots_tagged shape g id n u there passed well place =
    let v : Vertex = record u { labels = add n u.labels } in
    let pairs : ℕ → Bool = λ label. same_place (slot_of shape label id) place in
    elim (pairs n) as (λ b. pairs n ≡ b → StaysShort (words_of_slot shape g place) (words_of_slot shape (with_vertex g id v) place)) [
      | true ↦ λ here. subst (λ p. StaysShort (words_of_slot shape g p) (words_of_slot shape (with_vertex g id v) p)) (place_of_test _ _ here) (tested _ _ passed)
      | false ↦ λ other.
          let none : cond (pairs n) 1 0 ≡ zero = ap (λ b. if b then suc zero else zero) other in
          no_longer _ _ (omega (arith, changed_slots shape g id u v well there place, count_add pairs n u.labels, none))
    ] refl

slots_untagged : (shape : Shape) (g : Graph) (id n : ℕ) (u : Vertex) → vertex_at g id ≡ Some u
    → IsWellFormed g → (place : Place) → StaysShort (words_of_slot shape g place) (words_of_slot shape (with_vertex g id (record u { labels = take_out n u.labels })) place)
slots_untagged shape g id n u there well place =
    let v : Vertex = record u { labels = take_out n u.labels } in
    let fewer = sum_by-filter-le (λ label. cond (same_place (slot_of shape label id) place) 1 0) (λ m. not (m == n)) u.labels in
    no_longer _ _ (omega (arith, changed_slots shape g id u v well there place, fewer))

writing : (shape : Shape) (g : Graph) (c : Call) → is_writing_call c ≡ true → AllAnswers (λ answer. Changes shape g c answer.graph) (steps_of shape g c)
writing shape g (call.NewLabel name) w =
    after_test (is_some (label_number g name)) reply.Exists _ (λ _.
    after_test (is_too_large (words_of_names (record g { labels = g.labels ++ name ∷ [] }))) reply.TooLarge _ (λ passed.
    at_end (record { arises = λ _. names_arise g (g.labels ++ name ∷ []) g.types _; short = λ _. names_short shape g (g.labels ++ name ∷ []) g.types passed })))
writing shape g (call.NewType name kind many) w =
    let types : List PropType = g.types ++ (record { name = name; kind = kind; many = many }) ∷ [] in
    after_test (is_some (type_number g name)) reply.Exists _ (λ _.
    after_test (is_too_large (words_of_names (record g { types = types }))) reply.TooLarge _ (λ passed.
    at_end (record { arises = λ _. names_arise g g.labels types _; short = λ _. names_short shape g g.labels types passed })))
writing shape g (call.Vertex id) w =
    after_test (is_vertex g id) reply.Exists _ (λ absent.
    after_test (is_too_large (words_of_bucket shape (with_vertex g id new_vertex) (bucket_of shape id))) reply.TooLarge _ (λ passed.
    at_end (record {
      arises = λ well object is. elim (new_arises shape g id well absent object is) [
        | inl before ↦ inl before
        | inr made ↦ inr (home_of shape id, ap (λ o. Some (home_of shape id, o)) (sym made))
      ];
      short = λ well. new_short shape g id well absent passed;
    })))
writing shape g (call.DropVertex id) w =
    after_test (not (is_vertex g id)) (reply.NoVertex id) _ (λ _.
    let keep : EdgeKey × Edge → Bool = λ entry. not (entry.0.source == id || entry.1.target == id) in
    let fewer : Graph = record g { edges = filter keep g.edges } in
    at_end (record {
      arises = λ well. arises_then g fewer (record fewer { vertices = without g.vertices id }) (Makes shape (call.DropVertex id))
          (fewer_edges_arise shape g keep well (Makes shape (call.DropVertex id))) (fewer_vertices_arise shape fewer id (Makes shape (call.DropVertex id)));
      short = λ well short. fewer_vertices_short shape fewer id (fewer_edges_short shape g keep well short);
    }))
writing shape g (call.Tag id label) w =
    after_found reply.NoLabel (label_number g label) _ (λ n known.
    after_found (reply.NoVertex id) (vertex_at g id) _ (λ u there.
    after_test (has u.labels n) reply.HasLabel _ (λ _.
    let v : Vertex = record u { labels = add n u.labels } in
    let h = with_vertex g id v in
    after_test (is_too_large (words_of_vertex h id v) || is_too_large (words_of_slot shape h (slot_of shape n id))) reply.TooLarge _ (λ room.
    let parts = or_parts (is_too_large (words_of_vertex h id v)) (is_too_large (words_of_slot shape h (slot_of shape n id))) room in
    at_end (changes_vertex shape g (call.Tag id label) id u v there (slots_tagged shape g id n u there parts.1) (tested _ _ parts.0))))))
writing shape g (call.Untag id label) w =
    after_found reply.NoLabel (label_number g label) _ (λ n known.
    after_found (reply.NoVertex id) (vertex_at g id) _ (λ u there.
    after_test (not (has u.labels n)) reply.LacksLabel _ (λ _.
    at_end (changes_vertex shape g (call.Untag id label) id u (record u { labels = take_out n u.labels }) there (slots_untagged shape g id n u there)
    (no_longer _ _ (omega (arith, length-filter-le (λ m. not (m == n)) u.labels)))))))
writing shape g (call.Set id prop value) w =
    after_found reply.NoType (type_number g prop) _ (λ n known.
    after_found (reply.NoVertex id) (vertex_at g id) _ (λ u there.
    after_test (not (same_kind (kind_of value) (kind_at g n))) reply.WrongKind _ (λ _.
    let v : Vertex = record u { props = with_at u.props n (value ∷ []) } in
    after_test (is_too_large (words_of_vertex (with_vertex g id v) id v)) reply.TooLarge _ (λ passed.
    at_end (changes_vertex shape g (call.Set id prop value) id u v there (λ well. same_slots shape g id u v well there refl) (tested _ _ passed))))))
writing shape g (call.Add id prop value) w =
    after_found reply.NoType (type_number g prop) _ (λ n known.
    after_found (reply.NoVertex id) (vertex_at g id) _ (λ u there.
    after_test (not (same_kind (kind_of value) (kind_at g n))) reply.WrongKind _ (λ _.
    after_test (not (is_marked g n)) reply.NotMany _ (λ _.
    let v : Vertex = record u { props = with_at u.props n (values_at u.props n ++ value ∷ []) } in
    after_test (is_too_large (words_of_vertex (with_vertex g id v) id v)) reply.TooLarge _ (λ passed.
    at_end (changes_vertex shape g (call.Add id prop value) id u v there (λ well. same_slots shape g id u v well there refl) (tested _ _ passed)))))))
writing shape g (call.Unset id prop) w =
    after_found reply.NoType (type_number g prop) _ (λ n known.
    after_found (reply.NoVertex id) (vertex_at g id) _ (λ u there.
    after_test (not (is_there u.props n)) reply.NoProp _ (λ _.
    let v : Vertex = record u { props = without u.props n } in
    at_end (changes_vertex shape g (call.Unset id prop) id u v there (λ well. same_slots shape g id u v well there refl) (no_longer _ _ (omega (arith, words_without u.props n)))))))
writing shape g (call.Edge source target label) w = changes_edge false shape g source target label (call.Edge source target label)
writing shape g (call.UEdge source target label) w = changes_edge true shape g source target label (call.UEdge source target label)
writing shape g (call.Cut source ordinal) w =
    after_edge g source ordinal _ (λ _ _.
    let keep : EdgeKey × Edge → Bool = λ entry. not (entry.0.source == source && entry.0.ordinal == ordinal) in
    at_end (record { arises = λ well. fewer_edges_arise shape g keep well _; short = λ well. fewer_edges_short shape g keep well }))
writing shape g (call.ETag source ordinal label) w =
    after_found reply.NoLabel (label_number g label) _ (λ n known.
    after_edge g source ordinal _ (λ d there.
    after_test (has d.labels n) reply.HasLabel _ (λ _.
    let e : Edge = record d { labels = add n d.labels } in
    after_test (is_edge_too_large e) reply.TooLarge _ (λ passed.
    at_end (changes_edge_to shape g (call.ETag source ordinal label) source ordinal d e there refl (λ _. inr (home_of shape source, refl)) (edge_tested _ e passed))))))
writing shape g (call.EUntag source ordinal label) w =
    after_found reply.NoLabel (label_number g label) _ (λ n known.
    after_edge g source ordinal _ (λ d there.
    after_test (not (has d.labels n)) reply.LacksLabel _ (λ _.
    let e : Edge = record d { labels = take_out n d.labels } in
    let fewer = length-filter-le (λ m. not (m == n)) d.labels in
    at_end (changes_edge_to shape g (call.EUntag source ordinal label) source ordinal d e there refl (λ heavy. inl (heavy_before d e fewer (omega arith) heavy)) (no_longer _ _ (omega (arith, fewer)))))))
writing shape g (call.ESet source ordinal prop value) w =
    after_found reply.NoType (type_number g prop) _ (λ n known.
    after_edge g source ordinal _ (λ d there.
    after_test (not (same_kind (kind_of value) (kind_at g n))) reply.WrongKind _ (λ _.
    let e : Edge = record d { props = with_at d.props n (value ∷ []) } in
    after_test (is_edge_too_large e) reply.TooLarge _ (λ passed.
    at_end (changes_edge_to shape g (call.ESet source ordinal prop value) source ordinal d e there refl (λ _. inr (home_of shape source, refl)) (edge_tested _ e passed))))))
writing shape g (call.EAdd source ordinal prop value) w =
    after_found reply.NoType (type_number g prop) _ (λ n known.
    after_edge g source ordinal _ (λ d there.
    after_test (not (same_kind (kind_of value) (kind_at g n))) reply.WrongKind _ (λ _.
    after_test (not (is_marked g n)) reply.NotMany _ (λ _.
    let e : Edge = record d { props = with_at d.props n (values_at d.props n ++ value ∷ []) } in
    after_test (is_edge_too_large e) reply.TooLarge _ (λ passed.
    at_end (changes_edge_to shape g (call.EAdd source ordinal prop value) source ordinal d e there refl (λ _. inr (home_of shape source, refl)) (edge_tested _ e passed)))))))
writing shape g (call.EUnset source ordinal prop) w =
    after_found reply.NoType (type_number g prop) _ (λ n known.
    after_edge g source ordinal _ (λ d there.
    after_test (not (is_there d.props n)) reply.NoProp _ (λ _.
    let e : Edge = record d { props = without d.props n } in
    let fewer = length-filter-le (λ entry. not (entry.0 == n)) d.props in
    at_end (changes_edge_to shape g (call.EUnset source ordinal prop) source ordinal d e there refl (λ heavy. inl (heavy_before d e (omega arith) fewer heavy)) (no_longer _ _ (omega (arith, words_without d.props n)))))))
writing shape g other w = never w

pub call_changes : (shape : Shape) (g : Graph) (c : Call) → Changes shape g c (graph_after_call shape g c)
call_changes shape g c =
    elim (cases_Bool (is_writing_call c)) [
      | inl writes ↦ of_answer {P = λ answer. Changes shape g c answer.graph} g (steps_of shape g c) (λ _. nothing_changes shape g c) (writing shape g c writes)
      | inr looks ↦ subst (Changes shape g c) (sym (looking_call shape g c (not_from_false _ looks))) (nothing_changes shape g c)
    ]

pub call_short : CallKeepsObjectsShort
call_short shape g c well short = (call_changes shape g c).short well short
