-- What the calls of a drill make of a graph: its vertices, and the arcs between them.
use Rattle.std.proofs.Common.{◌≡◌, ℕ, ◌+◌, ◌*◌, ◌<◌, ◌≤◌, ◌^◌, Bool, true, false, cond, not, ◌&&◌, ◌||◌, List, [], ◌∷◌, ◌++◌, length, Some, None, refl, sym, ap, subst, ◌∙◌, arith, eqb, is_some, length-append, true≢false}
use Rattle.std.specs.Prelude.{◌==◌, pos}
use Rattle.std.specs.List.{AllByRecursion, flat_map, list_any}
use Rattle.std.specs.Option.{option_map_or}
use Rattle.std.specs.Ordering.{is_eq, nat_cmp}
use Rattle.std.specs.declared.cmp.Ordering.TheVariants.{Less, Equal, Greater}
use Rattle.std.specs.FinMap.{nat_cmp-IsAntisymmetric}
use Rattle.std.specs.FinMap.Entries.{by_order, find, put, is_some-find}
use Rattle.std.proofs.Math.Bool.{or_comm}
use Rattle.std.proofs.lemmas.Bool.{ne_eqb, le-ltb}
use Rattle.std.proofs.lemmas.Bool.Decides.{nat_tests}
use Rattle.std.proofs.lemmas.List.Folds.{list_any-append}
use Rattle.std.proofs.lemmas.List.Sums.{count_by-le-length, sum_by-cons}
use Rattle.gdi_kinds.specs.declared.call.Call.{Call}
use Rattle.gdi_kinds.specs.declared.call.Call.TheVariants as call
use Rattle.gdi_kinds.specs.declared.reply.Reply.{Reply}
use Rattle.gdi_kinds.specs.declared.reply.Reply.TheVariants as reply
use Rattle.gdi_kinds.specs.declared.value.Kind.{Kind}
use Rattle.gdi_kinds.specs.declared.value.Value.{Value}
use Rattle.gdi_kinds.specs.declared.value.Value.TheVariants as value
use Rattle.gdi_kinds.specs.Constraint.{kind_of, same_kind}
use Rattle.rma_layout.specs.Shape.{Shape}
use Rattle.rma_layout.specs.Placement.{bucket_of, slot_of, same_place}
use Rattle.graph_model.specs.Maps.{Map, IsSet, at, with_at, has, keys, add}
use Rattle.graph_model.specs.Graph.{Name, Graph, Vertex, Edge, EdgeKey, edge_cmp, new_vertex, vertex_at, is_vertex}
use Rattle.graph_model.specs.Lookups.{label_number, type_number, kind_at}
use Rattle.graph_model.specs.Sizes.{is_too_large, most_words, words_of_bucket, words_of_names, words_of_props, words_of_slot, words_of_value, words_of_values, words_of_vertex}
use Rattle.graph_model.specs.Steps.{◌>>=◌, Answer, Step, answer_of, found_or, leaves, refused_if}
use Rattle.graph_model.specs.VertexCalls.{with_vertex}
use Rattle.graph_model.specs.EdgeCalls.{is_vertex_too_large, ordinals_end}
use Rattle.graph_model.specs.Calls.{graph_after_call, reply_to, steps_of}
use Rattle.graph_model.specs.Walks.{graph_steps, steps_over}
use Rattle.graph_model.specs.WellFormed.{EdgeFits, IsWellFormed}
use Rattle.graph_model.specs.Laws.{FitsCall}
use Rattle.graph_model.proofs.Entries.{All-find, All-map, All-put, nothing}
use Rattle.graph_model.proofs.Leaving.{well_formed_call}
use Rattle.graph_model.proofs.Levels.{length-keys}
use Rattle.graph_model.proofs.MapSums.{sum_by-put-le}
use Rattle.graph_model.proofs.Sets.{is_eq-nat_cmp, length-add-le, length-filter-le}
use Rattle.graph_model.proofs.Steps.{AllAnswers, after_found, after_test, at_end, of_answer}
use Rattle.graph_walks.specs.Steps.{leads}
use Rattle.map_graph.specs.Plain.{IsBetween, with_new_edge}
use Rattle.map_graph.proofs.Ends.{next_is_free}
use Rattle.map_graph.proofs.Steps.{or-false}
use Rattle.map_graph.proofs.Walking.{ids-rise}

-- a vertex that so many calls have made and changed
abbrev pub IsSmall : ℕ → ℕ × Vertex → Type 0
IsSmall calls entry = (entry.1.next ≤ calls) × (length entry.1.labels + words_of_props entry.1.props ≤ 3 * calls)

-- a graph of these vertices and arcs, that so many calls have made
pub record Drilled (g : Graph) (ids : List ℕ) (arcs : List (ℕ × ℕ)) (calls : ℕ) : Type 0 where
  pub well : IsWellFormed g
  pub ids_are : keys g.vertices ≡ ids
  pub few_ids : length ids ≤ calls
  pub steps : (i t : ℕ) → leads (graph_steps g) i t ≡ leads arcs i t
  pub edges : length g.edges ≡ length arcs
  pub few_arcs : length arcs ≤ calls
  pub small : AllByRecursion (IsSmall calls) g.vertices

-- more calls than a drill makes; so far no object is too large
abbrev pub most_calls : ℕ
most_calls = 70000

smaller : (c d : ℕ) → c ≤ d → (entry : ℕ × Vertex) → IsSmall c entry → IsSmall d entry
smaller c d le entry is = (omega (arith, is.0), omega (arith, is.1))

all_smaller : (c d : ℕ) → c ≤ d → (vs : Map ℕ Vertex) → AllByRecursion (IsSmall c) vs → AllByRecursion (IsSmall d) vs
all_smaller c d le vs all = All-map (IsSmall c) (IsSmall d) (smaller c d le) vs all

pub later : (g : Graph) (ids : List ℕ) (arcs : List (ℕ × ℕ)) (c d : ℕ) → c ≤ d → Drilled g ids arcs c → Drilled g ids arcs d
later g ids arcs c d le is = record {
  well = is.well;
  ids_are = is.ids_are;
  few_ids = omega (arith, is.few_ids);
  steps = is.steps;
  edges = is.edges;
  few_arcs = omega (arith, is.few_arcs);
  small = all_smaller c d le g.vertices is.small;
}

-- ---- keys

absent : (id low : ℕ) (vs : Map ℕ Vertex) → id ≤ low → AllByRecursion (λ m. low < m) (keys vs) → at vs id ≡ None
absent id low [] le above = refl
absent id low (e ∷ es) le above =
    let other : eqb e.0 id ≡ false = ne_eqb e.0 id (λ same. omega (arith, above.0)) in
    ap (λ b. cond b (Some e.1) (at es id)) (is_eq-nat_cmp id e.0 ∙ other) ∙ absent id low es le above.1

keys-there : (id : ℕ) (v u : Vertex) (vs : Map ℕ Vertex) → IsSet (keys vs) → at vs id ≡ Some u → keys (with_at vs id v) ≡ keys vs
keys-there id v u [] set there = nothing u there
keys-there id v u (e ∷ es) set there =
    elim (nat_cmp id e.0) as (λ r. nat_cmp id e.0 ≡ r → keys (by_order r ((id, v) ∷ e ∷ es) ((e.0, v) ∷ es) (e ∷ put nat_cmp id v es)) ≡ e.0 ∷ keys es) [
      | Less ↦ λ less.
          let below : id < e.0 = grind (arith, nat_tests) in
          let other : eqb e.0 id ≡ false = ne_eqb e.0 id (λ same. omega (arith, below)) in
          nothing u (sym (ap (λ b. cond b (Some e.1) (at es id)) (is_eq-nat_cmp id e.0 ∙ other) ∙ absent id e.0 es (omega (arith, below)) set.0) ∙ there)
      | Equal ↦ λ _. refl
      | Greater ↦ λ greater.
          let above : e.0 < id = grind (arith, nat_tests) in
          let other : eqb e.0 id ≡ false = ne_eqb e.0 id (λ same. omega (arith, above)) in
          ap (λ ks. e.0 ∷ ks) (keys-there id v u es set.1 (sym (ap (λ b. cond b (Some e.1) (at es id)) (is_eq-nat_cmp id e.0 ∙ other)) ∙ there))
    ] refl

keys-last : (id : ℕ) (v : Vertex) (vs : Map ℕ Vertex) → AllByRecursion (λ m. m < id) (keys vs) → keys (with_at vs id v) ≡ keys vs ++ id ∷ []
keys-last id v [] below = refl
keys-last id v (e ∷ es) below =
    let lower = below.0 in
    let greater : nat_cmp id e.0 ≡ Greater = grind (arith, nat_tests) in
    ap (λ r. keys (by_order r ((id, v) ∷ e ∷ es) ((e.0, v) ∷ es) (e ∷ put nat_cmp id v es))) greater ∙ ap (λ ks. e.0 ∷ ks) (keys-last id v es below.1)

-- a vertex is there where it is among them
pub is-there : (g : Graph) (ids : List ℕ) (j : ℕ) → keys g.vertices ≡ ids → is_vertex g j ≡ has ids j
is-there g ids j are =
    is_some-find nat_cmp j g.vertices ∙ ap (λ test. list_any test (keys g.vertices)) (λ i k. is_eq-nat_cmp j k i) ∙ ap (λ ks. has ks j) are

-- ---- what keeps vertices and edges

record Keeps (g : Graph) (calls : ℕ) (answer : Answer) : Type 0 where
  ids : keys answer.graph.vertices ≡ keys g.vertices
  edges : answer.graph.edges ≡ g.edges
  small : AllByRecursion (IsSmall (calls + 1)) answer.graph.vertices

keeps : (g h : Graph) (ids : List ℕ) (arcs : List (ℕ × ℕ)) (c : ℕ) (r : Reply) → Drilled g ids arcs c → IsWellFormed h → Keeps g c (record { graph = h; reply = r }) → Drilled h ids arcs (c + 1)
keeps g h ids arcs c r is well kept = record {
  well = well;
  ids_are = kept.ids ∙ is.ids_are;
  few_ids = omega (arith, is.few_ids);
  steps = λ i t. ap (λ es. leads (flat_map steps_over es) i t) kept.edges ∙ is.steps i t;
  edges = ap length kept.edges ∙ is.edges;
  few_arcs = omega (arith, is.few_arcs);
  small = kept.small;
}

module _ (shape : Shape) (g : Graph) (ids : List ℕ) (arcs : List (ℕ × ℕ)) (c : ℕ) (is : Drilled g ids arcs c) where
  same : (h : Graph) (r : Reply) → h.vertices ≡ g.vertices → h.edges ≡ g.edges → Keeps g c (record { graph = h; reply = r })
  same h r vertices edges = record {
    ids = ap keys vertices;
    edges = edges;
    small = subst (λ vs. AllByRecursion (IsSmall (c + 1)) vs) (sym vertices) (all_smaller c (c + 1) (omega arith) g.vertices is.small);
  }

  rewritten : (id : ℕ) (v w : Vertex) (r : Reply) → vertex_at g id ≡ Some v → IsSmall (c + 1) (id, w) → Keeps g c (record { graph = with_vertex g id w; reply = r })
  rewritten id v w r there here = record {
    ids = keys-there id w v g.vertices (ids-rise g (keys g.vertices) refl is.well) there;
    edges = refl;
    small = All-put nat_cmp nat_cmp-IsAntisymmetric (IsSmall (c + 1)) id w g.vertices here (all_smaller c (c + 1) (omega arith) g.vertices is.small);
  }

  small-at : (id : ℕ) (v : Vertex) → vertex_at g id ≡ Some v → IsSmall c (id, v)
  small-at id v there = All-find nat_cmp nat_cmp-IsAntisymmetric (IsSmall c) id v g.vertices is.small there

  of_call : (k : Call) → FitsCall k → AllAnswers (Keeps g c) (steps_of shape g k) → Drilled (graph_after_call shape g k) ids arcs (c + 1)
  of_call k fits all =
      keeps g (graph_after_call shape g k) ids arcs c (reply_to shape g k) is (well_formed_call shape g k is.well fits)
      (of_answer {P = Keeps g c} g (steps_of shape g k) (λ refusal. same g refusal refl refl) all)

  pub label_made : (name : Name) → FitsCall (call.NewLabel name) → Drilled (graph_after_call shape g (call.NewLabel name)) ids arcs (c + 1)
  label_made name fits =
      let h : Graph = record g { labels = g.labels ++ name ∷ [] } in
      of_call (call.NewLabel name) fits (after_test (is_some (label_number g name)) reply.Exists _ (λ _. after_test (is_too_large (words_of_names h)) reply.TooLarge _ (λ _. at_end (same h reply.Done refl refl))))

  pub tagged : (id : ℕ) (name : Name) → Drilled (graph_after_call shape g (call.Tag id name)) ids arcs (c + 1)
  tagged id name =
      of_call (call.Tag id name) tt
      (after_found reply.NoLabel (label_number g name) _ (λ n known.
      after_found (reply.NoVertex id) (vertex_at g id) _ (λ v there.
      after_test (has v.labels n) reply.HasLabel _ (λ _.
      let w : Vertex = record v { labels = add n v.labels } in
      after_test (is_too_large (words_of_vertex (with_vertex g id w) id w) || is_too_large (words_of_slot shape (with_vertex g id w) (slot_of shape n id))) reply.TooLarge _ (λ _.
      let before = small-at id v there in
      at_end (rewritten id v w reply.Done there (omega (arith, before.0), omega (arith, before.1, length-add-le n v.labels))))))))

  pub numbered : (id : ℕ) (name : Name) (n : ℕ) → FitsCall (call.Set id name (value.Int (pos n))) → Drilled (graph_after_call shape g (call.Set id name (value.Int (pos n)))) ids arcs (c + 1)
  numbered id name n fits =
      let v0 : Value = value.Int (pos n) in
      of_call (call.Set id name v0) fits
      (after_found reply.NoType (type_number g name) _ (λ type known.
      after_found (reply.NoVertex id) (vertex_at g id) _ (λ v there.
      after_test (not (same_kind (kind_of v0) (kind_at g type))) reply.WrongKind _ (λ _.
      let w : Vertex = record v { props = with_at v.props type (v0 ∷ []) } in
      after_test (is_too_large (words_of_vertex (with_vertex g id w) id w)) reply.TooLarge _ (λ _.
      let before = small-at id v there in
      let one : words_of_values (v0 ∷ []) ≡ 3 = sum_by-cons (λ (x : Value). 2 + words_of_value x) v0 [] in
      let more = sum_by-put-le nat_cmp nat_cmp-IsAntisymmetric (λ (entry : ℕ × List Value). words_of_values entry.1) type (v0 ∷ []) v.props in
      at_end (rewritten id v w reply.Done there (omega (arith, before.0), omega (arith, before.1, one, more))))))))

  pub type_made : (name : Name) (kind : Kind) → FitsCall (call.NewType name kind false) → Drilled (graph_after_call shape g (call.NewType name kind false)) ids arcs (c + 1)
  type_made name kind fits =
      let h : Graph = record g { types = g.types ++ (record { name = name; kind = kind; many = false }) ∷ [] } in
      of_call (call.NewType name kind false) fits (after_test (is_some (type_number g name)) reply.Exists _ (λ _. after_test (is_too_large (words_of_names h)) reply.TooLarge _ (λ _. at_end (same h reply.Done refl refl))))

-- ---- a new vertex, above all others

within : (n : ℕ) → n ≤ most_words → is_too_large n ≡ false
within n few = le-ltb most_words n few

pub lacks : (ks : List ℕ) (b : ℕ) → AllByRecursion (λ k. k < b) ks → has ks b ≡ false
lacks [] b below = refl
lacks (k ∷ ks) b below = ap (λ x. x || has ks b) (ne_eqb k b (λ e. omega (arith, below.0))) ∙ lacks ks b below.1

module _ (shape : Shape) (g : Graph) (ids : List ℕ) (c : ℕ) (is : Drilled g ids [] c) (few : c ≤ most_calls) where
  pub vertex_made : (id : ℕ) → AllByRecursion (λ k. k < id) ids → id < 2 ^ 64 → Drilled (graph_after_call shape g (call.Vertex id)) (ids ++ id ∷ []) [] (c + 1)
  vertex_made id below in_range =
      let h : Graph = with_vertex g id new_vertex in
      let lower = subst (λ ks. AllByRecursion (λ k. k < id) ks) (sym is.ids_are) below in
      let new_ids : keys h.vertices ≡ ids ++ id ∷ [] = keys-last id new_vertex g.vertices lower ∙ ap (λ ks. ks ++ id ∷ []) is.ids_are in
      let count : length h.vertices ≡ length ids + 1 = sym (length-keys h.vertices) ∙ ap length new_ids ∙ length-append ids (id ∷ []) in
      let none : is_vertex g id ≡ false = is-there g ids id is.ids_are ∙ lacks ids id below in
      let fewer = count_by-le-length (λ (entry : ℕ × Vertex). same_place (bucket_of shape entry.0) (bucket_of shape id)) h.vertices in
      let room : is_too_large (words_of_bucket shape h (bucket_of shape id)) ≡ false = within (words_of_bucket shape h (bucket_of shape id)) (omega (arith, few, is.few_ids, count, fewer)) in
      let after : graph_after_call shape g (call.Vertex id) ≡ h =
      subst (λ b. (answer_of g (refused_if b reply.Exists >>= λ _. refused_if (is_too_large (words_of_bucket shape h (bucket_of shape id))) reply.TooLarge >>= λ _. leaves h reply.Done)).graph ≡ h) (sym none)
      (subst (λ b. (answer_of g (refused_if b reply.TooLarge >>= λ _. leaves h reply.Done)).graph ≡ h) (sym room) refl) in
      let made : Drilled h (ids ++ id ∷ []) [] (c + 1) = record {
        well = subst IsWellFormed after (well_formed_call shape g (call.Vertex id) is.well in_range);
        ids_are = new_ids;
        few_ids = omega (arith, is.few_ids, length-append ids (id ∷ []));
        steps = is.steps;
        edges = is.edges;
        few_arcs = omega arith;
        small = All-put nat_cmp nat_cmp-IsAntisymmetric (IsSmall (c + 1)) id new_vertex g.vertices (omega arith, omega arith) (all_smaller c (c + 1) (omega arith) g.vertices is.small);
      } in
      subst (λ k. Drilled k (ids ++ id ∷ []) [] (c + 1)) (sym after) made

-- ---- a new edge

-- with an edge more, a step more
module _ (key : EdgeKey) (target : ℕ) where
  abbrev edge : Edge
  edge = record { target = target; undirected = false; labels = []; props = [] }

  abbrev is_new : ℕ → ℕ → Bool
  is_new i t = key.source == i && target == t

  or_assoc : (x y z : Bool) → (x || (y || z)) ≡ ((x || y) || z)
  or_assoc true y z = refl
  or_assoc false y z = refl

  steps-put : (es : Map EdgeKey Edge) → find edge_cmp key es ≡ None → (i t : ℕ) → leads (flat_map steps_over (put edge_cmp key edge es)) i t ≡ (leads (flat_map steps_over es) i t || is_new i t)
  steps-put [] free i t = or-false (is_new i t)
  steps-put (e ∷ es) free i t =
      elim (edge_cmp key e.0) as (λ r. edge_cmp key e.0 ≡ r → cond (is_eq r) (Some e.1) (find edge_cmp key es) ≡ None
      → leads (flat_map steps_over (by_order r ((key, edge) ∷ e ∷ es) ((e.0, edge) ∷ es) (e ∷ put edge_cmp key edge es))) i t ≡ (leads (flat_map steps_over (e ∷ es)) i t || is_new i t)) [
        | Less ↦ λ _ _. or_comm (is_new i t) (leads (flat_map steps_over (e ∷ es)) i t)
        | Equal ↦ λ _ found. nothing e.1 (sym found)
        | Greater ↦ λ _ found.
            list_any-append (λ (step : ℕ × ℕ). step.0 == i && step.1 == t) (steps_over e) (flat_map steps_over (put edge_cmp key edge es))
            ∙ ap (λ b. leads (steps_over e) i t || b) (steps-put es found i t)
            ∙ or_assoc (leads (steps_over e) i t) (leads (flat_map steps_over es) i t) (is_new i t)
            ∙ ap (λ b. b || is_new i t) (sym (list_any-append (λ (step : ℕ × ℕ). step.0 == i && step.1 == t) (steps_over e) (flat_map steps_over es)))
      ] refl free

length-put-new : (key : EdgeKey) (e : Edge) (es : Map EdgeKey Edge) → find edge_cmp key es ≡ None → length (put edge_cmp key e es) ≡ length es + 1
length-put-new key e [] free = omega arith
length-put-new key e (x ∷ es) free =
    elim (edge_cmp key x.0) as (λ r. cond (is_eq r) (Some x.1) (find edge_cmp key es) ≡ None → length (by_order r ((key, e) ∷ x ∷ es) ((x.0, e) ∷ es) (x ∷ put edge_cmp key e es)) ≡ length (x ∷ es) + 1) [
      | Less ↦ λ _. omega arith
      | Equal ↦ λ found. nothing x.1 (sym found)
      | Greater ↦ λ found. let rest = length-put-new key e es found in omega (arith, rest)
    ] free

roomy : (h : Graph) (d : ℕ) → d ≤ most_calls + 1 → length h.edges ≤ d → AllByRecursion (IsSmall d) h.vertices → (j : ℕ) → is_vertex_too_large h j ≡ false
roomy h d few edges small j =
    elim (vertex_at h j) as (λ o. vertex_at h j ≡ o → option_map_or (λ vertex. is_too_large (words_of_vertex h j vertex)) o false ≡ false) [
      | None ↦ λ _. refl
      | Some v ↦ λ there.
          let here = (All-find nat_cmp nat_cmp-IsAntisymmetric (IsSmall d) j v h.vertices small there).1 in
          let out = length-filter-le (λ (entry : EdgeKey × Edge). entry.0.source == j) h.edges in
          let inward = length-filter-le (λ (entry : EdgeKey × Edge). entry.1.target == j) h.edges in
          within (words_of_vertex h j v) (omega (arith, few, edges, here, out, inward))
    ] refl

module _ (shape : Shape) (g : Graph) (ids : List ℕ) (arcs : List (ℕ × ℕ)) (c : ℕ) (is : Drilled g ids arcs c) (few : c ≤ most_calls) where
  module _ (source target : ℕ) (v : Vertex) (there : vertex_at g source ≡ Some v) (ends : is_vertex g target ≡ true) where
    abbrev key : EdgeKey
    key = record { source = source; ordinal = v.next }

    abbrev grown : Graph
    grown = with_new_edge g source v target false []

    free : find edge_cmp key g.edges ≡ None
    free = next_is_free g.vertices source v g.edges
        (All-map (λ entry. EdgeFits g entry.0 entry.1) (IsBetween g.vertices) (λ entry fits. record { source = fits.source; target = fits.target }) g.edges is.well.each_edge) there

    small-before : IsSmall c (source, v)
    small-before = small-at shape g ids arcs c is source v there

    grown-small : AllByRecursion (IsSmall (c + 1)) grown.vertices
    grown-small = All-put nat_cmp nat_cmp-IsAntisymmetric (IsSmall (c + 1)) source (record v { next = v.next + 1 }) g.vertices
        (omega (arith, small-before.0), omega (arith, small-before.1)) (all_smaller c (c + 1) (omega arith) g.vertices is.small)

    one_more : length grown.edges ≡ length g.edges + 1
    one_more = length-put-new key (edge key target) g.edges free

    few_edges : length grown.edges ≤ c + 1
    few_edges = omega (arith, one_more, is.edges, is.few_arcs)

    has_room : (v.next == ordinals_end || is_vertex_too_large grown source || is_vertex_too_large grown target) ≡ false
    has_room =
        let next : (v.next == ordinals_end) ≡ false = ne_eqb v.next ordinals_end (λ e. omega (arith, e, few, small-before.0)) in
        let at_source = roomy grown (c + 1) (omega (arith, few)) few_edges grown-small source in
        let at_target = roomy grown (c + 1) (omega (arith, few)) few_edges grown-small target in
        ap (λ b. b || is_vertex_too_large grown source || is_vertex_too_large grown target) next ∙ ap (λ b. b || is_vertex_too_large grown target) at_source ∙ at_target

    after : graph_after_call shape g (call.Edge source target None) ≡ grown
    after =
        let rest : Vertex → Step Answer = λ u.
        refused_if (not (is_vertex g target)) (reply.NoVertex target) >>= λ _.
        refused_if (u.next == ordinals_end || is_vertex_too_large (with_new_edge g source u target false []) source || is_vertex_too_large (with_new_edge g source u target false []) target) reply.TooLarge >>= λ _.
        leaves (with_new_edge g source u target false []) (reply.EdgeIs source u.next) in
        subst (λ o. (answer_of g (found_or (reply.NoVertex source) o >>= rest)).graph ≡ grown) (sym there)
        (subst (λ b. (answer_of g (refused_if (not b) (reply.NoVertex target) >>= λ _. refused_if (v.next == ordinals_end || is_vertex_too_large grown source || is_vertex_too_large grown target) reply.TooLarge >>= λ _. leaves grown (reply.EdgeIs source v.next))).graph ≡ grown) (sym ends)
        (subst (λ b. (answer_of g (refused_if b reply.TooLarge >>= λ _. leaves grown (reply.EdgeIs source v.next))).graph ≡ grown) (sym has_room) refl))

    made : Drilled grown ids (arcs ++ (source, target) ∷ []) (c + 1)
    made = record {
      well = subst IsWellFormed after (well_formed_call shape g (call.Edge source target None) is.well tt);
      ids_are = keys-there source (record v { next = v.next + 1 }) v g.vertices (ids-rise g (keys g.vertices) refl is.well) there ∙ is.ids_are;
      few_ids = omega (arith, is.few_ids);
      steps = λ i t.
          steps-put key target g.edges free i t
          ∙ ap (λ b. b || (source == i && target == t)) (is.steps i t)
          ∙ ap (λ b. leads arcs i t || b) (sym (or-false (source == i && target == t)))
          ∙ sym (list_any-append (λ (step : ℕ × ℕ). step.0 == i && step.1 == t) arcs ((source, target) ∷ []));
      edges = one_more ∙ ap (λ n. n + 1) is.edges ∙ sym (length-append arcs ((source, target) ∷ []));
      few_arcs = omega (arith, is.few_arcs, length-append arcs ((source, target) ∷ []));
      small = grown-small;
    }

  pub edge_made : (source target : ℕ) → has ids source ≡ true → has ids target ≡ true → Drilled (graph_after_call shape g (call.Edge source target None)) ids (arcs ++ (source, target) ∷ []) (c + 1)
  edge_made source target from to =
      let there : is_vertex g source ≡ true = is-there g ids source is.ids_are ∙ from in
      let ends : is_vertex g target ≡ true = is-there g ids target is.ids_are ∙ to in
      elim (vertex_at g source) as (λ o. vertex_at g source ≡ o → is_some o ≡ true → Drilled (graph_after_call shape g (call.Edge source target None)) ids (arcs ++ (source, target) ∷ []) (c + 1)) [
        | None ↦ λ _ none. absurd (true≢false (sym none))
        | Some v ↦ λ at_source _.
            subst (λ k. Drilled k ids (arcs ++ (source, target) ∷ []) (c + 1)) (sym (after source target v at_source ends)) (made source target v at_source ends)
      ] refl there
