-- What is noted before a call leads back from the graph that it leaves.
use Rattle.std.proofs.Common.{◌≡◌, ℕ, ◌+◌, ◌<◌, Bool, true, false, not, ◌||◌, cond, List, [], ◌∷◌, ◌++◌, length, take, Option, Some, None, is_some, inl, inr, refl, ap, sym, subst, ◌∙◌, arith}
use Rattle.std.specs.Prelude.{◌==◌, IsSomeAnd}
use Rattle.std.specs.List.{AllByRecursion, filter}
use Rattle.std.specs.Option.{option_map_or}
use Rattle.std.specs.Ordering.{nat_cmp}
use Rattle.std.specs.Cmp.{nat_cmp_total}
use Rattle.std.specs.FinMap.{nat_cmp-IsAntisymmetric}
use Rattle.std.proofs.lemmas.Bool.{cases_Bool, not_from_false}
use Rattle.gdi_kinds.specs.Constraint.{kind_of, same_kind}
use Rattle.gdi_kinds.specs.Calls.{is_writing_call}
use Rattle.gdi_kinds.specs.declared.call.Call.{Call}
use Rattle.gdi_kinds.specs.declared.call.Call.TheVariants as call
use Rattle.gdi_kinds.specs.declared.reply.Reply.TheVariants as reply
use Rattle.rma_layout.specs.Shape.{Shape}
use Rattle.rma_layout.specs.Placement.{bucket_of, slot_of}
use Rattle.graph_model.specs.Maps.{Map, has, is_there, with_at, without, add}
use Rattle.graph_model.specs.Graph.{Name, PropType, Graph, Vertex, Edge, EdgeKey, edge_cmp, new_vertex, vertex_at, is_vertex, edge_at, edges_from, edges_to}
use Rattle.graph_model.specs.Lookups.{label_number, type_number, kind_at, is_marked, values_at}
use Rattle.graph_model.specs.Sizes.{is_too_large, words_of_vertex, words_of_bucket, words_of_slot, words_of_names}
use Rattle.graph_model.specs.Steps.{Answer}
use Rattle.graph_model.specs.VertexCalls.{with_vertex}
use Rattle.graph_model.specs.EdgeCalls.{ordinals_end, with_edge, label_if_named, make_edge, is_vertex_too_large, is_edge_too_large}
use Rattle.graph_model.specs.Calls.{steps_of, graph_after_call}
use Rattle.graph_model.proofs.Entries.{never, All-map, All-filter, All-put, All-find, edge_cmp_total, edge_cmp_same}
use Rattle.graph_model.proofs.Sets.{is_eq-nat_cmp}
use Rattle.graph_model.proofs.Steps.{AllAnswers, at_end, after_step, after_found, after_test, after_edge, of_answer}
use Rattle.graph_model.proofs.Leaving.{looking_call}
use Rattle.graph_model.proofs.GraphChanges.{at_vertex}
use Rattle.edge_index.proofs.EdgeMaps.{is_named, is_at-named}
use Rattle.graph_undo.specs.Undo.{Undo, Names, AtVertex, AtEdge, vertex_put_back, edge_put_back, undone, rolled_back, as_vertex, as_edge, as_edges, as_next_edge, as_names, noted_before, IsEdgeOf, HasEnds, KeepEnds, LeadBack, IsInOrder, StepsLeadBack}
use Rattle.graph_undo.proofs.PutBack.{put-same, put-put, out-absent, out-put, put-out, all_put, put_back-passing}
use Rattle.graph_undo.proofs.RolledBack.{rolled_back-append, KeepEnds-append}

-- ---- fronts and filters

take-front : {A : Type 0} (xs ys : List A) → take (length xs) (xs ++ ys) ≡ xs
take-front [] ys = refl
take-front (x ∷ xs) ys = ap (λ rest. x ∷ rest) (take-front xs ys)

take-whole : {A : Type 0} (xs : List A) → take (length xs) xs ≡ xs
take-whole [] = refl
take-whole (x ∷ xs) = ap (λ rest. x ∷ rest) (take-whole xs)

filter-each : {A : Type 0} (p : A → Bool) → ((x : A) → p x ≡ true) → (xs : List A) → filter p xs ≡ xs
filter-each p each [] = refl
filter-each p each (x ∷ xs) = ap (λ b. cond b (x ∷ filter p xs) (filter p xs)) (each x) ∙ ap (λ rest. x ∷ rest) (filter-each p each xs)

one-of : (a b : Bool) → (a || (b || not (a || b))) ≡ true
one-of true b = refl
one-of false true = refl
one-of false false = refl

abbrev is_id : ℕ → ℕ × Vertex → Bool
is_id id entry = entry.0 == id

module _ (g : Graph) (order : IsInOrder g) (ends : HasEnds g) where
  -- ---- what is put back at a vertex

  vertex-same : (id : ℕ) → vertex_put_back g id (vertex_at g id) ≡ g
  vertex-same id =
      elim (vertex_at g id) as (λ o. vertex_at g id ≡ o → vertex_put_back g id o ≡ g) [
        | None ↦ λ none. ap (λ vs. record g { vertices = vs }) (out-absent nat_cmp nat_cmp_total nat_cmp-IsAntisymmetric id (is_id id) (λ e. is_eq-nat_cmp id e.0) g.vertices none)
        | Some v ↦ λ there. ap (λ vs. record g { vertices = vs }) (put-same nat_cmp nat_cmp_total nat_cmp-IsAntisymmetric id v g.vertices order.vertices there)
      ] refl

  vertex-put : (id : ℕ) (w : Vertex) → vertex_put_back (with_vertex g id w) id (vertex_at g id) ≡ g
  vertex-put id w =
      elim (vertex_at g id) as (λ o. vertex_at g id ≡ o → vertex_put_back (with_vertex g id w) id o ≡ g) [
        | None ↦ λ none. ap (λ vs. record g { vertices = vs }) (out-put nat_cmp nat_cmp_total nat_cmp-IsAntisymmetric id (is_id id) (λ e. is_eq-nat_cmp id e.0) w g.vertices
            ∙ out-absent nat_cmp nat_cmp_total nat_cmp-IsAntisymmetric id (is_id id) (λ e. is_eq-nat_cmp id e.0) g.vertices none)
        | Some v ↦ λ there. ap (λ vs. record g { vertices = vs }) (put-put nat_cmp nat_cmp_total nat_cmp-IsAntisymmetric id v w g.vertices
            ∙ put-same nat_cmp nat_cmp_total nat_cmp-IsAntisymmetric id v g.vertices order.vertices there)
      ] refl

  vertex-out : (id : ℕ) (v : Vertex) (edges : Map EdgeKey Edge) → vertex_at g id ≡ Some v
      → vertex_put_back (record g { vertices = without g.vertices id; edges = edges }) id (vertex_at g id) ≡ record g { edges = edges }
  vertex-out id v edges there =
      ap (vertex_put_back (record g { vertices = without g.vertices id; edges = edges }) id) there
      ∙ ap (λ vs. record g { vertices = vs; edges = edges }) (put-out nat_cmp nat_cmp_total nat_cmp-IsAntisymmetric id (is_id id) (λ e. is_eq-nat_cmp id e.0) v g.vertices order.vertices
      ∙ put-same nat_cmp nat_cmp_total nat_cmp-IsAntisymmetric id v g.vertices order.vertices there)

  -- ---- at an edge

  abbrev key_of : ℕ → ℕ → EdgeKey
  key_of source ordinal = record { source = source; ordinal = ordinal }

  edge-same : (source ordinal : ℕ) → edge_put_back g (key_of source ordinal) (edge_at g source ordinal) ≡ g
  edge-same source ordinal =
      elim (edge_at g source ordinal) as (λ o. edge_at g source ordinal ≡ o → edge_put_back g (key_of source ordinal) o ≡ g) [
        | None ↦ λ none. ap (λ es. record g { edges = es }) (out-absent edge_cmp edge_cmp_total edge_cmp_same (key_of source ordinal) (is_named (key_of source ordinal)) (is_at-named (key_of source ordinal)) g.edges none)
        | Some e ↦ λ there. ap (λ es. record g { edges = es }) (put-same edge_cmp edge_cmp_total edge_cmp_same (key_of source ordinal) e g.edges order.edges there)
      ] refl

  edge-put : (source ordinal : ℕ) (w e : Edge) → edge_at g source ordinal ≡ Some e → edge_put_back (with_edge g source ordinal w) (key_of source ordinal) (edge_at g source ordinal) ≡ g
  edge-put source ordinal w e there =
      ap (edge_put_back (with_edge g source ordinal w) (key_of source ordinal)) there
      ∙ ap (λ es. record g { edges = es }) (put-put edge_cmp edge_cmp_total edge_cmp_same (key_of source ordinal) e w g.edges
      ∙ put-same edge_cmp edge_cmp_total edge_cmp_same (key_of source ordinal) e g.edges order.edges there)

  edge-cut : (source ordinal : ℕ) (e : Edge) → edge_at g source ordinal ≡ Some e
      → edge_put_back (record g { edges = filter (λ entry. not (is_named (key_of source ordinal) entry)) g.edges }) (key_of source ordinal) (edge_at g source ordinal) ≡ g
  edge-cut source ordinal e there =
      ap (edge_put_back (record g { edges = filter (λ entry. not (is_named (key_of source ordinal) entry)) g.edges }) (key_of source ordinal)) there
      ∙ ap (λ es. record g { edges = es }) (put-out edge_cmp edge_cmp_total edge_cmp_same (key_of source ordinal) (is_named (key_of source ordinal)) (is_at-named (key_of source ordinal)) e g.edges order.edges
      ∙ put-same edge_cmp edge_cmp_total edge_cmp_same (key_of source ordinal) e g.edges order.edges there)

  -- ---- one step

  one : (step : Undo) (h : Graph) → undone step h ≡ g → LeadBack (step ∷ []) h g
  one step h is = record { is = is; ends = (subst HasEnds (sym is) ends, tt) }

  -- ---- an edge that was made

  module _ (source : ℕ) (v : Vertex) (there : vertex_at g source ≡ Some v) where
    free : edge_at g source v.next ≡ None
    free =
        elim (edge_at g source v.next) as (λ found. edge_at g source v.next ≡ found → found ≡ None) [
          | None ↦ λ _. refl
          | Some e ↦ λ is.
              let below : v.next < v.next = subst (λ o. IsSomeAnd o (λ u. v.next < u.next)) there (All-find edge_cmp edge_cmp_same (IsEdgeOf g) (key_of source v.next) e g.edges ends is).source in
              absurd (omega arith)
        ] refl

    abbrev raised : Graph
    raised = with_vertex g source (record v { next = v.next + 1 })

    raised-ends : HasEnds raised
    raised-ends =
        All-map (IsEdgeOf g) (IsEdgeOf raised) (λ entry is. record {
          source = at_vertex g source (record v { next = v.next + 1 }) (λ o. IsSomeAnd o (λ u. entry.0.ordinal < u.next)) entry.0.source
              (λ same. let below : entry.0.ordinal < v.next = subst (λ o. IsSomeAnd o (λ u. entry.0.ordinal < u.next)) (ap (vertex_at g) same ∙ there) is.source in omega arith) is.source;
          target = at_vertex g source (record v { next = v.next + 1 }) (λ o. is_some o ≡ true) entry.1.target (λ _. refl) is.target;
        }) g.edges ends

    new_out : (e : Edge) → edge_put_back (with_edge raised source v.next e) (key_of source v.next) None ≡ raised
    new_out e =
        ap (λ es. record raised { edges = es }) (out-put edge_cmp edge_cmp_total edge_cmp_same (key_of source v.next) (is_named (key_of source v.next)) (is_at-named (key_of source v.next)) e g.edges
        ∙ out-absent edge_cmp edge_cmp_total edge_cmp_same (key_of source v.next) (is_named (key_of source v.next)) (is_at-named (key_of source v.next)) g.edges free)

    next_step : as_next_edge g source ≡ AtEdge (key_of source v.next) None ∷ []
    next_step = ap (λ o. option_map_or (λ vertex. as_edge g source vertex.next) o []) there ∙ ap (λ o. AtEdge (key_of source v.next) o ∷ []) free

    edge-made : (e : Edge) → LeadBack (as_vertex g source ++ as_next_edge g source) (with_edge raised source v.next e) g
    edge-made e =
        let is = ap (λ h. vertex_put_back h source (vertex_at g source)) (new_out e) ∙ vertex-put source (record v { next = v.next + 1 }) in
        subst (λ steps. LeadBack (as_vertex g source ++ steps) (with_edge raised source v.next e) g) (sym next_step)
        (record { is = is; ends = (subst HasEnds (sym is) ends, (subst HasEnds (sym (new_out e)) raised-ends, tt)) })

  edge-not_made : (source : ℕ) → LeadBack (as_vertex g source ++ as_next_edge g source) g g
  edge-not_made source =
      elim (vertex_at g source) as (λ o. vertex_at g source ≡ o → LeadBack (as_vertex g source ++ option_map_or (λ vertex. as_edge g source vertex.next) o []) g g) [
        | None ↦ λ _. one (AtVertex source (vertex_at g source)) g (vertex-same source)
        | Some v ↦ λ _.
            let same = edge-same source v.next in
            let is = ap (λ h. vertex_put_back h source (vertex_at g source)) same ∙ vertex-same source in
            record { is = is; ends = (subst HasEnds (sym is) ends, (subst HasEnds (sym same) ends, tt)) }
      ] refl

  -- ---- edges put back one after the other

  abbrev at_edges : Map EdgeKey Edge → Graph
  at_edges es = record g { edges = es }

  abbrev AreEdges : Map EdgeKey Edge → Type 0
  AreEdges es = AllByRecursion (IsEdgeOf g) es

  ends-of : (es : Map EdgeKey Edge) → AreEdges es → HasEnds (at_edges es)
  ends-of es all = All-map (IsEdgeOf g) (IsEdgeOf (at_edges es)) (λ _ is. record { source = is.source; target = is.target }) es all

  All-all_put : (ds es : Map EdgeKey Edge) → AreEdges ds → AreEdges es → AreEdges (all_put edge_cmp edge_cmp_total edge_cmp_same ds es)
  All-all_put [] es some all = all
  All-all_put (d ∷ ds) es some all = All-put edge_cmp edge_cmp_same (IsEdgeOf g) d.0 d.1 _ some.0 (All-all_put ds es some.1 all)

  edges-back : (ds es : Map EdgeKey Edge) → rolled_back (as_edges ds) (at_edges es) ≡ at_edges (all_put edge_cmp edge_cmp_total edge_cmp_same ds es)
  edges-back [] es = refl
  edges-back (d ∷ ds) es = ap (λ h. with_edge h d.0.source d.0.ordinal d.1) (edges-back ds es)

  edges-keep : (ds es : Map EdgeKey Edge) → AreEdges ds → AreEdges es → KeepEnds (as_edges ds) (at_edges es)
  edges-keep [] es some all = tt
  edges-keep (d ∷ ds) es some all =
      (subst HasEnds (sym (edges-back (d ∷ ds) es)) (ends-of _ (All-all_put (d ∷ ds) es some all)), edges-keep ds es some.1 all)

  module _ (id : ℕ) (v : Vertex) (there : vertex_at g id ≡ Some v) where
    abbrev from : EdgeKey × Edge → Bool
    from entry = entry.0.source == id

    abbrev to : EdgeKey × Edge → Bool
    to entry = entry.1.target == id

    abbrev apart : EdgeKey × Edge → Bool
    apart entry = not (entry.0.source == id || entry.1.target == id)

    abbrev dropped : Graph
    dropped = record g { vertices = without g.vertices id; edges = filter apart g.edges }

    passing : (p : EdgeKey × Edge → Bool) → AreEdges (filter p g.edges)
    passing p = All-filter (IsEdgeOf g) (IsEdgeOf g) p (λ _ _ is. is) g.edges ends

    vertex-back : undone (AtVertex id (vertex_at g id)) dropped ≡ at_edges (filter apart g.edges)
    vertex-back = vertex-out id v (filter apart g.edges) there

    inward-back : rolled_back (as_edges (edges_to g id)) (at_edges (filter apart g.edges)) ≡ at_edges (filter (λ e. to e || apart e) g.edges)
    inward-back = edges-back (edges_to g id) (filter apart g.edges) ∙ ap at_edges (put_back-passing edge_cmp edge_cmp_total edge_cmp_same to apart g.edges order.edges)

    all-back : rolled_back (as_edges (edges_from g id)) (at_edges (filter (λ e. to e || apart e) g.edges)) ≡ g
    all-back =
        edges-back (edges_from g id) (filter (λ e. to e || apart e) g.edges)
        ∙ ap at_edges (put_back-passing edge_cmp edge_cmp_total edge_cmp_same from (λ e. to e || apart e) g.edges order.edges ∙ filter-each _ (λ e. one-of (from e) (to e)) g.edges)

    vertex-dropped : LeadBack (noted_before g (call.DropVertex id)) dropped g
    vertex-dropped =
        let rest = as_edges (edges_to g id) ++ as_vertex g id in
        let then : rolled_back rest dropped ≡ at_edges (filter (λ e. to e || apart e) g.edges) =
        rolled_back-append (as_edges (edges_to g id)) (as_vertex g id) dropped ∙ ap (rolled_back (as_edges (edges_to g id))) vertex-back ∙ inward-back in
        let first : KeepEnds (as_vertex g id) dropped = (subst HasEnds (sym vertex-back) (ends-of _ (passing apart)), tt) in
        let second : KeepEnds rest dropped = KeepEnds-append (as_edges (edges_to g id)) (as_vertex g id) dropped
        (subst (KeepEnds (as_edges (edges_to g id))) (sym vertex-back) (edges-keep (edges_to g id) (filter apart g.edges) (passing to) (passing apart))) first in
        record {
          is = rolled_back-append (as_edges (edges_from g id)) rest dropped ∙ ap (rolled_back (as_edges (edges_from g id))) then ∙ all-back;
          ends = KeepEnds-append (as_edges (edges_from g id)) rest dropped
              (subst (KeepEnds (as_edges (edges_from g id))) (sym then) (edges-keep (edges_from g id) (filter (λ e. to e || apart e) g.edges) (passing from) (passing (λ e. to e || apart e)))) second;
        }

  vertex-not_dropped : (id : ℕ) → LeadBack (noted_before g (call.DropVertex id)) g g
  vertex-not_dropped id =
      let rest = as_edges (edges_to g id) ++ as_vertex g id in
      let passing = λ (p : EdgeKey × Edge → Bool). All-filter (IsEdgeOf g) (IsEdgeOf g) p (λ _ _ is. is) g.edges ends in
      let every : filter (λ (e : EdgeKey × Edge). true) g.edges ≡ g.edges = filter-each (λ e. true) (λ e. refl) g.edges in
      let back : (p : EdgeKey × Edge → Bool) → rolled_back (as_edges (filter p g.edges)) g ≡ g = λ p.
      edges-back (filter p g.edges) g.edges
      ∙ ap at_edges (ap (all_put edge_cmp edge_cmp_total edge_cmp_same (filter p g.edges)) (sym every) ∙ put_back-passing edge_cmp edge_cmp_total edge_cmp_same p (λ e. true) g.edges order.edges ∙ filter-each _ (λ e. or-true (p e)) g.edges) in
      let keep : (p : EdgeKey × Edge → Bool) → KeepEnds (as_edges (filter p g.edges)) g = λ p. edges-keep (filter p g.edges) g.edges (passing p) ends in
      let first = vertex-same id in
      let then : rolled_back rest g ≡ g = rolled_back-append (as_edges (edges_to g id)) (as_vertex g id) g ∙ ap (rolled_back (as_edges (edges_to g id))) first ∙ back (λ entry. entry.1.target == id) in
      record {
        is = rolled_back-append (as_edges (edges_from g id)) rest g ∙ ap (rolled_back (as_edges (edges_from g id))) then ∙ back (λ entry. entry.0.source == id);
        ends = KeepEnds-append (as_edges (edges_from g id)) rest g (subst (KeepEnds (as_edges (edges_from g id))) (sym then) (keep (λ entry. entry.0.source == id)))
            (KeepEnds-append (as_edges (edges_to g id)) (as_vertex g id) g (subst (KeepEnds (as_edges (edges_to g id))) (sym first) (keep (λ entry. entry.1.target == id))) (subst HasEnds (sym first) ends, tt));
      }
    where
      or-true : (b : Bool) → (b || true) ≡ true
      or-true true = refl
      or-true false = refl

  -- ---- each call

  abbrev Back : Call → Answer → Type 0
  Back c answer = LeadBack (noted_before g c) answer.graph g

  at_vertex_now : (id : ℕ) (w : Vertex) → LeadBack (as_vertex g id) (with_vertex g id w) g
  at_vertex_now id w = one (AtVertex id (vertex_at g id)) (with_vertex g id w) (vertex-put id w)

  at_edge_now : (source ordinal : ℕ) (w e : Edge) → edge_at g source ordinal ≡ Some e → LeadBack (as_edge g source ordinal) (with_edge g source ordinal w) g
  at_edge_now source ordinal w e there = one (AtEdge (key_of source ordinal) (edge_at g source ordinal)) (with_edge g source ordinal w) (edge-put source ordinal w e there)

  names_now : (labels : List Name) (types : List PropType) → LeadBack (as_names g) (record g { labels = g.labels ++ labels; types = g.types ++ types }) g
  names_now labels types =
      one (Names (length g.labels) (length g.types)) _ (λ i. record g { labels = take-front g.labels labels i; types = take-front g.types types i })

  edge_call : (undirected : Bool) (source target : ℕ) (label : Option Name) → AllAnswers (λ answer. LeadBack (as_vertex g source ++ as_next_edge g source) answer.graph g) (make_edge undirected g source target label)
  edge_call undirected source target label =
      after_step (label_if_named g label) _ (λ labels _.
      after_found (reply.NoVertex source) (vertex_at g source) _ (λ vertex there.
      after_test (not (is_vertex g target)) (reply.NoVertex target) _ (λ _.
      let e : Edge = record { target = target; undirected = undirected; labels = labels; props = [] } in
      let h = with_edge (with_vertex g source (record vertex { next = vertex.next + 1 })) source vertex.next e in
      after_test (vertex.next == ordinals_end || is_vertex_too_large h source || is_vertex_too_large h target) reply.TooLarge _ (λ _.
      at_end (edge-made source vertex there e)))))

  -- where it leaves the graph
  unchanged : (c : Call) → LeadBack (noted_before g c) g g
  unchanged (call.NewLabel name) = one _ g (λ i. record g { labels = take-whole g.labels i; types = take-whole g.types i })
  unchanged (call.NewType name kind many) = one _ g (λ i. record g { labels = take-whole g.labels i; types = take-whole g.types i })
  unchanged (call.Vertex id) = one _ g (vertex-same id)
  unchanged (call.DropVertex id) = vertex-not_dropped id
  unchanged (call.Tag id label) = one _ g (vertex-same id)
  unchanged (call.Untag id label) = one _ g (vertex-same id)
  unchanged (call.Set id prop value) = one _ g (vertex-same id)
  unchanged (call.Add id prop value) = one _ g (vertex-same id)
  unchanged (call.Unset id prop) = one _ g (vertex-same id)
  unchanged (call.Edge source target label) = edge-not_made source
  unchanged (call.UEdge source target label) = edge-not_made source
  unchanged (call.Cut source ordinal) = one _ g (edge-same source ordinal)
  unchanged (call.ETag source ordinal label) = one _ g (edge-same source ordinal)
  unchanged (call.EUntag source ordinal label) = one _ g (edge-same source ordinal)
  unchanged (call.ESet source ordinal prop value) = one _ g (edge-same source ordinal)
  unchanged (call.EAdd source ordinal prop value) = one _ g (edge-same source ordinal)
  unchanged (call.EUnset source ordinal prop) = one _ g (edge-same source ordinal)
  unchanged other = record { is = refl; ends = tt }

  writing : (shape : Shape) (c : Call) → is_writing_call c ≡ true → AllAnswers (Back c) (steps_of shape g c)
  writing shape (call.NewLabel name) w =
      after_test (is_some (label_number g name)) reply.Exists _ (λ _.
      after_test (is_too_large (words_of_names (record g { labels = g.labels ++ name ∷ [] }))) reply.TooLarge _ (λ _.
      at_end (one (Names (length g.labels) (length g.types)) _ (λ i. record g { labels = take-front g.labels (name ∷ []) i; types = take-whole g.types i }))))
  writing shape (call.NewType name kind many) w =
      let type : PropType = record { name = name; kind = kind; many = many } in
      after_test (is_some (type_number g name)) reply.Exists _ (λ _.
      after_test (is_too_large (words_of_names (record g { types = g.types ++ type ∷ [] }))) reply.TooLarge _ (λ _.
      at_end (one (Names (length g.labels) (length g.types)) _ (λ i. record g { labels = take-whole g.labels i; types = take-front g.types (type ∷ []) i }))))
  writing shape (call.Vertex id) w =
      after_test (is_vertex g id) reply.Exists _ (λ _.
      after_test (is_too_large (words_of_bucket shape (with_vertex g id new_vertex) (bucket_of shape id))) reply.TooLarge _ (λ _.
      at_end (at_vertex_now id new_vertex)))
  writing shape (call.DropVertex id) w =
      elim (vertex_at g id) as (λ o. vertex_at g id ≡ o → AllAnswers (Back (call.DropVertex id)) (steps_of shape g (call.DropVertex id))) [
        | None ↦ λ none. after_test (not (is_vertex g id)) (reply.NoVertex id) _ (λ there. never (sym there ∙ ap (λ o. not (is_some o)) none))
        | Some v ↦ λ there. after_test (not (is_vertex g id)) (reply.NoVertex id) _ (λ _. at_end (vertex-dropped id v there))
      ] refl
  writing shape (call.Tag id label) w =
      after_found reply.NoLabel (label_number g label) _ (λ n _.
      after_found (reply.NoVertex id) (vertex_at g id) _ (λ u _.
      after_test (has u.labels n) reply.HasLabel _ (λ _.
      let v : Vertex = record u { labels = add n u.labels } in
      let h = with_vertex g id v in
      after_test (is_too_large (words_of_vertex h id v) || is_too_large (words_of_slot shape h (slot_of shape n id))) reply.TooLarge _ (λ _. at_end (at_vertex_now id v)))))
  writing shape (call.Untag id label) w =
      after_found reply.NoLabel (label_number g label) _ (λ n _.
      after_found (reply.NoVertex id) (vertex_at g id) _ (λ u _.
      after_test (not (has u.labels n)) reply.LacksLabel _ (λ _. at_end (at_vertex_now id _))))
  writing shape (call.Set id prop value) w =
      after_found reply.NoType (type_number g prop) _ (λ n _.
      after_found (reply.NoVertex id) (vertex_at g id) _ (λ u _.
      after_test (not (same_kind (kind_of value) (kind_at g n))) reply.WrongKind _ (λ _.
      let v : Vertex = record u { props = with_at u.props n (value ∷ []) } in
      after_test (is_too_large (words_of_vertex (with_vertex g id v) id v)) reply.TooLarge _ (λ _. at_end (at_vertex_now id v)))))
  writing shape (call.Add id prop value) w =
      after_found reply.NoType (type_number g prop) _ (λ n _.
      after_found (reply.NoVertex id) (vertex_at g id) _ (λ u _.
      after_test (not (same_kind (kind_of value) (kind_at g n))) reply.WrongKind _ (λ _.
      after_test (not (is_marked g n)) reply.NotMany _ (λ _.
      let v : Vertex = record u { props = with_at u.props n (values_at u.props n ++ value ∷ []) } in
      after_test (is_too_large (words_of_vertex (with_vertex g id v) id v)) reply.TooLarge _ (λ _. at_end (at_vertex_now id v))))))
  writing shape (call.Unset id prop) w =
      after_found reply.NoType (type_number g prop) _ (λ n _.
      after_found (reply.NoVertex id) (vertex_at g id) _ (λ u _.
      after_test (not (is_there u.props n)) reply.NoProp _ (λ _. at_end (at_vertex_now id _))))
  writing shape (call.Edge source target label) w = edge_call false source target label
  writing shape (call.UEdge source target label) w = edge_call true source target label
  writing shape (call.Cut source ordinal) w =
      after_edge g source ordinal _ (λ e there. at_end (one (AtEdge (key_of source ordinal) (edge_at g source ordinal)) _ (edge-cut source ordinal e there)))
  writing shape (call.ETag source ordinal label) w =
      after_found reply.NoLabel (label_number g label) _ (λ n _.
      after_edge g source ordinal _ (λ d there.
      after_test (has d.labels n) reply.HasLabel _ (λ _.
      let e : Edge = record d { labels = add n d.labels } in
      after_test (is_edge_too_large e) reply.TooLarge _ (λ _. at_end (at_edge_now source ordinal e d there)))))
  writing shape (call.EUntag source ordinal label) w =
      after_found reply.NoLabel (label_number g label) _ (λ n _.
      after_edge g source ordinal _ (λ d there.
      after_test (not (has d.labels n)) reply.LacksLabel _ (λ _. at_end (at_edge_now source ordinal _ d there))))
  writing shape (call.ESet source ordinal prop value) w =
      after_found reply.NoType (type_number g prop) _ (λ n _.
      after_edge g source ordinal _ (λ d there.
      after_test (not (same_kind (kind_of value) (kind_at g n))) reply.WrongKind _ (λ _.
      let e : Edge = record d { props = with_at d.props n (value ∷ []) } in
      after_test (is_edge_too_large e) reply.TooLarge _ (λ _. at_end (at_edge_now source ordinal e d there)))))
  writing shape (call.EAdd source ordinal prop value) w =
      after_found reply.NoType (type_number g prop) _ (λ n _.
      after_edge g source ordinal _ (λ d there.
      after_test (not (same_kind (kind_of value) (kind_at g n))) reply.WrongKind _ (λ _.
      after_test (not (is_marked g n)) reply.NotMany _ (λ _.
      let e : Edge = record d { props = with_at d.props n (values_at d.props n ++ value ∷ []) } in
      after_test (is_edge_too_large e) reply.TooLarge _ (λ _. at_end (at_edge_now source ordinal e d there))))))
  writing shape (call.EUnset source ordinal prop) w =
      after_found reply.NoType (type_number g prop) _ (λ n _.
      after_edge g source ordinal _ (λ d there.
      after_test (not (is_there d.props n)) reply.NoProp _ (λ _. at_end (at_edge_now source ordinal _ d there))))
  writing shape other w = never w

  each_call : (shape : Shape) (c : Call) → LeadBack (noted_before g c) (graph_after_call shape g c) g
  each_call shape c =
      elim (cases_Bool (is_writing_call c)) [
        | inl writes ↦ of_answer {P = Back c} g (steps_of shape g c) (λ _. unchanged c) (writing shape c writes)
        | inr looks ↦ subst (λ h. LeadBack (noted_before g c) h g) (sym (looking_call shape g c (not_from_false _ looks))) (unchanged c)
      ]

pub steps_lead_back : StepsLeadBack
steps_lead_back shape g c order ends = each_call g order ends shape c
