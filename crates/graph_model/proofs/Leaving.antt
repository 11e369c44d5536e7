-- What each call leaves: the graph, if it is refused or only looks, and else a graph that is well formed too.
use Rattle.std.proofs.Common.{◌≡◌, Bool, true, false, not, IsTrue, ℕ, ◌+◌, List, [], ◌∷◌, ◌++◌, ◌||◌, is_some, Option, refl, sym, ap, ◌∙◌, true≢false}
use Rattle.std.specs.Prelude.{◌==◌}
use Rattle.std.proofs.lemmas.Bool.{or_parts}
use Rattle.gdi_kinds.specs.Constraint.{kind_of, same_kind}
use Rattle.gdi_kinds.specs.Calls.{is_writing_call}
use Rattle.gdi_kinds.specs.declared.call.Call.{Call}
use Rattle.gdi_kinds.specs.declared.call.Call.TheVariants as call
use Rattle.gdi_kinds.specs.declared.reply.Reply.{Reply}
use Rattle.gdi_kinds.specs.declared.reply.Reply.TheVariants as reply
use Rattle.rma_layout.specs.Shape.{Shape}
use Rattle.graph_model.specs.Maps.{at, has, is_there, with_at, add}
use Rattle.graph_model.specs.Graph.{Name, Graph, Vertex, Edge, new_vertex, vertex_at, is_vertex}
use Rattle.rma_layout.specs.Placement.{bucket_of, slot_of}
use Rattle.graph_model.specs.Sizes.{words_of_vertex, words_of_bucket, words_of_slot, words_of_names, is_too_large}
use Rattle.graph_model.specs.VertexCalls.{with_vertex}
use Rattle.graph_model.specs.Lookups.{label_number, type_number, kind_at, is_marked, values_at}
use Rattle.graph_model.specs.Steps.{Answer}
use Rattle.graph_model.specs.EdgeCalls.{label_if_named, with_edge, make_edge, is_edge_too_large, is_vertex_too_large, ordinals_end}
use Rattle.graph_model.specs.ListCalls.{atoms_of, names_known, kinds_agree}
use Rattle.graph_model.specs.Calls.{steps_of, graph_after_call, reply_to}
use Rattle.graph_model.specs.WellFormed.{IsWellFormed}
use Rattle.graph_model.specs.Laws.{is_refusal, RefusedCallLeavesTheGraph, LookingCallLeavesTheGraph, FitsCall, CallKeepsWellFormed}
use Rattle.graph_model.proofs.Steps.{AllAnswers, at_end, after_step, after_found, after_test, after_edge, of_answer}
use Rattle.graph_model.proofs.CallsKeepWellFormed as keeps

record Leaves (g : Graph) (c : Call) (answer : Answer) : Type 0 where
  refused : IsTrue (is_refusal answer.reply) → answer.graph ≡ g
  looking : IsTrue (not (is_writing_call c)) → answer.graph ≡ g
  well_formed : IsWellFormed g → FitsCall c → IsWellFormed answer.graph

same : (g : Graph) (c : Call) (r : Reply) → Leaves g c (record { graph = g; reply = r })
same g c r = record { refused = λ _. refl; looking = λ _. refl; well_formed = λ well _. well }

never : {A : Type 0} → IsTrue false → A
never h = absurd (true≢false (sym h))

-- with the next edge of a source, and its next ordinal raised
abbrev grown : Bool → Graph → ℕ → ℕ → Vertex → List ℕ → Graph
grown undirected g source target vertex labels =
    with_edge (with_vertex g source (record vertex { next = vertex.next + 1 })) source vertex.next
    (record { target = target; undirected = undirected; labels = labels; props = [] })

-- a call that makes an edge
module _ (undirected : Bool) (g : Graph) (source target : ℕ) (label : Option Name) (c : Call) (writes : is_writing_call c ≡ true) where
  leaves-edge : AllAnswers (Leaves g c) (make_edge undirected g source target label)
  leaves-edge =
      after_step (label_if_named g label) _ (λ labels known.
      after_found (reply.NoVertex source) (vertex_at g source) _ (λ vertex there.
      after_test (not (is_vertex g target)) (reply.NoVertex target) _ (λ ends.
      let h = grown undirected g source target vertex labels in
      after_test (vertex.next == ordinals_end || is_vertex_too_large h source || is_vertex_too_large h target) reply.TooLarge _ (λ room.
      at_end (record {
        refused = never;
        looking = λ looks. absurd (true≢false (sym looks ∙ ap not writes));
        well_formed = λ well fits. keeps.make_edge undirected g source target label labels vertex well known there ends (or_parts _ _ (or_parts _ _ room).0).0;
      })))))

leaves : (shape : Shape) (g : Graph) (c : Call) → AllAnswers (Leaves g c) (steps_of shape g c)
leaves shape g (call.Has id) = at_end (same g (call.Has id) _)
leaves shape g (call.Tags id) = after_found (reply.NoVertex id) (vertex_at g id) _ (λ vertex there. at_end (same g (call.Tags id) _))
leaves shape g (call.Get id prop) = after_found reply.NoType (type_number g prop) _ (λ number known. after_found (reply.NoVertex id) (vertex_at g id) _ (λ vertex there. after_found reply.NoProp (at vertex.props number) _ (λ _ _. at_end (same g (call.Get id prop) _))))
leaves shape g (call.Props id) = after_found (reply.NoVertex id) (vertex_at g id) _ (λ vertex there. at_end (same g (call.Props id) _))
leaves shape g (call.Target source ordinal) = after_edge g source ordinal _ (λ edge there. at_end (same g (call.Target source ordinal) _))
leaves shape g (call.ETags source ordinal) = after_edge g source ordinal _ (λ edge there. at_end (same g (call.ETags source ordinal) _))
leaves shape g (call.EGet source ordinal prop) = after_found reply.NoType (type_number g prop) _ (λ number known. after_edge g source ordinal _ (λ edge there. after_found reply.NoProp (at edge.props number) _ (λ _ _. at_end (same g (call.EGet source ordinal prop) _))))
leaves shape g (call.EProps source ordinal) = after_edge g source ordinal _ (λ edge there. at_end (same g (call.EProps source ordinal) _))
leaves shape g (call.Edges id dir test) = after_step (names_known g (atoms_of test)) _ (λ _ _. after_test (not (is_vertex g id)) (reply.NoVertex id) _ (λ there. after_step (kinds_agree g (atoms_of test)) _ (λ _ _. at_end (same g (call.Edges id dir test) _))))
leaves shape g (call.Near id dir) = after_test (not (is_vertex g id)) (reply.NoVertex id) _ (λ there. at_end (same g (call.Near id dir) _))
leaves shape g (call.Degree id dir) = after_test (not (is_vertex g id)) (reply.NoVertex id) _ (λ there. at_end (same g (call.Degree id dir) _))
leaves shape g (call.Find label test) = after_found reply.NoLabel (label_number g label) _ (λ number known. after_step (names_known g (atoms_of test)) _ (λ _ _. after_step (kinds_agree g (atoms_of test)) _ (λ _ _. at_end (same g (call.Find label test) _))))
leaves shape g (call.Hood id depth) = after_test (not (is_vertex g id)) (reply.NoVertex id) _ (λ there. at_end (same g (call.Hood id depth) _))
leaves shape g (call.Levels id) = after_test (not (is_vertex g id)) (reply.NoVertex id) _ (λ there. at_end (same g (call.Levels id) _))
leaves shape g call.Parts = at_end (same g call.Parts _)
leaves shape g (call.Scan label test) = after_step (label_if_named g label) _ (λ _ _. after_step (names_known g (atoms_of test)) _ (λ _ _. after_step (kinds_agree g (atoms_of test)) _ (λ _ _. at_end (same g (call.Scan label test) _))))
leaves shape g call.Vertices = at_end (same g call.Vertices _)
leaves shape g call.Arcs = at_end (same g call.Arcs _)
leaves shape g (call.NewLabel name) = after_test (is_some (label_number g name)) (reply.Exists) _ (λ passed. after_test (is_too_large (words_of_names (record g { labels = g.labels ++ name ∷ [] }))) reply.TooLarge _ (λ _. at_end (record { refused = never; looking = never; well_formed = λ well fits. keeps.new_label g name well fits passed })))
leaves shape g (call.NewType name kind many) = after_test (is_some (type_number g name)) (reply.Exists) _ (λ passed. after_test (is_too_large (words_of_names (record g { types = g.types ++ (record { name = name; kind = kind; many = many }) ∷ [] }))) reply.TooLarge _ (λ _. at_end (record { refused = never; looking = never; well_formed = λ well fits. keeps.new_type g name kind many well fits passed })))
leaves shape g (call.Vertex id) = after_test (is_vertex g id) (reply.Exists) _ (λ passed. after_test (is_too_large (words_of_bucket shape (with_vertex g id new_vertex) (bucket_of shape id))) reply.TooLarge _ (λ _. at_end (record { refused = never; looking = never; well_formed = λ well fits. keeps.make_vertex g id well fits passed })))
leaves shape g (call.DropVertex id) = after_test (not (is_vertex g id)) (reply.NoVertex id) _ (λ there. at_end (record { refused = never; looking = never; well_formed = λ well fits. keeps.drop_vertex g id well }))
leaves shape g (call.Tag id label) = after_found reply.NoLabel (label_number g label) _ (λ number known. after_found (reply.NoVertex id) (vertex_at g id) _ (λ vertex there. after_test (has vertex.labels number) (reply.HasLabel) _ (λ passed. after_test (is_too_large (words_of_vertex (with_vertex g id (record vertex { labels = add number vertex.labels })) id (record vertex { labels = add number vertex.labels })) || is_too_large (words_of_slot shape (with_vertex g id (record vertex { labels = add number vertex.labels })) (slot_of shape number id))) reply.TooLarge _ (λ _. at_end (record { refused = never; looking = never; well_formed = λ well fits. keeps.tag g id label number vertex well known there })))))
leaves shape g (call.Untag id label) = after_found reply.NoLabel (label_number g label) _ (λ number known. after_found (reply.NoVertex id) (vertex_at g id) _ (λ vertex there. after_test (not (has vertex.labels number)) (reply.LacksLabel) _ (λ _. at_end (record { refused = never; looking = never; well_formed = λ well fits. keeps.untag g id number vertex well there }))))
leaves shape g (call.Set id prop value) = after_found reply.NoType (type_number g prop) _ (λ number known. after_found (reply.NoVertex id) (vertex_at g id) _ (λ vertex there. after_test (not (same_kind (kind_of value) (kind_at g number))) (reply.WrongKind) _ (λ passed. after_test (is_too_large (words_of_vertex (with_vertex g id (record vertex { props = with_at vertex.props number (value ∷ []) })) id (record vertex { props = with_at vertex.props number (value ∷ []) }))) reply.TooLarge _ (λ _. at_end (record { refused = never; looking = never; well_formed = λ well fits. keeps.set_prop g id prop number vertex value well fits known there passed })))))
leaves shape g (call.Add id prop value) =
    after_found reply.NoType (type_number g prop) _ (λ number known.
    after_found (reply.NoVertex id) (vertex_at g id) _ (λ vertex there.
    after_test (not (same_kind (kind_of value) (kind_at g number))) reply.WrongKind _ (λ agrees.
    after_test (not (is_marked g number)) reply.NotMany _ (λ marked.
    let longer : Vertex = record vertex { props = with_at vertex.props number (values_at vertex.props number ++ value ∷ []) } in
    after_test (is_too_large (words_of_vertex (with_vertex g id longer) id longer)) reply.TooLarge _ (λ _.
    at_end (record { refused = never; looking = never; well_formed = λ well fits. keeps.add_prop g id prop number vertex value well fits known there agrees marked }))))))
leaves shape g (call.Unset id prop) = after_found reply.NoType (type_number g prop) _ (λ number known. after_found (reply.NoVertex id) (vertex_at g id) _ (λ vertex there. after_test (not (is_there vertex.props number)) (reply.NoProp) _ (λ _. at_end (record { refused = never; looking = never; well_formed = λ well fits. keeps.unset_prop g id number vertex well there }))))
leaves shape g (call.Edge source target label) = leaves-edge false g source target label (call.Edge source target label) refl
leaves shape g (call.UEdge source target label) = leaves-edge true g source target label (call.UEdge source target label) refl
leaves shape g (call.Cut source ordinal) = after_edge g source ordinal _ (λ edge there. at_end (record { refused = never; looking = never; well_formed = λ well fits. keeps.cut g source ordinal well }))
leaves shape g (call.ETag source ordinal label) = after_found reply.NoLabel (label_number g label) _ (λ number known. after_edge g source ordinal _ (λ edge there. after_test (has edge.labels number) (reply.HasLabel) _ (λ passed. after_test (is_edge_too_large (record edge { labels = add number edge.labels })) reply.TooLarge _ (λ _. at_end (record { refused = never; looking = never; well_formed = λ well fits. keeps.tag_edge g source ordinal label number edge well known there })))))
leaves shape g (call.EUntag source ordinal label) = after_found reply.NoLabel (label_number g label) _ (λ number known. after_edge g source ordinal _ (λ edge there. after_test (not (has edge.labels number)) (reply.LacksLabel) _ (λ _. at_end (record { refused = never; looking = never; well_formed = λ well fits. keeps.untag_edge g source ordinal number edge well there }))))
leaves shape g (call.ESet source ordinal prop value) = after_found reply.NoType (type_number g prop) _ (λ number known. after_edge g source ordinal _ (λ edge there. after_test (not (same_kind (kind_of value) (kind_at g number))) (reply.WrongKind) _ (λ passed. after_test (is_edge_too_large (record edge { props = with_at edge.props number (value ∷ []) })) reply.TooLarge _ (λ _. at_end (record { refused = never; looking = never; well_formed = λ well fits. keeps.set_edge_prop g source ordinal prop number edge value well fits known there passed })))))
leaves shape g (call.EAdd source ordinal prop value) =
    after_found reply.NoType (type_number g prop) _ (λ number known.
    after_edge g source ordinal _ (λ edge there.
    after_test (not (same_kind (kind_of value) (kind_at g number))) reply.WrongKind _ (λ agrees.
    after_test (not (is_marked g number)) reply.NotMany _ (λ marked.
    let longer : Edge = record edge { props = with_at edge.props number (values_at edge.props number ++ value ∷ []) } in
    after_test (is_edge_too_large longer) reply.TooLarge _ (λ _.
    at_end (record { refused = never; looking = never; well_formed = λ well fits. keeps.add_edge_prop g source ordinal prop number edge value well fits known there agrees marked }))))))
leaves shape g (call.EUnset source ordinal prop) = after_found reply.NoType (type_number g prop) _ (λ number known. after_edge g source ordinal _ (λ edge there. after_test (not (is_there edge.props number)) (reply.NoProp) _ (λ _. at_end (record { refused = never; looking = never; well_formed = λ well fits. keeps.unset_edge_prop g source ordinal number edge well there }))))

of_call : (shape : Shape) (g : Graph) (c : Call) → Leaves g c (record { graph = graph_after_call shape g c; reply = reply_to shape g c })
of_call shape g c = of_answer {P = Leaves g c} g (steps_of shape g c) (same g c) (leaves shape g c)

pub refused_call : RefusedCallLeavesTheGraph
refused_call shape g c is = (of_call shape g c).refused is

pub looking_call : LookingCallLeavesTheGraph
looking_call shape g c looks = (of_call shape g c).looking looks

pub well_formed_call : CallKeepsWellFormed
well_formed_call shape g c well fits = (of_call shape g c).well_formed well fits
